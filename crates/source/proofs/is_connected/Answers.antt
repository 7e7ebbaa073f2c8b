-- `source::is_connected` meets its contract: the place shows no output, or one that is connected or not.
-- Assumes nothing.
use native.Mathlib.Omega.{arith}
use Prim.Native.Nat.{◌+◌, ◌-◌}
use mathlib.Core.Path.{◌≡◌, refl, ap, ◌∙◌}
use Rattle.circuit.specs.Circuit.{gate_of_output, unconnected}
use Rattle.circuit.proofs.Found.{is_found, none_is}
use Rattle.source.proofs.Sources.{own_well, few_items, none_there, some_there}
use Rattle.source.proofs.is_connected.Goals as goal

pub item_at-requires : goal.item_at-requires
item_at-requires c = few_items _ _ c.requires.0

pub returns-in_default : goal.returns-in_default
returns-in_default c = none_there _ _ c.args.q _ c.requires.1 refl c.requires.0 (none_is _ _ c.in_default.ensures)

pub overflow_add-own : goal.overflow_add-own
overflow_add-own c = omega (arith, own_well _ _ c.requires.0, is_found _ _ _ c.in-Some.ensures)

pub is_unconnected-requires : goal.is_unconnected-requires
is_unconnected-requires c =
    let W = own_well _ _ c.requires.0 in
    let f = is_found _ _ _ c.in-Some.ensures in
    record {
      circuit_headed = W.headed;
      head_of = W.head_is;
      circuit_bound = (omega (arith, W), omega (arith, W, f));
    }

pub returns : goal.returns
returns c =
    let W = own_well _ _ c.requires.0 in
    let f = is_found _ _ _ c.in-Some.ensures in
    let at : c.args.source.own.gates - c.args.source.own.total + c.in-Some.k ≡ gate_of_output c.args.circuit.now c.in-Some.k = omega (arith, W) in
    some_there _ _ c.args.q _ c.requires.1 f.0 c.requires.0 (omega (arith, f)) _ (c.is_unconnected.ensures ∙ ap (unconnected c.args.circuit.now) at)
