-- `source::shown_gate` meets its contract: the gate of the output that stands at the place, or none.
-- Assumes nothing.
use mathlib.Core.Path.{refl, sym, ◌∙◌}
use Prim.Native.Nat.{◌+◌, ◌-◌, ◌<◌}
use native.Mathlib.Omega.{arith}
use Rattle.circuit.proofs.Found.{is_found, none_is}
use Rattle.source.specs.Source.{spread}
use Rattle.source.proofs.Sources.{few_items, none_there, shows_none, shows_item}
use Rattle.source.proofs.shown_gate.Goals.{In-Some}
use Rattle.source.proofs.shown_gate.Goals as goal

pub item_at-requires : goal.item_at-requires
item_at-requires c = few_items _ _ (spread c.requires.0 c.requires.1)

pub is_connected-requires : goal.is_connected-requires
is_connected-requires c = (spread c.requires.0 c.requires.1, c.requires.2)

-- a signal of the gate that is shown, and of one more
few : (c : In-Some) → c.args.source.base + (c.args.source.own.gates - c.args.source.own.total + c.in-Some.k) < 65536
few c = omega (arith, c.requires.1.network, c.requires.1.few, c.requires.1.base_is, c.requires.1.sizes.bits_to, is_found _ _ _ c.in-Some.ensures)

pub overflow_add-result : goal.overflow_add-result
overflow_add-result c = omega (arith, few (goal.at.overflow_add-result c).In-Some)

pub overflow_add-result-in-Some : goal.overflow_add-result-in-Some
overflow_add-result-in-Some c = omega (arith, few (goal.at.overflow_add-result-in-Some c).In-Some)

pub overflow_mul-result : goal.overflow_mul-result
overflow_mul-result c = omega (arith, few (goal.at.overflow_mul-result c).In-Some)

pub returns-in-Some : goal.returns-in-Some
returns-in-Some c =
    shows_item _ _ c.requires.1 c.requires.0 c.args.q _ c.requires.2 (is_found _ _ _ c.in-Some.ensures).0 (sym c.if-is_connected.true ∙ c.is_connected.ensures) _ refl refl

pub returns-in_default : goal.returns-in_default
returns-in_default c =
    shows_none _ _ c.requires.1 c.requires.0 c.args.q _ c.requires.2 refl (sym c.if-is_connected.false ∙ c.is_connected.ensures) _ refl refl

pub returns-in_default-2 : goal.returns-in_default-2
returns-in_default-2 c =
    shows_none _ _ c.requires.1 c.requires.0 c.args.q _ c.requires.2 refl (none_there _ _ c.args.q _ c.requires.2 refl (spread c.requires.0 c.requires.1) (none_is _ _ c.in_default.ensures)) _ refl refl
