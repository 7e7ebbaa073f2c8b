-- `circuit::is_admissible` meets its contract.
-- Assumes nothing.
use mathlib.Core.Path.{◌≡◌, sym, ap, ◌∙◌}
use mathlib.Core.Bool.{not}
use Prim.Native.Nat.{◌+◌, ◌-◌, ◌/◌}
use native.Mathlib.Omega.{arith}
use Rattle.circuit.specs.Circuit.{all_inputs, unconnected}
use Rattle.circuit.proofs.Literals.{beyond, of_inner, of_gate}
use Rattle.circuit.proofs.is_admissible.Goals as goal

pub returns-then-head-g : goal.returns-then-head-g
returns-then-head-g c =
    c.is_unconnected.ensures ∙ beyond c.args.circuit.now c.args.g c.args.literal (omega (arith, c.if-head-g.true, c.requires.head_of))

pub returns-then-signal-head : goal.returns-then-signal-head
returns-then-signal-head c =
    sym (of_inner c.args.circuit.now c.args.g c.args.literal (omega (arith, c.if-head-g.false, c.requires.head_of)) (omega (arith, c.if-signal-head.true, c.requires.head_of)))

pub is_unconnected-requires-2 : goal.is_unconnected-requires-2
is_unconnected-requires-2 c =
    record {
      circuit_headed = c.requires.circuit_headed;
      head_of = c.requires.head_of;
      circuit_bound = (omega (arith, c.if-signal-head.false, c.requires.head_of), omega (arith, c.if-head-g.false, c.requires.circuit_bound, c.requires.head_of));
    }

pub returns : goal.returns
returns c =
    let p : c.args.literal / 2 - c.args.head.base ≡ c.args.literal / 2 - (1 + all_inputs c.args.circuit.now) = omega (arith, c.requires.head_of) in
    ap not (c.is_unconnected-2.ensures ∙ ap (unconnected c.args.circuit.now) p)
    ∙ of_gate c.args.circuit.now c.args.g c.args.literal
    (omega (arith, c.if-head-g.false, c.requires.head_of)) (omega (arith, c.if-signal-head.false, c.requires.head_of))
