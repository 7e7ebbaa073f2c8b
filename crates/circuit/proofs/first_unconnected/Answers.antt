-- `circuit::first_unconnected` meets its contract. The invariant: no gate before g is an unconnected output.
-- Assumes nothing.
use mathlib.Core.Path.{◌≡◌, sym, subst, ◌∙◌}
use mathlib.Core.Logic.{⊎_elim}
use mathlib.Core.Bool.{false}
use Prim.Native.Nat.{◌<◌}
use native.Mathlib.Nat.{eq-or-lt_of_le}
use native.Mathlib.Omega.{arith}
use Rattle.layered.proofs.Search.{least_is}
use Rattle.circuit.specs.Circuit.{gates, unconnected}
use Rattle.circuit.proofs.Literals.{inner_gate}
use Rattle.circuit.proofs.first_unconnected.Goals as goal

pub overflow_sub-first : goal.overflow_sub-first
overflow_sub-first c =
    omega (arith, c.requires.circuit_headed, c.requires.head_of)

pub loop-g-init : goal.loop-g-init
loop-g-init c =
    (omega arith, omega arith, λ i h. sym (inner_gate c.args.circuit.now i (omega (arith, c.requires.head_of))))

pub is_unconnected-requires : goal.is_unconnected-requires
is_unconnected-requires c =
    record {
      circuit_headed = c.requires.circuit_headed;
      head_of = c.requires.head_of;
      circuit_bound = (omega (arith, c.loop-g.invariant.0, c.requires.head_of), omega (arith, c.loop-g-test.true, c.requires.head_of));
    }

pub returns-then-is_unconnected : goal.returns-then-is_unconnected
returns-then-is_unconnected c =
    sym (least_is (gates c.args.circuit.now) c.loop-g.g (unconnected c.args.circuit.now) (omega (arith, c.loop-g-test.true, c.requires.head_of)) c.loop-g.invariant.2 (λ _. sym c.is_unconnected.ensures ∙ c.if-is_unconnected.true))

pub loop-g-preserved : goal.loop-g-preserved
loop-g-preserved c = (
  omega (arith, c.loop-g.invariant.0),
  omega arith,
  λ k h. ⊎_elim
      (λ (e : k ≡ c.loop-g.g). subst (λ k. unconnected c.args.circuit.now k ≡ false) (sym e) (sym c.is_unconnected.ensures ∙ c.if-is_unconnected.false))
      (λ (q : k < c.loop-g.g). c.loop-g.invariant.2 k q)
      (eq-or-lt_of_le {n = k} {m = c.loop-g.g} (omega arith)),
)

pub returns : goal.returns
returns c =
    sym (least_is (gates c.args.circuit.now) _ (unconnected c.args.circuit.now) (omega (arith, c.requires.head_of)) (λ i h. c.loop-g.invariant.2 i (omega (arith, c.loop-g-test.false))) (λ h. absurd (omega (arith, c.requires.head_of))))
