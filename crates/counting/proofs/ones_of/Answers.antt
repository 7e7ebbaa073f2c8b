-- `counting::ones_of` meets its contract. The invariant: the bits 1 so far are counted.
-- Assumes nothing.
use mathlib.Core.Path.{◌≡◌, sym, ap, ◌∙◌}
use Prim.Native.Nat.{ℕ}
use native.Mathlib.Omega.{arith}
use Rattle.circuit.specs.Lists.{bit}
use Rattle.layered.specs.Search.{tally}
use Rattle.layered.proofs.Search.{tally_at_most}
use Rattle.layered.proofs.Lists.{tally_next}
use Rattle.counting.proofs.ones_of.Goals as goal
use Rattle.counting.proofs.ones_of.Goals.{then-is_set, else-is_set}

pub loop-j-init : goal.loop-j-init
unfolding tally
loop-j-init c =
    (omega arith, omega arith)

pub overflow_add-ones : goal.overflow_add-ones
overflow_add-ones c = omega (arith, c.loop-j.invariant.0, c.loop-j.invariant.1, tally_at_most (bit c.args.word) c.loop-j.j, c.requires)

pub loop-j-preserved : goal.loop-j-preserved
loop-j-preserved c =
    let p = bit c.args.word in
    elim c.if-is_set.branch [
      | then-is_set w ↦ (omega (arith, c.loop-j-test.true), w.ones-is ∙ omega (arith, c.loop-j.invariant.1, tally_next p c.loop-j.j _ (sym c.is_set.ensures ∙ w.if-is_set.true)))
      | else-is_set w ↦ (omega (arith, c.loop-j-test.true), w.ones-is ∙ omega (arith, c.loop-j.invariant.1, tally_next p c.loop-j.j _ (sym c.is_set.ensures ∙ w.if-is_set.false)))
    ]

pub returns : goal.returns
returns c =
    let e : c.loop-j.j ≡ c.args.count = omega (arith, c.loop-j-test.false) in (
      c.loop-j.invariant.1 ∙ ap (λ (j : ℕ). tally j (bit c.args.word)) e,
      omega (arith, c.loop-j.invariant.0, c.loop-j.invariant.1, tally_at_most (bit c.args.word) c.loop-j.j, c.requires),
    )
