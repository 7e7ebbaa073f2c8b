-- `counting::ones_in` meets its contract. The invariant: the bits 1 of the words so far are counted.
-- Assumes nothing.
use mathlib.Core.Path.{◌≡◌, ap, ◌∙◌}
use Prim.Native.Nat.{ℕ, ◌*◌}
use native.Mathlib.Omega.{arith}
use Rattle.words.specs.Words.{word_at}
use Rattle.circuit.specs.Lists.{bit}
use Rattle.layered.specs.Search.{tally, total}
use Rattle.layered.proofs.Lists.{total_next}
use Rattle.counting.proofs.ones_in.Goals as goal

pub loop-e-init : goal.loop-e-init
unfolding total
loop-e-init c =
    (omega arith, omega arith, omega arith)

pub loop-e-preserved : goal.loop-e-preserved
loop-e-preserved c =
    let ones-at : ℕ → ℕ =
    λ e. tally c.args.count (bit (word_at c.args.part.now (2 * e)))
    in
    let q : c.ones_of-ones.result ≡ ones-at c.loop-e.e = c.ones_of-ones.ensures.0 ∙ ap (λ (x : ℕ). tally c.args.count (bit x)) c.read.ensures.0 in
    (omega (arith, c.loop-e-test.true), omega (arith, c.loop-e.invariant.1, total_next (ones-at) c.loop-e.e), omega (arith, c.loop-e.invariant.2, c.ones_of-ones.ensures.1))
