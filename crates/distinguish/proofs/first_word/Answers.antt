-- `distinguish::first_word` meets its contract. The invariant: before a word the outputs do not differ.
-- Assumes nothing.
use mathlib.Core.Path.{◌≡◌, sym, ap, ◌∙◌}
use mathlib.Core.Bool.{Bool, false, not}
use mathlib.Core.List.{List}
use Prim.Native.Nat.{ℕ, ◌+◌, ◌*◌}
use native.Mathlib.Nat.{le_refl}
use native.Mathlib.Numerals.{add-one}
use native.Mathlib.Omega.{arith}
use lib.Dec.{eqb}
use borrow.Author.Tests.{eq-eqb, ne_eqb}
use Rattle.words.specs.Words.{word_at}
use Rattle.layered.proofs.Search.{least_is, below_suc}
use Rattle.distinguish.specs.Distinguish.{below}
use Rattle.distinguish.proofs.Below.{is_below, not_below}
use Rattle.distinguish.proofs.first_word.Goals as goal

-- the outputs for the word w differ
abbrev test : (table : List ℕ) (first second : ℕ) → ℕ → Bool
test table first second w = not (eqb (word_at table (first + 2 * w)) (word_at table (second + 2 * w)))

pub loop-word-init : goal.loop-word-init
loop-word-init c =
    (omega arith, (λ i l. absurd (omega arith)))

pub returns-then-read : goal.returns-then-read
returns-then-read c =
    let e = least_is _ c.loop-word.word _ (omega (arith, c.loop-word.invariant.0)) c.loop-word.invariant.1 (λ _. ap not (ne_eqb _ _ (λ e. c.if-read.true (c.read.ensures.0 ∙ e ∙ sym c.read-in-loop-word.ensures.0)))) in
    is_below c.args.words c.loop-word.word c.loop-word-test.true ∙ ap (below c.args.words) (sym e)

pub loop-word-preserved : goal.loop-word-preserved
loop-word-preserved c =
    (omega arith, rw (add-one c.loop-word.word) (below_suc {P = λ i. test c.args.table.now c.args.first c.args.second i ≡ false} c.loop-word.invariant.1 (ap not (eq-eqb _ _ (sym c.read.ensures.0 ∙ c.if-read.false ∙ c.read-in-loop-word.ensures.0)))))

pub returns : goal.returns
returns c =
    let e = least_is _ c.args.words _ (le_refl _) (λ i h. c.loop-word.invariant.1 i (omega arith)) (λ h. absurd (omega arith)) in
    not_below c.args.words c.args.words (le_refl _) ∙ ap (below c.args.words) (sym e)
