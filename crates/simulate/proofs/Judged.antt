-- The judgement of sequences: what its acceptance tells, and what passes. Assumes nothing.
use mathlib.Core.Path.{◌≡◌, refl}
use mathlib.Core.List.{List}
use Prim.Native.Nat.{ℕ, ◌*◌, ◌≤◌, ◌<◌}
use lib.Dec.{ltb}
use borrow.Author.Tests.{lt-ltb, le-ltb, ltb-false}
use Rattle.verdict.specs.Judgements.{answer}
use Rattle.verdict.specs.declared.Figures.{Figures}
use Rattle.verdict.proofs.Laws.{passed}
use Rattle.sizes.specs.Sizes.{sequence_checked}
use Rattle.sizes.specs.Sized.{Fed}
use Rattle.sizes.proofs.Laws.{fed}
use Rattle.simulate.specs.Limits.{most_sequences}
use Rattle.simulate.specs.Simulate.{sequences_checked}

-- they are few enough, all words are there, each below 2^n, and there is room for their outputs
pub record SequencesFed (n T count : ℕ) (words : List ℕ) (room p : ℕ) : Type 0 where
  pub few : count ≤ most_sequences
  pub all_words : Fed n (count * T) words
  pub roomy : count * T ≤ room
  pub place_is : p ≡ count * T

pub all_fed : (n T count : ℕ) (words : List ℕ) (room p : ℕ) → sequences_checked n T count words room ≡ answer 0 p → SequencesFed n T count words room p
unfolding sequences_checked
all_fed n T count words room p e =
    let s = passed (ltb most_sequences count) 13 count _ p refl e in
    let f = fed n (count * T) words room p s.1 in
    record { few = ltb-false most_sequences count s.0; all_words = f.0; roomy = f.1; place_is = f.2 }

module _ (n T count : ℕ) (words : List ℕ) (room : ℕ) where
  -- too many
  pub too_many : most_sequences < count → answer 13 count ≡ sequences_checked n T count words room
  unfolding sequences_checked
  too_many h = rw (lt-ltb most_sequences count h)

  -- not too many: then 12, 9, 7
  pub few_enough : (x : Figures) → count ≤ most_sequences → x ≡ sequence_checked n (count * T) words room → x ≡ sequences_checked n T count words room
  unfolding sequences_checked
  few_enough x h e = rw (le-ltb most_sequences count h) e
