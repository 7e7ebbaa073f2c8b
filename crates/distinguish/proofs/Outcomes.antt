-- What the call answers and leaves in each case: refused by the table's check, by 11, by 7, or accepted. Assumes nothing.
use mathlib.Core.Path.{◌≡◌, refl, ap, ◌∙◌}
use mathlib.Core.List.{List, ◌++◌}
use Prim.Native.Nat.{ℕ, ◌-◌, ◌≤◌, ◌<◌}
use native.Mathlib.Omega.{arith}
use lib.ListN.{length, drop}
use borrow.Author.Tests.{lt-ltb, le-ltb}
use Rattle.verdict.specs.Judgements.{answer, refusal_figures}
use Rattle.verdict.specs.declared.Figures.{Figures}
use Rattle.verdict.specs.declared.Refusal.{Refusal}
use Rattle.std.specs.Prelude.{Err}
use Rattle.verdict.proofs.Laws.{stop, go_on, kept, left}
use Rattle.sizes.specs.Sizes.{frames}
use Rattle.table.specs.Table.{checked}
use Rattle.distinguish.specs.Distinguish.{distinguishing, pair_checked, room_checked, distinguish_checked, distinguish_result}

module _ (b : List ℕ) (t r s : ℕ) (before : List ℕ) where
  -- a refusal leaves the result as it was
  pub refused : (q : Refusal) → refusal_figures q ≡ distinguish_checked b t r s (length before) → before ≡ distinguish_result b t r s before
  unfolding distinguish_result
  refused q e = kept _ q (distinguishing b t r s) before e

  -- an acceptance leaves the words, and the rest as it was
  pub accepted : (n : ℕ) (after : List ℕ) → answer 0 n ≡ distinguish_checked b t r s (length before) → after ≡ distinguishing b t r s ++ drop n before → after ≡ distinguish_result b t r s before
  unfolding distinguish_result
  accepted n after e a = left _ n (distinguishing b t r s) before after e a

  -- the table is accepted, and then 11 is judged
  pub pair_judged : (p : ℕ) (q : Refusal) → answer 0 p ≡ checked b → refusal_figures q ≡ pair_checked b t r s → refusal_figures q ≡ distinguish_checked b t r s (length before)
  unfolding distinguish_checked
  pair_judged p q e f = go_on _ _ _ _ e (stop (Err q) q _ _ refl f)

  -- the states are accepted too
  module _ (p u : ℕ) (e : answer 0 p ≡ checked b) (f : answer 0 u ≡ pair_checked b t r s) where
    judged : (g : Figures) → g ≡ room_checked b t r s (length before) → g ≡ distinguish_checked b t r s (length before)
    unfolding distinguish_checked
    judged g h = go_on _ _ _ _ e (go_on _ _ _ _ f h)

    -- 7
    pub no_room : (n : ℕ) → n ≡ frames b - t → length before < n → answer 7 n ≡ distinguish_checked b t r s (length before)
    unfolding room_checked
    no_room n h l = judged _ (ap (answer 7) h ∙ rw (lt-ltb (length before) (frames b - t) (omega arith)))

    -- room for all words that can still be fed
    pub room : (n : ℕ) → frames b - t ≤ length before → n ≡ length (distinguishing b t r s) → answer 0 n ≡ distinguish_checked b t r s (length before)
    unfolding room_checked
    room n l h = judged _ (ap (answer 0) h ∙ rw (le-ltb (length before) (frames b - t) l))
