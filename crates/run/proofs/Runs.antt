-- Runs: the sequences that are fed, the outputs stored word by word, and a mask of all ones, which shows all of them. Assumes nothing.
use mathlib.Core.Path.{◌≡◌, refl, sym, ap, ap₂, ◌∙◌}
use mathlib.Core.List.{List, [], ◌++◌, append-nil}
use Prim.Native.Nat.{ℕ, ◌+◌, ◌^◌, ◌≤◌, ◌<◌}
use native.Mathlib.Nat.{mod-eq_of_lt, lt_of_lt_of_le}
use native.Mathlib.Numerals.{add-one}
use lib.Bits.{bit_and, and_mask}
use lib.Pow.{pow_mono}
use lib.ListN.{length, get_or, set, take, drop, take-append-drop}
use lib.Seq.{drop-cons, take-suc-set, append_snoc, drop-length}
use Rattle.verdict.specs.Judgements.{answer, refusal_figures}
use Rattle.verdict.specs.declared.Refusal.{Refusal}
use Rattle.verdict.proofs.Laws.{both_accept, kept, left}
use Rattle.sizes.specs.Sizes.{inputs, outputs, frames, sequence_checked}
use Rattle.sizes.specs.Limits.{most_outputs}
use Rattle.sizes.specs.Sized.{Fed}
use Rattle.sizes.proofs.Laws.{fed}
use Rattle.layered.specs.Machines.{Machine, feed, Gives}
use Rattle.layered.proofs.Feeding.{sequence, words_length, feed_length}
use Rattle.layered.proofs.Agreement.{masked_gives}
use Rattle.table.specs.Table.{machine, checked}
use Rattle.table.specs.Sound.{Sound}
use Rattle.run.specs.Run.{shown, ran, run_result, RunFeeds}

-- ---- the theorem

pub run_feeds : (b words : List ℕ) (room : ℕ) → RunFeeds b words room
unfolding RunFeeds ran
run_feeds b words room p e =
    let s = both_accept (checked b) (sequence_checked (inputs b) (frames b) words room) p e in
    let f = fed (inputs b) (frames b) words room p s.2 in
    let r = sequence (2 ^ inputs b) (frames b) words f.0.as_many f.0.below in
    (r, f.2, feed_length (machine b) 0 0 words ∙ words_length r ∙ sym f.2)

-- ---- a mask of all ones

all_ones : (x m : ℕ) → x < 2 ^ m → m ≤ most_outputs → bit_and x 65535 ≡ x
all_ones x m h l = and_mask x 16 ∙ mod-eq_of_lt (lt_of_lt_of_le h (pow_mono {j = 16} l))

-- it shows what a run gives
shown_all : (b words : List ℕ) → Sound b → Fed (inputs b) (frames b) words → shown b 65535 words ≡ feed (machine b) 0 0 words
unfolding Gives
shown_all b words S f =
    masked_gives (λ _. 65535) (machine b) S.legal (λ t s w h l k. all_ones ((machine b).out t s w) (outputs b) (S.legal.out_is t s w h l k) S.headed.sized.outputs_to)
    (feed (machine b) 0 0) (λ c W. refl) words (sequence (2 ^ inputs b) (frames b) words f.as_many f.below)

-- ---- a run, word by word

-- one output more is stored, and the machine goes on from where it moved to
pub feed_more : (M : Machine) (words r : List ℕ) (t s o s' : ℕ) → t < length words → t < length r → o ≡ M.out t s (get_or words t 0) → s' ≡ M.next t s (get_or words t 0)
    → feed M 0 0 words ≡ take t r ++ feed M t s (drop t words) → feed M 0 0 words ≡ take (t + 1) (set r t o) ++ feed M (t + 1) s' (drop (t + 1) words)
unfolding feed
feed_more M words r t s o s' hw hr eo es e = e ∙ rw (add-one, drop-cons words t 0 hw, take-suc-set r t o hr, eo, es, append_snoc)

-- after the last word
pub feed_all : (M : Machine) (words r before : List ℕ) (t s : ℕ) → length words ≡ t → feed M 0 0 words ≡ take t r ++ feed M t s (drop t words) → drop t r ≡ drop t before
    → r ≡ feed M 0 0 words ++ drop t before
unfolding feed
feed_all M words r before t s l e d =
    let z : drop t words ≡ [] = ap (λ n. drop n words) (sym l) ∙ drop-length words in
    let f : feed M 0 0 words ≡ take t r = e ∙ rw (z, append-nil) in
    sym (take-append-drop t r) ∙ ap₂ ◌++◌ (sym f) d

-- what the result holds: untouched after a refusal, the outputs and then the rest as before after an acceptance
module _ (b words before : List ℕ) where
  pub run_kept : (r : Refusal) → refusal_figures r ≡ ran b words (length before) → before ≡ run_result b words before
  unfolding run_result
  run_kept r e = kept _ r (feed (machine b) 0 0 words) before e

  pub run_left : Sound b → Fed (inputs b) (frames b) words → (after : List ℕ) → answer 0 (frames b) ≡ ran b words (length before)
      → after ≡ shown b 65535 words ++ drop (frames b) before → after ≡ run_result b words before
  unfolding run_result
  run_left S f after e h = left _ (frames b) (feed (machine b) 0 0 words) before after e (h ∙ ap (λ o. o ++ drop (frames b) before) (shown_all b words S f))
