-- Views through a mask: what an accepted one shows, and which tables look alike. Assumes nothing.
use mathlib.Core.Path.{◌≡◌, refl, sym, ap, ◌∙◌}
use mathlib.Core.Bool.{Bool, true, false, ◌&&◌, cond, and-true}
use mathlib.Core.List.{List, ◌++◌}
use Prim.Native.Nat.{ℕ, ◌^◌, ◌<◌}
use native.Mathlib.Nat.{le_refl}
use native.Mathlib.Omega.{arith}
use lib.Bits.{bit_and}
use lib.Dec.{leb, eqb}
use lib.ListN.{length, get_or, drop, replicate, length-replicate, get_or-append}
use lib.Seq.{ext_get_or}
use borrow.Author.Tests.{leb-false, lt-leb, eqb-true}
use Rattle.verdict.specs.Judgements.{answer, refusal_figures, and_then, result_after}
use Rattle.verdict.specs.declared.Figures.{Figures}
use Rattle.verdict.specs.declared.Refusal.{Refusal}
use Rattle.verdict.proofs.Laws.{both_accept, passed, kept, left}
use Rattle.sizes.specs.Sizes.{inputs, outputs, frames, sequence_checked}
use Rattle.sizes.specs.Sized.{Fed}
use Rattle.sizes.proofs.Laws.{fed, sequence_passes}
use Rattle.layered.specs.States.{Words}
use Rattle.layered.specs.Machines.{masked}
use Rattle.layered.proofs.Feeding.{sequence, words_length, words_at, feed_length, masked_word}
use Rattle.circuit.specs.Lists.{bit}
use Rattle.circuit.proofs.Bits.{bit_and_lem, masked_equal}
use Rattle.table.specs.Table.{machine, checked}
use Rattle.run.specs.Run.{shown}
use Rattle.view.specs.View.{mask_checked, viewed, view_result}
use Rattle.view.specs.Theorems.{output_at, Comparable, AgreeOn, LookAlike, ViewShows, ViewHides, ViewsAlike}

-- ---- what is shown, word by word

module _ (b : List ℕ) (mask : ℕ) (c : List ℕ) where
  shown_length : length (shown b mask c) ≡ length c
  shown_length = feed_length (masked (λ _. mask) (machine b)) 0 0 c

  shown_word : (k : ℕ) → k < length c → get_or (shown b mask c) k 0 ≡ bit_and (output_at b c k) mask
  shown_word k h = masked_word (λ _. mask) (machine b) 0 0 c k h

-- ---- what the result holds: untouched after a refusal, what is shown and then the rest as before after an acceptance

module _ (b : List ℕ) (mask : ℕ) (words before : List ℕ) where
  pub view_kept : (r : Refusal) → refusal_figures r ≡ viewed b mask words (length before) → before ≡ view_result b mask words before
  unfolding view_result
  view_kept r e = kept _ r (shown b mask words) before e

  pub view_left : (p : ℕ) (after : List ℕ) → answer 0 p ≡ viewed b mask words (length before) → after ≡ shown b mask words ++ drop p before → after ≡ view_result b mask words before
  unfolding view_result
  view_left p after e h = left _ p (shown b mask words) before after e h

-- ---- what an accepted view shows

-- the mask and the words of a view that is accepted
module _ (b : List ℕ) (mask : ℕ) (words : List ℕ) (room p : ℕ) (e : viewed b mask words room ≡ answer 0 p) where
  stages : (q : ℕ) × (checked b ≡ answer 0 q) × (and_then (mask_checked (outputs b) mask) (sequence_checked (inputs b) (frames b) words room) ≡ answer 0 p)
  unfolding viewed
  stages = both_accept (checked b) _ p e

  narrow : mask < 2 ^ outputs b
  unfolding mask_checked
  narrow = let s = both_accept (mask_checked (outputs b) mask) _ p stages.2 in leb-false _ _ (passed (leb (2 ^ outputs b) mask) 17 0 (answer 0 0) s.0 refl s.1).0

  fed_by : Fed (inputs b) (frames b) words × (p ≡ frames b)
  fed_by =
      let s = both_accept (mask_checked (outputs b) mask) _ p stages.2 in
      let f = fed (inputs b) (frames b) words room p s.2 in
      (f.0, f.2)

  a_sequence : Words (2 ^ inputs b) (frames b) words
  a_sequence = sequence (2 ^ inputs b) (frames b) words fed_by.0.as_many fed_by.0.below

pub view_shows : (b : List ℕ) (mask : ℕ) (words before : List ℕ) → ViewShows b mask words before
unfolding ViewShows
view_shows b mask words before p e =
    let f = fed_by b mask words (length before) p e in (
      narrow b mask words (length before) p e,
      a_sequence b mask words (length before) p e,
      f.1,
      (λ k j h.
          let l : k < length words = omega (arith, f.0.as_many, f.1) in
          let r = sym (view_left b mask words before p _ (sym e) refl) in
          ap (λ (ws : List ℕ). bit (get_or ws k 0) j) r
          ∙ ap (λ x. bit x j) (get_or-append (shown b mask words) (drop p before) 0 k (omega (arith, shown_length b mask words)) ∙ shown_word b mask words k l)
          ∙ bit_and_lem (output_at b words k) mask j),
    )

-- ---- which tables look alike

module _ (b d : List ℕ) (mask : ℕ) (C : Comparable b d) where
  -- they are judged alike
  judged_alike : (words : List ℕ) (room : ℕ) → viewed b mask words room ≡ viewed d mask words room
  unfolding viewed
  judged_alike words room = rw (C.first_passes, C.second_passes, C.same_inputs, C.same_outputs, C.same_frames)

  -- and where they agree in masked bits on the words of an accepted view, it shows the same
  pub look_alike : (words before : List ℕ) → (Words (2 ^ inputs b) (frames b) words → AgreeOn b d mask words) → LookAlike b d mask words before
  unfolding LookAlike view_result AgreeOn
  look_alike words before agree = (j, ap (λ (f : Figures). result_after f (shown b mask words) before) j ∙ go (eqb (viewed d mask words (length before)).number 0) refl)
    where
      j : viewed b mask words (length before) ≡ viewed d mask words (length before)
      j = judged_alike words (length before)

      same : (p : ℕ) → viewed b mask words (length before) ≡ answer 0 p → shown b mask words ≡ shown d mask words
      same p e =
          let W = a_sequence b mask words (length before) p e in
          ext_get_or 0 _ _ (shown_length b mask words ∙ sym (shown_length d mask words)) (λ k h.
          let l : k < length words = omega (arith, shown_length b mask words) in
          shown_word b mask words k l
          ∙ masked_equal (outputs b) mask (output_at b words k) (output_at d words k) (narrow b mask words (length before) p e) (λ i m q. agree W k i (omega (arith, words_length W)) m q)
          ∙ sym (shown_word d mask words k l))

      go : (t : Bool) → eqb (viewed d mask words (length before)).number 0 ≡ t
          → cond t (shown b mask words ++ drop (viewed d mask words (length before)).place before) before
          ≡ cond t (shown d mask words ++ drop (viewed d mask words (length before)).place before) before
      go false q = refl
      go true q = ap (λ ws. ws ++ drop (viewed d mask words (length before)).place before) (same _ (j ∙ ap (λ (n : ℕ). answer n (viewed d mask words (length before)).place) (eqb-true _ 0 q)))

  -- a view of a sequence with room for T words is accepted
  accepts : mask < 2 ^ outputs b → (c before : List ℕ) → Words (2 ^ inputs b) (frames b) c → length before ≡ frames b → viewed b mask c (length before) ≡ answer 0 (frames b)
  unfolding viewed mask_checked
  accepts h c before W l =
      rw (C.first_passes, lt-leb (2 ^ outputs b) mask h, l)
      (sequence_passes (inputs b) (frames b) c (frames b) (record { as_many = words_length W; below = words_at W }) (le_refl (frames b)))

  -- where they look alike, they agree in masked bits
  agree : mask < 2 ^ outputs b → ((words before : List ℕ) → LookAlike b d mask words before) → (c : List ℕ) → Words (2 ^ inputs b) (frames b) c → AgreeOn b d mask c
  unfolding LookAlike AgreeOn ViewShows
  agree h alike c W k j l m q =
      let room : List ℕ = replicate (frames b) 0 in
      let a = alike c room in
      let e = accepts h c room W (length-replicate (frames b) 0) in
      let x = (view_shows b mask c room (frames b) e).3 k j l in
      let y = (view_shows d mask c room (frames b) (sym a.0 ∙ e)).3 k j l in
      sym (seen (bit (output_at b c k) j)) ∙ sym x ∙ ap (λ (ws : List ℕ). bit (get_or ws k 0) j) a.1 ∙ y ∙ seen (bit (output_at d c k) j)
    where
      seen : (v : Bool) → (v && bit mask j) ≡ v
      seen v = ap (λ u. v && u) q ∙ and-true v

-- ---- the theorems

pub view_hides : (b : List ℕ) (mask : ℕ) → ViewHides b mask
unfolding ViewHides
view_hides b mask d C words before a = look_alike b d mask C words before (λ _. a)

pub views_alike : (b : List ℕ) (mask : ℕ) → ViewsAlike b mask
unfolding ViewsAlike
views_alike b mask d C = ((λ a words before. look_alike b d mask C words before (a words)), agree b d mask C)
