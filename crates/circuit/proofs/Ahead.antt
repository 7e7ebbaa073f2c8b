-- Number 4 and two sequences: an output looks ahead exactly when two sequences agree up to its frame and differ in it. Assumes nothing.
use mathlib.Core.Path.{◌≡◌, refl, sym, ap, ◌∙◌, subst}
use mathlib.Core.Bool.{Bool, true, false, not, beq}
use mathlib.Core.List.{List}
use Prim.Native.Nat.{ℕ, ◌+◌, ◌*◌, ◌-◌, ◌/◌, ◌%◌, ◌^◌, ◌<◌}
use native.Mathlib.Nat.{mul_comm, mod-lt, div-add-mod, div-lt_iff_lt-mul}
use native.Mathlib.Omega.{arith}
use lib.Dec.{T as Yes}
use lib.ListN.{get_or, take, drop}
use lib.Seq.{get_or-take, get_or-drop}
use lib.Pow.{pow_pos, pow-add, shl-shr}
use borrow.Author.Tests.{not-true, not-false}
use Rattle.sizes.specs.Sizes.{inputs, outputs, frames}
use Rattle.layered.specs.States.{Words}
use Rattle.layered.specs.Histories.{history_words, history_number}
use Rattle.layered.proofs.Search.{every_true, every_each, every_fails}
use Rattle.layered.proofs.Rows.{pow-mul}
use Rattle.layered.proofs.Histories.{history_below, history-words, history_front, words_number, number_words}
use Rattle.circuit.specs.Lists.{block_start}
use Rattle.circuit.specs.Circuit.{gates, all_inputs, all_outputs, gate_signal, output_signal, frame_of, signal_values, output_word, output_bit, output_on, later_inputs, as_first, looks_ahead}
use Rattle.circuit.specs.WellFormed.{CircuitHeaded}
use Rattle.circuit.specs.Theorems.{DependsOnLater}
use Rattle.circuit.proofs.Bits.{bit_packed}

-- ---- truth values

pub beq_same : (a b : Bool) → beq a b ≡ true → a ≡ b
beq_same true true e = refl
beq_same true false e = sym e
beq_same false true e = e
beq_same false false e = refl

pub same_beq : (a b : Bool) → a ≡ b → beq a b ≡ true
same_beq true true e = refl
same_beq true false e = sym e
same_beq false true e = e
same_beq false false e = refl

beq_apart : (a b : Bool) → beq a b ≡ false → a ≡ b → ⊥
beq_apart a b e q = subst Yes (sym (same_beq a b q) ∙ e) tt

-- ---- an output

module _ (b : List ℕ) (H : CircuitHeaded b) (q : ℕ) (h : q < all_outputs b) where
  -- its frame, from 0, and its number in the frame
  pub output_parts : (q / outputs b < frames b) × (q % outputs b < outputs b) × (outputs b * (q / outputs b) + q % outputs b ≡ q)
  unfolding all_outputs
  output_parts = (
    (div-lt_iff_lt-mul {k = outputs b} H.sizes.outputs_from).1 (rw (mul_comm (outputs b) (frames b)) at h),
    mod-lt q H.sizes.outputs_from,
    div-add-mod q (outputs b),
  )

  -- it is the value of its signal
  pub output_value : (words : List ℕ) → output_bit b words q ≡ get_or (signal_values b words (gates b)) (output_signal b q) false
  unfolding output_bit output_word output_signal gate_signal
  output_value words =
      let m : ℕ = outputs b in
      let vs : List Bool = signal_values b words (gates b) in
      let from : ℕ = output_signal b (m * (q / m)) in
      let at : from + q % m ≡ output_signal b q = omega (arith, output_parts.2) in
      bit_packed (take m (drop from vs)) (q % m)
      ∙ get_or-take m (drop from vs) (q % m) false output_parts.1
      ∙ get_or-drop from vs (q % m) false
      ∙ ap (λ s. get_or vs s false) at

  -- ---- the sequences that agree up to its frame

  abbrev K : ℕ
  K = 2 ^ inputs b

  -- its frame, from 1
  abbrev t : ℕ
  t = frame_of (outputs b) q

  -- the words of the sequence x up to there
  front : (x : ℕ) → take t (history_words K (frames b) x) ≡ history_words K t (x / 2 ^ later_inputs b q)
  unfolding later_inputs frame_of
  front x =
      let d : ℕ = frames b - t in
      let whole : t + d ≡ frames b = omega (arith, output_parts.0) in
      ap (λ r. take t (history_words K r x)) (sym whole) ∙ history_front K t d x ∙ ap (λ k. history_words K t (x / k)) (sym (pow-mul 2 (inputs b) d))

  -- how many sequences there are
  all_sequences : 2 ^ all_inputs b ≡ K ^ t * 2 ^ later_inputs b q
  unfolding all_inputs later_inputs frame_of
  all_sequences =
      let d : ℕ = frames b - t in
      let whole : frames b ≡ t + d = omega (arith, output_parts.0) in
      pow-mul 2 (inputs b) (frames b) ∙ ap (λ r. K ^ r) whole ∙ pow-add K t d ∙ ap (λ k. K ^ t * k) (sym (pow-mul 2 (inputs b) d))

  -- the first sequence of a block has the words of the block up to there
  same_front : (x : ℕ) → take t (history_words K (frames b) x) ≡ take t (history_words K (frames b) (block_start (later_inputs b q) x))
  unfolding block_start
  same_front x =
      let l : ℕ = later_inputs b q in
      front x ∙ ap (history_words K t) (sym (shl-shr (x / 2 ^ l) l)) ∙ sym (front (x / 2 ^ l * 2 ^ l))

  is_sequence : (x : ℕ) → Words K (frames b) (history_words K (frames b) x)
  is_sequence x = history-words (pow_pos (inputs b)) (frames b) x

  -- where it looks ahead, there are two sequences: one on which it differs from the first that agrees up to there, and that one
  pub ahead_depends : looks_ahead b q ≡ true → DependsOnLater b q
  unfolding looks_ahead as_first output_on DependsOnLater
  ahead_depends e =
      let (x, l, f) = every_fails (2 ^ all_inputs b) (as_first b q) (not-true _ e) in
      let y : ℕ = block_start (later_inputs b q) x in
      (history_words K (frames b) x, history_words K (frames b) y, is_sequence x, is_sequence y, same_front x, beq_apart _ _ f)

  -- where it does not, it is on a sequence what it is on the first that agrees up to there
  of_first : looks_ahead b q ≡ false → (c : List ℕ) → Words K (frames b) c → output_bit b c q ≡ output_on b q (block_start (later_inputs b q) (history_number K 0 c))
  unfolding looks_ahead as_first output_on all_inputs
  of_first e c W =
      let x : ℕ = history_number K 0 c in
      let l : x < 2 ^ (inputs b * frames b) = rw (pow-mul 2 (inputs b) (frames b)) (history_below W) in
      ap (λ w. output_bit b w q) (sym (words_number W)) ∙ beq_same _ _ (every_each (as_first b q) (2 ^ all_inputs b) (not-false _ e) x l)

  -- sequences that agree up to there are in one block
  one_block : (x y : ℕ) → x < 2 ^ all_inputs b → y < 2 ^ all_inputs b → take t (history_words K (frames b) x) ≡ take t (history_words K (frames b) y)
      → x / 2 ^ later_inputs b q ≡ y / 2 ^ later_inputs b q
  one_block x y l k e = sym (number x l) ∙ ap (history_number K 0) (sym (front x) ∙ e ∙ front y) ∙ number y k
    where
      number : (x : ℕ) → x < 2 ^ all_inputs b → history_number K 0 (history_words K t (x / 2 ^ later_inputs b q)) ≡ x / 2 ^ later_inputs b q
      number x l = (number_words K t (x / 2 ^ later_inputs b q) ((div-lt_iff_lt-mul (pow_pos (later_inputs b q))).1 (rw all_sequences at l))).1

  pub none_depends : looks_ahead b q ≡ false → (c d : List ℕ) → Words K (frames b) c → Words K (frames b) d → take t c ≡ take t d → output_bit b c q ≡ output_bit b d q
  unfolding all_inputs block_start
  none_depends e c d W U s =
      let n : ℕ = inputs b in
      let T : ℕ = frames b in
      let below : (c : List ℕ) → Words K T c → history_number K 0 c < 2 ^ (n * T) = λ c W. rw (pow-mul 2 n T) (history_below W) in
      let words : take t (history_words K T (history_number K 0 c)) ≡ take t (history_words K T (history_number K 0 d)) = ap (take t) (words_number W) ∙ s ∙ ap (take t) (sym (words_number U)) in
      of_first e c W
      ∙ ap (λ k. output_on b q (k * 2 ^ later_inputs b q)) (one_block (history_number K 0 c) (history_number K 0 d) (below c W) (below d U) words)
      ∙ sym (of_first e d U)

  -- it looks ahead only where two sequences show it
  pub quiet : ((c d : List ℕ) → Words K (frames b) c → Words K (frames b) d → take t c ≡ take t d → output_bit b c q ≡ output_bit b d q) → looks_ahead b q ≡ false
  unfolding looks_ahead as_first output_on
  quiet f = ap not (every_true (as_first b q) (2 ^ all_inputs b) (λ x l. same_beq _ _ (f _ _ (is_sequence x) (is_sequence _) (same_front x))))

  -- any number is a sequence's: where one shows a difference, the output looks ahead
  pub ahead_seen : (x : ℕ) → as_first b q x ≡ false → looks_ahead b q ≡ true
  unfolding as_first output_on
  ahead_seen x f = go (looks_ahead b q) refl
    where
      go : (t : Bool) → looks_ahead b q ≡ t → t ≡ true
      go true e = refl
      go false e = absurd (beq_apart _ _ f (none_depends e _ _ (is_sequence x) (is_sequence _) (same_front x)))

  -- where none does, it does not
  pub ahead_unseen : ((x : ℕ) → x < 2 ^ all_inputs b → as_first b q x ≡ true) → looks_ahead b q ≡ false
  unfolding looks_ahead
  ahead_unseen f = ap not (every_true (as_first b q) (2 ^ all_inputs b) f)
