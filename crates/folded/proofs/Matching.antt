-- Matching a circuit is being equal to it in each connected bit. Assumes nothing.
use mathlib.Core.Path.{◌≡◌, sym, ap, ◌∙◌}
use mathlib.Core.Bool.{true, ◌&&◌, and-true}
use mathlib.Core.List.{List}
use Prim.Native.Nat.{ℕ, ◌^◌, ◌<◌}
use native.Mathlib.Nat.{zero-add}
use native.Mathlib.Omega.{arith}
use lib.Bits.{bit_and}
use lib.ListN.{length, get_or}
use lib.Seq.{ext_get_or}
use Rattle.sizes.specs.Sizes.{inputs, outputs, frames}
use Rattle.layered.specs.States.{Words}
use Rattle.layered.specs.Machines.{Machine, feed, Gives, masked}
use Rattle.layered.proofs.Feeding.{words_length, feed_length, masked_word}
use Rattle.circuit.specs.Lists.{bit}
use Rattle.circuit.specs.Circuit.{connects, connected_outputs, output_word, output_words}
use Rattle.circuit.specs.WellFormed.{CircuitHeaded}
use Rattle.circuit.proofs.Accepted.{accepted}
use Rattle.circuit.proofs.Bits.{bit_and_lem, masked_equal}
use Rattle.circuit.proofs.Lists.{listed_length, listed_at}
use Rattle.circuit.proofs.Unconnected.{connected_bit, connected_below, word_clear}
use Rattle.folded.specs.Theorems.{Matches, MatchesBits}

-- a word masked by the connected outputs of a frame, bit by bit
module _ (b : List ℕ) (k j x : ℕ) (l : j < outputs b) where
  masked_bit : bit (bit_and x (connected_outputs b k)) j ≡ (bit x j && connects b k j)
  masked_bit = bit_and_lem x (connected_outputs b k) j ∙ ap (λ y. bit x j && y) (connected_bit b k j l)

  kept : connects b k j ≡ true → bit (bit_and x (connected_outputs b k)) j ≡ bit x j
  kept e = masked_bit ∙ ap (λ y. bit x j && y) e ∙ and-true (bit x j)

module _ (b : List ℕ) (H : CircuitHeaded b) (M : Machine) (c : List ℕ) (W : Words (2 ^ inputs b) (frames b) c) where
  -- what M and the circuit give in a frame
  word : ℕ → ℕ
  word k = get_or (feed M 0 M.start c) k 0

  masked_is : (k : ℕ) → k < frames b → get_or (feed (masked (connected_outputs b) M) 0 M.start c) k 0 ≡ bit_and (word k) (connected_outputs b k)
  unfolding word
  masked_is k h = masked_word (connected_outputs b) M 0 M.start c k (omega (arith, words_length W)) ∙ ap (λ i. bit_and (word k) (connected_outputs b i)) (zero-add k)

  given_is : (k : ℕ) → k < frames b → get_or (output_words b c) k 0 ≡ output_word b c k
  unfolding output_words
  given_is k h = listed_at (output_word b c) 0 (frames b) k h

  -- equal in connected bits, they are equal once masked
  words_equal : (k : ℕ) → k < frames b → ((j : ℕ) → j < outputs b → connects b k j ≡ true → bit (word k) j ≡ bit (output_word b c k) j)
      → bit_and (word k) (connected_outputs b k) ≡ output_word b c k
  words_equal k h e =
      masked_equal (outputs b) (connected_outputs b k) (word k) (output_word b c k) (connected_below b k) (λ j l q. e j l (sym (connected_bit b k j l) ∙ q))
      ∙ word_clear b H c k h

pub matches_bits : MatchesBits
unfolding MatchesBits Matches Gives output_words word
matches_bits b p M e =
    let H = (accepted b p e).form.head in (
      (λ G c W k j h l u.
          sym (kept b k j _ l u) ∙ ap (λ x. bit x j) (sym (masked_is b H M c W k h) ∙ ap (λ ws. get_or ws k 0) (G c W))),
      (λ B c W.
          let n : length (feed (masked (connected_outputs b) M) 0 M.start c) ≡ frames b = feed_length (masked (connected_outputs b) M) 0 M.start c ∙ words_length W in
          ext_get_or 0 _ _ (n ∙ sym (listed_length (output_word b c) (frames b))) (λ k h.
          let l : k < frames b = omega arith in
          masked_is b H M c W k l ∙ words_equal b H M c W k l (λ j m u. B c W k j l m u ∙ ap (λ x. bit x j) (given_is b H M c W k l)) ∙ sym (given_is b H M c W k l))),
    )
