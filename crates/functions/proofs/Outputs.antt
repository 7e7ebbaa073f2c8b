-- The outputs as functions of all inputs: bits of the output words, and of the response.
use mathlib.Core.Path.{◌≡◌, sym, ap, ap₂, ◌∙◌}
use mathlib.Core.Bool.{Bool, false}
use mathlib.Core.List.{List, [], ◌∷◌, ◌++◌}
use Prim.Native.Nat.{ℕ, suc, ◌+◌, ◌*◌, ◌-◌, ◌^◌, ◌<◌}
use native.Mathlib.Nat.{mul-sub}
use native.Mathlib.Omega.{arith}
use lib.ListN.{length, get_or, replicate}
use lib.Pow.{pow_pos}
use lib.Seq.{take_at}
use Rattle.sizes.specs.Sizes.{inputs, outputs, frames}
use Rattle.layered.specs.States.{Words}
use Rattle.layered.specs.Histories.{history_words}
use Rattle.layered.proofs.Feeding.{words_length, words_whole}
use Rattle.layered.proofs.States.{some_words}
use Rattle.layered.proofs.Histories.{history-words}
use Rattle.circuit.specs.Lists.{grown, listed, bit}
use Rattle.circuit.specs.Circuit.{gates, all_inputs, gate_signal, gate_of_output, input_values, gate_value, signal_values, output_word}
use Rattle.circuit.specs.WellFormed.{CircuitHeaded, Accepted}
use Rattle.circuit.specs.Theorems.{response}
use Rattle.circuit.proofs.Bits.{equal_bits, packed_bits}
use Rattle.circuit.proofs.Lists.{listed_cons, listed_length, listed_at}
use Rattle.circuit.proofs.Unconnected.{word_below, word_bit}
use Rattle.circuit.proofs.Causal.{word_agrees}
use Rattle.diagrams.specs.Frames.{history_bits}
use Rattle.functions.specs.Functions.{signal_on, output_on}
use Rattle.functions.specs.Theorems.{OutputsRespond, ResponsesRead}
use Rattle.functions.proofs.Sequences.{bits_of, words_listed, bits_append, bits_history, bits_zeros, words_of}

-- the inputs of a history of t words, and no more that are set
abbrev pub filled : List ℕ → (t h : ℕ) → List Bool
filled b t h = history_bits (inputs b) t h ++ replicate (inputs b * frames b - inputs b * t) false

-- they are those of its words and zero words
filled_bits : (b : List ℕ) (t h : ℕ) → bits_of (inputs b) (history_words (2 ^ inputs b) t h ++ replicate (frames b - t) 0) ≡ filled b t h
filled_bits b t h =
    bits_append (inputs b) (history_words (2 ^ inputs b) t h) _
    ∙ ap₂ (λ (l r : List Bool). l ++ r) (bits_history (inputs b) t h) (bits_zeros (inputs b) (frames b - t) ∙ ap (λ k. replicate k false) (mul-sub (inputs b) (frames b) t))

pub response_below : (b : List ℕ) (t h : ℕ) → response b t h < 2 ^ outputs b
unfolding response
response_below b t h = word_below b _ _

module _ (b : List ℕ) (H : CircuitHeaded b) where
  -- the signals on a sequence are those on its bits
  pub values_on : (c : List ℕ) → length c ≡ frames b → signal_values b c (gates b) ≡ grown (false ∷ bits_of (inputs b) c) (gate_value b) (gates b)
  unfolding signal_values input_values all_inputs
  values_on c e =
      ap (λ s. grown s (gate_value b) (gates b))
      (listed_cons false _ (inputs b * frames b) ∙ ap (λ l. false ∷ l) (words_listed (inputs b) H.sizes.inputs_from c (frames b) e))

  -- so an output is a bit of its frame's output word
  pub output_on_lem : (c : List ℕ) → length c ≡ frames b → (t j : ℕ) → t < frames b → j < outputs b → bit (output_word b c t) j ≡ output_on b (outputs b * t + j) (bits_of (inputs b) c)
  unfolding output_on signal_on gate_signal
  output_on_lem c e t j h l =
      let g : ℕ = gate_of_output b (outputs b * t + j) in
      let i : 1 + all_inputs b + g ≡ suc (all_inputs b + g) = omega arith in
      word_bit b H c t h j l ∙ ap₂ (λ (vs : List Bool) (i : ℕ). get_or vs i false) (values_on c e) i

  pub response_bit : (t h j : ℕ) → t < frames b → j < outputs b → bit (response b (suc t) h) j ≡ output_on b (outputs b * t + j) (filled b (suc t) h)
  unfolding response
  response_bit t h j l k =
      let i : suc t - 1 ≡ t = omega arith in
      let c : List ℕ = history_words (2 ^ inputs b) (suc t) h ++ replicate (frames b - suc t) 0 in
      let long : length c ≡ frames b = words_length (words_whole l (history-words (pow_pos (inputs b)) (suc t) h) (some_words (frames b - suc t) (pow_pos (inputs b)))) in
      ap (λ t. bit (output_word b c t) j) i ∙ output_on_lem c long t j l k ∙ ap (output_on b (outputs b * t + j)) (filled_bits b (suc t) h)

pub responses_read : ResponsesRead
unfolding ResponsesRead
responses_read b H t h l =
    let f : ℕ → Bool = λ j. output_on b (outputs b * t + j) (filled b (suc t) h) in
    sym (packed_bits (outputs b) _ (listed [] f (outputs b)) (response_below b (suc t) h) (listed_length f (outputs b))
    (λ j k. listed_at f false (outputs b) j k ∙ sym (response_bit b H t h j l k)))

-- no output depends on the inputs of later frames
module _ (b : List ℕ) (A : Accepted b) (t i : ℕ) (h : t < frames b) (k : i < outputs b) where
  abbrev o : ℕ
  o = outputs b * t + i

  -- whatever words follow
  any_words : (p v w : List ℕ) → Words (2 ^ inputs b) (suc t) p → Words (2 ^ inputs b) (frames b - suc t) v → Words (2 ^ inputs b) (frames b - suc t) w
      → output_on b o (bits_of (inputs b) p ++ bits_of (inputs b) v) ≡ output_on b o (bits_of (inputs b) p ++ bits_of (inputs b) w)
  any_words p v w I X Y =
      let same = word_agrees b A (p ++ v) (p ++ w) t h (words_whole h I X) (words_whole h I Y) (take_at p v (suc t) (words_length I) ∙ sym (take_at p w (suc t) (words_length I))) in
      sym (on v X) ∙ ap (λ x. bit x i) same ∙ on w Y
    where
      on : (c : List ℕ) → Words (2 ^ inputs b) (frames b - suc t) c → bit (output_word b (p ++ c) t) i ≡ output_on b o (bits_of (inputs b) p ++ bits_of (inputs b) c)
      on c U = output_on_lem b A.form.head (p ++ c) (words_length (words_whole h I U)) t i h k ∙ ap (output_on b o) (bits_append (inputs b) p c)

  any_inputs : (ps vs ws : List Bool) → length ps ≡ inputs b * suc t → length vs + inputs b * suc t ≡ inputs b * frames b → length ws ≡ length vs → output_on b o (ps ++ vs) ≡ output_on b o (ps ++ ws)
  any_inputs ps vs ws ep ev ew =
      let left = mul-sub (inputs b) (frames b) (suc t) in
      go (words_of (inputs b) (suc t) ps ep) (words_of (inputs b) (frames b - suc t) vs (omega (arith, left))) (words_of (inputs b) (frames b - suc t) ws (omega (arith, left)))
    where
      Told : (k : ℕ) → List Bool → Type 0
      Told k us = (c : List ℕ) × Words (2 ^ inputs b) k c × (bits_of (inputs b) c ≡ us)

      go : Told (suc t) ps → Told (frames b - suc t) vs → Told (frames b - suc t) ws → output_on b o (ps ++ vs) ≡ output_on b o (ps ++ ws)
      go (p, I, pe) (v, X, ve) (w, Y, we) =
          ap₂ (λ l r. output_on b o (l ++ r)) (sym pe) (sym ve) ∙ any_words p v w I X Y ∙ ap₂ (λ l r. output_on b o (l ++ r)) pe we

pub outputs_respond : OutputsRespond
unfolding OutputsRespond
outputs_respond b A =
    let H = A.form.head in
    record {
      told = λ t g h l. (
        (λ q i k. sym (response_bit b H t g i l k) ∙ ap (λ x. bit x i) q ∙ response_bit b H t h i l k),
        (λ q. equal_bits (outputs b) _ _ (response_below b (suc t) g) (response_below b (suc t) h) (λ i k. response_bit b H t g i l k ∙ q i k ∙ sym (response_bit b H t h i l k))),
      );
      causal = any_inputs b A;
    }
