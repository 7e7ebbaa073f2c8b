-- An unconnected output gives 0: an output word has connected bits alone. Assumes nothing.
use mathlib.Core.Path.{◌≡◌, refl, sym, ap, ap₂, ◌∙◌}
use mathlib.Core.Bool.{Bool, true, false, not, ◌&&◌, and-true, and-false}
use mathlib.Core.List.{List, [], ◌∷◌}
use Prim.Native.Nat.{ℕ, ◌+◌, ◌*◌, ◌/◌, ◌%◌, ◌^◌, ◌<◌}
use native.Mathlib.Nat.{mul_comm, mul-suc, mul-le-mul_left, lt_of_le_of_lt}
use native.Mathlib.Omega.{arith}
use lib.Arith.{digits_div, digits_mod}
use lib.Bits.{bit_and, and_le_l}
use lib.ListN.{length, get_or, length-take}
use Rattle.sizes.specs.Sizes.{inputs, outputs, frames}
use Rattle.circuit.specs.Lists.{bit}
use Rattle.circuit.specs.Circuit.{gates, all_inputs, all_outputs, gate_signal, gate_of_output, output_signal, unconnected, connects, connected_outputs, operand, input_values, literal_value, gate_value, signal_values, output_word, output_bit}
use Rattle.circuit.specs.WellFormed.{CircuitHeaded}
use Rattle.circuit.proofs.Bits.{bit_packed, bit_and_lem, equal_bits}
use Rattle.circuit.proofs.Laws.{length_grown, packed_below}
use Rattle.circuit.proofs.Lists.{grown_start, grown_at, listed_start, listed_length, listed_at}
use Rattle.circuit.proofs.Ahead.{output_value}

pub word_below : (b words : List ℕ) (t : ℕ) → output_word b words t < 2 ^ outputs b
unfolding output_word
word_below b words t = packed_below _ (outputs b) (simp length-take (omega arith))

-- ---- the value of a gate

pub start_length : (words : List ℕ) (n count : ℕ) → length (input_values words n count) ≡ 1 + count
unfolding input_values
start_length words n count = length_grown (false ∷ []) (λ _ i. bit (get_or words (i / n) 0) (i % n)) count

module _ (b words : List ℕ) where
  -- the constant is false
  constant : (k : ℕ) → get_or (signal_values b words k) 0 false ≡ false
  unfolding signal_values input_values
  constant k =
      grown_start (input_values words (inputs b) (all_inputs b)) (gate_value b) false k 0 (omega (arith, start_length words (inputs b) (all_inputs b)))
      ∙ listed_start (false ∷ []) _ false (all_inputs b) 0 (omega arith)

  pub gate_value_lem : (k g : ℕ) → g < k → get_or (signal_values b words k) (gate_signal b g) false ≡ gate_value b (signal_values b words g) g
  unfolding signal_values gate_signal
  gate_value_lem k g h =
      ap (λ s. get_or (signal_values b words k) (s + g) false) (sym (start_length words (inputs b) (all_inputs b)))
      ∙ grown_at (input_values words (inputs b) (all_inputs b)) (gate_value b) false k g h

  -- an unconnected output is false
  pub unconnected_false : (k g : ℕ) → g < k → unconnected b g ≡ true → get_or (signal_values b words k) (gate_signal b g) false ≡ false
  unfolding gate_value operand literal_value
  unconnected_false k g h u = gate_value_lem k g h ∙ rw (u, constant g)

-- ---- the connected outputs of a frame

module _ (b : List ℕ) (t : ℕ) where
  pub connected_bit : (j : ℕ) → j < outputs b → bit (connected_outputs b t) j ≡ connects b t j
  unfolding connected_outputs
  connected_bit j h = bit_packed _ j ∙ listed_at (connects b t) false (outputs b) j h

  pub connected_below : connected_outputs b t < 2 ^ outputs b
  unfolding connected_outputs
  connected_below = packed_below _ (outputs b) (omega (arith, listed_length (connects b t) (outputs b)))

-- an output word has no other bits
module _ (b : List ℕ) (H : CircuitHeaded b) (words : List ℕ) (t : ℕ) (h : t < frames b) where
  -- bit j is what the output's gate gives
  pub word_bit : (j : ℕ) → j < outputs b → bit (output_word b words t) j ≡ get_or (signal_values b words (gates b)) (gate_signal b (gate_of_output b (outputs b * t + j))) false
  unfolding output_bit output_signal all_outputs
  word_bit j l =
      let m : ℕ = outputs b in
      let q : ℕ = t * m + j in
      let inside : q < m * frames b = omega (arith, mul_comm t m, mul-suc m t, mul-le-mul_left m h) in
      let p : t * m + j ≡ m * t + j = omega (arith, mul_comm t m) in
      ap₂ (λ f i. bit (output_word b words f) i) (sym (digits_div t l)) (sym (digits_mod t l))
      ∙ output_value b H q inside words
      ∙ ap (λ i. get_or (signal_values b words (gates b)) (output_signal b i) false) p

  -- where the output is unconnected that is false
  clear_bit : (j : ℕ) → j < outputs b → (bit (output_word b words t) j && connects b t j) ≡ bit (output_word b words t) j
  unfolding all_outputs
  clear_bit j l = go (unconnected b g) refl
    where
      g : ℕ
      g = gate_of_output b (outputs b * t + j)

      go : (u : Bool) → unconnected b g ≡ u → (bit (output_word b words t) j && not u) ≡ bit (output_word b words t) j
      go false q = and-true (bit (output_word b words t) j)
      go true q =
          let e = word_bit j l ∙ unconnected_false b words (gates b) g (omega (arith, H.outputs_to, mul-suc (outputs b) t, mul-le-mul_left (outputs b) h)) q in
          and-false (bit (output_word b words t) j) ∙ sym e

  pub word_clear : bit_and (output_word b words t) (connected_outputs b t) ≡ output_word b words t
  word_clear =
      let x : ℕ = output_word b words t in
      let y : ℕ = connected_outputs b t in
      equal_bits (outputs b) (bit_and x y) x (lt_of_le_of_lt (and_le_l x y) (word_below b words t)) (word_below b words t)
      (λ j l. bit_and_lem x y j ∙ ap (λ u. bit x j && u) (connected_bit b t j l) ∙ clear_bit j l)
