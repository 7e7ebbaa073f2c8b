-- The outputs of a network and of it rearranged, as functions of all inputs: bits of the output words.
use mathlib.Core.Path.{◌≡◌, sym, ap, ap₂, ◌∙◌}
use mathlib.Core.Bool.{Bool, false, not, cond, not-not}
use mathlib.Core.List.{List, [], ◌∷◌}
use Prim.Native.Nat.{ℕ, ◌+◌, ◌*◌, ◌^◌, ◌<◌}
use native.Mathlib.Nat.{mul-one, mul-suc, mul-le-mul_left, div-eq_of_lt, mod-eq_of_lt}
use native.Mathlib.Omega.{arith}
use lib.Dec.{ltb}
use lib.ListN.{length, get_or}
use Rattle.sizes.specs.Sizes.{inputs, outputs, frames}
use Rattle.layered.specs.States.{Words}
use Rattle.layered.proofs.Feeding.{words_length}
use Rattle.circuit.specs.Lists.{listed, bit}
use Rattle.circuit.specs.Circuit.{all_inputs, all_outputs, gate_of_output, unconnected, connects, connected_outputs, output_word, output_words}
use Rattle.circuit.specs.WellFormed.{CircuitHeaded, HeadOf}
use Rattle.circuit.proofs.Lists.{listed_length, listed_at}
use Rattle.circuit.proofs.Unconnected.{connected_bit}
use Rattle.functions.specs.Functions.{output_on}
use Rattle.functions.proofs.Sequences.{bits_of, bits_length, bits_at}
use Rattle.functions.proofs.Outputs.{output_on_lem}
use Rattle.source.specs.Rearranged.{rearranged, item_at, connects_at}
use Rattle.source.specs.Source.{head_of}
use Rattle.source.specs.declared.Source.{Source}
use Rattle.source.proofs.Rearranged.{rearranged_formed, rearranged_head, place_unconnected}
use Rattle.source.proofs.Signals.{output_same}
use Rattle.spreading.proofs.Schedule.{spread_source, Scheduled}

-- ---- a network, of one frame

module _ (c : List ℕ) (H : CircuitHeaded c) (one : frames c ≡ 1) where
  pub inputs_one : all_inputs c ≡ inputs c
  unfolding all_inputs
  inputs_one = ap (λ T. inputs c * T) one ∙ mul-one (inputs c)

  pub outputs_one : all_outputs c ≡ outputs c
  unfolding all_outputs
  outputs_one = ap (λ T. outputs c * T) one ∙ mul-one (outputs c)

  -- the inputs that the assignment a gives
  abbrev assigned : (a : ℕ) → List Bool
  assigned a = bits_of (inputs c) (a ∷ [])

  pub assigned_length : (a : ℕ) → length (assigned a) ≡ all_inputs c
  assigned_length a = bits_length (inputs c) (a ∷ []) ∙ mul-one (inputs c) ∙ sym inputs_one

  pub assigned_at : (a i : ℕ) → i < all_inputs c → get_or (assigned a) i false ≡ bit a i
  assigned_at a i h =
      let l : i < inputs c = omega (arith, inputs_one) in
      bits_at (inputs c) H.sizes.inputs_from (a ∷ []) i (rw (mul-one (inputs c)) l) ∙ ap₂ (λ q r. bit (get_or (a ∷ []) q 0) r) (div-eq_of_lt l) (mod-eq_of_lt l)

  -- output k on it
  pub network_bit : (a k : ℕ) → k < all_outputs c → bit (get_or (output_words c (a ∷ [])) 0 0) k ≡ output_on c k (assigned a)
  unfolding output_words
  network_bit a k h =
      let z : outputs c * 0 + k ≡ k = omega arith in
      ap (λ w. bit w k) (listed_at (output_word c (a ∷ [])) 0 (frames c) 0 (omega arith))
      ∙ output_on_lem c H (a ∷ []) (sym one) 0 k (omega arith) (omega (arith, outputs_one))
      ∙ ap (λ q. output_on c q (assigned a)) z

  -- and whether it is connected
  pub network_connects : (k : ℕ) → k < all_outputs c → not (unconnected c (gate_of_output c k)) ≡ bit (connected_outputs c 0) k
  network_connects k h =
      let z : k ≡ outputs c * 0 + k = omega arith in
      ap (λ q. not (unconnected c (gate_of_output c q))) z ∙ sym (connected_bit c 0 k (omega (arith, outputs_one)))

-- ---- it rearranged

module _ (count : ℕ) (ins : List ℕ) (vs : List Bool) where
  -- the inputs at the places of a list
  abbrev pub picked : List Bool
  picked = listed [] (λ i. get_or vs (get_or ins i 0) false) count

  pub picked_length : length picked ≡ count
  picked_length = listed_length _ count

  pub picked_at : (i : ℕ) → i < count → get_or picked i false ≡ get_or vs (get_or ins i 0) false
  picked_at i h = listed_at _ false count i h

module _ (c : List ℕ) (n m T : ℕ) (ins outs : List ℕ) (S : Scheduled c n m T ins outs) where
  abbrev s : Source
  s = spread_source c n m T ins outs

  abbrev r : List ℕ
  r = rearranged c n m T ins outs

  head : CircuitHeaded r
  head = (rearranged_formed c s S.spreads).head

  sizes : HeadOf r (head_of s)
  sizes = rearranged_head c s S.spreads

  pub inputs_are : inputs r ≡ n
  inputs_are = sym sizes.inputs_is

  pub outputs_are : outputs r ≡ m
  outputs_are = sym sizes.outputs_is

  pub frames_are : frames r ≡ T
  frames_are = sym sizes.frames_is

  module _ (words : List ℕ) (W : Words (2 ^ n) T words) where
    -- an output on a sequence
    pub spread_bit : (t j : ℕ) → t < T → j < m → bit (output_word r words t) j ≡ output_on r (m * t + j) (bits_of n words)
    spread_bit t j h l =
        output_on_lem r head words (words_length W ∙ sym frames_are) t j (omega (arith, frames_are)) (omega (arith, outputs_are))
        ∙ ap₂ (λ m n. output_on r (m * t + j) (bits_of n words)) outputs_are inputs_are

    -- is that of the network that stands there, on the inputs us that its places have, or false
    pub spread_value : (us : List Bool) → length us ≡ all_inputs c → ((i : ℕ) → i < all_inputs c → get_or us i false ≡ get_or (bits_of n words) (get_or ins i 0) false)
        → (q : ℕ) → q < m * T → output_on r q (bits_of n words) ≡ cond (ltb (item_at (all_outputs c) outs q) (all_outputs c)) (output_on c (item_at (all_outputs c) outs q) us) false
    spread_value us l at q h = output_same c s S.spreads (bits_of n words) us (bits_length n words ∙ ap (λ k. n * k) (words_length W)) l at q h

  -- which are connected
  pub spread_connects : (t j : ℕ) → t < T → j < m → connects r t j ≡ connects_at c outs (m * t + j)
  spread_connects t j h l =
      let inside : m * t + j < m * T = omega (arith, mul-suc m t, mul-le-mul_left m h) in
      ap (λ m. not (unconnected r (gate_of_output r (m * t + j)))) outputs_are ∙ ap not (place_unconnected c s S.spreads (m * t + j) inside) ∙ not-not (connects_at c outs (m * t + j))
