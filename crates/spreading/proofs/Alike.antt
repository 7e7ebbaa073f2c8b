-- Networks with equal outputs that are spread by the same lists agree when rearranged, and connect the same places.
use mathlib.Core.Path.{◌≡◌, refl, sym, ap, ◌∙◌, subst}
use mathlib.Core.Bool.{Bool, true, false, not, ◌&&◌, cond}
use mathlib.Core.List.{List, [], ◌∷◌, append-nil}
use Prim.Native.Nat.{ℕ, ◌+◌, ◌*◌, ◌^◌, ◌<◌}
use native.Mathlib.Nat.{mul-suc, mul-le-mul_left}
use native.Mathlib.Omega.{arith}
use lib.Dec.{ltb}
use lib.ListN.{length, get_or}
use borrow.Author.Tests.{ltb-true}
use Rattle.sizes.specs.Sizes.{inputs, outputs}
use Rattle.layered.specs.States.{Words}
use Rattle.circuit.specs.Lists.{listed, bit, packed}
use Rattle.circuit.specs.Circuit.{all_inputs, all_outputs, gate_of_output, unconnected, connects, connected_outputs, output_word, output_words}
use Rattle.circuit.proofs.Bits.{equal_bits}
use Rattle.circuit.proofs.Lists.{listed_cong}
use Rattle.circuit.proofs.Unconnected.{word_below}
use Rattle.diagrams.specs.Frames.{word_bits}
use Rattle.diagrams.proofs.Frames.{word_of}
use Rattle.functions.specs.Functions.{output_on}
use Rattle.functions.proofs.Sequences.{bits_of}
use Rattle.source.specs.Rearranged.{rearranged, item_at, connects_at}
use Rattle.spreading.proofs.Schedule.{Scheduled}
use Rattle.spreading.proofs.Values.{inputs_one, outputs_one, network_bit, network_connects, picked, picked_length, picked_at, outputs_are, frames_are, spread_bit, spread_value, spread_connects}

-- each list of n bits is a word's
word_bits_lem : (n : ℕ) (us : List Bool) → length us ≡ n → (a : ℕ) × (a < 2 ^ n) × (bits_of n (a ∷ []) ≡ us)
unfolding bits_of
word_bits_lem n us l =
    let (a, b, e) = word_of us in
    (a, subst (λ n. a < 2 ^ n) l b, append-nil (word_bits n a) ∙ ap (λ n. word_bits n a) (sym l) ∙ e)

module _
    (c d : List ℕ) (n m T : ℕ) (ins outs : List ℕ) (S : Scheduled c n m T ins outs) (R : Scheduled d n m T ins outs) (ei : inputs d ≡ inputs c) (eo : outputs d ≡ outputs c)
    (same : (a : ℕ) → a < 2 ^ all_inputs c → output_words c (a ∷ []) ≡ output_words d (a ∷ [])) (linked : connected_outputs c 0 ≡ connected_outputs d 0)
  where
    ic : all_inputs c ≡ inputs c
    ic = inputs_one c S.spreads.network.headed S.spreads.one_frame

    as_many_in : all_inputs c ≡ all_inputs d
    as_many_in = ic ∙ sym ei ∙ sym (inputs_one d R.spreads.network.headed R.spreads.one_frame)

    as_many_out : all_outputs c ≡ all_outputs d
    as_many_out = outputs_one c S.spreads.network.headed S.spreads.one_frame ∙ sym eo ∙ sym (outputs_one d R.spreads.network.headed R.spreads.one_frame)

    -- as functions of all inputs
    same_output : (us : List Bool) → length us ≡ all_inputs c → (k : ℕ) → k < all_outputs c → output_on c k us ≡ output_on d k us
    same_output us l k h =
        let (a, b, e) = word_bits_lem (inputs c) us (l ∙ ic) in
        ap (output_on c k) (sym e)
        ∙ sym (network_bit c S.spreads.network.headed S.spreads.one_frame a k h)
        ∙ ap (λ (w : List ℕ). bit (get_or w 0 0) k) (same a (subst (λ n. a < 2 ^ n) (sym ic) b))
        ∙ network_bit d R.spreads.network.headed R.spreads.one_frame a k (omega (arith, as_many_out))
        ∙ ap (λ n. output_on d k (bits_of n (a ∷ []))) ei
        ∙ ap (output_on d k) e

    -- what stands at a place
    abbrev item : ℕ → ℕ
    item q = item_at (all_outputs c) outs q

    same_item : (us : List Bool) → length us ≡ all_inputs c → (q : ℕ)
        → cond (ltb (item q) (all_outputs c)) (output_on c (item q) us) false ≡ cond (ltb (item_at (all_outputs d) outs q) (all_outputs d)) (output_on d (item_at (all_outputs d) outs q) us) false
    same_item us l q = go (ltb (item q) (all_outputs c)) refl ∙ ap (λ k. cond (ltb (item_at k outs q) k) (output_on d (item_at k outs q) us) false) as_many_out
      where
        go : (t : Bool) → ltb (item q) (all_outputs c) ≡ t → cond t (output_on c (item q) us) false ≡ cond t (output_on d (item q) us) false
        go true e = same_output us l (item q) (ltb-true _ _ e)
        go false e = refl

    same_connects : (q : ℕ) → connects_at c outs q ≡ connects_at d outs q
    unfolding connects_at
    same_connects q = go (ltb (item q) (all_outputs c)) refl ∙ ap (λ k. ltb (item_at k outs q) k && not (unconnected d (gate_of_output d (item_at k outs q)))) as_many_out
      where
        go : (t : Bool) → ltb (item q) (all_outputs c) ≡ t → (t && not (unconnected c (gate_of_output c (item q)))) ≡ (t && not (unconnected d (gate_of_output d (item q))))
        go true e =
            let h : item q < all_outputs c = ltb-true _ _ e in
            network_connects c S.spreads.network.headed S.spreads.one_frame (item q) h
            ∙ ap (λ w. bit w (item q)) linked
            ∙ sym (network_connects d R.spreads.network.headed R.spreads.one_frame (item q) (omega (arith, as_many_out)))
        go false e = refl

    abbrev x : List ℕ
    x = rearranged c n m T ins outs

    abbrev y : List ℕ
    y = rearranged d n m T ins outs

    same_word : (words : List ℕ) → Words (2 ^ n) T words → (t : ℕ) → t < T → output_word x words t ≡ output_word y words t
    same_word words W t h =
        equal_bits m _ _ (rw (outputs_are c n m T ins outs S) at (word_below x words t)) (rw (outputs_are d n m T ins outs R) at (word_below y words t))
        (λ j l.
        let q : ℕ = m * t + j in
        let inside : q < m * T = omega (arith, mul-suc m t, mul-le-mul_left m h) in
        let us : List Bool = picked (all_inputs c) ins (bits_of n words) in
        let long = picked_length (all_inputs c) ins (bits_of n words) in
        let at = picked_at (all_inputs c) ins (bits_of n words) in
        spread_bit c n m T ins outs S words W t j h l
        ∙ spread_value c n m T ins outs S words W us long at q inside
        ∙ same_item us long q
        ∙ sym (spread_value d n m T ins outs R words W us (long ∙ as_many_in) (λ i l. at i (omega (arith, as_many_in))) q inside)
        ∙ sym (spread_bit d n m T ins outs R words W t j h l))

    pub outputs_agree : (words : List ℕ) → Words (2 ^ n) T words → output_words x words ≡ output_words y words
    unfolding output_words
    outputs_agree words W =
        ap (listed [] (output_word x words)) (frames_are c n m T ins outs S) ∙ listed_cong _ _ T (same_word words W) ∙ ap (listed [] (output_word y words)) (sym (frames_are d n m T ins outs R))

    pub places_agree : (t : ℕ) → t < T → connected_outputs x t ≡ connected_outputs y t
    unfolding connected_outputs
    places_agree t h =
        ap packed
        (ap (listed [] (connects x t)) (outputs_are c n m T ins outs S)
        ∙ listed_cong _ _ m (λ j l. spread_connects c n m T ins outs S t j h l ∙ same_connects (m * t + j) ∙ sym (spread_connects d n m T ins outs R t j h l))
        ∙ ap (listed [] (connects y t)) (sym (outputs_are d n m T ins outs R)))
