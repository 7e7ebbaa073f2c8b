-- The lanes that the circuit or network has, played by its own inputs, have the outputs of the circuit that the source is. Assumes nothing.
use mathlib.Core.Path.{◌≡◌, refl, sym, ap, ap₂, ◌∙◌}
use mathlib.Core.Bool.{Bool, true, false, cond}
use mathlib.Core.Logic.{⊎_elim}
use mathlib.Core.List.{List, []}
use Prim.Native.Nat.{ℕ, suc, ◌+◌, ◌*◌, ◌-◌, ◌/◌, ◌%◌, ◌^◌, ◌≤◌, ◌<◌}
use native.Mathlib.Nat.{mul_comm, mul-one, zero-mul, div-lt_iff_lt-mul, div-eq_of_lt, mod-eq_of_lt, mod-lt}
use native.Mathlib.Omega.{arith}
use lib.Dec.{ltb}
use lib.ListN.{length, get_or}
use lib.Seq.{get_or-take}
use borrow.Author.Tests.{lt-ltb, le-ltb}
use Rattle.sizes.specs.Limits.{most_bits}
use Rattle.sizes.specs.Sizes.{inputs, frames}
use Rattle.layered.specs.Histories.{history_words}
use Rattle.layered.proofs.Histories.{history_length}
use Rattle.layered.proofs.Search.{below_or}
use Rattle.circuit.specs.Lists.{listed, bit}
use Rattle.circuit.specs.Circuit.{gates, all_inputs, all_outputs, gate_signal, gate_of_output, output_signal, gate_value, signal_values}
use Rattle.circuit.specs.Circuit as circuit
use Rattle.circuit.specs.WellFormed.{CircuitHeaded, WellFormed}
use Rattle.circuit.proofs.Bits.{equal_bits}
use Rattle.circuit.proofs.Lists.{listed_at, listed_length, grown_start}
use Rattle.circuit.proofs.Laws.{packed_below}
use Rattle.circuit.proofs.Ahead.{output_value}
use Rattle.functions.specs.Functions.{signal_on, output_on}
use Rattle.functions.proofs.Sequences.{bits_of, words_listed}
use Rattle.functions.proofs.Outputs.{values_on}
use Rattle.source.specs.Rearranged.{item_at}
use Rattle.source.specs.Source.{sourced, item_in, shown_signal, Spreads, SourceOf, stands, spread}
use Rattle.source.specs.declared.Source.{Source}
use Rattle.source.proofs.Rearranged.{b, rearranged_formed, rearranged_head, outputs_are}
use Rattle.source.proofs.Standing.{shown_none, shown_item}
use Rattle.source.proofs.Signals.{output_same}
use Rattle.source.proofs.Sources.{sourced_whole, sourced_spread, is_spread}
use Rattle.lanes.specs.Limits.{lane_count}
use Rattle.lanes.specs.Lanes.{lane, sequence, picked, Lanes, SignalLanes}
use Rattle.lanes.proofs.Laws.{lane_at, whole, picked_bit, input_bit_lem}
use Rattle.blocks.specs.Blocks.{Holds}
use Rattle.causal.specs.Limits.{most_all_outputs}
use Rattle.causal.specs.Played.{Placed, place_bit, OwnBits, ShownSignals, Outputs}
use Rattle.causal.proofs.Places.{own_whole, own_place}

-- ---- the outputs of a circuit by the bits of a sequence

-- the bits of the words of a number
bit_at : (n T x p : ℕ) → 1 ≤ n → p < n * T → get_or (bits_of n (history_words (2 ^ n) T x)) p false ≡ bit x (place_bit n T p)
unfolding place_bit
bit_at n T x p h l =
    let q : p / n < T = (div-lt_iff_lt-mul h).1 (omega (arith, mul_comm n T)) in
    let words : List ℕ = history_words (2 ^ n) T x in
    let f : suc (p / n) - 1 ≡ p / n = omega arith in
    ap (λ v. get_or v p false) (sym (words_listed n h words T (history_length (2 ^ n) T x)))
    ∙ listed_at (λ i. bit (get_or words (i / n) 0) (i % n)) false (n * T) p l
    ∙ ap₂ (λ w k. bit (get_or w k 0) (p % n)) (sym (whole (2 ^ n) T x)) (sym f)
    ∙ input_bit_lem n T T x (suc (p / n)) (p % n) (omega arith) (mod-lt p h) (omega arith) (omega arith)

bits_long : (n T x : ℕ) → 1 ≤ n → length (bits_of n (history_words (2 ^ n) T x)) ≡ n * T
bits_long n T x h = ap length (sym (words_listed n h (history_words (2 ^ n) T x) T (history_length (2 ^ n) T x))) ∙ listed_length _ (n * T)

module _ (b : List ℕ) (H : CircuitHeaded b) (x : ℕ) where
  abbrev words : List ℕ
  words = history_words (2 ^ inputs b) (frames b) x

  -- a signal's value, the constant's included
  signal_value : (s : ℕ) → get_or (signal_values b words (gates b)) (suc s) false ≡ signal_on b s (bits_of (inputs b) words)
  unfolding signal_on
  signal_value s = ap (λ v. get_or v (suc s) false) (values_on b H words (history_length (2 ^ inputs b) (frames b) x))

  constant_value : get_or (signal_values b words (gates b)) 0 false ≡ false
  constant_value = ap (λ v. get_or v 0 false) (values_on b H words (history_length (2 ^ inputs b) (frames b) x)) ∙ grown_start _ (gate_value b) false (gates b) 0 (omega arith)

  output_is : (q : ℕ) → q < all_outputs b → circuit.output_on b q x ≡ output_on b q (bits_of (inputs b) words)
  unfolding circuit.output_on output_on output_signal gate_signal
  output_is q h =
      let e : 1 + all_inputs b + gate_of_output b q ≡ suc (all_inputs b + gate_of_output b q) = omega arith in
      output_value b H q h words ∙ ap (λ i. get_or (signal_values b words (gates b)) i false) e ∙ signal_value (all_inputs b + gate_of_output b q)

-- ---- what the lanes have

module _ (c : List ℕ) (s : Source) (bits shown : List ℕ) (OB : OwnBits s bits) (SS : ShownSignals s shown) (at T : ℕ) (few : at + lane_count ≤ 65536) (v : List ℕ)
    (eT : T ≡ frames c) (L : SignalLanes c T (λ j. picked bits (at + j)) v) where
  -- a signal on the sequence of lane j
  lane_is : (j i : ℕ) → j < lane_count → i < gate_signal c (gates c) → bit (get_or v i 0) j ≡ get_or (signal_values c (history_words (2 ^ inputs c) (frames c) (picked bits (at + j))) (gates c)) i false
  unfolding Lanes
  lane_is j i l h =
      let y : ℕ = picked bits (at + j) in
      let words : sequence (2 ^ inputs c) (frames c) T y ≡ history_words (2 ^ inputs c) (frames c) y = ap (λ k. sequence (2 ^ inputs c) (frames c) k y) eT ∙ whole (2 ^ inputs c) (frames c) y in
      sym (lane_at v j i)
      ∙ sym (get_or-take (gate_signal c (gates c)) (lane j v) i false h)
      ∙ ap (λ l. get_or l i false) (L j l)
      ∙ ap (λ w. get_or (signal_values c w (gates c)) i false) words

  -- ---- a circuit as it stands

  module _ (e : s.whole ≡ true) (W : WellFormed c s.own) where
    picked_same : (x : ℕ) → x < 65536 → picked bits x ≡ x
    unfolding picked
    picked_same x h =
        equal_bits most_bits (picked bits x) x (packed_below (listed [] (λ p. bit x (get_or bits p 0)) most_bits) most_bits (omega (arith, listed_length (λ p. bit x (get_or bits p 0)) most_bits))) h
        (λ p l. picked_bit bits x p l ∙ ap (bit x) ((OB.are p l).0 ∙ sym (own_whole s p e)))

    item_same : (q : ℕ) → q ≡ item_in s q
    unfolding item_in
    item_same q = rw e

    stands_played : (q : ℕ) → q < all_outputs c → q < most_all_outputs → (j : ℕ) → j < lane_count → bit (get_or v (get_or shown q 0) 0) j ≡ circuit.output_on c q (at + j)
    unfolding circuit.output_on output_signal gate_signal
    stands_played q h m j l =
        let O = W.head_is in
        let sh : get_or shown q 0 ≡ 1 + all_inputs c + gate_of_output c q = (SS.are q m).0 ∙ sym (shown_item s q q (item_same q) (omega (arith, O.total_is))) ∙ omega (arith, O.base_is, O.gates_is, O.total_is) in
        ap (λ i. bit (get_or v i 0) j) sh
        ∙ lane_is j (1 + all_inputs c + gate_of_output c q) l (omega (arith, W.headed.outputs_to))
        ∙ ap (λ y. get_or (signal_values c (history_words (2 ^ inputs c) (frames c) y) (gates c)) (1 + all_inputs c + gate_of_output c q) false) (picked_same (at + j) (omega arith))
        ∙ sym (output_value c W.headed q h (history_words (2 ^ inputs c) (frames c) (at + j)))

  -- ---- a network that is spread

  module _ (e : s.whole ≡ false) (P : Spreads c s) where
    abbrev r : List ℕ
    r = b c s P

    abbrev O : WellFormed c s.own
    O = P.network

    all_own : all_inputs c ≡ inputs c
    unfolding all_inputs
    all_own = ap (λ k. inputs c * k) P.one_frame ∙ mul-one (inputs c)

    -- input i of the network is the bit of the sequence at its place
    own_input : (x i : ℕ) → i < all_inputs c → get_or (bits_of (inputs c) (history_words (2 ^ inputs c) (frames c) (picked bits x))) i false ≡ get_or (bits_of s.inputs (history_words (2 ^ s.inputs) s.frames x)) (get_or s.places i 0) false
    unfolding all_inputs place_bit
    own_input x i h =
        let low : i < inputs c = omega (arith, all_own) in
        let few_inputs : all_inputs c ≤ 16 = O.headed.inputs_to in
        let self : (frames c - suc (i / inputs c)) * inputs c + i % inputs c ≡ i = self_bit i (inputs c) low in
        bit_at (inputs c) (frames c) (picked bits x) i O.headed.sizes.inputs_from h
        ∙ ap (bit (picked bits x)) self
        ∙ picked_bit bits x i (omega arith)
        ∙ ap (bit x) ((OB.are i (omega arith)).0 ∙ own_place s i e (omega (arith, O.head_is.base_is)))
        ∙ sym (bit_at s.inputs s.frames x (get_or s.places i 0) P.sizes.inputs_from (P.places_in i h))
      where
        self_bit : (i n : ℕ) → i < n → (frames c - suc (i / n)) * n + i % n ≡ i
        self_bit i n h =
            let z : frames c - suc (i / n) ≡ 0 = omega (arith, P.one_frame, div-eq_of_lt h) in
            ap₂ (λ k m. k * n + m) z (mod-eq_of_lt h) ∙ omega (arith, zero-mul n)

    module _ (x : ℕ) where
      abbrev us : List Bool
      us = bits_of (inputs c) (history_words (2 ^ inputs c) (frames c) (picked bits x))

      abbrev vs : List Bool
      vs = bits_of s.inputs (history_words (2 ^ s.inputs) s.frames x)

      -- the output at place q, by the network's
      place_value : (q : ℕ) → q < all_outputs r → circuit.output_on r q x ≡ cond (ltb (item_in s q) s.own.total) (output_on c (item_in s q) us) false
      unfolding item_in all_inputs
      place_value q h =
          let H = rearranged_head c s P in
          let item : item_at (all_outputs c) s.shown q ≡ item_in s q = rw (e, O.head_is.total_is) in
          output_is r (rearranged_formed c s P).head x q h
          ∙ ap₂ (λ n T. output_on r q (bits_of n (history_words (2 ^ n) T x))) (sym H.inputs_is) (sym H.frames_is)
          ∙ output_same c s P vs us (bits_long s.inputs s.frames x P.sizes.inputs_from) (bits_long (inputs c) (frames c) (picked bits x) O.headed.sizes.inputs_from) (own_input x) q (omega (arith, outputs_are c s P))
          ∙ ap₂ (λ k M. cond (ltb k M) (output_on c k us) false) item (sym O.head_is.total_is)

    spread_played : (q : ℕ) → q < all_outputs r → q < most_all_outputs → (j : ℕ) → j < lane_count → bit (get_or v (get_or shown q 0) 0) j ≡ circuit.output_on r q (at + j)
    unfolding gate_signal output_on
    spread_played q h m j l =
        let k : ℕ = item_in s q in
        let y : ℕ = picked bits (at + j) in
        let H = O.head_is in
        ap (λ i. bit (get_or v i 0) j) (SS.are q m).0
        ∙ ⊎_elim
        (λ (in_List : k < s.own.total).
        let sh : shown_signal s q ≡ suc (all_inputs c + gate_of_output c k) = sym (shown_item s q k refl in_List) ∙ omega (arith, H.base_is, H.gates_is, H.total_is) in
        ap (λ i. bit (get_or v i 0) j) sh
        ∙ lane_is j (suc (all_inputs c + gate_of_output c k)) l (omega (arith, H.total_is, O.headed.outputs_to))
        ∙ signal_value c O.headed y (all_inputs c + gate_of_output c k)
        ∙ sym (place_value (at + j) q h ∙ ap (λ t. cond t (output_on c k (us (at + j))) false) (lt-ltb k s.own.total in_List)))
        (λ (none : s.own.total ≤ k).
        ap (λ i. bit (get_or v i 0) j) (sym (shown_none s q k refl none))
        ∙ lane_is j 0 l (omega arith)
        ∙ constant_value c O.headed y
        ∙ sym (place_value (at + j) q h ∙ ap (λ t. cond t (output_on c k (us (at + j))) false) (le-ltb k s.own.total none)))
        (below_or k s.own.total)

  -- ---- so they have the outputs

  pub outputs_played : SourceOf c s → ((q : ℕ) → q < all_outputs (sourced s c) → q < most_all_outputs) → Outputs (sourced s c) shown at v
  unfolding Outputs Holds
  outputs_played (stands O W) most q h j l =
      let e = sourced_whole c s O.whole_is in
      stands_played O.whole_is W q (rw e at h) (most q h) j l ∙ sym (ap (λ b. circuit.output_on b q (at + j)) e)
  outputs_played (spread w P) most q h j l =
      let e = sourced_spread c s w in
      spread_played w P q (rw e at h) (most q h) j l ∙ sym (ap (λ b. circuit.output_on b q (at + j)) e)

-- ---- what playing asks of a source

pub placed : (c : List ℕ) (s : Source) → SourceOf c s → s.whole ≡ false → Placed s
placed c s S e =
    let P = is_spread c s S e in
    record {
      inputs_from = P.sizes.inputs_from;
      inputs_to = P.sizes.inputs_to;
      bits_to = P.sizes.bits_to;
      places_in = λ i h. P.places_in i (omega (arith, P.network.head_is.base_is));
    }
