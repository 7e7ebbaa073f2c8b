-- Whatever spreading accepts: `spreadings`.
use mathlib.Core.Path.{◌≡◌, sym, ap, ◌∙◌}
use mathlib.Core.Bool.{Bool, false, cond}
use mathlib.Core.Logic.{◌↔◌}
use mathlib.Core.List.{List, [], ◌∷◌}
use Prim.Native.Nat.{ℕ, ◌*◌, ◌/◌, ◌%◌, ◌^◌, ◌<◌}
use native.Mathlib.Nat.{mul_comm, mod-lt, div-add-mod, div-lt_iff_lt-mul}
use native.Mathlib.Omega.{arith}
use lib.Dec.{ltb}
use lib.ListN.{length, get_or}
use borrow.Author.Tests.{lt-ltb}
use Rattle.sizes.specs.Sizes.{inputs, outputs, frames}
use Rattle.layered.specs.States.{Words}
use Rattle.layered.specs.Machines.{Gives}
use Rattle.layered.proofs.Feeding.{words_length}
use Rattle.circuit.specs.Lists.{listed, bit}
use Rattle.circuit.specs.Circuit.{all_inputs, all_outputs, connected_outputs, output_word, output_words}
use Rattle.circuit.specs.WellFormed.{Accepted}
use Rattle.circuit.specs.Theorems.{Causal}
use Rattle.circuit.proofs.Causal.{causal_of}
use Rattle.circuit.proofs.Lists.{listed_length, listed_at}
use Rattle.functions.specs.Functions.{output_on}
use Rattle.functions.proofs.Sequences.{bits_of, bits_at, words_of}
use Rattle.source.specs.Rearranged.{rearranged, item_at}
use Rattle.folded.specs.Folded.{folded_bytes}
use Rattle.folded.specs.Theorems.{Folding, Canonical}
use Rattle.folded.proofs.Outcomes.{written_bytes as written_folded}
use Rattle.folded.proofs.Theorems.{folding, same_bytes, known}
use Rattle.spreading.specs.Theorems.{Places, Spreadings}
use Rattle.spreading.proofs.Schedule.{Scheduled, item_here}
use Rattle.spreading.proofs.Outcomes.{accepted, written_bytes}
use Rattle.spreading.proofs.Values.{assigned_length, assigned_at, network_bit, inputs_are, outputs_are, frames_are, spread_bit, spread_value}
use Rattle.spreading.proofs.Alike.{outputs_agree, places_agree}

module _ (c : List ℕ) (n m T : ℕ) (ins outs : List ℕ) (S : Scheduled c n m T ins outs) where
  abbrev r : List ℕ
  r = rearranged c n m T ins outs

  -- ---- recovered

  -- the bits of a sequence at the places of the inputs
  place-bit : (words : List ℕ) → Words (2 ^ n) T words → (i : ℕ) → i < all_inputs c → get_or (bits_of n words) (get_or ins i 0) false ≡ bit (get_or words (get_or ins i 0 / n) 0) (get_or ins i 0 % n)
  place-bit words W i h = bits_at n S.spreads.sizes.inputs_from words (get_or ins i 0) (rw (words_length W) (S.spreads.places_in i h))

  -- each output of a sequence, by its place
  spread_place : (words : List ℕ) → Words (2 ^ n) T words → (q : ℕ) → q < m * T → bit (get_or (output_words r words) (q / m) 0) (q % m) ≡ output_on r q (bits_of n words)
  unfolding output_words
  spread_place words W q h =
      let frame : q / m < T = (div-lt_iff_lt-mul {k = m} S.spreads.sizes.outputs_from).1 (rw (mul_comm m T) at h) in
      ap (λ w. bit w (q % m)) (listed_at (output_word r words) 0 (frames r) (q / m) (omega (arith, frames_are c n m T ins outs S)))
      ∙ spread_bit c n m T ins outs S words W (q / m) (q % m) frame (mod-lt q S.spreads.sizes.outputs_from)
      ∙ ap (λ q. output_on r q (bits_of n words)) (div-add-mod q m)

  -- that at the place of output k is the network's
  recovered : (a : ℕ) (words : List ℕ) → Words (2 ^ n) T words → Places (all_inputs c) n ins a words
      → (k : ℕ) → k < all_outputs c → bit (get_or (output_words r words) (get_or outs k 0 / m) 0) (get_or outs k 0 % m) ≡ bit (get_or (output_words c (a ∷ [])) 0 0) k
  unfolding Places
  recovered a words W P k h =
      let H = S.spreads.network.headed in
      let one = S.spreads.one_frame in
      let us : List Bool = bits_of (inputs c) (a ∷ []) in
      let q : ℕ = get_or outs k 0 in
      let at : (i : ℕ) → i < all_inputs c → get_or us i false ≡ get_or (bits_of n words) (get_or ins i 0) false = λ i l. assigned_at c H one a i l ∙ sym (P i l) ∙ sym (place-bit words W i l) in
      spread_place words W q (S.outs_in k h)
      ∙ spread_value c n m T ins outs S words W us (assigned_length c H one a) at q (S.outs_in k h)
      ∙ ap (λ i. cond (ltb i (all_outputs c)) (output_on c i us) false) (item_here (all_outputs c) outs S.outs_apart k h)
      ∙ ap (λ t. cond t (output_on c k us) false) (lt-ltb k (all_outputs c) h)
      ∙ sym (network_bit c H one a k h)

  -- ---- assigned

  -- a sequence with each bit of the assignment at its place
  assigned : (a : ℕ) → (words : List ℕ) × Words (2 ^ n) T words × Places (all_inputs c) n ins a words
  unfolding Places
  assigned a =
      let f : ℕ → Bool = λ p. bit a (item_at (all_inputs c) ins p) in
      let (words, W, e) = words_of n T (listed [] f (n * T)) (listed_length f (n * T)) in (
        words,
        W,
        λ i h.
            sym (place-bit words W i h)
            ∙ ap (λ vs. get_or vs (get_or ins i 0) false) e
            ∙ listed_at f false (n * T) (get_or ins i 0) (S.spreads.places_in i h)
            ∙ ap (bit a) (item_here (all_inputs c) ins S.ins_apart i h),
      )

  -- ---- the bytes

  module _ (A : Accepted r) where
    -- demands 2 and 3
    spread_folding : Folding (2 ^ n) m T r (folded_bytes r)
    spread_folding = rw (inputs_are c n m T ins outs S, outputs_are c n m T ins outs S, frames_are c n m T ins outs S) at (folding r (causal_of r A) A.form.sizes)

    -- the same bytes as those of a circuit of equal sizes
    spread_same : (d : List ℕ) → Causal d → inputs d ≡ n → outputs d ≡ m → frames d ≡ T
        → (folded_bytes r ≡ folded_bytes d) ↔ (((words : List ℕ) → Words (2 ^ n) T words → output_words r words ≡ output_words d words) × ((k : ℕ) → k < T → connected_outputs r k ≡ connected_outputs d k))
    spread_same d D i o f =
        let er = inputs_are c n m T ins outs S in
        let eo = outputs_are c n m T ins outs S in
        let ef = frames_are c n m T ins outs S in
        rw (er, ef) at (same_bytes r d (causal_of r A) D A.form.sizes (i ∙ sym er) (o ∙ sym eo) (f ∙ sym ef))

pub spreadings : Spreadings
unfolding Spreadings Canonical Gives
spreadings c n m T ins outs before room nodes p e =
    let (S, A, z) = accepted c n m T ins outs room nodes (length before) p e in
    let w = written_bytes c n m T ins outs before room nodes p e in
    let F = spread_folding c n m T ins outs S A in
    rw w
    (record {
      folding = F;
      canonical = λ d before' room' nodes' p' i o f e'.
          rw (written_folded d before' room' nodes' p' e')
          (spread_same c n m T ins outs S A d (known d room' nodes' (length before') p' e').0 (i ∙ inputs_are c n m T ins outs S) (o ∙ outputs_are c n m T ins outs S) (f ∙ frames_are c n m T ins outs S));
      recovered = λ a words _ W P k h. ap (λ (w : List ℕ). bit (get_or w (get_or outs k 0 / m) 0) (get_or outs k 0 % m)) (F.gives words W) ∙ recovered c n m T ins outs S a words W P k h;
      assigned = λ a _. assigned c n m T ins outs S a;
      among = λ d ins' outs' before' room' nodes' p' e'.
          let (R, B, z') = accepted d n m T ins' outs' room' nodes' (length before') p' e' in
          rw (written_bytes d n m T ins' outs' before' room' nodes' p' e')
          (spread_same c n m T ins outs S A (rearranged d n m T ins' outs') (causal_of _ B) (inputs_are d n m T ins' outs' R) (outputs_are d n m T ins' outs' R) (frames_are d n m T ins' outs' R));
      alike = λ d before' room' nodes' p' e' i o same linked.
          let (R, B, z') = accepted d n m T ins outs room' nodes' (length before') p' e' in
          rw (written_bytes d n m T ins outs before' room' nodes' p' e')
          ((spread_same c n m T ins outs S A (rearranged d n m T ins outs) (causal_of _ B) (inputs_are d n m T ins outs R) (outputs_are d n m T ins outs R) (frames_are d n m T ins outs R)
          ).1 (outputs_agree c d n m T ins outs S R i o same linked, places_agree c d n m T ins outs S R i o same linked));
    })
