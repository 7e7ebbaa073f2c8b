-- The promise of a folding determines its bytes: whatever bytes are a folding of a circuit are those of the circuit's table.
use mathlib.Core.Path.{◌≡◌, refl, sym, ap, ap₂, ◌∙◌, subst, subst₃}
use mathlib.Core.Logic.{◌↔◌}
use mathlib.Core.List.{List, [], ◌∷◌, ◌++◌, head-eq_of_cons-eq}
use Prim.Native.Nat.{ℕ, zero, suc, ◌+◌, ◌*◌, ◌-◌, ◌^◌, ◌≤◌, ◌<◌}
use native.Mathlib.Nat.{le_antisymm}
use native.Mathlib.Omega.{arith}
use lib.Bits.{bit_and}
use lib.ListN.{length, drop, replicate}
use Rattle.sizes.specs.Sizes.{inputs, outputs, frames}
use Rattle.sizes.specs.Sized.{Sized}
use Rattle.layered.specs.States.{Words, none, more, outputs as outputs_of, Equivalent, count, number, history}
use Rattle.layered.specs.Machines.{Legal, feed, Gives, folded}
use Rattle.layered.proofs.Lists.{Below}
use Rattle.layered.proofs.States.{some_words, words_more, number_decides, number_below, history_is, history_least}
use Rattle.layered.proofs.Machines.{legal, gives, fewest}
use Rattle.circuit.specs.Circuit.{connected_outputs, output_words}
use Rattle.layered.specs.Histories.{history_words, history_number}
use Rattle.circuit.specs.Theorems.{response, Causal}
use Rattle.table.specs.Table.{states, connected, machine}
use Rattle.folded.specs.Folded.{folded_bytes}
use Rattle.layered.specs.Machines.{reached}
use Rattle.folded.specs.Theorems.{state_of, Smallest, Matches, Folding}
use Rattle.layered.proofs.Feeding.{words_length, words_append, words_whole, reached_append, reached_below, feed_then}
use Rattle.layered.proofs.Histories.{numbered_append, number_words, history_below, outputs_then}
use Rattle.layered.proofs.Agreement.{Agree, masked_gives}
use Rattle.folded.proofs.Checked.{Writable, passed_table}
use Rattle.folded.proofs.Written.{table_bytes}
use Rattle.folded.proofs.Read.{bytes_are, agree_bytes}
use Rattle.folded.proofs.Response.{no_telling, history_climbs}
use Rattle.folded.proofs.Tables.{folded_machine, folded_below}
use Rattle.folded.proofs.Theorems.{folding}

-- ---- counts

-- a folding's machine is within the limits
folding_writable : (b t : List ℕ) → Folding (2 ^ inputs b) (outputs b) (frames b) b t → Writable (inputs b) (outputs b) (frames b) (connected t) (machine t)
folding_writable b t F = subst₃ (λ n m T. Writable n m T (connected t) (machine t)) F.same_inputs F.same_outputs F.same_frames (passed_table t 0 F.legal).1

-- and matches the circuit
folding_matches : (b t : List ℕ) → Folding (2 ^ inputs b) (outputs b) (frames b) b t → Matches (2 ^ inputs b) (frames b) b (machine t)
unfolding Matches
folding_matches b t F =
    let W = folding_writable b t F in
    masked_gives (connected_outputs b) (machine t) W.is_legal (λ k s w l h i. rw (← F.same_connected k l) (W.outputs_connected k s w l h i)) (output_words b) F.gives

-- invented layer counts: all foldings of a circuit have the same
counts_determined : (b t u : List ℕ) → Folding (2 ^ inputs b) (outputs b) (frames b) b t → Folding (2 ^ inputs b) (outputs b) (frames b) b u
    → (k : ℕ) → k ≤ frames b → states t k ≡ states u k
counts_determined b t u F G k h =
    le_antisymm
    (F.fewest (machine u) (folding_writable b u G).is_legal (folding_matches b u G) k h)
    (G.fewest (machine t) (folding_writable b t F).is_legal (folding_matches b t F) k h)

-- ---- states

-- a function that climbs from numbers below S to numbers below S is the identity
climbs : (S : ℕ) (g : ℕ → ℕ) → ((s : ℕ) → s < S → g s < S) → ((s r : ℕ) → s < r → r < S → g s < g r) → (s : ℕ) → s < S → g s ≡ s
climbs S g I M s l =
    let top : ℕ = s + (S - suc s) in
    omega (arith, climb 0 s s (omega arith) l, climb s (S - suc s) top refl (omega arith), I top (omega arith))
  where
    climb : (s j r : ℕ) → r ≡ s + j → r < S → g s + j ≤ g r
    climb s zero r e l = let q : g r ≡ g s = ap g (omega arith) in omega arith
    climb s (suc j) r e l = omega (arith, climb s j (s + j) refl (omega arith), M (s + j) r (omega arith) l)

module _
    (K m T : ℕ) (b t : List ℕ) (y : ℕ → ℕ → ℕ)
    (O : (c : List ℕ) → Words K T c → output_words b c ≡ outputs_of K y 0 0 c)
    (B : (t h : ℕ) → y t h < 2 ^ m)
    (Z : (t h : ℕ) → t < T → bit_and (y (suc t) h) (connected_outputs b t) ≡ y (suc t) h)
    (F : Folding K m T b t)
    (L : Legal K m T (machine t))
  where
    count_is : (k : ℕ) → k ≤ T → count K T y k ≡ states t k
    unfolding Gives Matches
    count_is k h =
        let R = legal K m T y B in
        le_antisymm
        (fewest K m T y (machine t) L (λ c W. F.gives c W ∙ O c W) k h)
        (F.fewest (folded K T y) R (masked_gives (connected_outputs b) (folded K T y) R (λ t s w l h k. Z t _ l) (output_words b) (λ c W. gives K T y c W ∙ sym (O c W))) k h)

    -- histories come to one state exactly when they are equivalent
    state_decides : {k : ℕ} {c d : List ℕ} → k ≤ T → Words K k c → Words K k d → (state_of t c ≡ state_of t d) ↔ Equivalent K T y k (history_number K 0 c) (history_number K 0 d)
    state_decides {k} {c} {d} h W U =
        let N = no_telling K T y (output_words b) O h W U in
        let A = F.apart k c d h W U in
        ((λ q. N.1 (A.0 q)), (λ E. A.1 (N.0 E)))

    -- of layer k
    module _ (k : ℕ) (h : k ≤ T) where
      -- the words of the smallest history of the state s
      rep : (s : ℕ) → List ℕ
      rep s = history_words K k (history K T y k s)

      rep_is : (s : ℕ) → s < count K T y k → Words K k (rep s) × (history_number K 0 (rep s) ≡ history K T y k s)
      unfolding rep
      rep_is s l = number_words K k _ (history_is K T y k s l).0

      -- they are the smallest that come to their state of the table
      rep_smallest : (s : ℕ) → s < count K T y k → Smallest K t (rep s)
      unfolding Smallest
      rep_smallest s l d U q =
          let (W, e) = rep_is s l in
          let X : Words K k d = subst (λ r. Words K r d) (words_length W) U in
          let E = (number_decides K T y k _ _).1 ((state_decides h X W).0 q) in
          omega (arith, e, history_least K T y k s (history_number K 0 d) (history_below X) (E ∙ ap (number K T y k) e ∙ (history_is K T y k s l).1))

      rep_below : (s : ℕ) → s < count K T y k → state_of t (rep s) < count K T y k
      unfolding state_of
      rep_below s l =
          let p : 0 + k ≡ k = omega arith in
          rw (count_is k h) (subst (λ r. state_of t (rep s) < states t r) p (reached_below (machine t) L 0 0 (omega arith) L.start_is (rep_is s l).0))

      rep_climbs : (s r : ℕ) → s < r → r < count K T y k → state_of t (rep s) < state_of t (rep r)
      rep_climbs s r l b =
          let m : s < count K T y k = omega arith in
          let (W, e) = rep_is s m in
          let (U, f) = rep_is r b in
          F.in_order k (rep s) (rep r) h W U (rep_smallest s m) (rep_smallest r b) (rw (e, f) (history_climbs K T y k s r l b))

      -- so they come to that state
      rep_state : (s : ℕ) → s < count K T y k → state_of t (rep s) ≡ s
      rep_state = climbs (count K T y k) (λ s. state_of t (rep s)) rep_below rep_climbs

      -- and each history comes to the state that has its number
      state_is : {c : List ℕ} → Words K k c → state_of t c ≡ number K T y k (history_number K 0 c)
      state_is {c} W =
          let s : ℕ = number K T y k (history_number K 0 c) in
          let l : s < count K T y k = number_below K T y k _ (history_below W) in
          let (U, e) = rep_is s l in
          let q : s ≡ number K T y k (history_number K 0 (rep s)) = sym (ap (number K T y k) e ∙ (history_is K T y k s l).1) in
          (state_decides h W U).1 ((number_decides K T y k _ _).0 q) ∙ rep_state s l

    -- ---- the machine

    -- by its entries of layer k, state s and word w
    module _ (k s w : ℕ) (h : k < T) (l : s < count K T y k) (v : w < K) where
      out_is : y (suc k) (history K T y k s * K + w) ≡ (machine t).out k s w
      unfolding Gives state_of feed outputs_of
      out_is =
          let g : k ≤ T = omega arith in
          let c : List ℕ = rep k g s in
          let (W, e) = rep_is k g s l in
          let r : List ℕ = w ∷ replicate (T - suc k) w in
          let U : Words K (T - k) r = words_more h v (some_words (T - suc k) v) in
          let whole = words_whole g W U in
          let a : feed (machine t) k s r ≡ outputs_of K y k (history K T y k s) r =
          ap (λ q. feed (machine t) k q r) (sym (rep_state k g s l))
          ∙ sym (feed_then (machine t) 0 r W) ∙ ap (drop k) (F.gives (c ++ r) whole ∙ O (c ++ r) whole) ∙ outputs_then K y r W
          ∙ ap (λ i. outputs_of K y k i r) e in
          sym (head-eq_of_cons-eq a)

      next_is : number K T y (suc k) (history K T y k s * K + w) ≡ (machine t).next k s w
      unfolding state_of reached history_number
      next_is =
          let g : k ≤ T = omega arith in
          let c : List ℕ = rep k g s in
          let (W, e) = rep_is k g s l in
          let U : Words K (suc k) (c ++ (w ∷ [])) = subst (λ r. Words K r (c ++ (w ∷ []))) (omega arith) (words_append W (more v none)) in
          let p : 0 + length c ≡ k = omega (arith, words_length W) in
          ap (λ i. number K T y (suc k) (i * K + w)) (sym e)
          ∙ ap (number K T y (suc k)) (sym (numbered_append K 0 c (w ∷ [])))
          ∙ sym (state_is (suc k) h U)
          ∙ reached_append (machine t) 0 0 c (w ∷ [])
          ∙ ap₂ (λ i q. (machine t).next i q w) p (rep_state k g s l)

    folding_agrees : Agree K T (folded K T y) (machine t)
    folding_agrees = record { states_are = count_is; start_is = refl; outs_are = out_is; nexts_are = next_is }

-- ---- the bytes

module _ (b t : List ℕ) (C : Causal b) (F : Folding (2 ^ inputs b) (outputs b) (frames b) b t) where
  -- the machine of a folding is the circuit's table
  machine_determined : Agree (2 ^ inputs b) (frames b) (folded_machine b) (machine t)
  machine_determined = folding_agrees (2 ^ inputs b) (outputs b) (frames b) b t (response b) C.follows C.below C.clear F (folding_writable b t F).is_legal

  -- and its bytes are the table's
  bytes_determined : Below 256 t → t ≡ folded_bytes b
  unfolding folded_bytes table_bytes
  bytes_determined B =
      let p = bytes_are t B (passed_table t 0 F.legal).0 in
      let q : table_bytes (inputs t) (outputs t) (frames t) (connected t) (machine t) ≡ table_bytes (inputs b) (outputs b) (frames b) (connected t) (machine t) =
      rw (F.same_inputs, F.same_outputs, F.same_frames) in
      p ∙ q ∙ sym (agree_bytes (inputs b) (outputs b) (frames b) (connected_outputs b) (connected t) (folded_machine b) (machine t) (λ k l. sym (F.same_connected k l)) machine_determined)

-- so of all lists of bytes exactly one is a folding of a circuit that passes its check
determined : (b t : List ℕ) → Causal b → Sized 8 (inputs b) (outputs b) (frames b)
    → (Folding (2 ^ inputs b) (outputs b) (frames b) b t × Below 256 t) ↔ (t ≡ folded_bytes b)
determined b t C Z = ((λ F. bytes_determined b t C F.0 F.1), (λ e. rw e (folding b C Z, folded_below b)))
