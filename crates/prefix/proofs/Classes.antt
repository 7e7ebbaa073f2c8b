-- The classes of a circuit's first frames beside the circuit's own. Assumes nothing.
use mathlib.Core.Path.{◌≡◌, sym, ap, ◌∙◌, subst}
use mathlib.Core.Logic.{◌↔◌}
use mathlib.Core.Bool.{Bool, true}
use mathlib.Core.List.{List, ◌++◌, append_assoc}
use Prim.Native.Nat.{ℕ, ◌+◌, ◌-◌, ◌^◌, ◌≤◌, ◌<◌}
use native.Mathlib.Omega.{arith}
use lib.Dec.{eqb, eqb→eq}
use lib.ListN.{take, drop}
use lib.Seq.{take_at}
use borrow.Author.Tests.{eq-eqb, eqb-true}
use Rattle.layered.specs.Search.{least}
use Rattle.layered.specs.States.{Words}
use Rattle.layered.specs.Histories.{history_words, history_number}
use Rattle.layered.specs.Machines.{Legal}
use Rattle.layered.proofs.Search.{least_finds, eq-eqb as eq-holds}
use Rattle.layered.proofs.Lists.{drop-take}
use Rattle.layered.proofs.Pigeonhole.{pigeonhole}
use Rattle.layered.proofs.Feeding.{words_length, words_append, words_whole, reached_below}
use Rattle.layered.proofs.Histories.{history_below, history-words, number_words, words_number}
use Rattle.circuit.specs.Circuit.{output_words}
use Rattle.table.specs.Table.{states, machine}
use Rattle.folded.specs.Theorems.{state_of, Folding}

-- ---- the first history of k words that comes to a state of a table

module _ (K : ℕ) (t : List ℕ) (k : ℕ) where
  abbrev first_history : (x : ℕ) → List ℕ
  first_history x = history_words K k (least (K ^ k) (λ h. eqb (state_of t (history_words K k h)) x))

  first_to : {c : List ℕ} → Words K k c → Words K k (first_history (state_of t c)) × (state_of t (first_history (state_of t c)) ≡ state_of t c)
  first_to {c} W =
      let b = history_below W in
      let p : ℕ → Bool = λ h. eqb (state_of t (history_words K k h)) (state_of t c) in
      let f = least_finds (K ^ k) (history_number K 0 c) p (omega (arith, b)) (eq-holds (ap (state_of t) (words_number W))) in
      ((number_words K k (least (K ^ k) p) (omega (arith, b, f.1))).0, eqb→eq _ _ f.0)

-- ---- outputs of d, which has the first r of b's T frames

module _
    (K T r : ℕ) (b d : List ℕ) (some : 0 < K) (h : r ≤ T)
    (E : (c : List ℕ) → Words K T c → output_words d (take r c) ≡ take r (output_words b c))
  where
    -- words of the frames behind: zeros
    abbrev rest : List ℕ
    rest = history_words K (T - r) 0

    rest_words : Words K (T - r) rest
    rest_words = history-words some (T - r) 0

    -- on each sequence of d, by what b gives whatever follows
    pub first_outputs : {c : List ℕ} → Words K r c → output_words d c ≡ take r (output_words b (c ++ rest))
    first_outputs {c} W = ap (output_words d) (sym (take_at c rest r (words_length W))) ∙ E (c ++ rest) (words_whole h W rest_words)

    -- behind a history of k words
    outputs_behind : {k : ℕ} {c e : List ℕ} → k ≤ r → Words K k c → Words K (r - k) e
        → drop k (output_words d (c ++ e)) ≡ take (r - k) (drop k (output_words b (c ++ (e ++ rest))))
    outputs_behind {k} {c} {e} l W U =
        ap (drop k) (first_outputs (words_whole l W U))
        ∙ drop-take k r (output_words b ((c ++ e) ++ rest))
        ∙ ap (λ x. take (r - k) (drop k (output_words b x))) (append_assoc c e rest)

    -- ---- and tables t of b and s of d

    module _ (m : ℕ) (t s : List ℕ) (F : Folding K m T b t) (G : Folding K m r d s) (L : Legal K m T (machine t)) where
      -- what no continuation of b tells apart, none of d does
      pub one_state : (k : ℕ) (c e : List ℕ) → k ≤ r → Words K k c → Words K k e → state_of t c ≡ state_of t e → state_of s c ≡ state_of s e
      one_state k c e l W U q =
          (G.apart k c e l W U).1 (λ x X.
          let Y : Words K (T - k) (x ++ rest) = subst (λ i. Words K i (x ++ rest)) (omega arith) (words_append X rest_words) in
          outputs_behind l W X ∙ ap (take (r - k)) ((F.apart k c e (omega arith) W U).0 q (x ++ rest) Y) ∙ sym (outputs_behind l U X))

      pub unions : (k x : ℕ) → k ≤ r → (joined : ℕ → Bool) × ((c : List ℕ) → Words K k c → (state_of s c ≡ x) ↔ (joined (state_of t c) ≡ true))
      unions k x l = (
        (λ y. eqb (state_of s (first_history K t k y)) x),
        (λ c W.
            let (U, q) = first_to K t k W in
            let e = one_state k _ c l U W q in
            ((λ a. eq-eqb _ x (e ∙ a)), (λ a. sym e ∙ eqb-true _ x a))),
      )

      -- a history for each state of s
      chosen : (k x : ℕ) → k ≤ r → x < states s k → Words K k (first_history K s k x) × (state_of s (first_history K s k x) ≡ x)
      chosen k x l i =
          let (c, W, e) = G.every_state k x l i in
          subst (λ y. Words K k (first_history K s k y) × (state_of s (first_history K s k y) ≡ y)) e (first_to K s k W)

      in_layer : {k : ℕ} {c : List ℕ} → k ≤ r → Words K k c → state_of t c < states t k
      unfolding state_of
      in_layer {k} {c} l W =
          let z : 0 + k ≡ k = omega arith in
          subst (λ i. state_of t c < states t i) z (reached_below (machine t) L 0 0 (omega arith) L.start_is W)

      -- these come to different states of t
      pub no_more_states : (k : ℕ) → k ≤ r → states s k ≤ states t k
      no_more_states k l = pigeonhole (states s k) (states t k) (λ x. state_of t (first_history K s k x)) record {
        inside = λ x i. in_layer l (chosen k x l i).0;
        apart = λ x y i j q. sym (chosen k x l i).1 ∙ one_state k _ _ l (chosen k x l i).0 (chosen k y l j).0 q ∙ (chosen k y l j).1;
      }
