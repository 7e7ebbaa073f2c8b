-- Chains of gates: a chain reads as its literals together, and its literals are of earlier signals.
use mathlib.Core.Path.{◌≡◌, refl, ap, ◌∙◌}
use mathlib.Core.Logic.{⊎_elim}
use mathlib.Core.List.{List, [], ◌∷◌, ◌++◌}
use Prim.Native.Nat.{ℕ, zero, suc, ◌+◌, ◌*◌, ◌≤◌, ◌<◌}
use native.Mathlib.Nat.{le_of_suc-le-suc, eq-or-lt_of_le, le-suc, le_trans, le_refl}
use native.Mathlib.Omega.{arith}
use lib.ListN.{length, length-append}
use Rattle.circuit.proofs.Gates.{Admitted, no_gate, gate, admitted_append, Reads, run, run-append, run_length, run_read}
use Rattle.unfolded.specs.Unfolded.{chain, last_of, chains_from, ending}
use Rattle.unfolded.proofs.Lists.{Under, none, more, under_widen}

-- ---- literals are of earlier signals

pub chain_length : (at left : ℕ) (rs : List ℕ) → length (chain at left rs) ≡ length rs
unfolding chain
chain_length at left [] = refl
chain_length at left (r ∷ rs) = ap suc (chain_length (suc at) (2 * at) rs)

last_below : (at left : ℕ) (rs : List ℕ) → left < 2 * at → last_of at left rs < 2 * (at + length rs)
unfolding last_of
last_below at left [] h = omega arith
last_below at left (r ∷ rs) h = omega (arith, last_below (suc at) (2 * at) rs (omega arith))

chain_admitted : (at left : ℕ) (rs : List ℕ) → left < 2 * at → Under (2 * at) rs → Admitted at (chain at left rs)
unfolding chain
chain_admitted at left [] h none = no_gate
chain_admitted at left (r ∷ rs) h (more l U) = gate h l (chain_admitted (suc at) (2 * at) rs (omega arith) (under_widen (omega arith) U))

pub chains_more : (at : ℕ) (f : ℕ → List ℕ) (k : ℕ) → length (chains_from at f (suc k)) ≡ length (chains_from at f k) + length (f k)
unfolding chains_from
chains_more at f k = length-append (chains_from at f k) _ ∙ ap (λ (n : ℕ). length (chains_from at f k) + n) (chain_length _ _ (f k))

module _ (at : ℕ) (f : ℕ → List ℕ) (p : 1 ≤ at) where
  pub chains_admitted : (k : ℕ) → ((i : ℕ) → i < k → Under (2 * at) (f i)) → Admitted at (chains_from at f k)
  unfolding chains_from
  chains_admitted zero U = no_gate
  chains_admitted (suc k) U =
      admitted_append (chains_admitted k (λ i l. U i (le_trans l (le-suc k))))
      (chain_admitted _ _ (f k) (omega arith) (under_widen (omega arith) (U k (le_refl (suc k)))))

  pub ending_below : (k i : ℕ) → i < k → ending at f i < 2 * (at + length (chains_from at f k))
  unfolding ending
  ending_below zero i h = absurd (omega arith)
  ending_below (suc k) i h =
      ⊎_elim
      (λ (e : i ≡ k). rw e (omega (arith, chains_more at f k, last_below (at + length (chains_from at f k)) 1 (f k) (omega arith))))
      (λ (l : i < k). omega (arith, chains_more at f k, ending_below k i l))
      (eq-or-lt_of_le (le_of_suc-le-suc h))

-- ---- what is read

-- all of a list, from `a` on
unfoldable pub together : {A : Type 0} → (A → A → A) → (ℕ → A) → A → List ℕ → A
together meet f a [] = a
together meet f a (r ∷ rs) = together meet f (meet a (f r)) rs

pub together_append : {A : Type 0} (meet : A → A → A) (f : ℕ → A) (a : A) (rs ss : List ℕ) → together meet f a (rs ++ ss) ≡ together meet f (together meet f a rs) ss
unfolding together
together_append meet f a [] ss = refl
together_append meet f a (r ∷ rs) ss = together_append meet f (meet a (f r)) rs ss

pub together_cong : {A : Type 0} (meet : A → A → A) (f g : ℕ → A) {x : ℕ} (a : A) {rs : List ℕ} → ((l : ℕ) → l < x → f l ≡ g l) → Under x rs
    → together meet f a rs ≡ together meet g a rs
unfolding together
together_cong meet f g a E none = refl
together_cong meet f g a E (more {l} {ls} h U) = ap (λ b. together meet f (meet a b) ls) (E l h) ∙ together_cong meet f g (meet a (g l)) E U

module _ {A : Type 0} (meet : A → A → A) (read : List A → ℕ → A) (R : Reads read) where
  chain_reads : (vs : List A) (at left : ℕ) (rs : List ℕ) → length vs ≡ at → left < 2 * at → Under (2 * at) rs
      → read (run meet read vs (chain at left rs)) (last_of at left rs) ≡ together meet (read vs) (read vs left) rs
  unfolding run chain last_of together
  chain_reads vs at left [] e h none = refl
  chain_reads vs at left (r ∷ rs) e h (more l U) =
      let x : A = meet (read vs left) (read vs r) in
      let ws : List A = vs ++ (x ∷ []) in
      let new : read ws (2 * at) ≡ x = rw (← e) (R.new vs x) in
      chain_reads ws (suc at) (2 * at) rs (length-append vs (x ∷ []) ∙ omega arith) (omega arith) (under_widen (omega arith) U)
      ∙ ap (λ a. together meet (read ws) a rs) new
      ∙ together_cong meet (read ws) (read vs) x (λ l h. R.kept vs (x ∷ []) l (omega arith)) U

  module _ (vs : List A) (at : ℕ) (f : ℕ → List ℕ) (p : 1 ≤ at) (e : length vs ≡ at) where
    pub chains_read : (k i : ℕ) → i < k → ((i : ℕ) → i < k → Under (2 * at) (f i))
        → read (run meet read vs (chains_from at f k)) (ending at f i) ≡ together meet (read vs) (read vs 1) (f i)
    unfolding chains_from ending
    chains_read zero i h U = absurd (omega arith)
    chains_read (suc k) i h U =
        let gs : List (ℕ × ℕ) = chains_from at f k in
        let ws : List A = run meet read vs gs in
        let ch : List (ℕ × ℕ) = chain (at + length gs) 1 (f k) in
        let l : length ws ≡ at + length gs = run_length meet read vs gs ∙ omega arith in
        ap (λ v. read v (ending at f i)) (run-append meet read vs gs ch)
        ∙ ⊎_elim
        (λ (q : i ≡ k). rw q
        (chain_reads ws (at + length gs) 1 (f k) l (omega arith) (under_widen (omega arith) (U k (le_refl (suc k))))
        ∙ ap (λ a. together meet (read ws) a (f k)) (run_read meet read R vs gs 1 (omega arith))
        ∙ together_cong meet (read ws) (read vs) (read vs 1) (λ l h. run_read meet read R vs gs l (omega arith)) (U k (le_refl (suc k)))))
        (λ (q : i < k). run_read meet read R ws ch (ending at f i) (omega (arith, ending_below at f p k i q)) ∙ chains_read k i q (λ i l. U i (le_trans l (le-suc k))))
        (eq-or-lt_of_le (le_of_suc-le-suc h))
