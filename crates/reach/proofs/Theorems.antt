-- The statements of specs/Theorems. Assumes nothing.
use mathlib.Core.Path.{◌≡◌, refl, sym, ap, ◌∙◌, subst, subst⁻¹}
use mathlib.Core.Logic.{◌↔◌}
use mathlib.Core.List.{List}
use Prim.Native.Nat.{ℕ, ◌*◌, ◌^◌, ◌≤◌, ◌<◌}
use native.Mathlib.Nat.{mul-one}
use native.Mathlib.Omega.{arith}
use lib.Dec.{T as Yes, eqb}
use borrow.Author.Tests.{eq-eqb, ne_eqb, eqb-true, eqb-false}
use Rattle.sizes.specs.Sizes.{inputs, outputs, frames}
use Rattle.layered.specs.Search.{total}
use Rattle.layered.specs.States.{Words}
use Rattle.layered.specs.Histories.{history_words, history_number}
use Rattle.layered.proofs.Search.{tally_some, tally_nowhere}
use Rattle.layered.proofs.Lists.{total_cong, total_each, total_swap, tally_once}
use Rattle.layered.proofs.Feeding.{words_length}
use Rattle.layered.proofs.Histories.{number_words, history_below, words_number}
use Rattle.layered.proofs.Rows.{pow-mul}
use Rattle.table.specs.Table.{states, machine}
use Rattle.table.specs.Sound.{Sound}
use Rattle.table.proofs.Accepted.{sound}
use Rattle.folded.specs.Theorems.{state_of, Smallest, Folding, Foldings}
use Rattle.folded.proofs.Theorems.{foldings}
use Rattle.paths.specs.Paths.{leads_to, leads, histories, smallest}
use Rattle.reach.specs.Theorems.{Reach, FoldedReach, Reaches, FoldedReaches}
use Rattle.paths.proofs.Smallest.{smallest_none, smallest_tells}
use Rattle.paths.proofs.Leading.{leads_below}
use Rattle.reach.proofs.Bytes.{written}

module _ (b : List ℕ) where
  abbrev K : ℕ
  K = 2 ^ inputs b

  -- ---- histories by their numbers, and as lists of words

  leads_state : (t h : ℕ) → leads_to K (machine b) t h ≡ state_of b (history_words K t h)
  unfolding leads_to state_of
  leads_state t h = refl

  state_leads : {t : ℕ} {c : List ℕ} → Words K t c → leads_to K (machine b) t (history_number K 0 c) ≡ state_of b c
  unfolding leads_to state_of
  state_leads W = ap (state_of b) (words_number W)

  -- a history that leads to a state makes it reached
  reached : {t : ℕ} {c : List ℕ} → Words K t c → 0 < histories K (machine b) t (state_of b c)
  unfolding histories leads
  reached {t} {c} W = tally_some (K ^ t) (history_number K 0 c) (λ h. eqb (leads_to K (machine b) t h) (state_of b c)) (history_below W) (subst⁻¹ Yes (eq-eqb _ _ (state_leads W)) tt)

  none_smaller : (t : ℕ) (c : List ℕ) → Words K t c → smallest K (machine b) t (state_of b c) ≤ history_number K 0 c
  unfolding smallest histories leads
  none_smaller t c W =
      let p : ℕ → _ = λ h. eqb (leads_to K (machine b) t h) (state_of b c) in
      let n : ¬ (history_number K 0 c < smallest K (machine b) t (state_of b c)) =
      λ l. eqb-false _ _ ((smallest_tells (K ^ t) p (reached W)).2 (history_number K 0 c) l) (state_leads W) in
      omega arith

  leads_there : (t s : ℕ) → 0 < histories K (machine b) t s → (c : List ℕ) × Words K t c × (state_of b c ≡ s) × (history_number K 0 c ≡ smallest K (machine b) t s)
  unfolding smallest histories leads
  leads_there t s l =
      let (k, e, f) = smallest_tells (K ^ t) (λ h. eqb (leads_to K (machine b) t h) s) l in
      let (W, n) = number_words K t _ k in
      (history_words K t (smallest K (machine b) t s), W, sym (leads_state t _) ∙ eqb-true _ s e, n)

  unreached : (t s : ℕ) → (histories K (machine b) t s ≡ 0) ↔ ((c : List ℕ) → Words K t c → state_of b c ≡ s → ⊥)
  unfolding histories leads
  unreached t s = (
    (λ z c W e. omega (arith, reached W, ap (histories K (machine b) t) e)),
    (λ n. tally_nowhere (K ^ t) (λ h. eqb (leads_to K (machine b) t h) s) (λ h l. ne_eqb _ s (λ e. n (history_words K t h) (number_words K t h l).0 (sym (leads_state t h) ∙ e)))),
  )

  unreached_zero : (t s : ℕ) → histories K (machine b) t s ≡ 0 → smallest K (machine b) t s ≡ 0
  unfolding smallest histories
  unreached_zero t s z = smallest_none (K ^ t) _ z

  -- ---- of a table that is accepted

  module _ (Z : Sound b) where
    -- each history leads to one state of its layer
    sum : (t : ℕ) → t ≤ frames b → total (states b t) (histories K (machine b) t) ≡ 2 ^ (inputs b * t)
    unfolding histories leads
    sum t h =
        total_swap (states b t) (K ^ t) (λ g s. eqb (leads_to K (machine b) t g) s)
        ∙ total_cong (K ^ t) _ (λ g. 1) (λ g l. tally_once (states b t) (leads_to K (machine b) t g) (leads_below K (machine b) Z.legal t g h l))
        ∙ total_each (K ^ t) 1
        ∙ mul-one (K ^ t)
        ∙ sym (pow-mul 2 (inputs b) t)

    reach : Reach b
    reach = record {
      written = written b Z;
      sum = sum;
      unreached = unreached;
      unreached_zero = unreached_zero;
      leads_there = leads_there;
      none_smaller = none_smaller;
    }

  -- ---- of a folded table

  module _ (m T : ℕ) (d : List ℕ) (F : Folding K m T d b) (same : frames b ≡ T) where
    every_state : (t s : ℕ) → t ≤ frames b → s < states b t → 0 < histories K (machine b) t s
    every_state t s h l =
        let (c, W, e) = F.every_state t s (omega arith) l in
        subst (λ s. 0 < histories K (machine b) t s) e (reached W)

    -- the words of a state's smallest history are its smallest
    smallest_words : (t s : ℕ) {c : List ℕ} → Words K t c → state_of b c ≡ s → history_number K 0 c ≡ smallest K (machine b) t s → Smallest K b c
    unfolding Smallest
    smallest_words t s {c} W e n d D f =
        let D' : Words K t d = subst (λ k. Words K k d) (words_length W) D in
        omega (arith, none_smaller t d D', ap (smallest K (machine b) t) (f ∙ e))

    ascending : (t r s : ℕ) → t ≤ frames b → r < s → s < states b t → smallest K (machine b) t r < smallest K (machine b) t s
    ascending t r s h l k =
        let (c, W, e, n) = leads_there t r (every_state t r h (omega arith)) in
        let (d, U, f, m) = leads_there t s (every_state t s h k) in
        let apart : ¬ (smallest K (machine b) t r ≡ smallest K (machine b) t s) =
        λ q.
        let same : c ≡ d = sym (words_number W) ∙ ap (history_words K t) (n ∙ q ∙ sym m) ∙ words_number U in
        omega (arith, sym e ∙ ap (state_of b) same ∙ f) in
        let before : ¬ (smallest K (machine b) t s < smallest K (machine b) t r) =
        λ q. omega (arith, F.in_order t d c (omega arith) U W (smallest_words t s U f m) (smallest_words t r W e n) (omega arith)) in
        omega arith

    folded_reach : FoldedReach b
    folded_reach = record { every_state = every_state; ascending = ascending }

pub reaches : (b : List ℕ) → Reaches b
unfolding Reaches
reaches b p e = reach b (sound b p e)

pub folded_reaches : (b : List ℕ) → FoldedReaches b
unfolding FoldedReaches Foldings
folded_reaches b d before room nodes p e q =
    let F = subst (Folding (2 ^ inputs d) (outputs d) (frames d) d) (sym q) (foldings d before room nodes p e).0 in
    folded_reach b (outputs d) (frames d) d (subst (λ n. Folding (2 ^ n) (outputs d) (frames d) d b) (sym F.same_inputs) F) F.same_frames
