-- Laws of numbers by a test: how a search finds the first that is the same, and how numbers grow. Assumes nothing.
use mathlib.Core.Path.{◌≡◌, sym, ap}
use mathlib.Core.Bool.{Bool}
use mathlib.Core.Logic.{⊎_elim}
use Prim.Native.Nat.{ℕ, ◌+◌, ◌≤◌, ◌<◌}
use native.Mathlib.Nat.{eq-or-lt_of_le}
use native.Mathlib.Numerals.{add-one}
use native.Mathlib.Omega.{arith}
use lib.Dec.{T}
use Rattle.layered.specs.Search.{least, tally}
use Rattle.layered.proofs.Search.{eq-eqb, tally_more, tally_none, tally_at_most, tally_lt, least_finds, least_here, least_none, search_below}
use Rattle.diagrams.specs.Numbering.{first_same, is_new, number_same, count_same}
use Rattle.diagrams.proofs.Numbering.{first_le, new_own}

-- ---- the least of which a test holds

least_holds : (n : ℕ) (p : ℕ → Bool) → least n p < n → T (p (least n p))
least_holds n p l =
    ⊎_elim (λ (w : (i : ℕ) × (i < n) × T (p i)). (least_finds n w.0 p (omega arith) w.2).0)
    (λ (none : (i : ℕ) → i < n → T (p i) → ⊥). absurd (omega (arith, least_none n p none)))
    (search_below n p)

-- ---- numbers

-- what is the same as one that is the same as c is the same as c
abbrev pub Transitive : (ℕ → ℕ → Bool) → Type 0
Transitive same = (b d c : ℕ) → T (same b d) → T (same d c) → T (same b c)

module _ (same : ℕ → ℕ → Bool) where
  pub count_most : (c : ℕ) → count_same same c ≤ c
  unfolding count_same
  count_most c = tally_at_most _ c

  pub first_new : (c : ℕ) → first_same same c ≡ c → T (is_new same c)
  unfolding is_new
  first_new c e = eq-eqb e

  -- a new one has the next number
  pub new_number : (c : ℕ) → first_same same c ≡ c → (number_same same c ≡ count_same same c) × (count_same same (c + 1) ≡ count_same same c + 1)
  unfolding number_same count_same
  new_number c e = (ap (λ g. tally g (is_new same)) e, rw (add-one c, add-one (tally c (is_new same))) (tally_more (is_new same) c (first_new c e)))

  -- one that is not new adds no number
  pub later_count : (c : ℕ) → first_same same c < c → count_same same (c + 1) ≡ count_same same c
  unfolding count_same
  later_count c l = rw (add-one c) (tally_none (is_new same) c (λ t. omega (arith, new_own same c t)))

  module _ (on : Transitive same) where
    -- the first that is the same as one is new
    pub first-first : (c : ℕ) → first_same same (first_same same c) ≡ first_same same c
    unfolding first_same
    first-first c =
        ⊎_elim
        (λ (e : first_same same c ≡ c). ap (first_same same) e)
        (λ (l : first_same same c < c).
        let p : ℕ → Bool = λ k. same k c in
        let t : T (p (least c p)) = least_holds c p l in
        least_none (least c p) _ (λ k b s. omega (arith, (least_finds c k p (omega arith) (on k (least c p) c s t)).1)))
        (eq-or-lt_of_le (first_le same c))

    -- one that is not new has the number of the first that is the same
    pub later_number : (c : ℕ) → number_same same c ≡ number_same same (first_same same c)
    unfolding number_same
    later_number c = ap (λ g. tally g (is_new same)) (sym (first-first c))

    -- a number is among those of the first C where the first that has it is
    pub number_below : (c C : ℕ) → first_same same c < C → number_same same c < count_same same C
    unfolding number_same count_same
    number_below c C l = tally_lt (is_new same) (first_same same c) C l (first_new _ (first-first c))

    -- where no new one before c is the same, c is new itself
    pub none_first : (c : ℕ) → ((g : ℕ) → g < c → T (is_new same g) → T (same g c) → ⊥) → c ≡ first_same same c
    unfolding first_same
    none_first c none =
        ⊎_elim (λ (e : first_same same c ≡ c). sym e)
        (λ (b : first_same same c < c). absurd (none _ b (first_new _ (first-first c)) (least_holds c (λ k. same k c) b)))
        (eq-or-lt_of_le (first_le same c))

    -- a new one before c that is the same is the first
    pub first_found : ((d c : ℕ) → T (same d c) → T (same c d)) → (g c : ℕ) → g < c → T (is_new same g) → T (same g c) → g ≡ first_same same c
    unfolding first_same
    first_found back g c l f t =
        let none : (k : ℕ) → k < g → T (same k c) → ⊥ =
        λ k b s. omega (arith, new_own same g f, (least_finds g k (λ j. same j g) (omega arith) (on k c g s (back g c t))).1) in
        sym (least_here c g _ (omega arith) t none)
