-- Laws of numbering by a test.
use mathlib.Core.Path.{◌≡◌, refl, sym, ap, ap₂, ◌∙◌, subst}
use mathlib.Core.Bool.{Bool, true, false, ◌&&◌}
use mathlib.Core.Logic.{◌↔◌}
use Prim.Native.Nat.{ℕ, zero, suc, ◌≤◌, ◌<◌}
use native.Mathlib.Nat.{le_refl, le_antisymm}
use native.Mathlib.Omega.{arith}
use lib.Dec.{T, eqb, eqb_refl, eqb→eq}
use Rattle.layered.specs.Search.{every, least, tally}
use Rattle.layered.proofs.Search.{eq-eqb, iff_eq, every_all, all_every, least_le, least_finds, least_is, least_cong, tally_cong, tally_lt, tally_apart, tally_hits}
use Rattle.diagrams.specs.Numbering.{first_same, is_new, number_same, count_same}

-- ---- any test

module _ (same : ℕ → ℕ → Bool) where
  pub first_le : (c : ℕ) → first_same same c ≤ c
  unfolding first_same
  first_le c = least_le c (λ d. same d c)

  -- what is new is its own first
  pub new_own : (c : ℕ) → T (is_new same c) → first_same same c ≡ c
  unfolding is_new
  new_own c t = eqb→eq (first_same same c) c t

  -- new is what no earlier one is the same as
  pub new_decides : (c : ℕ) → T (is_new same c) ↔ ((d : ℕ) → d < c → T (same d c) → ⊥)
  unfolding is_new first_same
  new_decides c = (there, back)
    where
      there : T (eqb (least c (λ d. same d c)) c) → (d : ℕ) → d < c → T (same d c) → ⊥
      there t d l s = omega (arith, eqb→eq (least c (λ d. same d c)) c t, (least_finds c d (λ d. same d c) (omega arith) s).1)

      back : ((d : ℕ) → d < c → T (same d c) → ⊥) → T (eqb (least c (λ d. same d c)) c)
      back f = eq-eqb (least_is c c (λ d. same d c) (le_refl c) (λ d l. iff_eq (same d c) false (f d l) (λ x. absurd x)) (λ l. absurd (omega arith)))

  -- the number is how many new ones come before the first that is the same
  pub number_first : (c : ℕ) → number_same same c ≡ count_same same (first_same same c)
  unfolding number_same count_same
  number_first c = refl

  -- a new one's number is how many new ones come before it
  pub number_new : (c : ℕ) → T (is_new same c) → number_same same c ≡ count_same same c
  number_new c t = number_first c ∙ ap (count_same same) (new_own c t)

  -- each number below the count is a new one's
  pub number_hits : (C k : ℕ) → k < count_same same C → (c : ℕ) × (c < C) × T (is_new same c) × (number_same same c ≡ k)
  unfolding count_same
  number_hits C k l = let (c, b, t, e) = tally_hits (is_new same) C k l in (c, b, t, number_new c t ∙ e)

-- ---- tests that agree

module _ (C : ℕ) (e f : ℕ → ℕ → Bool) (agree : (d c : ℕ) → d < c → c < C → e d c ≡ f d c) where
  pub first_cong : (c : ℕ) → c < C → first_same e c ≡ first_same f c
  unfolding first_same
  first_cong c l = least_cong c (λ d. e d c) (λ d. f d c) (λ d h. agree d c h l)

  pub new_cong : (c : ℕ) → c < C → is_new e c ≡ is_new f c
  unfolding is_new
  new_cong c l = ap (λ d. eqb d c) (first_cong c l)

  pub number_cong : (c : ℕ) → c < C → number_same e c ≡ number_same f c
  unfolding number_same
  number_cong c l = ap (λ d. tally d (is_new e)) (first_cong c l) ∙ tally_cong (first_same f c) (λ d h. new_cong d (omega (arith, first_le f c)))

-- ---- equivalences

-- a test that is an equivalence of the numbers below C
pub record Equivalence (C : ℕ) (e : ℕ → ℕ → Bool) : Type 0 where
  pub itself : (c : ℕ) → c < C → T (e c c)
  pub back : (d c : ℕ) → d < C → c < C → T (e d c) → T (e c d)
  pub through : (b d c : ℕ) → b < C → d < C → c < C → T (e b d) → T (e d c) → T (e b c)

module _ (C : ℕ) (e : ℕ → ℕ → Bool) (E : Equivalence C e) where
  pub first_below : (c : ℕ) → c < C → first_same e c < C
  first_below c l = omega (arith, first_le e c)

  pub first-same : (c : ℕ) → c < C → T (e (first_same e c) c)
  unfolding first_same
  first-same c l = (least_finds c c (λ d. e d c) (le_refl c) (E.itself c l)).0

  first_least : (d c : ℕ) → d < C → c < C → T (e d c) → first_same e c ≤ d
  unfolding first_same
  first_least d c k l t =
      let n : ¬ (d < least c (λ d. e d c)) = λ h. omega (arith, least_le c (λ d. e d c), (least_finds c d (λ d. e d c) (omega (arith, least_le c (λ d. e d c))) t).1) in
      omega arith

  first_agree : (d c : ℕ) → d < C → c < C → T (e d c) → first_same e d ≡ first_same e c
  first_agree d c k l t =
      le_antisymm
      (first_least (first_same e c) d (first_below c l) k (E.through (first_same e c) c d (first_below c l) l k (first-same c l) (E.back d c k l t)))
      (first_least (first_same e d) c (first_below d k) l (E.through (first_same e d) d c (first_below d k) k l (first-same d k) t))

  pub first_new : (c : ℕ) → c < C → T (is_new e (first_same e c))
  unfolding is_new
  first_new c l = eq-eqb (first_agree (first_same e c) c (first_below c l) l (first-same c l))

  -- equal numbers are the same things
  pub number_decides : (d c : ℕ) → d < C → c < C → (number_same e d ≡ number_same e c) ↔ T (e d c)
  unfolding number_same
  number_decides d c k l = (there, λ t. ap (λ b. tally b (is_new e)) (first_agree d c k l t))
    where
      there : tally (first_same e d) (is_new e) ≡ tally (first_same e c) (is_new e) → T (e d c)
      there q =
          let s : first_same e d ≡ first_same e c = tally_apart (is_new e) _ _ (first_new d k) (first_new c l) q in
          let b = first_below c l in
          E.through d (first_same e c) c k b l (E.back (first_same e c) d b k (subst (λ b. T (e b d)) s (first-same d k))) (first-same c l)

  pub number_below : (c : ℕ) → c < C → number_same e c < count_same e C
  unfolding number_same count_same
  number_below c l = tally_lt (is_new e) (first_same e c) C (first_below c l) (first_new c l)

  -- a test of equal numbers is the test itself
  pub number_test : (d c : ℕ) → d < C → c < C → eqb (number_same e d) (number_same e c) ≡ e d c
  number_test d c k l = let n = number_decides d c k l in iff_eq _ (e d c) (λ t. n.0 (eqb→eq (number_same e d) (number_same e c) t)) (λ t. eq-eqb (n.1 t))

  -- and a further test refines the numbers f
  module _ (x : ℕ → ℕ → Bool) (f : ℕ → ℕ) (numbers : (c : ℕ) → c < C → f c ≡ number_same e c) where
    pub refined : (d c : ℕ) → d < C → c < C → eqb (f d) (f c) && x d c ≡ e d c && x d c
    refined d c k l = ap (λ b. b && x d c) (ap₂ eqb (numbers d k) (numbers c l) ∙ number_test d c k l)

-- where all are the same, all numbers are 0
pub number_all : (c : ℕ) → number_same (λ d c. true) c ≡ 0
unfolding number_same first_same least tally
number_all zero = refl
number_all (suc c) = refl

-- ---- tests that are equivalences

pub equal_values : (C : ℕ) (f : ℕ → ℕ) → Equivalence C (λ d c. eqb (f d) (f c))
equal_values C f = record {
  itself = λ c _. eqb_refl (f c);
  back = λ d c _ _ t. eq-eqb (sym (eqb→eq (f d) (f c) t));
  through = λ b d c _ _ _ t u. eq-eqb (eqb→eq (f b) (f d) t ∙ eqb→eq (f d) (f c) u);
}

pub every_equivalence : (C k : ℕ) (x : ℕ → ℕ → ℕ → Bool) → ((i : ℕ) → i < k → Equivalence C (x i)) → Equivalence C (λ d c. every k (λ i. x i d c))
every_equivalence C k x E = record {
  itself = λ c l. all_every _ k (λ i h. (E i h).itself c l);
  back = λ d c a l t. all_every _ k (λ i h. (E i h).back d c a l (every_all (λ i. x i d c) k t i h));
  through = λ b d c a m l t u. all_every _ k (λ i h. (E i h).through b d c a m l (every_all (λ i. x i b d) k t i h) (every_all (λ i. x i d c) k u i h));
}

-- ---- no test

-- the numbers by no test are 0
pub number-none : (x : ℕ → ℕ → ℕ → Bool) (c : ℕ) → number_same (λ d c. every 0 (λ i. x i d c)) c ≡ 0
unfolding every
number-none x c = number_all c
