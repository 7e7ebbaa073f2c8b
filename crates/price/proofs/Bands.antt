-- Walking the bands prices a count of states. Assumes nothing.
use mathlib.Core.Path.{◌≡◌, ap, ap₂, ◌∙◌, subst}
use mathlib.Core.Bool.{Bool, true, false, cond}
use mathlib.Core.List.{List, [], ◌∷◌, ◌++◌}
use Prim.Native.Nat.{ℕ, ◌+◌, ◌*◌, ◌-◌, ◌≤◌, ◌<◌, min, max}
use native.Mathlib.Nat.{le_refl, le_trans}
use native.Mathlib.Decide.{dec_lt}
use native.Mathlib.Numerals.{add-one}
use native.Mathlib.Omega.{arith}
use lib.Dec.{ltb}
use lib.ListN.{length, get_or, drop}
use lib.Seq.{drop-cons}
use borrow.Author.Tests.{lt-ltb, le-ltb}
use Rattle.layered.specs.Search.{total}
use Rattle.layered.proofs.Lists.{total_cong, total_mono, total_each, total_split}
use Rattle.price.specs.Tariff.{bands, beyond}
use Rattle.price.specs.Price.{state_cents, states_cents}
use Rattle.price.specs.declared.Band.{Band}

-- ---- by the definition: a band takes the first states, the rest of the bands the others

module _ (band : Band) (rest : List Band) where
  first_cents : (s : ℕ) → s < band.width → state_cents (band ∷ rest) s ≡ band.cents
  unfolding state_cents
  first_cents s h = rw (lt-ltb s band.width h)

  later_cents : (s : ℕ) → state_cents (band ∷ rest) (band.width + s) ≡ state_cents rest s
  unfolding state_cents
  later_cents s =
      let e : band.width + s - band.width ≡ s = omega arith in
      rw (le-ltb (band.width + s) band.width (omega arith), e)

  -- k states fall into this band alone
  within : (k : ℕ) → k ≤ band.width → total k (state_cents (band ∷ rest)) ≡ k * band.cents
  within k h = total_cong k _ _ (λ s l. first_cents s (omega arith)) ∙ total_each k band.cents

  -- k states fill it
  filled : (k : ℕ) → band.width ≤ k → total k (state_cents (band ∷ rest)) ≡ band.width * band.cents + total (k - band.width) (state_cents rest)
  filled k h =
      let e : k ≡ band.width + (k - band.width) = omega arith in
      ap (λ k. total k (state_cents (band ∷ rest))) e ∙ total_split band.width (k - band.width) (state_cents (band ∷ rest))
      ∙ ap₂ ◌+◌ (within band.width (le_refl _)) (total_cong (k - band.width) _ _ (λ s l. later_cents s))

-- ---- as the code walks them

-- the bands of the code: the last takes whatever is left
abbrev pub last : Band
last = record { width = 18446744073709551615; cents = beyond }

abbrev pub tariff : List Band
tariff = bands ++ (last ∷ [])

-- what bands make of k states, each taking of them what it can
unfoldable pub walked : List Band → (k : ℕ) → ℕ
walked [] k = 0
walked (band ∷ rest) k = min k band.width * band.cents + walked rest (k - min k band.width)

-- band i, and what is left for those behind it
pub walk_on : (l : List Band) (i k taken : ℕ) (d : Band) → i < length l → taken ≡ min k (get_or l i d).width
    → walked (drop i l) k ≡ taken * (get_or l i d).cents + walked (drop (i + 1) l) (k - taken)
unfolding walked
walk_on l i k taken d h e = ap (λ l. walked l k) (drop-cons l i d h) ∙ rw (e, add-one i)

-- a band in front of bands that are walked as they are defined
walk_band : (band : Band) (rest l : List Band) (k : ℕ) → ((j : ℕ) → j ≤ k → walked l j ≡ total j (state_cents rest))
    → walked (band ∷ l) k ≡ total k (state_cents (band ∷ rest))
unfolding walked total
walk_band band rest l k e = go (dec_lt k band.width)
  where
    go : Dec (k < band.width) → walked (band ∷ l) k ≡ total k (state_cents (band ∷ rest))
    go (yes h) =
        let m : min k band.width ≡ k = omega arith in
        let z : k - k ≡ 0 = omega arith in
        rw (within band rest k (omega arith), m, z) (omega (arith, e 0 (omega arith)))
    go (no h) =
        let m : min k band.width ≡ band.width = omega arith in
        rw (filled band rest k (omega arith), m) (omega (arith, e (k - band.width) (omega arith)))

-- the last one
walk_last : (k : ℕ) → k ≤ last.width → walked (last ∷ []) k ≡ total k (state_cents [])
unfolding walked state_cents
walk_last k h =
    let m : min k last.width ≡ k = omega arith in
    rw (m, total_each k beyond) (omega arith)

-- however many bands stand before it
walk_bands : (l : List Band) (k : ℕ) → k ≤ last.width → walked (l ++ (last ∷ [])) k ≡ total k (state_cents l)
walk_bands [] k h = walk_last k h
walk_bands (band ∷ rest) k h = walk_band band rest (rest ++ (last ∷ [])) k (λ j l. walk_bands rest j (le_trans l h))

pub walked_all : (k : ℕ) → k ≤ last.width → walked tariff k ≡ states_cents k
unfolding states_cents
walked_all = walk_bands bands

-- ---- no state costs more than the dearest

abbrev pub dearest : List Band → ℕ
dearest [] = beyond
dearest (band ∷ rest) = max band.cents (dearest rest)

state_most : (l : List Band) (s : ℕ) → state_cents l s ≤ dearest l
unfolding state_cents
state_most [] s = le_refl _
state_most (band ∷ rest) s = go (ltb s band.width) (state_most rest (s - band.width))
  where
    go : (t : Bool) → state_cents rest (s - band.width) ≤ dearest rest → cond t band.cents (state_cents rest (s - band.width)) ≤ max band.cents (dearest rest)
    go true h = omega arith
    go false h = omega arith

pub cents_most : (k : ℕ) → states_cents k ≤ k * dearest bands
unfolding states_cents
cents_most k = subst (λ m. total k (state_cents bands) ≤ m) (total_each k (dearest bands)) (total_mono k _ _ (λ s h. state_most bands s))
