-- The states of a layer by the cut.
use mathlib.Core.Path.{◌≡◌, refl, sym, ap, ap₂, ◌∙◌, subst}
use mathlib.Core.Bool.{Bool, true, false}
use mathlib.Core.Logic.{◌⊎◌, inl, inr}
use mathlib.Core.List.{List, [], ◌∷◌, ◌++◌, append_assoc}
use Prim.Native.Nat.{ℕ, zero, suc, ◌+◌, ◌*◌, ◌-◌, ◌/◌, ◌%◌, ◌^◌, ◌≤◌, ◌<◌}
use native.Mathlib.Nat.{pow-zero, pow-suc, mul-suc, mul-le-mul_left}
use native.Mathlib.Omega.{arith}
use lib.Arith.{digits_div, digits_mod}
use lib.Dec.{T as Yes, eqb, eqb→eq, ltb, ltb→lt, lt→ltb}
use lib.ListN.{length, replicate, take, drop, length-append, length-drop, length-replicate, take-append-drop}
use lib.Seq.{length-take-le}
use Rattle.layered.specs.States.{Equivalent}
use Rattle.layered.proofs.Search.{case, eq-eqb, iff_eq}
use Rattle.layered.proofs.States.{equivalent_step, equivalent_rows, equivalent_last}
use Rattle.diagrams.specs.Frames.{word_bits, history_bits, Responds, StatesByCut}
use Rattle.diagrams.proofs.Cut.{cut_at}

-- ---- bits

pub word_length : (n w : ℕ) → length (word_bits n w) ≡ n
unfolding word_bits
word_length zero w = refl
word_length (suc n) w = ap suc (word_length n (w / 2))

pub history_length : (n t h : ℕ) → length (history_bits n t h) ≡ n * t
unfolding history_bits
history_length n zero h = omega arith
history_length n (suc t) h = length-append (history_bits n t (h / 2 ^ n)) _ ∙ omega (arith, history_length n t (h / 2 ^ n), word_length n (h % 2 ^ n), mul-suc n t)

-- a word more
pub history_more : (n t h w : ℕ) → w < 2 ^ n → history_bits n (suc t) (h * 2 ^ n + w) ≡ history_bits n t h ++ word_bits n w
unfolding history_bits
history_more n t h w l = ap₂ (λ h w. history_bits n t h ++ word_bits n w) (digits_div h l) (digits_mod h l)

-- each list of n bits is a word's
pub word_of : (u : List Bool) → (w : ℕ) × (w < 2 ^ length u) × (word_bits (length u) w ≡ u)
unfolding word_bits
word_of [] = (0, rw pow-zero (omega arith), refl)
word_of (v ∷ u) = go v (word_of u)
  where
    odd_is : (w : ℕ) → eqb ((2 * w + 1) % 2) 1 ≡ true
    odd_is w = let e : (2 * w + 1) % 2 ≡ 1 = omega arith in iff_eq _ true (λ _. tt) (λ _. eq-eqb e)

    even_is : (w : ℕ) → eqb ((2 * w) % 2) 1 ≡ false
    even_is w = iff_eq _ false (λ t. absurd (omega (arith, eqb→eq ((2 * w) % 2) 1 t))) (λ f. absurd f)

    go : (v : Bool) → (w : ℕ) × (w < 2 ^ length u) × (word_bits (length u) w ≡ u) → (w : ℕ) × (w < 2 ^ suc (length u)) × (eqb (w % 2) 1 ∷ word_bits (length u) (w / 2) ≡ v ∷ u)
    go true (w, l, e) = let d : (2 * w + 1) / 2 ≡ w = omega arith in (2 * w + 1, omega (arith, pow-suc 2 (length u)), ap₂ ◌∷◌ (odd_is w) (ap (word_bits (length u)) d ∙ e))
    go false (w, l, e) = let d : (2 * w) / 2 ≡ w = omega arith in (2 * w, omega (arith, pow-suc 2 (length u)), ap₂ ◌∷◌ (even_is w) (ap (word_bits (length u)) d ∙ e))

module _ (n m T : ℕ) (y : ℕ → ℕ → ℕ) (F : ℕ → List Bool → Bool) (R : Responds n m T y F) where
  -- no input of a later frame tells the two histories apart at a later output
  Same : (t g h : ℕ) → Type 0
  Same t g h = (o : ℕ) → m * t ≤ o → o < m * T → (vs : List Bool) → length vs + n * t ≡ n * T → F o (history_bits n t g ++ vs) ≡ F o (history_bits n t h ++ vs)

  -- a word moves from the free inputs to the history
  shift : (t g w : ℕ) (vs : List Bool) → w < 2 ^ n → history_bits n (suc t) (g * 2 ^ n + w) ++ vs ≡ history_bits n t g ++ (word_bits n w ++ vs)
  shift t g w vs l = ap (λ p. p ++ vs) (history_more n t g w l) ∙ append_assoc (history_bits n t g) (word_bits n w) vs

  frame_fits : (t : ℕ) → t < T → (n * t + n ≤ n * T) × (m * t + m ≤ m * T)
  frame_fits t l = (omega (arith, mul-suc n t, mul-le-mul_left n l), omega (arith, mul-suc m t, mul-le-mul_left m l))

  same_step : (t g h w : ℕ) → t < T → w < 2 ^ n → Same t g h → (y (suc t) (g * 2 ^ n + w) ≡ y (suc t) (h * 2 ^ n + w)) × Same (suc t) (g * 2 ^ n + w) (h * 2 ^ n + w)
  unfolding Same
  same_step t g h w l k S =
      let f = frame_fits t l in (
        (R.told t (g * 2 ^ n + w) (h * 2 ^ n + w) l).1
            (λ i b.
            let z : List Bool = replicate (n * T - n * suc t) false in
            ap (F (m * t + i)) (shift t g w z k)
            ∙ S (m * t + i) (omega arith) (omega arith) (word_bits n w ++ z) (omega (arith, length-append (word_bits n w) z, word_length n w, length-replicate (n * T - n * suc t) false, mul-suc n t))
            ∙ sym (ap (F (m * t + i)) (shift t h w z k))),
        λ o a b vs e.
            ap (F o) (shift t g w vs k) ∙ S o (omega (arith, mul-suc m t)) b (word_bits n w ++ vs) (omega (arith, length-append (word_bits n w) vs, word_length n w, mul-suc n t)) ∙ sym (ap (F o) (shift t h w vs k)),
      )

  same_rows : (t g h : ℕ) → t < T → ((w : ℕ) → w < 2 ^ n → (y (suc t) (g * 2 ^ n + w) ≡ y (suc t) (h * 2 ^ n + w)) × Same (suc t) (g * 2 ^ n + w) (h * 2 ^ n + w)) → Same t g h
  unfolding Same
  same_rows t g h l rows o a b vs e = go (word_of (take n vs))
    where
      f : (n * t + n ≤ n * T) × (m * t + m ≤ m * T)
      f = frame_fits t l

      long : length (take n vs) ≡ n
      long = length-take-le n vs (omega (arith, f))

      rest : List Bool
      rest = drop n vs

      rest_long : length rest + n * suc t ≡ n * T
      rest_long = omega (arith, length-drop n vs, mul-suc n t, f)

      parts : (w : ℕ) → word_bits n w ≡ take n vs → vs ≡ word_bits n w ++ rest
      parts w q = sym (take-append-drop n vs) ∙ ap (λ u. u ++ rest) (sym q)

      go : (w : ℕ) × (w < 2 ^ length (take n vs)) × (word_bits (length (take n vs)) w ≡ take n vs) → F o (history_bits n t g ++ vs) ≡ F o (history_bits n t h ++ vs)
      go (w, k, q) = by_frame (case (ltb o (m * suc t)))
        where
          k' : w < 2 ^ n
          k' = subst (λ n. w < 2 ^ n) long k

          q' : word_bits n w ≡ take n vs
          q' = subst (λ n'. word_bits n' w ≡ take n vs) long q

          moved : (h : ℕ) → history_bits n t h ++ vs ≡ history_bits n (suc t) (h * 2 ^ n + w) ++ rest
          moved h = ap (λ vs. history_bits n t h ++ vs) (parts w q') ∙ sym (shift t h w rest k')

          fill : List Bool
          fill = replicate (n * T - n * suc t) false

          filled : (h i : ℕ) → i < m → F (m * t + i) (history_bits n (suc t) h ++ rest) ≡ F (m * t + i) (history_bits n (suc t) h ++ fill)
          filled h i c = R.causal t i l c (history_bits n (suc t) h) rest fill (history_length n (suc t) h) rest_long (omega (arith, length-replicate (n * T - n * suc t) false, rest_long))

          by_frame : Yes (ltb o (m * suc t)) ⊎ (Yes (ltb o (m * suc t)) → ⊥) → F o (history_bits n t g ++ vs) ≡ F o (history_bits n t h ++ vs)
          by_frame (inl c) =
              let c' : o < m * suc t = ltb→lt o (m * suc t) c in
              let i : ℕ = o - m * t in
              let oi : o ≡ m * t + i = omega arith in
              let im : i < m = omega (arith, mul-suc m t) in
              ap (F o) (moved g) ∙ ap (λ o. F o (history_bits n (suc t) (g * 2 ^ n + w) ++ rest)) oi ∙ filled (g * 2 ^ n + w) i im
              ∙ (R.told t (g * 2 ^ n + w) (h * 2 ^ n + w) l).0 (rows w k').0 i im
              ∙ sym (ap (F o) (moved h) ∙ ap (λ o. F o (history_bits n (suc t) (h * 2 ^ n + w) ++ rest)) oi ∙ filled (h * 2 ^ n + w) i im)
          by_frame (inr c) =
              let c' : ¬ (o < m * suc t) = λ d. c (lt→ltb o (m * suc t) d) in
              ap (F o) (moved g) ∙ (rows w k').1 o (omega arith) b rest rest_long ∙ sym (ap (F o) (moved h))

  equivalent_same : (r t g h : ℕ) → t + r ≡ T → Equivalent (2 ^ n) T y t g h → Same t g h
  unfolding Same
  equivalent_same zero t g h e E = λ o a b vs q. let d : t ≡ T = omega arith in absurd (omega (arith, ap (λ t. m * t) d))
  equivalent_same (suc r) t g h e E =
      same_rows t g h (omega arith) (λ w k. let s = equivalent_step (2 ^ n) T y t g h w (omega arith) k E in (s.0, equivalent_same r (suc t) _ _ (omega arith) s.1))

  same_equivalent : (r t g h : ℕ) → t + r ≡ T → Same t g h → Equivalent (2 ^ n) T y t g h
  same_equivalent zero t g h e S = let d : T ≡ t = omega arith in subst (λ t. Equivalent (2 ^ n) T y t g h) d (equivalent_last (2 ^ n) T y g h)
  same_equivalent (suc r) t g h e S =
      equivalent_rows (2 ^ n) T y t g h (omega arith) (λ w k. let s = same_step t g h w (omega arith) k S in (s.0, same_equivalent r (suc t) _ _ (omega arith) s.1))

pub states_by_cut : StatesByCut
unfolding StatesByCut Same
states_by_cut n m T y F D root red holds R t g h l =
    let fit : n * t ≤ n * T = mul-le-mul_left n l in
    let lg = history_length n t g in
    let lh = history_length n t h in (
      (λ E o a b. (cut_at (n * T) (m * T) F D root red holds o b (history_bits n t g) (history_bits n t h) (omega arith) (omega arith)).0
          (λ vs e. equivalent_same n m T y F R (T - t) t g h (omega arith) E o a b vs (omega arith))),
      λ C. same_equivalent n m T y F R (T - t) t g h (omega arith)
          (λ o a b vs e. (cut_at (n * T) (m * T) F D root red holds o b (history_bits n t g) (history_bits n t h) (omega arith) (omega arith)).1 (C o a b) vs (omega arith)),
    )
