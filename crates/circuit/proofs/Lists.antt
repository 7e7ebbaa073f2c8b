-- Lists that are made one element at a time.
use mathlib.Core.Path.{◌≡◌, refl, sym, ap, ap₂, ◌∙◌}
use mathlib.Core.Logic.{⊎_elim}
use mathlib.Core.List.{List, [], ◌∷◌, ◌++◌, append-nil, append_assoc}
use Prim.Native.Nat.{ℕ, zero, suc, ◌+◌, ◌≤◌, ◌<◌}
use native.Mathlib.Nat.{le_of_suc-le-suc, eq-or-lt_of_le, le-suc, le_trans, le_refl, zero-add, add-zero}
use native.Mathlib.Numerals.{add-one}
use native.Mathlib.Decide.{le_ind}
use native.Mathlib.Omega.{arith}
use lib.ListN.{length, get_or, get_or-append}
use lib.Seq.{get_or_at}
use Rattle.circuit.specs.Lists.{grown, listed}
use Rattle.circuit.proofs.Laws.{length_grown}

-- ---- grown

module _ {A : Type 0} (start : List A) (next : List A → ℕ → A) (d : A) where
  pub grown_old : (k i : ℕ) → i < length start + k → get_or (grown start next (suc k)) i d ≡ get_or (grown start next k) i d
  unfolding grown
  grown_old k i h = get_or-append (grown start next k) _ d i (omega (arith, length_grown start next k))

  pub grown_new : (k : ℕ) → get_or (grown start next (suc k)) (length start + k) d ≡ next (grown start next k) k
  unfolding grown
  grown_new k = get_or_at (grown start next k) _ [] d (length start + k) (length_grown start next k)

  -- what is there at first stays
  pub grown_start : (k i : ℕ) → i < length start → get_or (grown start next k) i d ≡ get_or start i d
  unfolding grown
  grown_start zero i h = refl
  grown_start (suc k) i h = grown_old k i (omega arith) ∙ grown_start k i h

  -- and so does each new element
  pub grown_at : (k i : ℕ) → i < k → get_or (grown start next k) (length start + i) d ≡ next (grown start next i) i
  grown_at zero i h = absurd (omega arith)
  grown_at (suc k) i h =
      ⊎_elim
      (λ (e : i ≡ k). rw e (grown_new k))
      (λ (l : i < k). grown_old k (length start + i) (omega arith) ∙ grown_at k i l)
      (eq-or-lt_of_le (le_of_suc-le-suc h))

  -- what is there after j elements stays
  pub grown_kept : (j k i : ℕ) → j ≤ k → i < length start + j → get_or (grown start next k) i d ≡ get_or (grown start next j) i d
  grown_kept j k i h l = le_ind (λ k. get_or (grown start next k) i d ≡ get_or (grown start next j) i d) refl (λ k b e. grown_old k i (omega arith) ∙ e) k h

module _ {A : Type 0} (start : List A) (f : ℕ → A) (d : A) where
  pub listed_start : (k i : ℕ) → i < length start → get_or (listed start f k) i d ≡ get_or start i d
  listed_start = grown_start start (λ _ i. f i) d

  pub listed_after : (k i : ℕ) → i < k → get_or (listed start f k) (length start + i) d ≡ f i
  listed_after = grown_at start (λ _ i. f i) d

-- ---- listed

module _ {A : Type 0} (f : ℕ → A) where
  pub listed_length : (k : ℕ) → length (listed [] f k) ≡ k
  listed_length k = length_grown [] (λ _ i. f i) k ∙ omega arith

  pub listed_at : (d : A) (k i : ℕ) → i < k → get_or (listed [] f k) i d ≡ f i
  listed_at d k i h = rw zero-add at (listed_after [] f d k i h)

  -- one element more
  pub listed_more : (k : ℕ) (x : A) → x ≡ f k → listed [] f k ++ (x ∷ []) ≡ listed [] f (k + 1)
  unfolding grown
  listed_more k x e = rw (add-one k, e)

pub listed_cong : {A : Type 0} (f g : ℕ → A) (k : ℕ) → ((i : ℕ) → i < k → f i ≡ g i) → listed [] f k ≡ listed [] g k
unfolding grown
listed_cong f g zero h = refl
listed_cong {A} f g (suc k) h = ap₂ (λ (l : List A) (x : A). l ++ (x ∷ [])) (listed_cong f g k (λ i l. h i (le_trans l (le-suc k)))) (h k (le_refl (suc k)))

-- a list that begins with x
pub listed_cons : {A : Type 0} (x : A) (f : ℕ → A) (k : ℕ) → listed (x ∷ []) f k ≡ x ∷ listed [] f k
unfolding grown
listed_cons x f zero = refl
listed_cons x f (suc k) = ap (λ l. l ++ (f k ∷ [])) (listed_cons x f k)

-- a list in two parts
pub listed_add : {A : Type 0} (f : ℕ → A) (a b : ℕ) → listed [] f (a + b) ≡ listed [] f a ++ listed [] (λ j. f (a + j)) b
unfolding grown
listed_add f a zero = ap (listed [] f) (add-zero a) ∙ sym (append-nil (listed [] f a))
listed_add {A} f a (suc b) =
    let p : a + suc b ≡ suc (a + b) = omega arith in
    ap (listed [] f) p ∙ ap (λ (l : List A). l ++ (f (a + b) ∷ [])) (listed_add f a b) ∙ append_assoc (listed [] f a) (listed [] (λ j. f (a + j)) b) (f (a + b) ∷ [])
