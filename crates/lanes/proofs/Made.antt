-- Arrays that `from_fn` makes, where a call leaves the closure as it was. Assumes nothing.
use mathlib.Core.Path.{◌≡◌, refl, sym, subst}
use mathlib.Core.List.{List}
use Prim.Native.Nat.{ℕ, zero, suc, ◌+◌, ◌≤◌, ◌<◌, zero-le}
use native.Mathlib.Decide.{dec_lt}
use native.Mathlib.Omega.{arith}
use denote.Param.Members.{Mut}
use Rattle.std.specs.Prelude.{slice_index_or}
use Rattle.std.specs.Fn.{Called}
use Rattle.std.specs.Array.{IsFromFnResult, IsFromFnResultFrom}

module _ {F B : Type 0} (g : Mut F (ℕ × Unit {0}) B) (f : F) (ys : List B) (d : B) (P : ℕ → B → Type 0)
    (calls : (i : ℕ) (y : B) (q : F) → Called g f (i, tt) y q → (q ≡ f) × P i y) where
  from : (n i : ℕ) (p : F) → p ≡ f → IsFromFnResultFrom g p ys i n → (k : ℕ) → i ≤ k → k < i + n → P k (slice_index_or ys k d)
  from zero i p e r k l h = absurd (omega arith)
  from (suc n) i p e r k l h =
      let a : (r.0 ≡ f) × P i r.1 = calls i r.1 r.0 (subst (λ (p : F). Called g p (i, tt) r.1 r.0) e r.3) in
      here (dec_lt i k) (λ m. from n (i + 1) r.0 a.0 r.4 k (omega arith) (omega arith)) (subst (P i) (sym (r.2.1 d)) a.1)
    where
      here : Dec (i < k) → (i < k → P k (slice_index_or ys k d)) → P i (slice_index_or ys i d) → P k (slice_index_or ys k d)
      here (yes m) later a = later m
      here (no m) later a = let e : i ≡ k = omega arith in subst (λ (k : ℕ). P k (slice_index_or ys k d)) e a

  pub made_at : (n : ℕ) → IsFromFnResult g f ys n → (k : ℕ) → k < n → P k (slice_index_or ys k d)
  made_at n r k h = from n 0 f refl r.each k zero-le (omega arith)
