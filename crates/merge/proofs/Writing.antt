-- The words of a machine, stored one behind the other. Assumes nothing.
use mathlib.Core.Path.{◌≡◌, ◌∙◌}
use mathlib.Core.List.{List, [], ◌∷◌, ◌++◌}
use Prim.Native.Nat.{ℕ, ◌+◌, ◌*◌, ◌≤◌}
use native.Mathlib.Omega.{arith}
use lib.ListN.{length, take}
use lib.Seq.{length-take-le}
use Rattle.words.specs.Words.{stored}
use Rattle.words.proofs.Laws.{stored_behind}

module _ (b : List ℕ) (n m k L : ℕ) (outs nexts : List ℕ) (lo : L ≤ length outs) (ln : L ≤ length nexts) (room : 6 + 4 * L ≤ length b) where
  pub written : (r₁ r₂ r₃ r₄ r₅ : List ℕ) → r₁ ≡ stored 2 b 0 (n ∷ []) → r₂ ≡ stored 2 r₁ 2 (m ∷ []) → r₃ ≡ stored 2 r₂ 4 (k ∷ []) → r₄ ≡ stored 2 r₃ 6 (take L outs)
      → r₅ ≡ stored 2 r₄ (6 + 2 * L) (take L nexts) → r₅ ≡ stored 2 b 0 (n ∷ m ∷ k ∷ take L outs ++ take L nexts)
  written r₁ r₂ r₃ r₄ r₅ e₁ e₂ e₃ e₄ e₅ =
      let q₂ : r₂ ≡ stored 2 b 0 (n ∷ m ∷ []) = e₂ ∙ stored_behind 2 b r₁ 0 (n ∷ []) (m ∷ []) 2 e₁ (omega arith) (omega arith) in
      let q₃ : r₃ ≡ stored 2 b 0 (n ∷ m ∷ k ∷ []) = e₃ ∙ stored_behind 2 b r₂ 0 (n ∷ m ∷ []) (k ∷ []) 4 q₂ (omega arith) (omega arith) in
      let q₄ : r₄ ≡ stored 2 b 0 (n ∷ m ∷ k ∷ take L outs) = e₄ ∙ stored_behind 2 b r₃ 0 (n ∷ m ∷ k ∷ []) (take L outs) 6 q₃ (omega arith) (omega arith) in
      let t : length (take L outs) ≡ L = length-take-le L outs lo in
      e₅ ∙ stored_behind 2 b r₄ 0 (n ∷ m ∷ k ∷ take L outs) (take L nexts) (6 + 2 * L) q₄ (omega (arith, t)) (omega (arith, t))
