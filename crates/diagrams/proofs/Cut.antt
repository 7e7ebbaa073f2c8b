-- The cut: where first inputs lead decides which function is left of the others.
use mathlib.Core.Path.{◌≡◌, sym, ap, ◌∙◌}
use mathlib.Core.Bool.{Bool}
use mathlib.Core.Logic.{◌↔◌}
use mathlib.Core.List.{List, ◌++◌}
use Prim.Native.Nat.{ℕ, suc, ◌+◌, ◌-◌, ◌≤◌, ◌<◌}
use native.Mathlib.Omega.{arith}
use lib.ListN.{length, length-append}
use Rattle.diagrams.specs.Diagrams.{Nodes, value, follow, Reduced, Denotes}
use Rattle.diagrams.specs.Theorems.{Holds, Cut}
use Rattle.diagrams.proofs.Laws.{value_follow, follow_below}
use Rattle.diagrams.proofs.Canonical.{alike_equal}

module _ (N M : ℕ) (F : ℕ → List Bool → Bool) (D : Nodes) (root : ℕ → ℕ) (red : Reduced N D) (holds : Holds N M F D root) (s : ℕ) (b : s < M) where
  -- what is left of a function after its first inputs
  pub left_over : (ps vs : List Bool) (k : ℕ) → length ps + 1 ≡ k → length vs + k ≡ suc N → value D k vs (follow D 1 ps (root s)) ≡ F s (ps ++ vs)
  unfolding Holds Denotes
  left_over ps vs k e d =
      ap (λ k. value D k vs (follow D 1 ps (root s))) (sym e) ∙ sym (value_follow D 1 ps vs (root s)) ∙ (holds s b).1 (ps ++ vs) (omega (arith, length-append ps vs))

  pub reach : (ps : List Bool) → length ps ≤ N → length ps + 1 ≤ D.level (follow D 1 ps (root s))
  unfolding Holds
  reach ps h = follow_below N D red ps 1 (root s) (omega arith) (omega arith) (holds s b).0

pub cut_at : (N M : ℕ) (F : ℕ → List Bool → Bool) (D : Nodes) (root : ℕ → ℕ) → Reduced N D → Holds N M F D root → (s : ℕ) → s < M → (ps qs : List Bool) → length ps ≤ N → length qs ≡ length ps
    → ((vs : List Bool) → length vs + length ps ≡ N → F s (ps ++ vs) ≡ F s (qs ++ vs)) ↔ (follow D 1 ps (root s) ≡ follow D 1 qs (root s))
cut_at N M F D root red holds s b ps qs h e = (
  (λ same. alike_equal N D red (N - length ps) (suc (length ps)) (follow D 1 ps (root s)) (follow D 1 qs (root s)) (omega arith) (omega arith)
      (omega (arith, reach N M F D root red holds s b ps h)) (omega (arith, reach N M F D root red holds s b qs (omega arith)))
      (λ vs d.
      left_over N M F D root red holds s b ps vs (suc (length ps)) (omega arith) (omega arith) ∙ same vs (omega arith)
      ∙ sym (left_over N M F D root red holds s b qs vs (suc (length ps)) (omega arith) (omega arith)))),
  λ f vs d.
      sym (left_over N M F D root red holds s b ps vs (suc (length ps)) (omega arith) (omega arith)) ∙ ap (value D (suc (length ps)) vs) f
      ∙ left_over N M F D root red holds s b qs vs (suc (length ps)) (omega arith) (omega arith),
)

pub cut : Cut
unfolding Cut
cut = cut_at
