-- How many nodes there can be at most.
use mathlib.Core.Path.{◌≡◌, sym, ap, ◌∙◌}
use mathlib.Core.Bool.{Bool}
use mathlib.Core.List.{List}
use Prim.Native.Nat.{ℕ, zero, suc, ◌+◌, ◌*◌, ◌-◌, ◌^◌, ◌≤◌}
use native.Mathlib.Nat.{mul-one, mul_assoc, pow-zero, pow-suc}
use native.Mathlib.Omega.{arith}
use Rattle.layered.specs.Search.{total}
use Rattle.layered.proofs.Search.{tally_at_most}
use Rattle.layered.proofs.Lists.{total_mono}
use Rattle.diagrams.specs.Counts.{is_node, nodes_at, nodes_of}

-- M + 2 M + .. + 2 ^ (N - 1) M, and M, is 2 ^ N M
doubled : (N M : ℕ) → total N (λ k. M * 2 ^ k) + M ≡ M * 2 ^ N
unfolding total
doubled zero M = omega (arith, ap (λ x. M * x) (pow-zero 2), mul-one M)
doubled (suc N) M =
    let twice : M * 2 ^ suc N ≡ M * 2 ^ N * 2 = ap (λ x. M * x) (pow-suc 2 N) ∙ sym (mul_assoc M (2 ^ N) 2) in
    omega (arith, doubled N M)

-- at level k + 1 no more than the M functions have cofactors there
pub nodes_bound : (N M : ℕ) (F : ℕ → List Bool → Bool) → nodes_of N M F + M ≤ M * 2 ^ N
unfolding nodes_of nodes_at
nodes_bound N M F = omega (arith, doubled N M, total_mono N (nodes_at N M F) (λ k. M * 2 ^ k) (λ k h. tally_at_most (is_node F k (N - suc k)) (M * 2 ^ k)))
