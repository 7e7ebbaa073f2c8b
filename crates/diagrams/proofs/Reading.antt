-- An output is read from its diagram: after the inputs of its frame and of those before it, its id is a constant.
use mathlib.Core.Path.{◌≡◌, refl, sym, ap, ◌∙◌}
use mathlib.Core.Bool.{Bool, true, false, cond}
use mathlib.Core.List.{List, ◌++◌}
use Prim.Native.Nat.{ℕ, zero, suc, ◌+◌, ◌*◌, ◌-◌, ◌≤◌, ◌<◌}
use native.Mathlib.Nat.{mul-suc, mul-le-mul_left}
use native.Mathlib.Omega.{arith}
use lib.Dec.{eqb}
use lib.ListN.{length, replicate, length-replicate}
use Rattle.diagrams.specs.Diagrams.{Nodes, follow, Reduced}
use Rattle.diagrams.specs.Theorems.{Holds}
use Rattle.diagrams.specs.Frames.{history_bits, Responds}
use Rattle.diagrams.proofs.Making.{constant_value}
use Rattle.diagrams.proofs.Canonical.{alike_equal}
use Rattle.diagrams.proofs.Cut.{left_over, reach}
use Rattle.diagrams.proofs.Frames.{history_length}

-- the constant of a value
constant : Bool → ℕ
constant v = cond v 1 0

constant_below : (v : Bool) → constant v < 2
unfolding constant
constant_below true = omega arith
constant_below false = omega arith

constant_is : (v : Bool) → eqb (constant v) 1 ≡ v
unfolding constant
constant_is true = refl
constant_is false = refl

pub read_output : (n m T : ℕ) (y : ℕ → ℕ → ℕ) (F : ℕ → List Bool → Bool) (D : Nodes) (root : ℕ → ℕ) → Reduced (n * T) D → Holds (n * T) (m * T) F D root → Responds n m T y F
    → (t i h : ℕ) → t < T → i < m → eqb (follow D 1 (history_bits n (suc t) h) (root (m * t + i))) 1 ≡ F (m * t + i) (history_bits n (suc t) h ++ replicate (n * T - n * suc t) false)
read_output n m T y F D root red holds R t i h l b =
    let ps : List Bool = history_bits n (suc t) h in
    let o : ℕ = m * t + i in
    let in_all : o < m * T = omega (arith, mul-suc m t, mul-le-mul_left m l) in
    let few : n * suc t ≤ n * T = mul-le-mul_left n l in
    let long : length ps ≡ n * suc t = history_length n (suc t) h in
    let v : Bool = F o (ps ++ replicate (n * T - n * suc t) false) in
    let c : ℕ = constant v in
    let high : length ps + 1 ≤ D.level (follow D 1 ps (root o)) = reach (n * T) (m * T) F D root red holds o in_all ps (omega arith) in
    let is : follow D 1 ps (root o) ≡ c = alike_equal (n * T) D red (n * T - length ps) (suc (length ps)) (follow D 1 ps (root o)) c (omega arith) (omega arith) (omega arith) (low c (constant_below v) (length ps) (omega arith))
    (λ vs d.
    left_over (n * T) (m * T) F D root red holds o in_all ps vs (suc (length ps)) (omega arith) (omega arith)
    ∙ R.causal t i l b ps vs (replicate (n * T - n * suc t) false) long (omega arith) (length-replicate (n * T - n * suc t) false ∙ omega arith)
    ∙ sym (constant_is v) ∙ sym (constant_value (n * T) D red vs (suc (length ps)) c (constant_below v) (omega arith) (omega arith))) in
    ap (λ f. eqb f 1) is ∙ constant_is v
  where
    low : (c : ℕ) → c < 2 → (k : ℕ) → k ≤ n * T → suc k ≤ D.level c
    low zero h k g = omega (arith, red.constants)
    low (suc zero) h k g = omega (arith, red.constants)
    low (suc (suc c)) h k g = absurd (omega arith)
