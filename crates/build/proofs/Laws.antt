-- Laws of what is to be made of a signal.
use mathlib.Core.Path.{◌≡◌, refl, sym, ap, ap₂, ◌∙◌}
use mathlib.Core.Bool.{Bool, true, false, cond}
use mathlib.Core.List.{List}
use Prim.Native.Nat.{ℕ, ◌+◌, ◌-◌, ◌/◌, ◌%◌, ◌≤◌, ◌<◌}
use native.Mathlib.Omega.{arith}
use lib.Dec.{eqb, ltb, ltb→lt, lt→ltb}
use lib.ListN.{get_or}
use Rattle.circuit.specs.Circuit.{all_inputs}
use Rattle.circuit.specs.WellFormed.{GateOf}
use Rattle.circuit.specs.declared.Gate.{Gate}
use Rattle.nodes.specs.declared.Pair.{Pair}
use Rattle.nodes.proofs.Laws.{chosen_lt, chosen_le}
use Rattle.build.specs.Build.{operands_in, origin_of}
use Rattle.build.specs.declared.Origin.{Origin}
use Rattle.build.specs.declared.Origin.TheVariants.{Input, And}
use Rattle.diagrams.proofs.Laws.{cond_yes, cond_no}

-- which of two it is
pub is_input : (t : Bool) (l k : ℕ) (p : Pair) → ◌≡◌ {A = Origin} (Input l) (cond t (Input k) (And p)) → (t ≡ true) × (l ≡ k)
is_input true l k p e = (refl, cc)
is_input false l k p e = cc

pub is_and : (t : Bool) (p q : Pair) (k : ℕ) → ◌≡◌ {A = Origin} (And p) (cond t (Input k) (And q)) → (t ≡ false) × (p ≡ q)
is_and true p q k e = cc
is_and false p q k e = (refl, cc)

pub origin_input : (b ws : List ℕ) (s base : ℕ) → base ≡ 1 + all_inputs b → s + 1 < base → Input (s + 1) ≡ origin_of b ws s
origin_input b ws s base e h = sym (cond_yes _ _ (ltb s (all_inputs b)) (lt→ltb s (all_inputs b) (omega arith)))

pub origin_gate : (b ws : List ℕ) (s base : ℕ) (r : Gate) → base ≡ 1 + all_inputs b → base ≤ s + 1 → GateOf b (s + 1 - base) r
    → And (record { f = get_or ws (r.left / 2) 0; a = eqb (r.left % 2) 1; g = get_or ws (r.right / 2) 0; b = eqb (r.right % 2) 1 }) ≡ origin_of b ws s
origin_gate b ws s base r e h G =
    let q : s + 1 - base ≡ s - all_inputs b = omega arith in
    let p : ◌≡◌ {A = Pair} (record { f = get_or ws (r.left / 2) 0; a = eqb (r.left % 2) 1; g = get_or ws (r.right / 2) 0; b = eqb (r.right % 2) 1 }) (operands_in b ws (s - all_inputs b)) =
    ap₂ {C = Pair} (λ x y. record { f = get_or ws (x / 2) 0; a = eqb (x % 2) 1; g = get_or ws (y / 2) 0; b = eqb (y % 2) 1 }) G.left_is G.right_is ∙ ap (operands_in b ws) q in
    ap {B = Origin} (λ p. And p) p ∙ sym (cond_no _ _ (ltb s (all_inputs b)) (λ t. omega (arith, ltb→lt s (all_inputs b) t)))

pub number_input : (s n : ℕ) → s < n → 0 ≡ cond (ltb s n) 0 (s - n + 1)
number_input s n h = chosen_lt s n 0 (s - n + 1) h

pub number_gate : (s n : ℕ) → n ≤ s → s - n + 1 ≡ cond (ltb s n) 0 (s - n + 1)
number_gate s n h = chosen_le s n 0 (s - n + 1) h
