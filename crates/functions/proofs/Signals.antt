-- The signals as a family, and how many nodes they have at most.
use mathlib.Core.Path.{◌≡◌, refl, sym, ap, ap₂, ◌∙◌}
use mathlib.Core.Bool.{Bool, false, cond, not, ◌&&◌}
use mathlib.Core.List.{List, ◌∷◌}
use Prim.Native.Nat.{ℕ, zero, suc, ◌+◌, ◌*◌, ◌/◌, ◌%◌, ◌^◌, ◌≤◌, ◌<◌}
use native.Mathlib.Nat.{mul-le-mul}
use native.Mathlib.Omega.{arith}
use lib.Dec.{eqb}
use lib.ListN.{length, get_or}
use lib.Pow.{pow_mono}
use Rattle.circuit.specs.Lists.{grown}
use Rattle.circuit.specs.Circuit.{gates, lefts_at, rights_at, all_inputs, literal_value, gate_value, operand}
use Rattle.circuit.proofs.Lists.{grown_start, grown_kept, grown_at}
use Rattle.circuit.proofs.Literals.{operand_before}
use Rattle.diagrams.specs.Building.{signal, literal}
use Rattle.diagrams.proofs.Bound.{nodes_bound}
use Rattle.functions.specs.Functions.{signal_on, nodes_to}
use Rattle.functions.specs.Theorems.{SignalsFamily, FewNodes}

module _ (b : List ℕ) (vs : List Bool) where
  -- the values of the constant, the inputs and the first k gates
  abbrev values : (k : ℕ) → List Bool
  values k = grown (false ∷ vs) (gate_value b) k

  -- a signal's value
  at_signal : (s : ℕ) → get_or (values (gates b)) s false ≡ signal (signal_on b) vs s
  unfolding signal signal_on
  at_signal zero = grown_start (false ∷ vs) (gate_value b) false (gates b) 0 (omega arith)
  at_signal (suc s) = refl

  -- a literal of a signal before gate g has its value before the gate is added
  at_literal : (g p : ℕ) → g ≤ gates b → p / 2 < 1 + length vs + g → literal_value (values g) p ≡ literal (signal_on b) vs p
  unfolding literal_value literal
  at_literal g p h l =
      let e : get_or (values g) (p / 2) false ≡ signal (signal_on b) vs (p / 2) = sym (grown_kept (false ∷ vs) (gate_value b) false g (gates b) (p / 2) h (omega arith)) ∙ at_signal (p / 2) in
      ap (λ v. cond (eqb (p % 2) 1) (not v) v) e

  pub input_is : (s : ℕ) → s < length vs → signal_on b s vs ≡ get_or vs s false
  unfolding signal_on
  input_is s h = grown_start (false ∷ vs) (gate_value b) false (gates b) (suc s) (omega arith)

  pub gate_is : (g : ℕ) → g < gates b → operand b (lefts_at b) g / 2 < 1 + length vs + g → operand b (rights_at b) g / 2 < 1 + length vs + g
      → signal_on b (length vs + g) vs ≡ literal (signal_on b) vs (operand b (lefts_at b) g) && literal (signal_on b) vs (operand b (rights_at b) g)
  unfolding signal_on gate_value
  gate_is g h l r =
      let e : suc (length vs + g) ≡ suc (length vs) + g = omega arith in
      ap (λ i. get_or (values (gates b)) i false) e
      ∙ grown_at (false ∷ vs) (gate_value b) false (gates b) g h
      ∙ ap₂ ◌&&◌ (at_literal g _ (omega arith) l) (at_literal g _ (omega arith) r)

pub signals_family : SignalsFamily
unfolding SignalsFamily
signals_family b h W = record {
  inputs = λ s l vs e. input_is b vs s (omega arith);
  gates = λ g l vs e.
      ap (λ n. signal_on b (n + g) vs) (sym e)
      ∙ gate_is b vs g l (operand_before b (lefts_at b) g _ (W.legal.left g l) (omega arith)) (operand_before b (rights_at b) g _ (W.legal.right g l) (omega arith));
}

pub few_nodes : FewNodes
unfolding FewNodes nodes_to
few_nodes b h W k l =
    let M : ℕ = all_inputs b + k in
    let few : M ≤ 4368 = omega (arith, W.headed.inputs_to, W.headed.gates_to) in
    let all : M * 2 ^ all_inputs b ≤ 4368 * 2 ^ 16 = mul-le-mul few (pow_mono W.headed.inputs_to) in
    let whole : ◌≡◌ {A = ℕ} (4368 * 2 ^ 16) 286261248 = refl in
    omega (arith, nodes_bound (all_inputs b) M (signal_on b), all, whole)
