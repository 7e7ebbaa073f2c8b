-- Literals: those of earlier signals, the mark of an unconnected output, and the operands of a gate. Assumes nothing.
use mathlib.Core.Path.{◌≡◌, refl, sym, ap, ◌∙◌}
use mathlib.Core.Bool.{Bool, true, false, not, ◌&&◌, cond, false≢true, and-false}
use mathlib.Core.List.{List}
use Prim.Native.Nat.{ℕ, ◌+◌, ◌*◌, ◌-◌, ◌/◌, ◌≤◌, ◌<◌}
use native.Mathlib.Nat.{add-zero}
use native.Mathlib.Omega.{arith}
use lib.Dec.{ltb, leb, eqb}
use borrow.Author.Tests.{ltb-true, ltb-false, lt-ltb, le-ltb, le-leb, lt-leb, ne_eqb}
use Rattle.layered.specs.Search.{least}
use Rattle.layered.proofs.Search.{least_le, least_tells}
use Rattle.verdict.specs.Judgements.{and_then}
use Rattle.verdict.proofs.Laws.{first_parts}
use Rattle.circuit.specs.Circuit.{gates, lefts_at, rights_at, literal_at, all_inputs, all_outputs, gate_signal, unconnected, of_unconnected, admissible, literals_from, literals_checked, operand}
use Rattle.circuit.specs.Limits.{mark}
use Rattle.circuit.specs.WellFormed.{CircuitHeaded, LegalGates, GateOf, literals_of}
use Rattle.circuit.specs.declared.Gate.{Gate}

-- ---- unconnected outputs

module _ (b : List ℕ) (g : ℕ) where
  -- a gate that is no output is none
  pub inner_gate : g < gates b - all_outputs b → false ≡ unconnected b g
  unfolding unconnected
  inner_gate h = rw (lt-leb (gates b - all_outputs b) g h)

  -- an output is one where both its literals are the mark
  pub output_gate_lem : (r : Gate) → gates b - all_outputs b ≤ g → r ≡ literals_of b g → (eqb r.left mark && eqb r.right mark) ≡ unconnected b g
  unfolding unconnected
  output_gate_lem r h e = rw (le-leb (gates b - all_outputs b) g h, e)

-- a gate whose left literal is not the mark is none
pub unmarked : (b : List ℕ) (g : ℕ) → ¬ (literal_at b (lefts_at b) g ≡ mark) → unconnected b g ≡ false
unfolding unconnected
unmarked b g n = rw (ne_eqb (literal_at b (lefts_at b) g) mark n) (and-false (leb (gates b - all_outputs b) g))

-- ---- admissible literals

module _ (b : List ℕ) (g literal : ℕ) where
  pub beyond : 1 + all_inputs b + g ≤ literal / 2 → unconnected b g ≡ admissible b g literal
  unfolding admissible gate_signal
  beyond h = rw (le-ltb literal (2 * (1 + all_inputs b + g)) (omega arith))

  pub of_gate : literal / 2 < 1 + all_inputs b + g → 1 + all_inputs b ≤ literal / 2 → not (unconnected b (literal / 2 - (1 + all_inputs b))) ≡ admissible b g literal
  unfolding admissible gate_signal of_unconnected
  of_gate h l = rw (lt-ltb literal (2 * (1 + all_inputs b + g)) (omega arith), lt-ltb (all_inputs b) (literal / 2) (omega arith), add-zero (1 + all_inputs b))

  -- one of an earlier signal is admissible where none of the gates so far is an unconnected output, as none that is no output is
  of_earlier : (k : ℕ) → ((i : ℕ) → i < k → unconnected b i ≡ false) → literal < 2 * (1 + all_inputs b + g) → literal < 2 * (1 + all_inputs b + k) → admissible b g literal ≡ true
  unfolding admissible gate_signal of_unconnected
  of_earlier k U h l =
      rw (lt-ltb literal (2 * (1 + all_inputs b + g)) h, add-zero (1 + all_inputs b))
      (ap not (go (ltb (all_inputs b) (literal / 2)) refl))
    where
      go : (x : Bool) → ltb (all_inputs b) (literal / 2) ≡ x → (x && unconnected b (literal / 2 - (1 + all_inputs b))) ≡ false
      go false q = refl
      go true q = U (literal / 2 - (1 + all_inputs b)) (omega (arith, ltb-true (all_inputs b) (literal / 2) q))

  pub of_inner : literal < 2 * (1 + all_inputs b + g) → literal < 2 * (1 + all_inputs b + (gates b - all_outputs b)) → admissible b g literal ≡ true
  of_inner = of_earlier (gates b - all_outputs b) (λ i q. sym (inner_gate b i q))

  -- one that is admissible, of a gate that is connected, is of a signal before the gate
  earlier : unconnected b g ≡ false → admissible b g literal ≡ true → literal / 2 < 1 + all_inputs b + g
  unfolding admissible gate_signal
  earlier u e = go (ltb literal (2 * (1 + all_inputs b + g))) refl e
    where
      go : (x : Bool) → ltb literal (2 * (1 + all_inputs b + g)) ≡ x → cond x (not (of_unconnected b literal)) (unconnected b g) ≡ true → literal / 2 < 1 + all_inputs b + g
      go true q e = omega (arith, ltb-true literal (2 * (1 + all_inputs b + g)) q)
      go false q e = absurd (false≢true (sym u ∙ e))

-- the literals of the first `count` gates, where none of these is an unconnected output: those of earlier signals, and no other
module _ (b : List ℕ) (start count g base literal : ℕ) (U : (i : ℕ) → i < count → unconnected b i ≡ false) (h : g < count) (eb : base ≡ 1 + all_inputs b) (el : literal ≡ literal_at b start g) where
  pub too_high : 2 * (base + g) ≤ literal → not (admissible b g (literal_at b start g)) ≡ true
  too_high l = ap not (sym (beyond b g (literal_at b start g) (omega arith)) ∙ U g h)

  pub low_enough : literal < 2 * (base + g) → not (admissible b g (literal_at b start g)) ≡ false
  low_enough l = ap not (of_earlier b g (literal_at b start g) count U (omega arith) (omega arith))

-- the first unconnected output: it is no inner gate, and none before it is unconnected
module _ (b : List ℕ) (h : all_outputs b ≤ gates b) where
  pub first_inside : (gates b - all_outputs b ≤ least (gates b) (unconnected b)) × (least (gates b) (unconnected b) ≤ gates b)
  first_inside = (go (ltb (least (gates b) (unconnected b)) (gates b - all_outputs b)) refl, least_le (gates b) (unconnected b))
    where
      go : (x : Bool) → ltb (least (gates b) (unconnected b)) (gates b - all_outputs b) ≡ x → gates b - all_outputs b ≤ least (gates b) (unconnected b)
      go false q = ltb-false (least (gates b) (unconnected b)) (gates b - all_outputs b) q
      go true q =
          let l : least (gates b) (unconnected b) < gates b - all_outputs b = ltb-true (least (gates b) (unconnected b)) (gates b - all_outputs b) q in
          absurd (false≢true (inner_gate b (least (gates b) (unconnected b)) l ∙ (least_tells (gates b) (unconnected b)).1 (omega arith)))

  -- all literals of an array: those of the gates before it, and behind them the others
  pub literals_parts : (start first : ℕ) → first ≡ least (gates b) (unconnected b) → literals_checked b start ≡ and_then (literals_from b start 0 first) (literals_from b start first (gates b - first))
  unfolding literals_checked
  literals_parts start first e =
      let p : gates b ≡ first + (gates b - first) = omega (arith, first_inside) in
      let q : 0 + first ≡ first = omega arith in
      ap (literals_from b start 0) p ∙ first_parts _ 3 _ 0 first (gates b - first) refl ∙ ap (λ k. and_then (literals_from b start 0 first) (literals_from b start k (gates b - first))) q

-- ---- operands

-- an operand is of a signal before the gate
pub operand_before : (b : List ℕ) (start g n : ℕ) → admissible b g (literal_at b start g) ≡ true → n ≡ 1 + all_inputs b + g → operand b start g / 2 < n
unfolding operand
operand_before b start g n e q = go (unconnected b g) refl
  where
    go : (x : Bool) → unconnected b g ≡ x → cond x 0 (literal_at b start g) / 2 < n
    go true u = omega arith
    go false u = omega (arith, earlier b g (literal_at b start g) u e)

-- the mark is of no signal, so that it stands on unconnected outputs alone
pub marked_left : (b : List ℕ) (g : ℕ) → CircuitHeaded b → LegalGates b → g < gates b → literal_at b (lefts_at b) g ≡ mark → unconnected b g ≡ true
marked_left b g H L h e = beyond b g (literal_at b (lefts_at b) g) (omega (arith, H.inputs_to, H.gates_to)) ∙ L.left g h

module _ (b : List ℕ) (g : ℕ) (r : Gate) (L : LegalGates b) (h : g < gates b) where
  gate_of_lem : r.left ≡ operand b (lefts_at b) g → r.right ≡ operand b (rights_at b) g → GateOf b g r
  gate_of_lem el er = record {
    left_is = el;
    right_is = er;
    left_before = rw el (operand_before b (lefts_at b) g _ (L.left g h) refl);
    right_before = rw er (operand_before b (rights_at b) g _ (L.right g h) refl);
  }

  -- where the left literal is the mark, and where it is not
  pub gate_marked : CircuitHeaded b → literal_at b (lefts_at b) g ≡ mark → r ≡ record { left = 0; right = 0 } → GateOf b g r
  unfolding operand
  gate_marked H m e =
      let u = marked_left b g H L h m in
      gate_of_lem (rw (u, e)) (rw (u, e))

  pub gate_connected : ¬ (literal_at b (lefts_at b) g ≡ mark) → r ≡ literals_of b g → GateOf b g r
  unfolding operand
  gate_connected n e =
      let u = unmarked b g n in
      gate_of_lem (rw (u, e)) (rw (u, e))
