-- The signals and outputs of the rearranged network as functions of all inputs are the network's, of the inputs at its places. Assumes nothing.
use mathlib.Core.Path.{◌≡◌, refl, sym, ap, ap₂, ◌∙◌}
use mathlib.Core.Bool.{Bool, true, false, not, ◌&&◌, cond, and-true}
use mathlib.Core.Logic.{⊎_elim}
use mathlib.Core.List.{List}
use Prim.Native.Nat.{ℕ, zero, suc, ◌+◌, ◌*◌, ◌-◌, ◌/◌, ◌%◌, ◌≤◌, ◌<◌}
use native.Mathlib.Nat.{eq-or-lt_of_le}
use native.Mathlib.Omega.{arith}
use lib.Dec.{ltb, eqb}
use lib.ListN.{length, get_or}
use borrow.Author.Tests.{ltb-true}
use Rattle.circuit.specs.Circuit.{gates, lefts_at, rights_at, literal_at, all_inputs, all_outputs, gate_of_output, unconnected, operand}
use Rattle.circuit.proofs.Literals.{operand_before}
use Rattle.circuit.proofs.Gates.{closing, closing_connected, closing_blank}
use Rattle.diagrams.specs.Building.{signal, literal, Family}
use Rattle.functions.specs.Functions.{signal_on, output_on}
use Rattle.functions.specs.Theorems.{SignalsFamily}
use Rattle.functions.proofs.Signals.{signals_family}
use Rattle.source.specs.Rearranged.{standing, renamed, item_at, connects_at, shown_literal}
use Rattle.source.specs.Source.{head_of, Spreads}
use Rattle.source.specs.declared.Source.{Source}
use Rattle.source.proofs.Standing.{standing_gate, standing_input, standing_constant, renamed_signal, renamed_sign}
use Rattle.source.proofs.Rearranged.{all, b, rearranged_well, inputs_are, outputs_are, gates_are, inner_left, inner_right, closing_operands}

module _ (c : List ℕ) (s : Source) (P : Spreads c s) (vs us : List Bool) (lv : length vs ≡ s.inputs * s.frames) (lu : length us ≡ all_inputs c)
    (at : (i : ℕ) → i < all_inputs c → get_or us i false ≡ get_or vs (get_or s.places i 0) false) where
  abbrev N : ℕ
  N = all_inputs c

  abbrev A : ℕ
  A = s.inputs * s.frames

  abbrev r : List ℕ
  r = b c s P

  -- both are families
  family : Family N (gates c) (operand c (lefts_at c)) (operand c (rights_at c)) (signal_on c)
  unfolding SignalsFamily
  family = signals_family c s.own P.network

  rearranged_family : Family (all_inputs r) (gates r) (operand r (lefts_at r)) (operand r (rights_at r)) (signal_on r)
  unfolding SignalsFamily
  rearranged_family = signals_family r (head_of s) (rearranged_well c s P)

  long : length vs ≡ all_inputs r
  long = lv ∙ sym (inputs_are c s P)

  -- a signal up to gate k is the one as which it stands
  Same : (k : ℕ) → Type 0
  Same k = (x : ℕ) → x < 1 + N + k → signal (signal_on c) us x ≡ signal (signal_on r) vs (standing N s.places A x)

  same_literal : (k l : ℕ) → Same k → l / 2 < 1 + N + k → literal (signal_on c) us l ≡ literal (signal_on r) vs (renamed N s.places A l)
  unfolding literal Same
  same_literal k l S h =
      ap (λ v. cond (eqb (l % 2) 1) (not v) v) (S (l / 2) h)
      ∙ ap₂ (λ m x. cond (eqb m 1) (not (signal (signal_on r) vs x)) (signal (signal_on r) vs x)) (sym (renamed_sign N s.places A l)) (sym (renamed_signal N s.places A l))

  same_gate : (k : ℕ) → k < gates c → Same k → signal_on c (N + k) us ≡ signal_on r (A + k) vs
  same_gate k h S =
      let left = operand_before c (lefts_at c) k _ (P.network.legal.left k h) refl in
      let right = operand_before c (rights_at c) k _ (P.network.legal.right k h) refl in
      let all_in : k < gates r = omega (arith, gates_are c s P) in
      family.gates k h us lu
      ∙ ap₂ ◌&&◌ (same_literal k _ S left ∙ ap (literal (signal_on r) vs) (sym (inner_left c s P k h))) (same_literal k _ S right ∙ ap (literal (signal_on r) vs) (sym (inner_right c s P k h)))
      ∙ sym (rearranged_family.gates k all_in vs long)
      ∙ ap (λ n. signal_on r (n + k) vs) (inputs_are c s P)

  same_inputs : Same 0
  unfolding Same signal
  same_inputs zero h = sym (ap (signal (signal_on r) vs) (standing_constant N s.places A))
  same_inputs (suc i) h =
      let k : suc i - 1 ≡ i = omega arith in
      let l : i < N = omega arith in
      let p : ℕ = get_or s.places i 0 in
      let e : standing N s.places A (suc i) ≡ suc p = standing_input N s.places A (suc i) (omega arith) (λ z. absurd (omega arith)) ∙ ap (λ i. 1 + get_or s.places i 0) k ∙ omega arith in
      family.inputs i l us lu
      ∙ at i l
      ∙ sym (rearranged_family.inputs p (omega (arith, P.places_in i l, inputs_are c s P)) vs long)
      ∙ sym (ap (signal (signal_on r) vs) e)

  same_more : (k : ℕ) → k < gates c → Same k → Same (suc k)
  unfolding Same signal
  same_more k h before x l = ⊎_elim
      (λ (q : x ≡ 1 + N + k).
      let e : x ≡ suc (N + k) = omega arith in
      let f : standing N s.places A x ≡ suc (A + k) = standing_gate N s.places A x (omega arith) ∙ omega arith in
      ap (signal (signal_on c) us) e ∙ same_gate k h before ∙ sym (ap (signal (signal_on r) vs) f))
      (λ (q : x < 1 + N + k). before x q)
      (eq-or-lt_of_le {n = x} {m = 1 + N + k} (omega arith))

  same : (k : ℕ) → k ≤ gates c → Same k
  same zero h = same_inputs
  same (suc k) h = same_more k h (same k (omega arith))

  -- gate g has the value of the network's
  pub gate_same : (g : ℕ) → g < gates c → signal_on r (A + g) vs ≡ signal_on c (N + g) us
  gate_same g h = sym (same_gate g h (same g (omega arith)))

  -- ---- outputs

  -- output k of the network, where it is unconnected
  blank : (k : ℕ) → k < all_outputs c → unconnected c (gate_of_output c k) ≡ true → output_on c k us ≡ false
  unfolding output_on operand literal signal
  blank k h u =
      let g : ℕ = gate_of_output c k in
      family.gates g (omega (arith, P.network.headed.outputs_to)) us lu ∙ ap₂ (λ x y. literal (signal_on c) us x && literal (signal_on c) us y) (ap (λ t. cond t 0 (literal_at c (lefts_at c) g)) u) (ap (λ t. cond t 0 (literal_at c (rights_at c) g)) u)

  abbrev item : ℕ → ℕ
  item q = item_at (all_outputs c) s.shown q

  -- the gate behind the network's that is for place q
  shown_is : (q : ℕ) → q < s.outputs * s.frames → output_on r q vs ≡ literal (signal_on r) vs (closing (connects_at c s.shown) (shown_literal c s.shown A) 0 q).0 && literal (signal_on r) vs (closing (connects_at c s.shown) (shown_literal c s.shown A) 0 q).1
  unfolding output_on
  shown_is q h =
      let o = closing_operands c s P q h in
      let e : gate_of_output r q ≡ gates c + q = omega (arith, gates_are c s P, outputs_are c s P) in
      ap (λ g. signal_on r (all_inputs r + g) vs) e
      ∙ rearranged_family.gates (gates c + q) (omega (arith, gates_are c s P)) vs long
      ∙ ap₂ (λ x y. literal (signal_on r) vs x && literal (signal_on r) vs y) o.0 o.1

  connected_value : (q : ℕ) → q < s.outputs * s.frames → connects_at c s.shown q ≡ true → item q < all_outputs c → output_on r q vs ≡ output_on c (item q) us
  unfolding output_on literal signal shown_literal
  connected_value q h t l =
      let g : ℕ = gate_of_output c (item q) in
      let f = closing_connected (connects_at c s.shown) (shown_literal c s.shown A) 0 q t in
      let half : 2 * (1 + A + g) / 2 ≡ suc (A + g) = omega arith in
      let even : 2 * (1 + A + g) % 2 ≡ 0 = omega arith in
      shown_is q h
      ∙ ap (λ (x : ℕ × ℕ). literal (signal_on r) vs x.0 && literal (signal_on r) vs x.1) f
      ∙ and-true _
      ∙ ap₂ (λ m x. cond (eqb m 1) (not (signal (signal_on r) vs x)) (signal (signal_on r) vs x)) even half
      ∙ gate_same g (omega (arith, P.network.headed.outputs_to))

  blank_value : (q : ℕ) → q < s.outputs * s.frames → connects_at c s.shown q ≡ false → output_on r q vs ≡ false
  unfolding literal signal
  blank_value q h t = shown_is q h ∙ ap (λ (x : ℕ × ℕ). literal (signal_on r) vs x.0 && literal (signal_on r) vs x.1) (closing_blank (connects_at c s.shown) (shown_literal c s.shown A) 0 q t)

  -- the output at place q is the network's that stands there, or false
  pub output_same : (q : ℕ) → q < s.outputs * s.frames → output_on r q vs ≡ cond (ltb (item q) (all_outputs c)) (output_on c (item q) us) false
  unfolding connects_at
  output_same q h = go (ltb (item q) (all_outputs c)) refl (unconnected c (gate_of_output c (item q))) refl
    where
      go : (t : Bool) → ltb (item q) (all_outputs c) ≡ t → (u : Bool) → unconnected c (gate_of_output c (item q)) ≡ u → output_on r q vs ≡ cond t (output_on c (item q) us) false
      go true e false f = connected_value q h (ap₂ (λ x y. x && not y) e f) (ltb-true _ _ e)
      go true e true f = blank_value q h (ap₂ (λ x y. x && not y) e f) ∙ sym (blank (item q) (ltb-true _ _ e) f)
      go false e u f = blank_value q h (ap (λ x. x && not (unconnected c (gate_of_output c (item q)))) e)
