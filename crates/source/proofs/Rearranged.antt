-- The rearranged network is a well-formed circuit, and its gates are the network's, renamed, and those that show its outputs. Assumes nothing.
use mathlib.Core.Path.{◌≡◌, refl, sym, ap, ◌∙◌, subst}
use mathlib.Core.Bool.{Bool, true, false, not, ◌&&◌, false≢true}
use mathlib.Core.List.{List, []}
use Prim.Native.Nat.{ℕ, ◌+◌, ◌*◌, ◌/◌, ◌≤◌, ◌<◌}
use native.Mathlib.Nat.{mul-le-mul}
use native.Mathlib.Omega.{arith}
use lib.Dec.{ltb}
use lib.ListN.{length}
use borrow.Author.Tests.{ltb-true}
use Rattle.verdict.specs.Judgements.{answer}
use Rattle.layered.proofs.Search.{least_le}
use Rattle.circuit.specs.Lists.{listed}
use Rattle.circuit.specs.Circuit.{gates, lefts_at, rights_at, all_inputs, all_outputs, gate_of_output, unconnected, operand, form_checked}
use Rattle.circuit.specs.Limits.{most_gates, mark}
use Rattle.circuit.specs.WellFormed.{WellFormed, Formed, HeadOf, GateOf}
use Rattle.circuit.specs.declared.Gate.{Gate}
use Rattle.circuit.proofs.Lists.{listed_length, listed_at}
use Rattle.circuit.proofs.Literals.{operand_before}
use Rattle.circuit.proofs.Gates.{closing, closed, closed_length, growing_admitted, closing_connected, closing_blank}
use Rattle.circuit.proofs.Accepted.{well_formed}
use Rattle.circuit.proofs.Written.{circuit_bytes, Drawable, fitting, inputs_back, outputs_back, frames_back, gates_back, all_inputs_back, all_outputs_back, inner_judged, output_judged, form_passes, is_formed, unconnected_is}
use Rattle.source.specs.Rearranged.{renamed, renamed_gate, item_at, connects_at, shown_literal, rearranged_gates, rearranged}
use Rattle.source.specs.Source.{head_of, Spreads}
use Rattle.source.specs.declared.Source.{Source}
use Rattle.source.proofs.Standing.{standing_before, renamed_signal}

module _ (c : List ℕ) (s : Source) (P : Spreads c s) where
  abbrev pub all : ℕ
  all = s.inputs * s.frames

  abbrev places : ℕ
  places = s.outputs * s.frames

  abbrev gs : List (ℕ × ℕ)
  gs = listed [] (renamed_gate c s.places all) (gates c)

  abbrev conn : ℕ → Bool
  conn = connects_at c s.shown

  abbrev left : ℕ → ℕ
  left = shown_literal c s.shown all

  abbrev pub b : List ℕ
  b = rearranged c s.inputs s.outputs s.frames s.places s.shown

  gs_length : length gs ≡ gates c
  gs_length = listed_length (renamed_gate c s.places all) (gates c)

  -- a renamed operand is of a signal before its gate
  left_before : (g : ℕ) → g < gates c → renamed (all_inputs c) s.places all (operand c (lefts_at c) g) / 2 < 1 + all + g
  left_before g h = rw (renamed_signal (all_inputs c) s.places all (operand c (lefts_at c) g)) (standing_before (all_inputs c) s.places all g _ P.places_in (operand_before c (lefts_at c) g _ (P.network.legal.left g h) refl))

  right_before : (g : ℕ) → g < gates c → renamed (all_inputs c) s.places all (operand c (rights_at c) g) / 2 < 1 + all + g
  right_before g h = rw (renamed_signal (all_inputs c) s.places all (operand c (rights_at c) g)) (standing_before (all_inputs c) s.places all g _ P.places_in (operand_before c (rights_at c) g _ (P.network.legal.right g h) refl))

  -- a connected place shows an output
  connects_item : (q : ℕ) → conn q ≡ true → item_at (all_outputs c) s.shown q < all_outputs c
  unfolding connects_at
  connects_item q e = go (ltb (item_at (all_outputs c) s.shown q) (all_outputs c)) refl e
    where
      go : (t : Bool) → ltb (item_at (all_outputs c) s.shown q) (all_outputs c) ≡ t → (t && not (unconnected c (gate_of_output c (item_at (all_outputs c) s.shown q)))) ≡ true → item_at (all_outputs c) s.shown q < all_outputs c
      go true f e = ltb-true _ _ f
      go false f e = absurd (false≢true e)

  drawable : Drawable s.inputs s.outputs s.frames gs conn left
  unfolding renamed_gate shown_literal
  drawable = record {
    sizes = P.sizes;
    inner_admitted = growing_admitted (1 + all) (renamed_gate c s.places all) (gates c) (λ g h. (omega (arith, left_before g h), omega (arith, right_before g h)));
    lefts_low = λ q h e. omega (arith, connects_item q e, gs_length, P.network.headed.outputs_to);
    gates_to = omega (arith, gs_length, P.few, mul-le-mul P.sizes.outputs_to P.sizes.frames_to);
  }

  bytes_are : b ≡ circuit_bytes s.inputs s.outputs s.frames (closed gs conn left places mark)
  unfolding rearranged circuit_bytes rearranged_gates closed closing
  bytes_are = refl

  -- ---- it is a well-formed circuit

  pub rearranged_formed : Formed b
  rearranged_formed = subst Formed (sym bytes_are) (is_formed drawable)

  -- where its gates are few enough for a circuit that is given, it passes every check but 4
  pub rearranged_passes : gates c + places ≤ most_gates → form_checked b ≡ answer 0 0
  rearranged_passes h = rw bytes_are (form_passes drawable (omega (arith, gs_length)))

  pub inputs_are : all_inputs b ≡ all
  inputs_are = rw bytes_are (all_inputs_back (fitting drawable))

  pub outputs_are : all_outputs b ≡ places
  outputs_are = rw bytes_are (all_outputs_back (fitting drawable))

  pub gates_are : gates b ≡ gates c + places
  gates_are = rw bytes_are (gates_back (fitting drawable)) ∙ closed_length gs conn left places mark ∙ ap (λ k. k + places) gs_length

  pub rearranged_head : HeadOf b (head_of s)
  rearranged_head = record {
    inputs_is = sym (rw bytes_are (inputs_back (fitting drawable)));
    outputs_is = sym (rw bytes_are (outputs_back (fitting drawable)));
    frames_is = sym (rw bytes_are (frames_back (fitting drawable)));
    gates_is = omega (arith, P.gates_is, P.total_is, gates_are);
    base_is = omega (arith, P.base_is, inputs_are);
    total_is = omega (arith, P.total_is, outputs_are);
  }

  pub rearranged_well : WellFormed b (head_of s)
  rearranged_well = well_formed rearranged_formed rearranged_head

  -- ---- its gates

  -- the network's, renamed
  pub inner_left : (g : ℕ) → g < gates c → operand b (lefts_at b) g ≡ renamed (all_inputs c) s.places all (operand c (lefts_at c) g)
  unfolding renamed_gate
  inner_left g h = rw bytes_are ((inner_judged drawable g (omega (arith, gs_length))).left_operand ∙ ap (λ (x : ℕ × ℕ). x.0) (listed_at (renamed_gate c s.places all) (0, 0) (gates c) g h))

  pub inner_right : (g : ℕ) → g < gates c → operand b (rights_at b) g ≡ renamed (all_inputs c) s.places all (operand c (rights_at c) g)
  unfolding renamed_gate
  inner_right g h = rw bytes_are ((inner_judged drawable g (omega (arith, gs_length))).right_operand ∙ ap (λ (x : ℕ × ℕ). x.1) (listed_at (renamed_gate c s.places all) (0, 0) (gates c) g h))

  pub inner_gate : (g : ℕ) → g < gates c → (r : Gate) → r.left ≡ renamed (all_inputs c) s.places all (operand c (lefts_at c) g)
      → r.right ≡ renamed (all_inputs c) s.places all (operand c (rights_at c) g) → GateOf b g r
  inner_gate g h r el er = record {
    left_is = el ∙ sym (inner_left g h);
    right_is = er ∙ sym (inner_right g h);
    left_before = rw (el, inputs_are) (left_before g h);
    right_before = rw (er, inputs_are) (right_before g h);
  }

  -- those that show outputs
  pub closing_operands : (q : ℕ) → q < places → (operand b (lefts_at b) (gates c + q) ≡ (closing conn left 0 q).0) × (operand b (rights_at b) (gates c + q) ≡ (closing conn left 0 q).1)
  closing_operands q h =
      let J = output_judged drawable q h in
      let e : length gs + q ≡ gates c + q = ap (λ k. k + q) gs_length in
      (rw (bytes_are, ← e) J.left_operand, rw (bytes_are, ← e) J.right_operand)

  pub shown_gate : (q : ℕ) → q < places → conn q ≡ true → (r : Gate) → r.left ≡ left q → r.right ≡ 1 → GateOf b (gates c + q) r
  unfolding shown_literal
  shown_gate q h e r el er =
      let o = closing_operands q h in
      let f : closing conn left 0 q ≡ (left q, 1) = closing_connected conn left 0 q e in
      record {
        left_is = el ∙ sym (o.0 ∙ ap (λ (x : ℕ × ℕ). x.0) f);
        right_is = er ∙ sym (o.1 ∙ ap (λ (x : ℕ × ℕ). x.1) f);
        left_before = omega (arith, el, inputs_are, connects_item q e, P.network.headed.outputs_to);
        right_before = omega (arith, er);
      }

  pub blank_gate : (q : ℕ) → q < places → conn q ≡ false → (r : Gate) → r.left ≡ 0 → r.right ≡ 0 → GateOf b (gates c + q) r
  blank_gate q h e r el er =
      let o = closing_operands q h in
      let f : closing conn left 0 q ≡ (0, 0) = closing_blank conn left 0 q e in
      record {
        left_is = el ∙ sym (o.0 ∙ ap (λ (x : ℕ × ℕ). x.0) f);
        right_is = er ∙ sym (o.1 ∙ ap (λ (x : ℕ × ℕ). x.1) f);
        left_before = omega (arith, el);
        right_before = omega (arith, er);
      }

  -- an output is unconnected where its place is
  pub place_unconnected : (q : ℕ) → q < places → unconnected b (gate_of_output b q) ≡ not (conn q)
  place_unconnected q h = rw bytes_are (unconnected_is drawable q h)
