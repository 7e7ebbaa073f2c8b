-- An output whose gates reach no later input does not look ahead: a signal's value depends on no word later than its latest frame. Assumes nothing.
use mathlib.Core.Path.{◌≡◌, refl, sym, ap, ap₂, ◌∙◌, subst}
use mathlib.Core.Bool.{Bool, false, ◌&&◌, cond, not}
use mathlib.Core.Logic.{◌⊎◌, inl, inr}
use mathlib.Core.List.{List, [], ◌∷◌}
use Prim.Native.Nat.{ℕ, zero, suc, ◌+◌, ◌/◌, ◌%◌, ◌≤◌, ◌<◌, max}
use native.Mathlib.Nat.{eq-or-lt_of_le, le_refl}
use native.Mathlib.Omega.{arith}
use lib.Dec.{eqb}
use lib.ListN.{length, get_or}
use lib.Seq.{get_or-take}
use borrow.Author.Tests.{ltb-false}
use Rattle.sizes.specs.Sizes.{inputs, outputs}
use Rattle.circuit.specs.Lists.{grown, listed, bit}
use Rattle.circuit.specs.Circuit.{gates, lefts_at, rights_at, operand, all_inputs, all_outputs, gate_signal, output_signal, frame_of, input_values, literal_value, gate_value, signal_values, looks_ahead}
use Rattle.circuit.specs.WellFormed.{CircuitHeaded, LegalGates}
use Rattle.circuit.proofs.Literals.{operand_before}
use Rattle.circuit.proofs.Unconnected.{start_length, gate_value_lem}
use Rattle.circuit.proofs.Laws.{length_grown, output_in}
use Rattle.circuit.proofs.Lists.{grown_old, grown_new, listed_start, listed_after}
use Rattle.circuit.proofs.Ahead.{output_value, quiet}
use Rattle.latest.specs.Latest.{input_frames, later_frame, latest_frames, reaches_later}

module _ (b c d : List ℕ) (k : ℕ) (same : (i : ℕ) → i < k → get_or c i 0 ≡ get_or d i 0) where
  -- equal where the latest frame is at most k
  abbrev Agree : ℕ → ℕ → Type 0
  Agree g s = get_or (latest_frames b g) s 0 ≤ k → get_or (signal_values b c g) s false ≡ get_or (signal_values b d g) s false

  input_agrees : (s : ℕ) → s < 1 + all_inputs b → Agree 0 s
  unfolding latest_frames signal_values input_frames input_values grown frame_of
  input_agrees zero h l =
      listed_start (false ∷ []) _ false (all_inputs b) 0 (omega arith) ∙ sym (listed_start (false ∷ []) _ false (all_inputs b) 0 (omega arith))
  input_agrees (suc i) h l =
      let n : ℕ = inputs b in
      let i< : i < all_inputs b = omega arith in
      let p : suc i ≡ 1 + i = omega arith in
      let fr : get_or (listed (0 ∷ []) (frame_of n) (all_inputs b)) (1 + i) 0 ≡ suc (i / n) = listed_after (0 ∷ []) (frame_of n) 0 (all_inputs b) i i< in
      let word : get_or c (i / n) 0 ≡ get_or d (i / n) 0 = same (i / n) (omega (arith, fr, ap (λ s. get_or (listed (0 ∷ []) (frame_of n) (all_inputs b)) s 0) p)) in
      ap (λ s. get_or (listed (false ∷ []) (λ i. bit (get_or c (i / n) 0) (i % n)) (all_inputs b)) s false) p
      ∙ listed_after (false ∷ []) _ false (all_inputs b) i i<
      ∙ ap (λ w. bit w (i % n)) word
      ∙ sym (listed_after (false ∷ []) (λ i. bit (get_or d (i / n) 0) (i % n)) false (all_inputs b) i i<)
      ∙ ap (λ s. get_or (listed (false ∷ []) (λ i. bit (get_or d (i / n) 0) (i % n)) (all_inputs b)) s false) (sym p)

  literal_agrees : (vs ws : List Bool) (l : ℕ) → get_or vs (l / 2) false ≡ get_or ws (l / 2) false → literal_value vs l ≡ literal_value ws l
  unfolding literal_value
  literal_agrees vs ws l e = ap (λ v. cond (eqb (l % 2) 1) (not v) v) e

  -- gate g, where the signals before it agree
  gate_agrees : LegalGates b → (g : ℕ) → g < gates b → ((s : ℕ) → s < 1 + all_inputs b + g → Agree g s) → Agree (suc g) (1 + all_inputs b + g)
  unfolding latest_frames later_frame gate_value input_frames gate_signal
  gate_agrees L g h ih l =
      let n : ℕ = inputs b in
      let count : ℕ = all_inputs b in
      let left : ℕ = operand b (lefts_at b) g in
      let right : ℕ = operand b (rights_at b) g in
      let fs : List ℕ = latest_frames b g in
      let at-frame : length (input_frames n count) + g ≡ 1 + count + g = ap (λ k. k + g) (length_grown (0 ∷ []) (λ _ i. frame_of n i) count) in
      let fr : get_or (latest_frames b (suc g)) (1 + count + g) 0 ≡ max (get_or fs (left / 2) 0) (get_or fs (right / 2) 0) =
      ap (λ s. get_or (latest_frames b (suc g)) s 0) (sym at-frame) ∙ grown_new (input_frames n count) (later_frame b) 0 g in
      let value : (words : List ℕ) → get_or (signal_values b words (suc g)) (1 + count + g) false ≡ gate_value b (signal_values b words g) g = λ words. gate_value_lem b words (suc g) g (le_refl (suc g)) in
      value c
      ∙ ap₂ ◌&&◌
      (literal_agrees (signal_values b c g) (signal_values b d g) left
      (ih (left / 2) (operand_before b (lefts_at b) g (1 + count + g) (L.left g h) refl) (omega (arith, fr))))
      (literal_agrees (signal_values b c g) (signal_values b d g) right
      (ih (right / 2) (operand_before b (rights_at b) g (1 + count + g) (L.right g h) refl) (omega (arith, fr))))
      ∙ sym (value d)

  -- a signal before gate g keeps its latest frame and its value
  earlier_agrees : (g s : ℕ) → s < 1 + all_inputs b + g → Agree g s → Agree (suc g) s
  unfolding latest_frames signal_values input_frames input_values
  earlier_agrees g s h A l =
      let n : ℕ = inputs b in
      let count : ℕ = all_inputs b in
      let fr = grown_old (input_frames n count) (later_frame b) 0 g s (omega (arith, length_grown (0 ∷ []) (λ _ i. frame_of n i) count)) in
      let value : (words : List ℕ) → get_or (signal_values b words (suc g)) s false ≡ get_or (signal_values b words g) s false = λ words.
      grown_old (input_values words n count) (gate_value b) false g s (omega (arith, start_length words n count)) in
      value c ∙ A (omega (arith, fr)) ∙ sym (value d)

  signal_agrees : LegalGates b → (g : ℕ) → g ≤ gates b → (s : ℕ) → s < 1 + all_inputs b + g → Agree g s
  signal_agrees L zero h s l = input_agrees s (omega arith)
  signal_agrees L (suc g) h s l = go (signal_agrees L g (omega arith)) (eq-or-lt_of_le {n = s} {m = 1 + all_inputs b + g} (omega arith))
    where
      go : ((s : ℕ) → s < 1 + all_inputs b + g → Agree g s) → (s ≡ 1 + all_inputs b + g) ⊎ (s < 1 + all_inputs b + g) → Agree (suc g) s
      go ih (inl e) = subst (Agree (suc g)) (sym e) (gate_agrees L g h ih)
      go ih (inr l) = earlier_agrees g s l (ih s l)

-- ---- an output that reaches no later frame

pub unreached : (b : List ℕ) → CircuitHeaded b → LegalGates b → (q : ℕ) → q < all_outputs b → reaches_later b q ≡ false → looks_ahead b q ≡ false
unfolding reaches_later gate_signal
unreached b H L q h e =
    let f : ℕ = frame_of (outputs b) q in
    quiet b H q h (λ c d W U s.
    let same : (i : ℕ) → i < f → get_or c i 0 ≡ get_or d i 0 = λ i l. sym (get_or-take f c i 0 l) ∙ ap (λ w. get_or w i 0) s ∙ get_or-take f d i 0 l in
    output_value b H q h c
    ∙ signal_agrees b c d f same L (gates b) (omega arith) (output_signal b q) (output_in b q H.outputs_to h) (ltb-false f _ e)
    ∙ sym (output_value b H q h d))
