-- One frame: its literals are of earlier signals, and what its match chains, edges and gather chains read as.
use mathlib.Core.Path.{◌≡◌, refl, sym, ap, ap₂, ◌∙◌}
use mathlib.Core.Bool.{Bool, true, false, cond}
use mathlib.Core.List.{List, [], ◌∷◌, ◌++◌}
use Prim.Native.Nat.{ℕ, zero, suc, ◌+◌, ◌*◌, ◌-◌, ◌/◌, ◌%◌, ◌^◌, ◌≤◌, ◌<◌}
use native.Mathlib.Nat.{le_refl, mod-lt}
use native.Mathlib.Omega.{arith}
use lib.Dec.{eqb}
use lib.Pow.{pow_pos}
use lib.ListN.{length, get_or, length-append}
use borrow.Author.Tests.{eqb-false}
use Rattle.circuit.specs.Lists.{bit}
use Rattle.unfolded.specs.Unfolded.{ending, inverted, Frame, input_literal, matching, match_gates, match_literal, edges_at, edge_gate, edge_gates, inverted_edges, next_gates_at, entering, next_gates, next_literal, out_gates_at, with_bit, out_gates, out_literal, frame_gates}
use Rattle.circuit.proofs.Lists.{listed_length}
use Rattle.unfolded.proofs.Lists.{Under, none, more, under_more, under_widen, under_listed}
use Rattle.circuit.proofs.Gates.{Admitted, admitted_append, each_admitted, Reads, run, run-append, run_length, run_read, each_reads}
use Rattle.unfolded.proofs.Gates.{chains_admitted, ending_below, together, together_cong, chains_read}

-- ---- where literals are

inverted_below : (l x : ℕ) → l < 2 * x → inverted l < 2 * x
unfolding inverted
inverted_below l x h = go (eqb (l % 2) 1) refl
  where
    go : (t : Bool) → eqb (l % 2) 1 ≡ t → cond t (l - 1) (l + 1) < 2 * x
    go true e = omega arith
    go false e = let n : l % 2 ≡ 1 → ⊥ = eqb-false (l % 2) 1 e in omega (arith, n)

-- an input's literal, inverted or not, is one of its signal
pub input_half : (n t w i : ℕ) → input_literal n t w i / 2 ≡ suc (t * n + i)
unfolding input_literal
input_half n t w i = either (λ (c : ℕ). (2 * (1 + (t * n + i)) + c) / 2 ≡ suc (t * n + i)) (bit w i) (omega arith) (omega arith)
  where
    either : (P : ℕ → Type 0) {x y : ℕ} (v : Bool) → P x → P y → P (cond v x y)
    either P true p q = p
    either P false p q = q

-- the frame's inputs and the states that its edges leave are signals before it
pub record Placed (F : Frame) : Type 0 where
  pub inputs_before : F.frame * F.inputs + F.inputs < F.at
  pub states_before : (e : ℕ) → e < F.edges → get_or F.states (e / 2 ^ F.inputs) 0 < 2 * F.at

module _ (F : Frame) where
  pub nexts-at : next_gates_at F ≡ edges_at F + F.edges
  unfolding next_gates_at edge_gates
  nexts-at = ap (λ k. edges_at F + k) (listed_length (edge_gate F) F.edges)

  -- the signal behind the frame
  pub end_is : F.at + length (frame_gates F) ≡ out_gates_at F + length (out_gates F)
  unfolding frame_gates out_gates_at next_gates_at edges_at
  end_is =
      omega
      (arith, length-append (match_gates F) (edge_gates F ++ (next_gates F ++ out_gates F)), length-append (edge_gates F) (next_gates F ++ out_gates F), length-append (next_gates F) (out_gates F))

  inverted_under : (test : ℕ → Bool) (k : ℕ) → k ≤ F.edges → Under (2 * next_gates_at F) (inverted_edges (edges_at F) test k)
  unfolding inverted_edges
  inverted_under test zero h = none
  inverted_under test (suc k) h = under_more (inverted_under test k (omega arith)) (go (test k))
    where
      go : (t : Bool) → Under (2 * next_gates_at F) (cond t ((2 * (edges_at F + k) + 1) ∷ []) [])
      go true = more {l = 2 * (edges_at F + k) + 1} (omega (arith, nexts-at)) none
      go false = none

  entering_under : (s : ℕ) → Under (2 * next_gates_at F) (entering F s)
  unfolding entering
  entering_under s = inverted_under _ F.edges (le_refl F.edges)

  with_bit_under : (j : ℕ) → Under (2 * next_gates_at F) (with_bit F j)
  unfolding with_bit
  with_bit_under j = inverted_under _ F.edges (le_refl F.edges)

  module _ (P : Placed F) where
    first_signal : 1 ≤ F.at
    first_signal = omega (arith, P.inputs_before)

    nexts_from_lem : F.at ≤ next_gates_at F
    unfolding edges_at
    nexts_from_lem = omega (arith, nexts-at)

    outs_from : next_gates_at F ≤ out_gates_at F
    unfolding out_gates_at
    outs_from = omega arith

    input_before : (w i : ℕ) → i < F.inputs → input_literal F.inputs F.frame w i < 2 * F.at
    input_before w i h = omega (arith, input_half F.inputs F.frame w i, P.inputs_before)

    match_under : (w : ℕ) → Under (2 * F.at) (matching F.inputs F.frame w)
    unfolding matching
    match_under w = under_listed _ (input_literal F.inputs F.frame w) F.inputs (input_before w)

    edge_before : (e : ℕ) → e < F.edges → ((edge_gate F e).0 < 2 * edges_at F) × ((edge_gate F e).1 < 2 * edges_at F)
    unfolding edge_gate edges_at match_literal match_gates
    edge_before e h = (
      omega (arith, P.states_before e h),
      ending_below F.at (matching F.inputs F.frame) first_signal (2 ^ F.inputs) (e % 2 ^ F.inputs) (mod-lt e (pow_pos F.inputs)),
    )

    pub frame_admitted : Admitted F.at (frame_gates F)
    unfolding frame_gates match_gates edge_gates next_gates out_gates edges_at next_gates_at out_gates_at
    frame_admitted =
        let g = nexts_from_lem in
        let r = outs_from in
        let p = first_signal in
        admitted_append (chains_admitted F.at (matching F.inputs F.frame) p (2 ^ F.inputs) (λ w h. match_under w))
        (admitted_append (each_admitted (edges_at F) (edge_gate F) F.edges edge_before)
        (admitted_append (chains_admitted (next_gates_at F) (entering F) (omega arith) F.nexts (λ s h. entering_under s))
        (chains_admitted (out_gates_at F) (with_bit F) (omega arith) F.outputs (λ j h. under_widen (omega arith) (with_bit_under j)))))

    next_ending : (s : ℕ) → s < F.nexts → ending (next_gates_at F) (entering F) s < 2 * out_gates_at F
    unfolding out_gates_at next_gates
    next_ending s h = let g = nexts_from_lem in let p = first_signal in ending_below (next_gates_at F) (entering F) (omega arith) F.nexts s h

    pub next_below : (s : ℕ) → s < F.nexts → next_literal F s < 2 * (F.at + length (frame_gates F))
    unfolding next_literal
    next_below s h = inverted_below (ending (next_gates_at F) (entering F) s) (F.at + length (frame_gates F)) (omega (arith, next_ending s h, end_is))

    out_ending : (j : ℕ) → j < F.outputs → ending (out_gates_at F) (with_bit F) j < 2 * (out_gates_at F + length (out_gates F))
    unfolding out_gates
    out_ending j h = let g = nexts_from_lem in let r = outs_from in let p = first_signal in ending_below (out_gates_at F) (with_bit F) (omega arith) F.outputs j h

    pub out_below : (j : ℕ) → j < F.outputs → out_literal F j < 2 * (F.at + length (frame_gates F))
    unfolding out_literal
    out_below j h = inverted_below (ending (out_gates_at F) (with_bit F) j) (F.at + length (frame_gates F)) (omega (arith, out_ending j h, end_is))

    -- ---- what is read

    module _ {A : Type 0} (meet : A → A → A) (read : List A → ℕ → A) (R : Reads read) (vs : List A) (at : length vs ≡ F.at) where
      -- after the match chains, after the edges, after the next states
      matched : List A
      matched = run meet read vs (match_gates F)

      unfoldable pub crossed : List A
      unfolding matched
      crossed = run meet read matched (edge_gates F)

      gathered : List A
      gathered = run meet read crossed (next_gates F)

      matched_length : length matched ≡ edges_at F
      unfolding matched edges_at
      matched_length = run_length meet read vs (match_gates F) ∙ omega arith

      crossed_length : length crossed ≡ next_gates_at F
      unfolding crossed next_gates_at
      crossed_length = run_length meet read matched (edge_gates F) ∙ omega (arith, matched_length)

      gathered_length : length gathered ≡ out_gates_at F
      unfolding gathered out_gates_at
      gathered_length = run_length meet read crossed (next_gates F) ∙ omega (arith, crossed_length)

      frame_runs : run meet read vs (frame_gates F) ≡ run meet read gathered (out_gates F)
      unfolding frame_gates matched crossed gathered
      frame_runs =
          run-append meet read vs (match_gates F) (edge_gates F ++ (next_gates F ++ out_gates F))
          ∙ run-append meet read matched (edge_gates F) (next_gates F ++ out_gates F)
          ∙ run-append meet read crossed (next_gates F) (out_gates F)

      -- an earlier signal reads as before
      old_matched : (l : ℕ) → l < 2 * F.at → read matched l ≡ read vs l
      unfolding matched
      old_matched l h = run_read meet read R vs (match_gates F) l (omega arith)

      old_crossed : (l : ℕ) → l < 2 * F.at → read crossed l ≡ read vs l
      unfolding crossed edges_at
      old_crossed l h = run_read meet read R matched (edge_gates F) l (omega (arith, matched_length)) ∙ old_matched l h

      pub edge_reads : (e : ℕ) → e < F.edges
          → read crossed (2 * (edges_at F + e))
          ≡ meet (read vs (get_or F.states (e / 2 ^ F.inputs) 0)) (together meet (read vs) (read vs 1) (matching F.inputs F.frame (e % 2 ^ F.inputs)))
      unfolding crossed matched edge_gates edge_gate match_gates match_literal
      edge_reads e h =
          let l : length matched ≡ edges_at F = matched_length in
          ap (λ k. read crossed (2 * (k + e))) (sym l)
          ∙ each_reads meet read R matched (edge_gate F) F.edges e h (λ i h. rw l (edge_before i h))
          ∙ ap₂ meet
          (old_matched _ (P.states_before e h))
          (chains_read meet read R vs F.at (matching F.inputs F.frame) first_signal at (2 ^ F.inputs) (e % 2 ^ F.inputs) (mod-lt e (pow_pos F.inputs)) (λ w h. match_under w))

      pub next_reads : (s : ℕ) → s < F.nexts
          → read (run meet read vs (frame_gates F)) (ending (next_gates_at F) (entering F) s) ≡ together meet (read crossed) (read vs 1) (entering F s)
      unfolding gathered next_gates
      next_reads s h =
          let g = nexts_from_lem in
          let p = first_signal in
          ap (λ v. read v (ending (next_gates_at F) (entering F) s)) frame_runs
          ∙ run_read meet read R gathered (out_gates F) _ (omega (arith, gathered_length, next_ending s h))
          ∙ chains_read meet read R crossed (next_gates_at F) (entering F) (omega arith) crossed_length F.nexts s h (λ s h. entering_under s)
          ∙ ap (λ a. together meet (read crossed) a (entering F s)) (old_crossed 1 (omega arith))

      pub out_reads : (j : ℕ) → j < F.outputs
          → read (run meet read vs (frame_gates F)) (ending (out_gates_at F) (with_bit F) j) ≡ together meet (read crossed) (read vs 1) (with_bit F j)
      unfolding gathered out_gates
      out_reads j h =
          let g = nexts_from_lem in
          let r = outs_from in
          let p = first_signal in
          let old : (l : ℕ) → l < 2 * next_gates_at F → read gathered l ≡ read crossed l = λ l h. run_read meet read R crossed (next_gates F) l (omega (arith, crossed_length)) in
          ap (λ v. read v (ending (out_gates_at F) (with_bit F) j)) frame_runs
          ∙ chains_read meet read R gathered (out_gates_at F) (with_bit F) (omega arith) gathered_length F.outputs j h (λ j h. under_widen (omega arith) (with_bit_under j))
          ∙ together_cong meet (read gathered) (read crossed) _ old (with_bit_under j)
          ∙ ap (λ a. together meet (read crossed) a (with_bit F j)) (old 1 (omega arith) ∙ old_crossed 1 (omega arith))
