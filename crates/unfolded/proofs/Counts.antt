-- The gates needed, counted without drawing them, are those that are drawn.
use mathlib.Core.Path.{◌≡◌, refl, ap, ap₂, ◌∙◌}
use mathlib.Core.Bool.{Bool, true, false, cond}
use mathlib.Core.List.{List, [], ◌∷◌, ◌++◌}
use Prim.Native.Nat.{ℕ, zero, suc, ◌+◌, ◌*◌, ◌/◌, ◌%◌, ◌^◌, ◌≤◌, ◌<◌}
use native.Mathlib.Nat.{le_refl, mul-zero, mod-lt, div-lt_iff_lt-mul}
use native.Mathlib.Omega.{arith}
use lib.Dec.{ltb, eqb}
use lib.Pow.{pow_pos}
use lib.ListN.{length, length-append}
use Rattle.sizes.specs.Sizes.{inputs, outputs, frames}
use Rattle.circuit.specs.Lists.{bit}
use Rattle.layered.specs.Search.{tally, total}
use Rattle.layered.specs.Machines.{Legal}
use Rattle.layered.proofs.Lists.{total_cong, total_each, total_swap, tally_absent, tally_once}
use Rattle.table.specs.Table.{states, machine}
use Rattle.unfolded.specs.Unfolded.{chains_from, Frame, input_literal, matching, match_gates, edges_at, edge_gate, edge_gates, inverted_edges, entering, next_gates, next_gates_at, with_bit, out_gates, out_gates_at, frame_gates, Drawing, table_frame, with_frame, drawing, gates_needed}
use Rattle.unfolded.specs.Counted.{ones, frame_needs}
use Rattle.circuit.proofs.Lists.{listed_length}
use Rattle.unfolded.proofs.Gates.{chains_more}
use Rattle.unfolded.proofs.Drawings.{drawn_length}

-- ---- chains

chains_length : (at : ℕ) (f : ℕ → List ℕ) (k : ℕ) → length (chains_from at f k) ≡ total k (λ i. length (f i))
unfolding chains_from total
chains_length at f zero = refl
chains_length at f (suc k) = chains_more at f k ∙ ap (λ n. n + length (f k)) (chains_length at f k)

pub matches_length : (at n t k : ℕ) → length (chains_from at (matching n t) k) ≡ k * n
unfolding matching
matches_length at n t k =
    chains_length at (matching n t) k ∙ total_cong k _ _ (λ w h. listed_length (input_literal n t w) n) ∙ total_each k n

pub edges_length : (at : ℕ) (test : ℕ → Bool) (k : ℕ) → length (inverted_edges at test k) ≡ tally k test
unfolding inverted_edges tally
edges_length at test zero = refl
edges_length at test (suc k) = length-append (inverted_edges at test k) _ ∙ omega (arith, edges_length at test k, go (test k))
  where
    go : (t : Bool) → length (cond t ((2 * (at + k) + 1) ∷ []) []) ≡ cond t 1 0
    go true = refl
    go false = refl

module _ (F : Frame) where
  pub match_count : length (match_gates F) ≡ 2 ^ F.inputs * F.inputs
  unfolding match_gates
  match_count = matches_length F.at F.inputs F.frame (2 ^ F.inputs)

  pub edge_count : length (edge_gates F) ≡ F.edges
  unfolding edge_gates
  edge_count = listed_length (edge_gate F) F.edges

  gather_count : length (next_gates F) ≡ total F.edges (λ e. tally F.nexts (eqb (F.next e)))
  unfolding next_gates entering
  gather_count =
      chains_length (next_gates_at F) (entering F) F.nexts
      ∙ total_cong F.nexts _ _ (λ s h. edges_length (edges_at F) (λ e. eqb (F.next e) s) F.edges)
      ∙ total_swap F.nexts F.edges (λ e s. eqb (F.next e) s)

  out_count : length (out_gates F) ≡ total F.edges (λ e. tally F.outputs (bit (F.out e)))
  unfolding out_gates with_bit
  out_count =
      chains_length (out_gates_at F) (with_bit F) F.outputs
      ∙ total_cong F.outputs _ _ (λ j h. edges_length (edges_at F) (λ e. bit (F.out e) j) F.edges)
      ∙ total_swap F.outputs F.edges (λ e j. bit (F.out e) j)

  pub frame_count : length (frame_gates F) ≡ length (match_gates F) + (length (edge_gates F) + (length (next_gates F) + length (out_gates F)))
  unfolding frame_gates
  frame_count =
      length-append (match_gates F) (edge_gates F ++ (next_gates F ++ out_gates F))
      ∙ omega (arith, length-append (edge_gates F) (next_gates F ++ out_gates F), length-append (next_gates F) (out_gates F))

-- ---- a table

module _ (b : List ℕ) where
  module _ (L : Legal (2 ^ inputs b) (outputs b) (frames b) (machine b)) where
    nexts_count : (t : ℕ) (d : Drawing) → t < frames b → length (next_gates (table_frame b t d)) ≡ cond (ltb (suc t) (frames b)) (states b t * 2 ^ inputs b) 0
    unfolding table_frame
    nexts_count t d h = gather_count (table_frame b t d) ∙ go (ltb (suc t) (frames b))
      where
        E : ℕ
        E = states b t * 2 ^ inputs b

        to : ℕ → ℕ
        to e = (machine b).next t (e / 2 ^ inputs b) (e % 2 ^ inputs b)

        one : (e : ℕ) → e < E → tally (states b (suc t)) (eqb (to e)) ≡ 1
        one e l = tally_once (states b (suc t)) (to e) (L.next_is t (e / 2 ^ inputs b) (e % 2 ^ inputs b) h ((div-lt_iff_lt-mul (pow_pos (inputs b))).1 l) (mod-lt e (pow_pos (inputs b))))

        no_states : (x : ℕ) → tally 0 (eqb x) ≡ 0
        no_states x = tally_absent 0 x (omega arith)

        go : (a : Bool) → total E (λ e. tally (cond a (states b (suc t)) 0) (eqb (to e))) ≡ cond a E 0
        go true = total_cong E _ (λ e. 1) one ∙ total_each E 1 ∙ omega arith
        go false = total_cong E _ (λ e. 0) (λ e l. no_states (to e)) ∙ total_each E 0 ∙ mul-zero E

    frame_needs_lem : (t : ℕ) (d : Drawing) → t < frames b → length (frame_gates (table_frame b t d)) ≡ frame_needs b t
    unfolding table_frame frame_needs ones
    frame_needs_lem t d h =
        let F : Frame = table_frame b t d in
        frame_count F ∙ ap₂ ◌+◌ (match_count F) (ap₂ ◌+◌ (edge_count F) (ap₂ ◌+◌ (nexts_count t d h) (out_count F)))

    drawing_length : (t : ℕ) → t ≤ frames b → length (drawing b t).gates ≡ total t (frame_needs b)
    unfolding drawing with_frame total
    drawing_length zero h = refl
    drawing_length (suc t) h =
        length-append (drawing b t).gates _ ∙ ap₂ ◌+◌ (drawing_length t (omega arith)) (frame_needs_lem t (drawing b t) h)

    pub gates-needed : gates_needed b ≡ total (frames b) (frame_needs b) + outputs b * frames b
    unfolding gates_needed
    gates-needed = drawn_length b ∙ ap (λ k. k + outputs b * frames b) (drawing_length (frames b) (le_refl (frames b)))
