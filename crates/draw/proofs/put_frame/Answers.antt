-- `draw::put_frame` meets its contract: part after part, the gates are those of the frame.
-- Assumes nothing.
use mathlib.Core.Path.{◌≡◌, sym, ap, ◌∙◌}
use mathlib.Core.List.{List, [], ◌++◌}
use Prim.Native.Nat.{ℕ, suc, ◌+◌, ◌*◌, ◌/◌, ◌^◌, ◌≤◌, ◌<◌}
use native.Mathlib.Nat.{mul-le-mul_right}
use native.Mathlib.Omega.{arith}
use lib.ListN.{length, take, drop}
use lib.Seq.{length-take-le}
use Rattle.sizes.specs.Sizes.{inputs, frames}
use Rattle.circuit.specs.Lists.{listed}
use Rattle.table.specs.Table.{states, entry_count, outputs_at, nexts_at, layer_part}
use Rattle.table.specs.Sound.{TableHeaded}
use Rattle.table.proofs.Parts.{part_length}
use Rattle.circuit.proofs.Lists.{listed_length}
use Rattle.unfolded.specs.Unfolded.{chains_from, matching, Frame, match_gates, edge_gates, next_gates, out_literal, out_gates, frame_gates, Drawing, table_frame, drawing}
use Rattle.unfolded.proofs.Counts.{edge_count, frame_count}
use Rattle.chains.specs.Chains.{Fits, target_of, gates_stored, edge_of}
use Rattle.chains.specs.declared.Target.{Target}
use Rattle.gathers.specs.Gathers.{gather_gates, gather_literals}
use Rattle.gathers.specs.declared.Key.TheVariants.{NextState, OutputBit}
use Rattle.gathers.specs.declared.Gathering.{Gathering}
use Rattle.draw.specs.Limits.{most_drawn_states}
use Rattle.draw.specs.Draw.{frame_at, source_of, StatesKept}
use Rattle.draw.specs.declared.Source.{Source}
use Rattle.draw.proofs.Frames.{matches_are, matches_count, edges_are, nexts_are, next_literals, outs_are, out_literals, outs_count, nexts_stand, outputs_stand, nexts_part, outputs_part, parts_stored, frame_ends, frame_room, frame_edges, few_states, few_drawn, states_count, states_next, states_left}
use Rattle.draw.proofs.put_frame.Goals as goal
use Rattle.draw.proofs.put_frame.Goals.{Start}

-- ---- the entry

abbrev b₀ : Start → List ℕ
b₀ s = s.args.table.now

abbrev t₀ : Start → ℕ
t₀ s = s.args.source.frame

abbrev d₀ : Start → Drawing
d₀ s = drawing (b₀ s) (t₀ s)

abbrev F₀ : Start → Frame
F₀ s = frame_at (b₀ s) (t₀ s)

head : (s : Start) → TableHeaded (b₀ s)
head s = s.requires.sound.headed

aim : (s : Start) → s.args.target ≡ target_of (b₀ s)
aim s = s.requires.target_value.0

fits₀ : (s : Start) → Fits s.args.target s.args.res.now
fits₀ s = s.requires.target_value.1

early : (s : Start) → t₀ s < frames (b₀ s)
early s = s.requires.frame_bound.0

-- the source
planned : (s : Start) → s.args.source ≡ source_of (b₀ s) (t₀ s) (length (d₀ s).gates)
planned s = s.requires.frame_bound.1

first_is : (s : Start) → s.args.source.first ≡ length (d₀ s).gates
first_is s = ap (λ (p : Source). p.first) (planned s)

edges-is : (s : Start) → s.args.source.edges ≡ states (b₀ s) (t₀ s) * 2 ^ inputs (b₀ s)
edges-is s = ap (λ (p : Source). p.edges) (planned s)

drawn-is : (s : Start) → s.args.source.drawn ≡ (F₀ s).nexts
unfolding table_frame
drawn-is s = ap (λ (p : Source). p.drawn) (planned s)

-- the frame's gates have room
room : (s : Start) → s.args.source.first + length (frame_gates (F₀ s)) ≤ s.args.target.gates
room s = omega (arith, first_is s, frame_room (b₀ s) (t₀ s) (early s), ap (λ (target : Target). target.gates) (aim s))

few : (s : Start) (t : ℕ) → t < frames (b₀ s) → states (b₀ s) t ≤ most_drawn_states
few s t h = few_states (b₀ s) t h (head s).sized.inputs_from (omega (arith, (fits₀ s).gates_to, ap (λ (target : Target). target.gates) (aim s)))

matches : (s : Start) → length (match_gates (F₀ s)) ≡ s.args.target.words * s.args.target.inputs
matches s = matches_count (b₀ s) (head s) (t₀ s) (early s) s.args.target (aim s) (d₀ s) s.args.source.first (first_is s)

edge-length : (s : Start) → length (edge_gates (F₀ s)) ≡ s.args.source.edges
edge-length s = edge_count (F₀ s) ∙ frame_edges (b₀ s) (t₀ s) (d₀ s) ∙ sym (edges-is s)

edges_few : (s : Start) → s.args.source.edges ≤ length s.args.states.now * s.args.target.words
edges_few s =
    let w : s.args.source.edges ≡ states (b₀ s) (t₀ s) * s.args.target.words = edges-is s ∙ ap (λ (target : Target). states (b₀ s) (t₀ s) * target.words) (sym (aim s)) in
    let l : states (b₀ s) (t₀ s) ≤ length s.args.states.now = omega (arith, s.requires.states_kept.long, few s (t₀ s) (early s)) in
    omega (arith, w, mul-le-mul_right s.args.target.words l)

-- the entries stand in the table
entries-stand : (s : Start)
    → (s.args.source.nexts + 2 * s.args.source.edges ≤ length (b₀ s)) × (s.args.source.outputs + 2 * s.args.source.edges ≤ length (b₀ s))
entries-stand s = ((nexts_part (b₀ s) (head s) (t₀ s) (early s) _ _ (planned s)).0, (outputs_part (b₀ s) (head s) (t₀ s) (early s) _ _ (planned s)).0)

-- the places for the literals of the next states
drawn-few : (s : Start) → s.args.source.drawn ≤ length s.args.states.now
drawn-few s = omega (arith, s.requires.states_kept.long, ap (λ (p : Source). p.drawn) (planned s), few_drawn (b₀ s) (suc (t₀ s)) (few s (suc (t₀ s))))

abbrev count₃ : Start → ℕ
count₃ s = length (take s.args.source.drawn s.args.states.now)

count₃-is : (s : Start) → count₃ s ≡ (F₀ s).nexts
count₃-is s = length-take-le s.args.source.drawn s.args.states.now (drawn-few s) ∙ drawn-is s

count₅-is : (s : Start) → length s.args.outputs.now ≡ (F₀ s).outputs
count₅-is s = s.requires.outputs_len ∙ outs_count (b₀ s) (head s) (t₀ s) (early s) s.args.target (aim s) (d₀ s)

-- ---- after the match chains: the result is v₁, and the next gate is j

module _ (s : Start) (v₁ : List ℕ) (j : ℕ)
    (e₁ : v₁ ≡ gates_stored s.args.target.gates s.args.source.first s.args.res.now (chains_from (s.args.target.base + s.args.source.first) (matching s.args.target.inputs s.args.source.frame) s.args.target.words))
    (ej : j ≡ s.args.source.first + s.args.target.words * s.args.target.inputs)
  where
    stored₁ : v₁ ≡ gates_stored s.args.target.gates s.args.source.first s.args.res.now (match_gates (F₀ s))
    stored₁ =
        e₁
        ∙ ap (gates_stored s.args.target.gates s.args.source.first s.args.res.now)
        (matches_are (b₀ s) (head s) (t₀ s) (early s) s.args.target (aim s) (d₀ s) s.args.source.first (first_is s))

    -- the first gate of the gather chains
    abbrev g₂ : ℕ
    g₂ = j + s.args.source.edges

    g₂-is : g₂ ≡ j + states (b₀ s) (t₀ s) * 2 ^ inputs (b₀ s)
    g₂-is = ap (λ (c : ℕ). j + c) (edges-is s)

    -- the edges are among the gates, and so are those of the next states
    edges-in : g₂ ≤ s.args.target.gates
    edges-in = omega (arith, ej, matches s, edge-length s, frame_count (F₀ s), room s)

    nexts_in_lem : g₂ + length (next_gates (F₀ s)) ≤ s.args.target.gates
    nexts_in_lem = omega (arith, ej, matches s, edge-length s, frame_count (F₀ s), room s)

    -- the edges are those of the entries
    entries-in : (p : List ℕ) (start : ℕ) → p ≡ layer_part (b₀ s) start (t₀ s) → start + 2 * entry_count (b₀ s) ≤ length (b₀ s) → j + length p / 2 ≤ s.args.target.gates
    entries-in p start e h = omega (arith, ap length e, part_length (b₀ s) start (t₀ s) h (early s), edges-is s, edges-in)

    -- ---- after the edges: the result is v₂

    module _ (v₂ : List ℕ)
        (e₂ : v₂ ≡ gates_stored s.args.target.gates j v₁ (listed [] (edge_of s.args.target.inputs (s.args.target.base + s.args.source.first) s.args.states.now) s.args.source.edges))
      where
        stored₂ : v₂ ≡ gates_stored s.args.target.gates j v₁ (edge_gates (F₀ s))
        stored₂ =
            e₂
            ∙ ap (gates_stored s.args.target.gates j v₁)
            (edges_are (b₀ s) (head s) (t₀ s) (early s) s.args.target (aim s) (d₀ s) s.args.source.first (first_is s) j ej
            (head s).sized.inputs_from s.args.states.now (states_count (b₀ s) (head s).one_first (t₀ s) (early s)) s.requires.states_kept.kept _ (edges-is s))

        -- ---- after the next states, whose entries are p₃: the result is v₃, the literals are ls₃, and the next gate is o

        module _ (p₃ : List ℕ) (e₃ : p₃ ≡ take (2 * s.args.source.edges) (drop s.args.source.nexts (b₀ s))) where
          p₃-is : p₃ ≡ layer_part (b₀ s) (nexts_at (b₀ s)) (t₀ s)
          p₃-is = e₃ ∙ (nexts_part (b₀ s) (head s) (t₀ s) (early s) _ _ (planned s)).1

          abbrev nexts₃ : Gathering
          nexts₃ = record { key = NextState; edges = j }

          chains₃-are : gather_gates s.args.target nexts₃ p₃ g₂ (count₃ s) ≡ next_gates (F₀ s)
          chains₃-are =
              nexts_are (b₀ s) (head s) (t₀ s) (early s) s.args.target (aim s) (d₀ s) s.args.source.first (first_is s) j ej g₂ g₂-is p₃ p₃-is (count₃ s) (count₃-is s)

          kept₃-are : gather_literals s.args.target nexts₃ p₃ g₂ (count₃ s) ≡ (drawing (b₀ s) (suc (t₀ s))).states
          kept₃-are =
              next_literals (b₀ s) (head s) (t₀ s) (early s) s.args.target (aim s) (d₀ s) s.args.source.first (first_is s) j ej g₂ g₂-is p₃ p₃-is (count₃ s) (count₃-is s)
              ∙ sym (states_next (b₀ s) (t₀ s))

          module _ (v₃ ls₃ : List ℕ) (o : ℕ)
              (ev₃ : v₃ ≡ gates_stored s.args.target.gates g₂ v₂ (gather_gates s.args.target nexts₃ p₃ g₂ (count₃ s)))
              (els₃ : ls₃ ≡ gather_literals s.args.target nexts₃ p₃ g₂ (count₃ s))
              (eo : o ≡ g₂ + length (gather_gates s.args.target nexts₃ p₃ g₂ (count₃ s)))
            where
              stored₃ : v₃ ≡ gates_stored s.args.target.gates g₂ v₂ (next_gates (F₀ s))
              stored₃ = ev₃ ∙ ap (gates_stored s.args.target.gates g₂ v₂) chains₃-are

              states₃ : StatesKept (b₀ s) (suc (t₀ s)) (ls₃ ++ drop s.args.source.drawn s.args.states.now)
              states₃ =
                  let e = els₃ ∙ kept₃-are in
                  states_left (b₀ s) s.args.states.now _ (t₀ s) s.args.source.drawn e
                  (drawn-is s ∙ sym (ap length (e ∙ states_next (b₀ s) (t₀ s)) ∙ listed_length _ (F₀ s).nexts)) (drawn-few s) s.requires.states_kept.long

              o₄-is : o ≡ g₂ + length (next_gates (F₀ s))
              o₄-is = eo ∙ ap (λ (gs : List (ℕ × ℕ)). g₂ + length gs) chains₃-are

              outs-end : o + length (out_gates (F₀ s)) ≡ s.args.source.first + length (frame_gates (F₀ s))
              outs-end = omega (arith, o₄-is, ej, matches s, edge-length s, frame_count (F₀ s))

              -- ---- after the outputs, whose entries are p₅: the result is v₄

              module _ (p₅ : List ℕ) (e₅ : p₅ ≡ take (2 * s.args.source.edges) (drop s.args.source.outputs (b₀ s))) where
                p₅-is : p₅ ≡ layer_part (b₀ s) (outputs_at (b₀ s)) (t₀ s)
                p₅-is = e₅ ∙ (outputs_part (b₀ s) (head s) (t₀ s) (early s) _ _ (planned s)).1

                abbrev outs₅ : Gathering
                outs₅ = record { key = OutputBit; edges = j }

                chains₅-are : gather_gates s.args.target outs₅ p₅ o (length s.args.outputs.now) ≡ out_gates (F₀ s)
                chains₅-are =
                    outs_are (b₀ s) (head s) (t₀ s) (early s) s.args.target (aim s) (d₀ s) s.args.source.first (first_is s) j ej g₂ g₂-is o o₄-is p₅ p₅-is _ (count₅-is s)

                kept₅-are : gather_literals s.args.target outs₅ p₅ o (length s.args.outputs.now) ≡ listed [] (out_literal (F₀ s)) s.args.target.outputs
                kept₅-are =
                    out_literals (b₀ s) (head s) (t₀ s) (early s) s.args.target (aim s) (d₀ s) s.args.source.first (first_is s) j ej g₂ g₂-is o o₄-is p₅ p₅-is _ (count₅-is s)
                    ∙ ap (listed [] (out_literal (F₀ s))) (sym (count₅-is s) ∙ s.requires.outputs_len)

                outs_in : o + length (gather_gates s.args.target outs₅ p₅ o (length s.args.outputs.now)) ≤ s.args.target.gates
                outs_in = omega (arith, ap length chains₅-are, outs-end, room s)

                module _ (v₄ : List ℕ) (e₄ : v₄ ≡ gates_stored s.args.target.gates o v₃ (gather_gates s.args.target outs₅ p₅ o (length s.args.outputs.now))) where
                  stored₆ : v₄ ≡ gates_stored s.args.target.gates s.args.source.first s.args.res.now (frame_gates (F₀ s))
                  stored₆ =
                      parts_stored s.args.target.gates s.args.source.first s.args.res.now v₁ v₂ v₃ _ (F₀ s) j g₂ o
                      stored₁ stored₂ stored₃ (e₄ ∙ ap (gates_stored s.args.target.gates o v₃) chains₅-are)
                      (omega (arith, ej, matches s)) (omega (arith, edge-length s)) o₄-is (room s) (fits₀ s).room

-- ---- the answers

pub put_matches-edges-requires-clause-t_lt_most_frames : goal.put_matches-edges-requires-clause-t_lt_most_frames
put_matches-edges-requires-clause-t_lt_most_frames c =
    let s = (goal.at.put_matches-edges-requires-clause-t_lt_most_frames c).Start in
    (omega (arith, early s, (head s).sized), omega (arith, room s, matches s, frame_count (F₀ s)))

pub put_edges-requires-clause-matches_le_k : goal.put_edges-requires-clause-matches_le_k
put_edges-requires-clause-matches_le_k c =
    let s = (goal.at.put_edges-requires-clause-matches_le_k c).Start in
    let e = c.put_matches-edges.ensures in
    (omega (arith, e.end), omega (arith, e.end, matches s, edge-length s, frame_count (F₀ s), room s), edges_few s)

pub entries_from-nexts-requires : goal.entries_from-nexts-requires
entries_from-nexts-requires c = omega (arith, entries-stand (goal.at.entries_from-nexts-requires c).Start)

pub overflow_add-edges : goal.overflow_add-edges
overflow_add-edges c =
    let s = (goal.at.overflow_add-edges c).Start in
    let e = c.put_matches-edges.ensures in
    omega (arith, edges-in s _ _ e.gates e.end, (fits₀ s).gates_to)

pub slice_bounds-put_gathers-end : goal.slice_bounds-put_gathers-end
slice_bounds-put_gathers-end c = drawn-few (goal.at.slice_bounds-put_gathers-end c).Start

pub slice_bounds-put_gathers-end-2 : goal.slice_bounds-put_gathers-end-2
slice_bounds-put_gathers-end-2 c = let s = (goal.at.slice_bounds-put_gathers-end-2 c).Start in sym (length-take-le s.args.source.drawn s.args.states.now (drawn-few s))

pub put_gathers-gathers-requires-clause-entries_bound : goal.put_gathers-gathers-requires-clause-entries_bound
put_gathers-gathers-requires-clause-entries_bound c =
    let s = (goal.at.put_gathers-gathers-requires-clause-entries_bound c).Start in
    let e = c.put_matches-edges.ensures in
    entries-in s _ _ e.gates e.end _ (nexts_at (b₀ s)) (p₃-is s _ _ e.gates e.end _ c.put_edges.ensures _ c.entries_from-nexts.ensures) (nexts_stand (b₀ s) (head s))

pub put_gathers-gathers-requires-clause-literals_bound : goal.put_gathers-gathers-requires-clause-literals_bound
put_gathers-gathers-requires-clause-literals_bound c =
    let s = (goal.at.put_gathers-gathers-requires-clause-literals_bound c).Start in
    let e = c.put_matches-edges.ensures in
    omega (arith, ap length (chains₃-are s _ _ e.gates e.end _ c.put_edges.ensures _ c.entries_from-nexts.ensures), nexts_in_lem s _ _ e.gates e.end)

pub entries_from-words-requires : goal.entries_from-words-requires
entries_from-words-requires c = omega (arith, entries-stand (goal.at.entries_from-words-requires c).Start)

pub put_gathers-requires-clause-entries_bound : goal.put_gathers-requires-clause-entries_bound
put_gathers-requires-clause-entries_bound c =
    let s = (goal.at.put_gathers-requires-clause-entries_bound c).Start in
    let e = c.put_matches-edges.ensures in
    let n = c.entries_from-nexts.ensures in
    let g = c.put_gathers-gathers.ensures in
    entries-in s _ _ e.gates e.end _ (outputs_at (b₀ s)) (p₅-is s _ _ e.gates e.end _ c.put_edges.ensures _ n _ _ _ g.gates g.ends g.end _ c.entries_from-words.ensures) (outputs_stand (b₀ s) (head s))

pub put_gathers-requires-clause-literals_bound : goal.put_gathers-requires-clause-literals_bound
put_gathers-requires-clause-literals_bound c =
    let s = (goal.at.put_gathers-requires-clause-literals_bound c).Start in
    let e = c.put_matches-edges.ensures in
    let n = c.entries_from-nexts.ensures in
    let g = c.put_gathers-gathers.ensures in
    outs_in s _ _ e.gates e.end _ c.put_edges.ensures _ n _ _ _ g.gates g.ends g.end _ c.entries_from-words.ensures

pub returns : goal.returns
returns c =
    let s = (goal.at.returns c).Start in
    let e = c.put_matches-edges.ensures in
    let n = c.entries_from-nexts.ensures in
    let g = c.put_gathers-gathers.ensures in
    let w = c.entries_from-words.ensures in
    let o = c.put_gathers.ensures in record {
      gates = stored₆ s _ _ e.gates e.end _ c.put_edges.ensures _ n _ _ _ g.gates g.ends g.end _ w _ o.gates;
      states = states₃ s _ _ e.gates e.end _ c.put_edges.ensures _ n _ _ _ g.gates g.ends g.end;
      outputs = o.ends ∙ kept₅-are s _ _ e.gates e.end _ c.put_edges.ensures _ n _ _ _ g.gates g.ends g.end _ w;
      end =
          o.end ∙ ap (λ (gs : List (ℕ × ℕ)). c.put_gathers-gathers.result + length gs) (chains₅-are s _ _ e.gates e.end _ c.put_edges.ensures _ n _ _ _ g.gates g.ends g.end _ w)
          ∙ outs-end s _ _ e.gates e.end _ c.put_edges.ensures _ n _ _ _ g.gates g.ends g.end ∙ omega (arith, first_is s, frame_ends (b₀ s) (t₀ s));
    }
