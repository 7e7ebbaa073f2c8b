-- What is stored for a frame is its gates, part by part. Assumes nothing.
use mathlib.Core.Path.{◌≡◌, refl, sym, ap, ap₂, ◌∙◌}
use mathlib.Core.Bool.{Bool, true, false, cond}
use mathlib.Core.List.{List, [], ◌∷◌, ◌++◌, append_assoc}
use Prim.Native.Nat.{ℕ, zero, suc, ◌+◌, ◌*◌, ◌-◌, ◌/◌, ◌%◌, ◌^◌, ◌≤◌, ◌<◌}
use native.Mathlib.Nat.{le_refl, div-lt_iff_lt-mul, mul-le-mul_left, mul-suc}
use native.Mathlib.Numerals.{add-one}
use native.Mathlib.Decide.{le_ind}
use native.Mathlib.Omega.{arith}
use lib.Dec.{ltb}
use lib.Pow.{pow_pos, pow_mono}
use lib.ListN.{length, get_or, take, drop, length-append, length-drop}
use lib.Seq.{get_or-take, take_at, take-append_seam, length-take-le}
use borrow.Author.Tests.{ne_eqb, ltb-true}
use Rattle.words.specs.Words.{word_at}
use Rattle.sizes.specs.Sizes.{inputs, outputs, frames}
use Rattle.circuit.specs.Limits.{most_gates}
use Rattle.circuit.specs.Lists.{listed}
use Rattle.table.specs.Table.{states, entry_count, outputs_at, nexts_at, entry_at, layer_part}
use Rattle.table.specs.Sound.{TableHeaded}
use Rattle.table.proofs.Offsets.{arrays_stand}
use Rattle.circuit.specs.Circuit.{output_gate}
use Rattle.unfolded.specs.Unfolded.{last_of, chains_from, ending, inverted, Frame, matching, match_gates, match_literal, edges_at, edge_gate, edge_gates, inverted_edges, next_gates_at, entering, next_gates, next_literal, out_gates_at, with_bit, out_gates, out_literal, frame_gates, Drawing, table_frame, drawing, with_frame, is_connected, drawn, gates_needed}
use Rattle.circuit.proofs.Lists.{listed_length, listed_cong}
use Rattle.unfolded.proofs.Drawings.{drawn_length, frame_nexts}
use Rattle.unfolded.proofs.Counts.{matches_length, match_count, edge_count, frame_count}
use Rattle.chains.specs.Chains.{target_of, gates_stored, end_of, match_of, edge_of}
use Rattle.chains.specs.declared.Target.{Target}
use Rattle.chains.proofs.Laws.{match_length}
use Rattle.chains.proofs.Stored.{gates_append, end_is}
use Rattle.gathers.specs.Gathers.{chosen, gather_edges, gather_gates, gather_literals}
use Rattle.gathers.specs.declared.Key.{Key}
use Rattle.gathers.specs.declared.Key.TheVariants.{NextState, OutputBit}
use Rattle.gathers.specs.declared.Gathering.{Gathering}
use Rattle.table.proofs.Parts.{part_in, part_length, part_entry}
use Rattle.draw.specs.Limits.{most_drawn_states}
use Rattle.draw.specs.Draw.{source_of, StatesKept}
use Rattle.draw.specs.declared.Source.{Source}

-- ---- parts of a frame

-- the match of word w
match_of_lem : (n at t w : ℕ) → 1 ≤ n → match_of n at w ≡ ending at (matching n t) w
unfolding ending match_of end_of
match_of_lem n at t w h =
    let l : length (chains_from at (matching n t) w) ≡ w * n = matches_length at n t w in
    let m : 2 * (at + (w * n + (n - 1))) ≡ 2 * (at + (w * n + n - 1)) = omega arith in
    m
    ∙ sym (ap (λ (t : Bool). cond t 1 (2 * (at + (w * n + n - 1)))) (ne_eqb (w * n + n) (w * n) (λ q. absurd (omega arith))))
    ∙ end_is at (w * n) (w * n + n) (matching n t w) (ap (λ (k : ℕ). w * n + k) (sym (match_length n t w)))
    ∙ ap (λ (k : ℕ). last_of (at + k) 1 (matching n t w)) (sym l)

-- which edges a test takes is all that counts
edges_cong : (at : ℕ) (p q : ℕ → Bool) (c : ℕ) → ((e : ℕ) → e < c → p e ≡ q e) → inverted_edges at p c ≡ inverted_edges at q c
unfolding inverted_edges
edges_cong at p q zero h = refl
edges_cong at p q (suc c) h =
    ap₂ (λ (rs : List ℕ) (t : Bool). rs ++ cond t ((2 * (at + c) + 1) ∷ []) []) (edges_cong at p q c (λ e l. h e (omega arith))) (h c (omega arith))

module _ (b : List ℕ) (H : TableHeaded b) where
  pub outputs_stand : outputs_at b + 2 * entry_count b ≤ length b
  outputs_stand = omega (arith, H.whole, arrays_stand b)

  pub nexts_stand : nexts_at b + 2 * entry_count b ≤ length b
  nexts_stand = omega (arith, H.whole, arrays_stand b)

module _ (b : List ℕ) (H : TableHeaded b) (t : ℕ) (h : t < frames b) where
  abbrev E : ℕ
  E = states b t * 2 ^ inputs b

  -- the edges that are gathered, by their entries
  abbrev gathers : Key → (start i e : ℕ) → Bool
  gathers key start i e = chosen key i (word_at b (entry_at b start t (e / 2 ^ inputs b) (e % 2 ^ inputs b)))

  part_edges : (target : Target) (g : Gathering) (start : ℕ) (p : List ℕ) (i : ℕ) → p ≡ layer_part b start t → start + 2 * entry_count b ≤ length b
      → gather_edges target g p i ≡ inverted_edges (target.base + g.edges) (gathers g.key start i) E
  unfolding gather_edges
  part_edges target g start p i ep room =
      let at : ℕ = target.base + g.edges in
      let c : length (layer_part b start t) / 2 ≡ E = omega (arith, part_length b start t room h) in
      ap (λ (p : List ℕ). gather_edges target g p i) ep
      ∙ ap (inverted_edges at (λ e. chosen g.key i (word_at (layer_part b start t) (2 * e)))) c
      ∙ edges_cong at _ _ E (λ e l. ap (chosen g.key i) (part_entry b start t e l))

  -- a source's entries stand in the table, and are the layer's
  module _ (first : ℕ) (p : Source) (e : p ≡ source_of b t first) where
    pub nexts_part : (p.nexts + 2 * p.edges ≤ length b) × (take (2 * p.edges) (drop p.nexts b) ≡ layer_part b (nexts_at b) t)
    unfolding layer_part
    nexts_part =
        let room = part_in b (nexts_at b) t (nexts_stand b H) h in
        (omega (arith, ap (λ (p : Source). p.nexts) e, ap (λ (p : Source). p.edges) e), λ i. take (2 * (e i).edges) (drop (e i).nexts b))

    pub outputs_part : (p.outputs + 2 * p.edges ≤ length b) × (take (2 * p.edges) (drop p.outputs b) ≡ layer_part b (outputs_at b) t)
    unfolding layer_part
    outputs_part =
        let room = part_in b (outputs_at b) t (outputs_stand b H) h in
        (omega (arith, ap (λ (p : Source). p.outputs) e, ap (λ (p : Source). p.edges) e), λ i. take (2 * (e i).edges) (drop (e i).outputs b))

  module _ (target : Target) (e : target ≡ target_of b) (d : Drawing) where
    abbrev F : Frame
    F = table_frame b t d

    pub outs_count : target.outputs ≡ F.outputs
    unfolding table_frame
    outs_count = rw e

    -- the arguments of the code's calls, and the gates that they store
    module _ (k : ℕ) (ek : k ≡ length d.gates) where
      frame_first : target.base + k ≡ F.at
      unfolding table_frame
      frame_first = rw (e, ek)

      pub matches_are : chains_from (target.base + k) (matching target.inputs t) target.words ≡ match_gates F
      unfolding match_gates table_frame
      matches_are = rw (e, ek)

      pub matches_count : length (match_gates F) ≡ target.words * target.inputs
      unfolding table_frame
      matches_count = match_count F ∙ rw e

      -- the first edge is gate j
      module _ (j : ℕ) (ej : j ≡ k + target.words * target.inputs) where
        edges_first : target.base + j ≡ edges_at F
        unfolding edges_at
        edges_first = omega (arith, frame_first, matches_count)

        pub edges_are : 1 ≤ inputs b → (st : List ℕ) → length d.states ≡ states b t → take (length d.states) st ≡ d.states
            → (count : ℕ) → count ≡ E → listed [] (edge_of target.inputs (target.base + k) st) count ≡ edge_gates F
        unfolding edge_gates edge_gate edge_of match_literal table_frame
        edges_are n st l es count ec =
            rw ec
            (listed_cong (edge_of target.inputs (target.base + k) st) (edge_gate F) E (λ i h.
            let K : ℕ = 2 ^ inputs b in
            let q : i / K < length d.states = rw l ((div-lt_iff_lt-mul (pow_pos (inputs b))).1 h) in
            let s : get_or st (i / K) 0 ≡ get_or d.states (i / K) 0 = sym (get_or-take (length d.states) st (i / K) 0 q) ∙ ap (λ (v : List ℕ). get_or v (i / K) 0) es in
            rw (e, ek, s, match_of_lem (inputs b) (1 + inputs b * frames b + length d.gates) t (i % K) n)))

        -- the first gather gate is gate g
        module _ (g : ℕ) (eg : g ≡ j + E) where
          nexts_first : target.base + g ≡ next_gates_at F
          unfolding next_gates_at table_frame
          nexts_first = omega (arith, edges_first, edge_count F)

          -- the chains of the next states
          module _ (p : List ℕ) (ep : p ≡ layer_part b (nexts_at b) t) where
            abbrev nexts : Gathering
            nexts = record { key = NextState; edges = j }

            entering_are : (s : ℕ) → gather_edges target nexts p s ≡ entering F s
            unfolding entering table_frame chosen
            entering_are s = part_edges target nexts (nexts_at b) p s ep (nexts_stand b H) ∙ ap (λ (at : ℕ). inverted_edges at (gathers NextState (nexts_at b) s) E) edges_first

            pub nexts_are : (count : ℕ) → count ≡ F.nexts → gather_gates target nexts p g count ≡ next_gates F
            unfolding next_gates
            nexts_are count ec = λ i. chains_from (nexts_first i) (λ s. entering_are s i) (ec i)

            pub next_literals : (count : ℕ) → count ≡ F.nexts → gather_literals target nexts p g count ≡ listed [] (next_literal F) F.nexts
            unfolding next_literal
            next_literals count ec = λ i. listed [] (λ s. inverted (ending (nexts_first i) (λ s. entering_are s i) s)) (ec i)

          -- the first gather gate of the outputs is gate o
          module _ (o : ℕ) (eo : o ≡ g + length (next_gates F)) (p : List ℕ) (ep : p ≡ layer_part b (outputs_at b) t) where
            abbrev words : Gathering
            words = record { key = OutputBit; edges = j }

            outs_first : target.base + o ≡ out_gates_at F
            unfolding out_gates_at
            outs_first = omega (arith, nexts_first)

            with_bit_are : (s : ℕ) → gather_edges target words p s ≡ with_bit F s
            unfolding with_bit table_frame chosen
            with_bit_are s = part_edges target words (outputs_at b) p s ep (outputs_stand b H) ∙ ap (λ (at : ℕ). inverted_edges at (gathers OutputBit (outputs_at b) s) E) edges_first

            pub outs_are : (count : ℕ) → count ≡ F.outputs → gather_gates target words p o count ≡ out_gates F
            unfolding out_gates
            outs_are count ec = λ i. chains_from (outs_first i) (λ s. with_bit_are s i) (ec i)

            pub out_literals : (count : ℕ) → count ≡ F.outputs → gather_literals target words p o count ≡ listed [] (out_literal F) F.outputs
            unfolding out_literal
            out_literals count ec = λ i. listed [] (λ s. inverted (ending (outs_first i) (λ s. with_bit_are s i) s)) (ec i)

-- ---- the parts together

-- the four parts, one behind the other
pub parts_stored : (G k : ℕ) (v v₁ v₂ v₃ v₄ : List ℕ) (F : Frame) (j g o : ℕ)
    → v₁ ≡ gates_stored G k v (match_gates F) → v₂ ≡ gates_stored G j v₁ (edge_gates F) → v₃ ≡ gates_stored G g v₂ (next_gates F) → v₄ ≡ gates_stored G o v₃ (out_gates F)
    → j ≡ k + length (match_gates F) → g ≡ j + length (edge_gates F) → o ≡ g + length (next_gates F) → k + length (frame_gates F) ≤ G → 8 + 4 * G ≤ length v
    → v₄ ≡ gates_stored G k v (frame_gates F)
unfolding frame_gates
parts_stored G k v v₁ v₂ v₃ v₄ F j g o e₁ e₂ e₃ e₄ ej eg eo h room =
    let M : List (ℕ × ℕ) = match_gates F in
    let X : List (ℕ × ℕ) = edge_gates F in
    let N : List (ℕ × ℕ) = next_gates F in
    let O : List (ℕ × ℕ) = out_gates F in
    let c = frame_count F in
    let m : length (M ++ X) ≡ length M + length X = length-append M X in
    let n : length ((M ++ X) ++ N) ≡ length (M ++ X) + length N = length-append (M ++ X) N in
    e₄
    ∙ ap (λ (w : List ℕ). gates_stored G o w O)
    (e₃ ∙ ap (λ (w : List ℕ). gates_stored G g w N) (e₂ ∙ ap (λ (w : List ℕ). gates_stored G j w X) e₁ ∙ gates_append G k v M X j ej (omega arith) room) ∙ gates_append G k v (M ++ X) N g (omega arith) (omega arith) room)
    ∙ gates_append G k v ((M ++ X) ++ N) O o (omega arith) (omega arith) room
    ∙ ap (gates_stored G k v) (append_assoc (M ++ X) N O ∙ append_assoc M X (N ++ O))

-- ---- frames one after the other

module _ (b : List ℕ) where
  pub frame_ends : (t : ℕ) → length (drawing b (suc t)).gates ≡ length (drawing b t).gates + length (frame_gates (table_frame b t (drawing b t)))
  unfolding drawing with_frame
  frame_ends t = length-append (drawing b t).gates _

  pub gates_mono : (t u : ℕ) → t ≤ u → length (drawing b t).gates ≤ length (drawing b u).gates
  gates_mono t u h = le_ind (λ u. length (drawing b t).gates ≤ length (drawing b u).gates) (le_refl _) (λ u _ p. omega (arith, frame_ends u)) u h

  -- the gates of a frame are among all
  pub frame_room : (t : ℕ) → t < frames b → length (drawing b t).gates + length (frame_gates (table_frame b t (drawing b t))) ≤ gates_needed b
  unfolding gates_needed
  frame_room t h = omega (arith, drawn_length b, frame_ends t, gates_mono (suc t) (frames b) h)

  -- so a layer that is drawn has few states
  pub frame_edges : (t : ℕ) (d : Drawing) → (table_frame b t d).edges ≡ states b t * 2 ^ inputs b
  unfolding table_frame
  frame_edges t d = refl

  pub few_states : (t : ℕ) → t < frames b → 1 ≤ inputs b → gates_needed b ≤ most_gates → states b t ≤ most_drawn_states
  few_states t h n l =
      let F : Frame = table_frame b t (drawing b t) in
      let p : 2 ≤ 2 ^ inputs b = pow_mono {i = 1} n in
      omega (arith, frame_room t h, frame_count F, edge_count F, frame_edges t (drawing b t), mul-le-mul_left (states b t) p)

  pub few_drawn : (t : ℕ) → (t < frames b → states b t ≤ most_drawn_states) → cond (ltb t (frames b)) (states b t) 0 ≤ most_drawn_states
  few_drawn t h = go (ltb t (frames b)) refl
    where
      go : (a : Bool) → ltb t (frames b) ≡ a → cond a (states b t) 0 ≤ most_drawn_states
      go true e = h (ltb-true t (frames b) e)
      go false e = omega arith

  -- each state has its literal
  pub states_count : states b 0 ≡ 1 → (t : ℕ) → t < frames b → length (drawing b t).states ≡ states b t
  unfolding drawing with_frame
  states_count one zero h = sym one
  states_count one (suc t) h = listed_length _ _ ∙ frame_nexts b t (drawing b t) h

  -- and so have the next layer's
  pub states_next : (t : ℕ) → let F : Frame = table_frame b t (drawing b t) in (drawing b (suc t)).states ≡ listed [] (next_literal F) F.nexts
  unfolding drawing with_frame
  states_next t = refl

-- ---- all frames

pub part_back : (v w : List ℕ) (a k n : ℕ) → length w ≡ k → a + k ≤ length v → length v ≡ n → length (take a v ++ (w ++ drop (a + k - a) (drop a v))) ≡ n
part_back v w a k n e h l = simp (length-append, length-drop) (omega (arith, length-take-le a v (omega arith)))

-- one frame more, behind those that are stored
pub drawn_more : (b : List ℕ) (G : ℕ) (v w w' : List ℕ) (t k : ℕ) → w ≡ gates_stored G 0 v (drawing b t).gates → k ≡ length (drawing b t).gates
    → w' ≡ gates_stored G k w (frame_gates (table_frame b t (drawing b t))) → length (drawing b (suc t)).gates ≤ G → 8 + 4 * G ≤ length v
    → w' ≡ gates_stored G 0 v (drawing b (suc t)).gates
unfolding drawing with_frame
drawn_more b G v w w' t k ew ek e h room =
    let fs : List (ℕ × ℕ) = frame_gates (table_frame b t (drawing b t)) in
    e ∙ ap (λ (w : List ℕ). gates_stored G k w fs) ew ∙ gates_append G 0 v (drawing b t).gates fs k (omega arith) (omega (arith, frame_ends b t)) room

module _ (b : List ℕ) where
  -- the literals of the next layer's states stand in front of the list v
  pub states_left : (v w : List ℕ) (t k : ℕ) → w ≡ (drawing b (suc t)).states → k ≡ length w → k ≤ length v → length v ≡ most_drawn_states → StatesKept b (suc t) (w ++ drop k v)
  states_left v w t k ew ek h l =
      record { long = simp (length-append, length-drop) (omega arith); kept = ap (λ (u : List ℕ). take (length u) (w ++ drop k v)) (sym ew) ∙ take-append_seam w (drop k v) ∙ ew }

  -- the literals of a frame's outputs stand behind those of earlier frames in the list v
  pub outputs_left : (v w rest : List ℕ) (t m : ℕ) → m ≡ outputs b → take (m * t) v ≡ (drawing b t).outputs → m * t ≤ length v → w ≡ listed [] (out_literal (table_frame b t (drawing b t))) m
      → take (m * (t + 1)) (take (m * t) v ++ (w ++ rest)) ≡ (drawing b (suc t)).outputs
  unfolding drawing with_frame table_frame
  outputs_left v w rest t m em ev h ew =
      let F : Frame = table_frame b t (drawing b t) in
      let n : length w ≡ m = ap length ew ∙ listed_length (out_literal F) m in
      let l : length (take (m * t) v ++ w) ≡ m * (t + 1) =
      length-append (take (m * t) v) w ∙ omega (arith, length-take-le (m * t) v h, mul-suc m t, ap (λ (k : ℕ). m * k) (add-one t)) in
      ap (take (m * (t + 1))) (sym (append_assoc (take (m * t) v) w rest)) ∙ take_at (take (m * t) v ++ w) rest (m * (t + 1)) l
      ∙ ap₂ (λ (xs ys : List ℕ). xs ++ ys) ev (ew ∙ ap (listed [] (out_literal F)) em)

  -- the output gates, behind all frames
  pub outputs_drawn : (G : ℕ) (v w w' : List ℕ) (k : ℕ) (ls : List ℕ) → w ≡ gates_stored G 0 v (drawing b (frames b)).gates → k ≡ length (drawing b (frames b)).gates
      → take (outputs b * frames b) ls ≡ (drawing b (frames b)).outputs
      → w' ≡ gates_stored G k w (listed [] (λ q. output_gate (is_connected b q) (get_or ls q 0)) (outputs b * frames b)) → k + outputs b * frames b ≤ G → 8 + 4 * G ≤ length v
      → w' ≡ gates_stored G 0 v (drawn b)
  unfolding drawn
  outputs_drawn G v w w' k ls ew ek el e h room =
      let d : Drawing = drawing b (frames b) in
      let q : ℕ = outputs b * frames b in
      let f : ℕ → ℕ × ℕ = λ i. output_gate (is_connected b i) (get_or ls i 0) in
      let g : ℕ → ℕ × ℕ = λ i. output_gate (is_connected b i) (get_or d.outputs i 0) in
      let gs : List (ℕ × ℕ) = listed [] f q in
      let same : gs ≡ listed [] g q =
      listed_cong f g q (λ i l. ap (output_gate (is_connected b i)) (sym (get_or-take q ls i 0 l) ∙ ap (λ (l : List ℕ). get_or l i 0) el)) in
      e ∙ ap (λ (w : List ℕ). gates_stored G k w gs) ew ∙ gates_append G 0 v d.gates gs k (omega arith) (omega (arith, listed_length f q)) room
      ∙ ap (λ (hs : List (ℕ × ℕ)). gates_stored G 0 v (d.gates ++ hs)) same
