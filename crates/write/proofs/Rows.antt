-- Rows of outputs: their numbers fit, what is followed for a row is its outputs, and one row is stored behind the other. Assumes nothing.
use mathlib.Core.Path.{◌≡◌, refl, sym, ap, ap₂, ◌∙◌, subst}
use mathlib.Core.Bool.{Bool, true, false, cond}
use mathlib.Core.List.{List, ◌++◌, append_assoc, append-nil}
use Prim.Native.Nat.{ℕ, suc, ◌+◌, ◌*◌, ◌^◌, ◌≤◌, ◌<◌}
use native.Mathlib.Nat.{le_refl, mul-suc, suc-mul, mul-le-mul_left, mul-le-mul_right, one-le-pow}
use native.Mathlib.Numerals.{add-one}
use native.Mathlib.Omega.{arith}
use borrow.Author.Tests.{ltb-true, ltb-false, lt-ltb, le-ltb}
use lib.Pow.{pow_pos}
use lib.Dec.{eqb, ltb}
use lib.ListN.{length, get_or, length-append}
use Rattle.words.specs.Words.{stored}
use Rattle.words.proofs.Laws.{stored_none, stored_behind}
use Rattle.layered.specs.Search.{join, tabulate, total}
use Rattle.layered.specs.States.{count, history}
use Rattle.layered.specs.Machines.{entries, folded}
use Rattle.layered.proofs.Lists.{tabulate_cong, tabulate_length, join_length, total_each, total_le, total_next}
use Rattle.layered.proofs.Entries.{entries_length}
use Rattle.layered.proofs.States.{count_at_most, count_first, count_last, number_below}
use Rattle.circuit.specs.Lists.{packed}
use Rattle.circuit.proofs.Lists.{listed_cong}
use Rattle.diagrams.specs.Diagrams.{Nodes, follow, Reduced}
use Rattle.diagrams.specs.Theorems.{Holds}
use Rattle.diagrams.specs.Frames.{word_bits, history_bits}
use Rattle.diagrams.specs.Paths.{path_of}
use Rattle.diagrams.proofs.Paths.{path_bits, follow_next}
use Rattle.diagrams.proofs.Reading.{read_output}
use Rattle.nodes.specs.declared.Node.{Node}
use Rattle.records.specs.Records.{nodes_in}
use Rattle.descend.specs.Descend.{Traceable, Traced}
use Rattle.explore.specs.declared.Layout.{Layout}
use Rattle.explore.specs.Explore.{layer_at, Laid}
use Rattle.explore.proofs.Layers.{layer_next, layer_in, two_words, half_to, frames_to, outputs_le}
use Rattle.write.specs.declared.Writing.{Writing}
use Rattle.write.specs.Write.{output_words, word_in, row_in, first_row, next_row, row_job, AtRow, Reads, Writable}
use Rattle.write.proofs.Heads.{counts_all}

-- ---- numbers

pub record RowSafe (layout : Layout) (w : Writing) : Type 0 where
  pub near : layout.columns ≤ 65536
  pub place_in : w.at + w.state < layout.half
  pub half_small : layout.half ≤ 65536
  pub from_to : layout.roots + layout.outputs * w.layer ≤ 65536
  pub top_to : layout.bits * w.layer ≤ 16
  pub next_to : w.at * layout.fan + 1 ≤ 131072
  pub layer_to : w.layer < 16

pub row_safe : (layout : Layout) (w : Writing) → AtRow layout w → RowSafe layout w
unfolding layer_at
row_safe layout w A =
    let L = A.laid in
    let p = layer_in layout.fan (two_words layout L) w.layer layout.frames A.inside in
    let l : w.layer ≤ layout.frames = omega (arith, A.inside) in
    record {
      near = L.near;
      place_in = omega (arith, A.at_is, A.state_in, p, L.half_is);
      half_small = half_to layout L;
      from_to = omega (arith, outputs_le layout L w.layer layout.frames l, L.apart, L.near);
      top_to = omega (arith, mul-le-mul_left layout.bits l, L.bits_to);
      next_to = omega (arith, ap (λ (a : ℕ). a * layout.fan) A.at_is, layer_next layout.fan w.layer, p, L.half_is, half_to layout L);
      layer_to = omega (arith, A.inside, frames_to layout L);
    }

-- word w's ids end in the columns
pub columns_in : (w fan m : ℕ) → w < fan → w * m + m ≤ fan * m
columns_in w fan m h = omega (arith, suc-mul w m, mul-le-mul_right m h)

-- ---- the next row

module _ (layout : Layout) (counts : List ℕ) (w : Writing) where
  abbrev same : Writing
  same = record { layer = w.layer; states = w.states; at = w.at; state = w.state + 1; to = w.to + 2 * layout.fan }

  abbrev more : Writing
  more = record { layer = w.layer + 1; states = get_or counts (w.layer + 1) 0; at = w.at * layout.fan + 1; state = 0; to = w.to + 2 * layout.fan }

  pub row_same : w.state + 1 < w.states → same ≡ next_row layout counts w
  unfolding next_row
  row_same h = ap (λ (t : Bool). cond t same more) (sym (lt-ltb (w.state + 1) w.states h))

  pub row_more : w.states ≤ w.state + 1 → more ≡ next_row layout counts w
  unfolding next_row
  row_more h = ap (λ (t : Bool). cond t same more) (sym (le-ltb (w.state + 1) w.states h))

  pub row_to : (next_row layout counts w).to ≡ w.to + 2 * layout.fan
  unfolding next_row
  row_to = go (ltb (w.state + 1) w.states)
    where
      go : (t : Bool) → (cond t same more).to ≡ w.to + 2 * layout.fan
      go true = refl
      go false = refl

-- ---- rows that are written

module _ (layout : Layout) (ns : List Node) (s ws counts r : List ℕ) (to : ℕ) (W : Writable layout ns s ws counts r to) where
  abbrev K : ℕ
  K = 2 ^ layout.bits

  abbrev T : ℕ
  T = layout.frames

  abbrev y : ℕ → ℕ → ℕ
  y = W.subject.y

  abbrev L : Laid layout
  L = W.laid

  abbrev S : ℕ → ℕ
  S = count K T y

  -- the row of state k of layer t, and all rows before it
  abbrev row_of : (t k : ℕ) → List ℕ
  row_of t k = tabulate K ((folded K T y).out t k)

  unfoldable pub rows_to : (t k : ℕ) → List ℕ
  rows_to t k = output_words K T y t ++ join k (row_of t)

  rows_length : (t k : ℕ) → length (rows_to t k) ≡ total t (λ u. S u * K) + k * K
  unfolding rows_to
  rows_length t k =
      length-append (output_words K T y t) _
      ∙ ap₂ ◌+◌ (entries_length K t S (folded K T y).out) (join_length k (row_of t) (λ _. K) (λ i _. tabulate_length K ((folded K T y).out t i)) ∙ total_each k K)

  -- one row more, and the end of a layer
  rows_state : (t k : ℕ) → rows_to t k ++ row_of t k ≡ rows_to t (k + 1)
  unfolding rows_to join
  rows_state t k = append_assoc (output_words K T y t) (join k (row_of t)) (row_of t k) ∙ ap (λ (n : ℕ). output_words K T y t ++ join n (row_of t)) (sym (add-one k))

  rows_layer : (t : ℕ) → rows_to t (S t) ≡ rows_to (t + 1) 0
  unfolding rows_to entries join
  rows_layer t = sym (append-nil _ ∙ ap (λ (n : ℕ). output_words K T y n) (add-one t))

  some_state : (t : ℕ) → 1 ≤ S t
  some_state t = omega (arith, number_below K T y t 0 (one-le-pow t K (pow_pos layout.bits)))

  -- there is room for a row
  rows_room : (t k : ℕ) → t < T → k < S t → to + 2 * length (rows_to t k) + 2 * layout.fan ≤ length r
  rows_room t k l h =
      omega (arith, W.room, rows_length t k, suc-mul k K, mul-le-mul_right K h, total_next (λ u. S u * K) t, total_le (t + 1) T (λ u. S u * K) (omega arith), entries_length K T S (folded K T y).out, L.fan_is)

  -- all rows before w's are stored
  pub record Doing (w : Writing) (ms r' : List ℕ) : Type 0 where
    pub layer_to : w.layer ≤ T
    pub states_is : w.states ≡ S w.layer
    pub at_is : w.at ≡ layer_at layout.fan w.layer
    pub state_in : w.state < w.states
    pub to_is : w.to ≡ to + 2 * length (rows_to w.layer w.state)
    pub stored_is : r' ≡ stored 2 r to (rows_to w.layer w.state)
    pub kept : (j : ℕ) → j < layout.columns → get_or ms j 0 ≡ get_or ws j 0

  pub doing_first : Doing (first_row to) ws r
  unfolding rows_to entries join layer_at
  doing_first = record {
    layer_to = omega arith;
    states_is = sym (count_first K T y);
    at_is = refl;
    state_in = le_refl 1;
    to_is = omega arith;
    stored_is = sym (stored_none 2 r to);
    kept = λ j _. refl;
  }

  module _ (w : Writing) (ms r' : List ℕ) (D : Doing w ms r') where
    pub doing_ends : T ≤ w.layer → r' ≡ stored 2 r to (output_words K T y T)
    unfolding rows_to join
    doing_ends h =
        let e : w.layer ≡ T = omega (arith, D.layer_to) in
        let z : w.state ≡ 0 = omega (arith, D.state_in, D.states_is, ap S e, count_last K T y (pow_pos layout.bits)) in
        D.stored_is ∙ ap₂ (λ (t k : ℕ). stored 2 r to (rows_to t k)) e z ∙ ap (stored 2 r to) (append-nil (output_words K T y T))

    module _ (inside : w.layer < T) where
      state_below : w.state < S w.layer
      state_below = omega (arith, D.state_in, D.states_is)

      pub at_row : AtRow layout w
      at_row = record { laid = L; inside = inside; at_is = D.at_is; state_in = omega (arith, state_below, count_at_most K T y w.layer, ap (λ (K : ℕ). K ^ w.layer) L.fan_is) }

      pub row_room : w.to + 2 * layout.fan ≤ length r
      row_room = omega (arith, D.to_is, rows_room w.layer w.state inside state_below)

      frame_outputs : layout.outputs * w.layer + layout.outputs ≤ layout.outputs * T
      frame_outputs = omega (arith, mul-suc layout.outputs w.layer, mul-le-mul_left layout.outputs inside)

      frame_bits : layout.bits * w.layer + layout.bits ≤ layout.bits * T
      frame_bits = omega (arith, mul-suc layout.bits w.layer, mul-le-mul_left layout.bits inside)

      -- the id of output i of the frame
      root_at : (i : ℕ) → i < layout.outputs → get_or ms (layout.roots + layout.outputs * w.layer + i) 0 ≡ W.subject.root (layout.outputs * w.layer + i)
      root_at i h =
          let e : layout.roots + layout.outputs * w.layer + i ≡ layout.roots + (layout.outputs * w.layer + i) = omega arith in
          D.kept _ (omega (arith, frame_outputs, L.apart)) ∙ ap (λ j. get_or ws j 0) e ∙ W.rooted (layout.outputs * w.layer + i) (omega (arith, frame_outputs))

      pub row_traceable : length ms ≡ length ws → Traceable ns ms (row_job s layout w)
      unfolding Holds
      row_traceable long = record {
        bits = layout.bits;
        fan_is = L.fan_is;
        standing = record {
          inputs = layout.bits * T;
          reduced = subst (Reduced (layout.bits * T)) W.diagrams W.given.reduced;
          inside = W.inside;
          most = frame_bits;
          few = L.bits_to;
        };
        apart = omega (arith, frame_outputs, L.apart);
        within = omega (arith, W.work_room, long);
        node = λ i h. subst (λ (f : ℕ). 0 < (nodes_in ns).level f) (sym (root_at i h))
            (subst (λ (E : Nodes). 0 < E.level (W.subject.root (layout.outputs * w.layer + i))) W.diagrams (W.given.holds (layout.outputs * w.layer + i) (omega (arith, frame_outputs))).0);
      }

      -- what is traced is the state's row
      module _ (zs : List ℕ) (X : Traced ns ms (row_job s layout w) zs) where
        abbrev t : ℕ
        t = w.layer

        abbrev h : ℕ
        h = history K T y w.layer w.state

        path_at : get_or s (w.at + w.state) 0 ≡ path_of layout.bits t h
        path_at =
            let e : w.at + w.state ≡ layer_at K t + w.state = omega (arith, D.at_is, ap (λ (K : ℕ). layer_at K t) L.fan_is) in
            ap (λ j. get_or s j 0) e ∙ W.explored.paths t w.state (omega arith) state_below

        id_at : (v j : ℕ) → v < layout.fan → j < layout.outputs
            → get_or zs (layout.columns + v * layout.outputs + j) 0 ≡ follow W.subject.D 1 (history_bits layout.bits (suc t) (h * K + v)) (W.subject.root (layout.outputs * t + j))
        id_at v j a b =
            let n = layout.bits in
            let E = W.subject.D in
            X.leads n v j L.fan_is a b
            ∙ ap (λ (E : Nodes). follow E (suc (n * t)) (word_bits n v) (follow E 1 (word_bits (n * t) (get_or s (w.at + w.state) 0)) (get_or ms (layout.roots + layout.outputs * t + j) 0))) (sym W.diagrams)
            ∙ ap₂ (λ (p f : ℕ). follow E (suc (n * t)) (word_bits n v) (follow E 1 (word_bits (n * t) p) f)) path_at (root_at j b)
            ∙ sym (follow_next E n t h v (W.subject.root (layout.outputs * t + j)) (omega (arith, L.fan_is)))
            ∙ ap (λ (vs : List Bool). follow E 1 vs (W.subject.root (layout.outputs * t + j))) (path_bits n (suc t) (h * K + v))

        word_is : (v : ℕ) → v < layout.fan → word_in zs (layout.columns + v * layout.outputs) layout.outputs ≡ y (suc t) (h * K + v)
        unfolding word_in Reads
        word_is v a =
            ap packed (listed_cong _ _ layout.outputs (λ j b.
            ap (λ f. eqb f 1) (id_at v j a b)
            ∙ read_output layout.bits layout.outputs T y W.subject.F W.subject.D W.subject.root W.given.reduced W.given.holds W.given.responds t j (h * K + v) inside b))
            ∙ sym (W.reads t (h * K + v) inside)

        pub row_is : row_in layout zs ≡ row_of t w.state
        unfolding row_in
        row_is = tabulate_cong layout.fan _ _ word_is ∙ ap (λ (n : ℕ). tabulate n ((folded K T y).out t w.state)) L.fan_is

        -- the row is stored, and w goes on
        module _ (r'' : List ℕ) (put : r'' ≡ stored 2 r' w.to (row_in layout zs)) where
          put_is : r'' ≡ stored 2 r to (rows_to t (w.state + 1))
          put_is =
              put ∙ ap (stored 2 r' w.to) row_is
              ∙ stored_behind 2 r r' to (rows_to t w.state) (row_of t w.state) w.to D.stored_is D.to_is (omega (arith, rows_room t w.state inside state_below))
              ∙ ap (stored 2 r to) (rows_state t w.state)

          to_next : w.to + 2 * layout.fan ≡ to + 2 * length (rows_to t (w.state + 1))
          to_next = omega (arith, D.to_is, rows_length t w.state, rows_length t (w.state + 1), ap (λ (n : ℕ). n * K) (add-one w.state), suc-mul w.state K, L.fan_is)

          still : (j : ℕ) → j < layout.columns → get_or zs j 0 ≡ get_or ws j 0
          still j l = X.before j l ∙ D.kept j l

          doing_same : w.state + 1 < w.states → Doing (same layout counts w) zs r''
          doing_same l = record {
            layer_to = D.layer_to;
            states_is = D.states_is;
            at_is = D.at_is;
            state_in = l;
            to_is = to_next;
            stored_is = put_is;
            kept = still;
          }

          doing_more : w.states ≤ w.state + 1 → Doing (more layout counts w) zs r''
          doing_more l =
              let e : w.state + 1 ≡ S t = omega (arith, D.state_in, D.states_is) in
              let q : rows_to t (w.state + 1) ≡ rows_to (t + 1) 0 = ap (rows_to t) e ∙ rows_layer t in
              let k : get_or counts (t + 1) 0 ≡ S (t + 1) = counts_all layout.bits layout.outputs T y counts W.counted (t + 1) (omega arith) in
              record {
                layer_to = omega arith;
                states_is = k;
                at_is = ap (λ (a : ℕ). a * layout.fan + 1) D.at_is ∙ sym (layer_next layout.fan t) ∙ ap (layer_at layout.fan) (sym (add-one t));
                state_in = omega (arith, k, some_state (t + 1));
                to_is = to_next ∙ ap (λ (l : List ℕ). to + 2 * length l) q;
                stored_is = put_is ∙ ap (stored 2 r to) q;
                kept = still;
              }

          pub doing_on : Doing (next_row layout counts w) zs r''
          doing_on = go (ltb (w.state + 1) w.states) refl
            where
              go : (b : Bool) → ltb (w.state + 1) w.states ≡ b → Doing (next_row layout counts w) zs r''
              go true e = let l = ltb-true _ _ e in subst (λ (w : Writing). Doing w zs r'') (row_same layout counts w l) (doing_same l)
              go false e = let l = ltb-false _ _ e in subst (λ (w : Writing). Doing w zs r'') (row_more layout counts w l) (doing_more l)
