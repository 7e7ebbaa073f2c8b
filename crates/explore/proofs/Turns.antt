-- One group, or one layer, more. Assumes nothing.
use mathlib.Core.Path.{◌≡◌, sym, ap, ap₂, ◌∙◌, subst}
use mathlib.Core.Bool.{Bool}
use mathlib.Core.Logic.{◌↔◌}
use mathlib.Core.List.{List}
use Prim.Native.Nat.{ℕ, suc, ◌+◌, ◌*◌, ◌-◌, ◌/◌, ◌%◌, ◌^◌, ◌≤◌, ◌<◌, min}
use native.Mathlib.Nat.{le_refl, lt_of_lt_of_le, mod-lt, mul-suc, mul-div_cancel, pow-suc, mul-le-mul_left, mul-le-mul_right, mul-div-le, div-lt_iff_lt-mul, le-div_iff_mul-le}
use native.Mathlib.Omega.{arith}
use lib.Pow.{pow_mono, pow_pos}
use lib.Dec.{T as Yes, eqb}
use lib.ListN.{get_or, set, length-set}
use lib.Seq.{get_or-set_same, get_or-set_other}
use Rattle.layered.specs.States.{Equivalent, count, number, history}
use Rattle.layered.proofs.Search.{below_suc}
use Rattle.layered.proofs.States.{count_at_most}
use Rattle.diagrams.specs.Paths.{path_of}
use Rattle.diagrams.specs.Numbering.{number_same, count_same}
use Rattle.diagrams.specs.Forward.{candidate, Tells, ByClasses, StatesByClasses}
use Rattle.diagrams.specs.Leads.{same_leads, LeadsTell}
use Rattle.diagrams.proofs.Numbering.{number_hits, number-none}
use Rattle.diagrams.proofs.Paths.{path_next, path_below}
use Rattle.diagrams.proofs.Classes.{states_by_classes, leads_tell}
use Rattle.refine.specs.Rows.{number_in, same_row, Refined}
use Rattle.refine.specs.Collecting.{path_in, Collectable, Collected, NumberedBy}
use Rattle.refine.proofs.Collecting.{refined_by}
use Rattle.explore.specs.Explore.{column_count, layer_at, Laid, Explored, CountsTo, Subject, count_at, lead_at, same_to, Roomy, AtLayer, Numbered, Exploring, Moved, grouped, next_group, next_layer, rows_of, Groupable, Nextable}
use Rattle.explore.specs.declared.Layout.{Layout}
use Rattle.explore.specs.declared.Cursor.{Cursor}
use Rattle.explore.proofs.Layers.{layer_apart, two_words, frames_to, outputs_few, few_histories, outputs_le, few_states, some_state}
use Rattle.explore.proofs.Groups.{next_at, candidates_power, candidates_few, candidates_in, rowable, placed, row_same, refined_numbers}

-- ---- a group's start

module _ (layout : Layout) (g : Subject) (s ws : List ℕ) (c : Cursor) (A : AtLayer layout g s ws c) where
  -- the group that `grouped` makes
  pub group_starts : Numbered layout g s c → layout.outputs * suc c.layer ≤ c.first → c.first ≤ layout.outputs * layout.frames
      → (suc c.layer < layout.frames → c.first < layout.outputs * layout.frames) → Exploring layout g s ws (grouped layout c) (grouped layout c).state
  unfolding grouped Numbered
  group_starts N a b i =
      let L = A.roomy.laid in
      let q : ℕ = column_count / (c.states * layout.fan) in
      let pos : 1 ≤ c.states * layout.fan = omega (arith, mul-le-mul_right layout.fan (some_state layout L g c.layer), A.states_is, ap (λ (x : ℕ). x * layout.fan) A.states_is, two_words layout L) in
      let size : c.states * layout.fan * q ≤ column_count = mul-div-le column_count (c.states * layout.fan) in
      record {
        layered = record {
          roomy = A.roomy;
          inside = A.inside;
          states_is = A.states_is;
          at_is = A.at_is;
          counted = A.counted;
          explored = A.explored;
          zero_beyond = A.zero_beyond;
        };
        numbered = N;
        first_from = a;
        group_to = omega arith;
        some = λ more. omega (arith, i more, (le-div_iff_mul-le {x = 1} {y = column_count} pos).1 (omega (arith, candidates_few layout g s ws c A more)));
        few =
            let b : min (layout.outputs * layout.frames - c.first) q ≤ q = omega arith in
            omega (arith, mul-le-mul_left (c.states * layout.fan) b, size);
        state_in = omega (arith, A.states_is, some_state layout L g c.layer);
        traced = λ d j l h. absurd (omega arith);
      }

  pub groupable : c.first ≤ layout.outputs * layout.frames → Groupable layout c
  groupable b = record {
    laid = A.roomy.laid;
    states_from = omega (arith, A.states_is, some_state layout A.roomy.laid g c.layer);
    states_to = omega (arith, A.states_is, few_states layout A.roomy.laid g c.layer, few_histories layout A.roomy.laid c.layer A.inside);
    first_to = b;
  }

-- by no outputs all numbers are 0
pub same_none : (layout : Layout) (g : Subject) (t d : ℕ) → number_same (same_to layout g t 0) d ≡ 0
unfolding same_to
same_none layout g t d = number-none (λ i d b. eqb (lead_at layout g t d i) (lead_at layout g t b i)) d

-- one count more
counts_more : (n m T : ℕ) (y : ℕ → ℕ → ℕ) (counts : List ℕ) (t k : ℕ) → CountsTo n m T y counts t → suc t < T → T ≤ 16 → k ≡ count (2 ^ n) T y (suc t) → CountsTo n m T y (set counts (suc t) k) (suc t)
counts_more n m T y counts t k C l b e = record {
  places = length-set counts (suc t) k ∙ C.places;
  known = λ u h. below_suc {P = λ u. get_or (set counts (suc t) k) u 0 ≡ count (2 ^ n) T y u}
      (λ u h. get_or-set_other counts (suc t) u k 0 (λ q. omega arith) ∙ C.known u (omega arith))
      (get_or-set_same counts (suc t) k 0 (omega (arith, C.places)) ∙ e) u (omega arith);
  last = get_or-set_other counts (suc t) T k 0 (λ q. omega arith) ∙ C.last;
  none = λ u h f. get_or-set_other counts (suc t) u k 0 (λ q. omega arith) ∙ C.none u (omega arith) f;
}

-- ---- what is explored stays where its places do

module _ (n m T : ℕ) (y : ℕ → ℕ → ℕ) (two : 2 ≤ 2 ^ n) (half t : ℕ) (s r : List ℕ)
    (low : (j : ℕ) → j < layer_at (2 ^ n) (suc t) → get_or r j 0 ≡ get_or s j 0) (high : (j : ℕ) → j < layer_at (2 ^ n) (suc t) → get_or r (half + j) 0 ≡ get_or s (half + j) 0) where
  pub explored_kept : Explored n m T y half s t → Explored n m T y half r t
  explored_kept E = record {
    paths = λ u k h l. low (layer_at (2 ^ n) u + k) (omega (arith, layer_apart (2 ^ n) two u (suc t) (omega arith), count_at_most (2 ^ n) T y u)) ∙ E.paths u k h l;
    nexts = λ u c h l. high (layer_at (2 ^ n) (suc u) + c) (omega (arith, layer_apart (2 ^ n) two (suc u) (suc t) (omega arith), mul-le-mul_right (2 ^ n) (count_at_most (2 ^ n) T y u), pow-suc (2 ^ n) u)) ∙ E.nexts u c h l;
  }

-- ---- the candidates are numbered anew

module _ (layout : Layout) (g : Subject) (s ws : List ℕ) (c : Cursor) (more : suc c.layer < layout.frames) (E : Exploring layout g s ws c c.states)
    (r : List ℕ) (k : ℕ) (R : Refined s r ws (rows_of layout c) k) where
  A : AtLayer layout g s ws c
  A = E.layered

  L : Laid layout
  L = A.roomy.laid

  -- only the layer's own places change
  refined_low : (j : ℕ) → j < layer_at layout.fan (suc c.layer) → get_or r j 0 ≡ get_or s j 0
  refined_low j l = R.kept j (λ h. absurd (omega (arith, next_at layout g s ws c A))) (λ h. absurd (omega (arith, next_at layout g s ws c A)))

  refined_high : (j : ℕ) → j < layer_at layout.fan (suc c.layer) → get_or r (layout.half + j) 0 ≡ get_or s (layout.half + j) 0
  refined_high j l =
      R.kept (layout.half + j) (λ h. omega (arith, (rowable layout g s ws c A more).next_in)) (λ h. absurd (omega (arith, next_at layout g s ws c A)))

  refined_beyond : (j : ℕ) → layer_at layout.fan (suc (suc c.layer)) ≤ j → get_or r (layout.half + j) 0 ≡ get_or s (layout.half + j) 0
  unfolding layer_at
  refined_beyond j l =
      R.kept (layout.half + j) (λ h. omega (arith, (rowable layout g s ws c A more).next_in)) (λ h. omega (arith, next_at layout g s ws c A, candidates_power layout g s ws c A more))

  two : 2 ≤ 2 ^ layout.bits
  two = omega (arith, L.fan_is, two_words layout L)

  layer_places : (t : ℕ) → layer_at layout.fan t ≡ layer_at (2 ^ layout.bits) t
  layer_places t = ap (λ K. layer_at K t) L.fan_is

  refined_roomy : Roomy layout g r ws
  refined_roomy = record { given = A.roomy.given; laid = L; room = omega (arith, A.roomy.room, R.long); columns_room = A.roomy.columns_room; rooted = A.roomy.rooted }

  -- ---- where outputs are left, the next group follows

  module _ (left : c.first + c.parts < layout.outputs * layout.frames) where
    next_group_lem : Cursor
    next_group_lem = record { layer = c.layer; states = c.states; at = c.at; first = c.first + c.parts; parts = 0; state = 0; counts = c.counts }

    next_group_layer : AtLayer layout g r ws next_group_lem
    unfolding next_group_lem
    next_group_layer = record {
      roomy = refined_roomy;
      inside = A.inside;
      states_is = A.states_is;
      at_is = A.at_is;
      counted = A.counted;
      explored = explored_kept layout.bits layout.outputs layout.frames g.y two layout.half c.layer s r
          (λ j l. refined_low j (omega (arith, layer_places (suc c.layer)))) (λ j l. refined_high j (omega (arith, layer_places (suc c.layer)))) A.explored;
      zero_beyond = λ j a b. refined_beyond j a ∙ A.zero_beyond j a b;
    }

    pub group_turn : Moved layout g s r ws c (next_group layout c)
    unfolding next_group_lem grouped Numbered
    group_turn = record {
      on = group_starts layout g r ws next_group_lem next_group_layer
          (λ _ d l. refined_numbers layout g s ws c more E r k R d l ∙ ap (λ j. number_same (same_to layout g c.layer j) d) after)
          (omega (arith, E.first_from)) (omega arith) (λ _. left);
      falls = omega (arith, E.some more, E.state_in, A.states_is, few_states layout L g c.layer, few_histories layout L c.layer A.inside);
      kept = λ j l. R.kept j (λ h. omega (arith, (rowable layout g s ws c A more).next_in)) (λ h. omega (arith, (rowable layout g s ws c A more).next_in));
      long = R.long;
    }
      where
        after : c.first - layout.outputs * suc c.layer + c.parts ≡ c.first + c.parts - layout.outputs * suc c.layer
        after = omega (arith, E.first_from)

  -- ---- where none are, the states of the next layer are known

  module _ (whole : c.first + c.parts ≡ layout.outputs * layout.frames) where
    K : ℕ
    K = 2 ^ layout.bits

    same : ℕ → ℕ → Bool
    same = same_row (number_in s (rows_of layout c)) ws (rows_of layout c)

    all_is : c.states * layout.fan ≡ count_at layout g c.layer * 2 ^ layout.bits
    all_is = ap₂ (λ (a b : ℕ). a * b) A.states_is L.fan_is

    same-leads : (d b : ℕ) → d < c.states * layout.fan → b < c.states * layout.fan
        → same d b ≡ same_leads layout.bits layout.outputs layout.frames g.y g.D g.root c.layer d b
    unfolding same same_leads same_to
    same-leads d b h l =
        let e : c.first - layout.outputs * suc c.layer + c.parts ≡ layout.outputs * layout.frames - layout.outputs * suc c.layer = omega (arith, E.first_from) in
        row_same layout g s ws c more E d b h l ∙ ap (λ j. same_to layout g c.layer j d b) e

    tells : Tells K layout.frames g.y c.layer same
    unfolding Tells LeadsTell K
    tells d b h l =
        subst (λ x. Yes x ↔ Equivalent K layout.frames g.y (suc c.layer) (candidate K layout.frames g.y c.layer d) (candidate K layout.frames g.y c.layer b))
        (sym (same-leads d b (omega (arith, all_is)) (omega (arith, all_is))))
        (leads_tell layout.bits layout.outputs layout.frames g.y g.F g.D g.root A.roomy.given.reduced A.roomy.given.holds A.roomy.given.responds c.layer A.inside d b h l)

    classes : ByClasses K layout.frames g.y c.layer same
    unfolding StatesByClasses K
    classes = states_by_classes K layout.frames g.y c.layer same (pow_pos layout.bits) A.inside tells

    pub count_is : k ≡ count_at layout g (suc c.layer)
    unfolding same K
    count_is = R.counted ∙ ap (count_same same) all_is ∙ classes.class_count

    -- the path of a candidate
    path_is : (d : ℕ) → d < c.states * layout.fan
        → path_in r c.at layout.fan (layout.bits * c.layer) d ≡ path_of layout.bits (suc c.layer) (candidate K layout.frames g.y c.layer d)
    unfolding K candidate
    path_is d l =
        let i : d / K < count_at layout g c.layer = (div-lt_iff_lt-mul (pow_pos layout.bits)).1 (omega (arith, all_is)) in
        let e : c.at + d / K ≡ layer_at K c.layer + d / K = omega (arith, A.at_is, layer_places c.layer) in
        let b : c.at + d / K < layer_at layout.fan (suc c.layer) = omega (arith, A.at_is, layer_apart layout.fan (two_words layout L) c.layer (suc c.layer) (le_refl _), few_states layout L g c.layer) in
        ap (λ (F : ℕ). get_or r (c.at + d / F) 0 + d % F * 2 ^ (layout.bits * c.layer)) L.fan_is
        ∙ ap (λ x. x + d % K * 2 ^ (layout.bits * c.layer)) (refined_low (c.at + d / K) b ∙ ap (λ j. get_or s j 0) e ∙ A.explored.paths c.layer (d / K) (le_refl _) i)
        ∙ sym (path_next layout.bits c.layer (history K layout.frames g.y c.layer (d / K)) (d % K) (mod-lt d (pow_pos layout.bits)))

    pub collectable : Collectable r (rows_of layout c) c.at layout.fan (layout.bits * c.layer)
    collectable =
        let P = placed layout g s ws c more E in
        let pos : 0 < layout.fan = omega (arith, two_words layout L) in
        let q : c.states * layout.fan / layout.fan ≡ c.states = mul-div_cancel c.states pos in
        let behind : c.at + c.states ≤ c.at * layout.fan + 1 = omega (arith, A.at_is, next_at layout g s ws c A, A.states_is, few_states layout L g c.layer, layer_apart layout.fan (two_words layout L) c.layer (suc c.layer) (le_refl _)) in
        record {
          copy_before = P.copy_before;
          numbers_in = omega (arith, P.numbers_in, R.long);
          paths_in = omega (arith, q, behind, P.numbers_in, R.long);
          apart = λ i l h. absurd (omega (arith, q, behind));
          words = pos;
          whole = ap (λ (x : ℕ). x * layout.fan) q;
          shift = omega (arith, L.bits_to, mul-le-mul_left layout.bits A.inside, mul-suc layout.bits c.layer);
          short = λ d l. rw (path_is d l) (lt_of_lt_of_le (path_below layout.bits (suc c.layer) _) (pow_mono {j = 16} (omega (arith, L.bits_to, mul-le-mul_left layout.bits A.inside))));
        }

    pub nextable : Nextable layout c k
    nextable = record {
      laid = L;
      more = more;
      counts_in = A.counted.places;
      count_from = omega (arith, count_is, some_state layout L g (suc c.layer));
      count_to = omega (arith, count_is, few_states layout L g (suc c.layer), few_histories layout L (suc c.layer) more);
    }

    -- ---- and their paths collected

    module _ (q : List ℕ) (C : Collected r q (rows_of layout c) c.at layout.fan (layout.bits * c.layer)) where
      collected_low : (j : ℕ) → j < layer_at layout.fan (suc c.layer) → get_or q j 0 ≡ get_or s j 0
      collected_low j l = C.kept j (λ h. absurd (omega (arith, next_at layout g s ws c A))) ∙ refined_low j l

      collected_half : (j : ℕ) → get_or q (layout.half + j) 0 ≡ get_or r (layout.half + j) 0
      collected_half j = C.kept (layout.half + j) (λ h. omega (arith, (rowable layout g s ws c A more).next_in))

      numbers : NumberedBy same r (rows_of layout c)
      unfolding same
      numbers = refined_by s r ws (rows_of layout c) k R

      new_paths : (j : ℕ) → j < count_at layout g (suc c.layer) → get_or q (layer_at K (suc c.layer) + j) 0 ≡ path_of layout.bits (suc c.layer) (history K layout.frames g.y (suc c.layer) j)
      unfolding K
      new_paths j l =
          let (d, b, new, e) = number_hits same (count_at layout g c.layer * K) j (omega (arith, classes.class_count)) in
          let i : d < c.states * layout.fan = omega (arith, all_is) in
          let p : layer_at K (suc c.layer) + j ≡ c.at * layout.fan + 1 + number_same same d = omega (arith, e, next_at layout g s ws c A, layer_places (suc c.layer)) in
          ap (λ a. get_or q a 0) p ∙ C.paths same numbers d i new ∙ path_is d i
          ∙ ap (path_of layout.bits (suc c.layer)) (sym (classes.class_history d b new) ∙ ap (history K layout.frames g.y (suc c.layer)) e)

      new_nexts : (d : ℕ) → d < count_at layout g c.layer * K → get_or q (layout.half + (layer_at K (suc c.layer) + d)) 0 ≡ number K layout.frames g.y (suc c.layer) (candidate K layout.frames g.y c.layer d)
      unfolding K same
      new_nexts d l =
          let e : layout.half + (layer_at K (suc c.layer) + d) ≡ layout.half + (c.at * layout.fan + 1) + d = omega (arith, next_at layout g s ws c A, layer_places (suc c.layer)) in
          collected_half (layer_at K (suc c.layer) + d) ∙ ap (λ j. get_or r j 0) e ∙ R.numbered d (omega (arith, all_is)) ∙ classes.class_number d l

      old : Explored layout.bits layout.outputs layout.frames g.y layout.half q c.layer
      old = explored_kept layout.bits layout.outputs layout.frames g.y two layout.half c.layer s q
          (λ j l. collected_low j (omega (arith, layer_places (suc c.layer)))) (λ j l. collected_half j ∙ refined_high j (omega (arith, layer_places (suc c.layer)))) A.explored

      explored_next : Explored layout.bits layout.outputs layout.frames g.y layout.half q (suc c.layer)
      unfolding K
      explored_next = record {
        paths = λ u j h. below_suc {P = λ u. j < count_at layout g u → get_or q (layer_at K u + j) 0 ≡ path_of layout.bits u (history K layout.frames g.y u j)}
            (λ u h l. old.paths u j (omega arith) l) (new_paths j) u (omega arith);
        nexts = λ u d. below_suc {P = λ u. d < count_at layout g u * K → get_or q (layout.half + (layer_at K (suc u) + d)) 0 ≡ number K layout.frames g.y (suc u) (candidate K layout.frames g.y u d)}
            (λ u h l. old.nexts u d h l) (new_nexts d) u;
      }

      counted_next : CountsTo layout.bits layout.outputs layout.frames g.y (set c.counts (suc c.layer) k) (suc c.layer)
      counted_next = counts_more layout.bits layout.outputs layout.frames g.y c.counts c.layer k A.counted more (frames_to layout L) count_is

      next_layer_lem : Cursor
      next_layer_lem = record {
        layer = suc c.layer;
        states = k;
        at = c.at * layout.fan + 1;
        first = layout.outputs * suc (suc c.layer);
        parts = 0;
        state = 0;
        counts = set c.counts (suc c.layer) k;
      }

      next_layer_layer : AtLayer layout g q ws next_layer_lem
      unfolding next_layer_lem
      next_layer_layer = record {
        roomy = record { given = A.roomy.given; laid = L; room = omega (arith, A.roomy.room, R.long, C.long); columns_room = A.roomy.columns_room; rooted = A.roomy.rooted };
        inside = more;
        states_is = count_is;
        at_is = next_at layout g s ws c A;
        counted = counted_next;
        explored = explored_next;
        zero_beyond = λ j a b. zeros j (omega (arith, layer_apart layout.fan (two_words layout L) (suc (suc c.layer)) (suc (suc (suc c.layer))) (le_refl _))) b;
      }
        where
          zeros : (j : ℕ) → layer_at layout.fan (suc (suc c.layer)) ≤ j → j < layout.half → get_or q (layout.half + j) 0 ≡ 0
          zeros j a b = collected_half j ∙ refined_beyond j a ∙ A.zero_beyond j a b

      pub layer_turn : Moved layout g s q ws c (next_layer layout c k)
      unfolding next_layer_lem grouped Numbered
      layer_turn = record {
        on = group_starts layout g q ws next_layer_lem next_layer_layer numbered (le_refl _) (outputs_le layout L (suc (suc c.layer)) layout.frames more)
            (λ h. omega (arith, outputs_le layout L (suc (suc (suc c.layer))) layout.frames h, mul-suc layout.outputs (suc (suc c.layer)), L.outputs_from));
        falls = omega (arith, more, outputs_few layout L, nextable.count_to);
        kept = λ j l. C.kept j (λ h. omega (arith, (rowable layout g s ws c A more).next_in))
            ∙ R.kept j (λ h. omega (arith, (rowable layout g s ws c A more).next_in)) (λ h. omega (arith, (rowable layout g s ws c A more).next_in));
        long = C.long ∙ R.long;
      }
        where
          numbered : Numbered layout g q next_layer_lem
          numbered h d l =
              let b : layer_at layout.fan (suc (suc c.layer)) + d < layout.half = omega (arith, candidates_in layout g q ws next_layer_lem next_layer_layer h, candidates_power layout g q ws next_layer_lem next_layer_layer h) in
              let z : layout.outputs * suc (suc c.layer) - layout.outputs * suc (suc c.layer) ≡ 0 = omega arith in
              collected_half (layer_at layout.fan (suc (suc c.layer)) + d) ∙ refined_beyond (layer_at layout.fan (suc (suc c.layer)) + d) (omega arith)
              ∙ A.zero_beyond (layer_at layout.fan (suc (suc c.layer)) + d) (omega arith) b
              ∙ sym (ap (λ j. number_same (same_to layout g (suc c.layer) j) d) z ∙ same_none layout g (suc c.layer) d)
