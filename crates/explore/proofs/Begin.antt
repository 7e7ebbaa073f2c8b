-- The start, the next state, and the end. Assumes nothing.
use mathlib.Core.Path.{◌≡◌, refl, sym, ap, ◌∙◌, subst}
use mathlib.Core.List.{List}
use Prim.Native.Nat.{ℕ, zero, suc, ◌+◌, ◌*◌, ◌-◌, ◌^◌, ◌≤◌, ◌<◌}
use native.Mathlib.Nat.{le_refl, not-suc-le-zero, one-le-pow, mul-one, mul-le-mul_left}
use native.Mathlib.Numerals.{add-one}
use native.Mathlib.Omega.{arith}
use lib.ListN.{length, get_or, set, replicate, length-set}
use lib.Seq.{get_or-set_same, get_or-set_other}
use Rattle.layered.specs.States.{count, history}
use Rattle.layered.proofs.Search.{below_suc}
use Rattle.layered.proofs.States.{count_first}
use Rattle.diagrams.specs.Paths.{path_of}
use Rattle.diagrams.specs.Numbering.{number_same}
use Rattle.explore.specs.Explore.{layer_at, Laid, Explored, CountsTo, Subject, count_at, same_to, AtLayer, Numbered, Exploring, Startable, Underway, Moved, started, Groupable}
use Rattle.explore.specs.declared.Layout.{Layout}
use Rattle.explore.specs.declared.Cursor.{Cursor}
use Rattle.explore.proofs.Layers.{two_words, frames_to, outputs_le}
use Rattle.explore.proofs.Groups.{candidates_power, candidates_in}
use Rattle.explore.proofs.Turns.{group_starts, same_none}

-- ---- the start

-- where nothing was stored there is zero
pub zeros : (n i : ℕ) → ◌≡◌ {A = ℕ} (get_or (replicate n 0) i 0) 0
zeros zero i = refl
zeros (suc n) zero = refl
zeros (suc n) (suc i) = zeros n i

counts_first : (n m T : ℕ) (y : ℕ → ℕ → ℕ) → 1 ≤ T → T ≤ 16 → CountsTo n m T y (set (set (replicate 17 0) 0 1) T 1) 0
counts_first n m T y a b =
    let zs : List ℕ = replicate 17 0 in
    let size : length zs ≡ 17 = refl in
    let long : length (set zs 0 1) ≡ 17 = length-set zs 0 1 ∙ size in
    record {
      places = length-set (set zs 0 1) T 1 ∙ long;
      known = λ u h. below_suc {P = λ u. get_or (set (set zs 0 1) T 1) u 0 ≡ count (2 ^ n) T y u} (λ u h. absurd (omega arith))
          (get_or-set_other (set zs 0 1) T 0 1 0 (λ q. omega arith) ∙ get_or-set_same zs 0 1 0 (omega (arith, size)) ∙ sym (count_first (2 ^ n) T y)) u (omega arith);
      last = get_or-set_same (set zs 0 1) T 1 0 (omega (arith, long));
      none = λ u h f. get_or-set_other (set zs 0 1) T u 1 0 f ∙ get_or-set_other zs 0 u 1 0 (λ q. omega arith) ∙ zeros 17 u;
    }

module _ (layout : Layout) where
  first_cursor_lem : Cursor
  first_cursor_lem = record { layer = 0; states = 1; at = 0; first = layout.outputs; parts = 0; state = 0; counts = set (set (replicate 17 0) 0 1) layout.frames 1 }

  pub first_groupable : Laid layout → Groupable layout (record { layer = 0; states = 1; at = 0; first = layout.outputs; parts = 0; state = 0; counts = set (set (replicate 17 0) 0 1) layout.frames 1 })
  first_groupable L = record { laid = L; states_from = le_refl 1; states_to = omega arith; first_to = omega (arith, mul-le-mul_left layout.outputs L.frames_from, mul-one layout.outputs) }

  module _ (g : Subject) (s ws : List ℕ) (S : Startable layout g s ws) where
    L : Laid layout
    L = S.roomy.laid

    some_half : 1 ≤ layout.half
    some_half = omega (arith, L.half_is, one-le-pow layout.frames layout.fan (omega (arith, two_words layout L)))

    first_layer : AtLayer layout g s ws first_cursor_lem
    unfolding first_cursor_lem layer_at path_of
    first_layer = record {
      roomy = S.roomy;
      inside = L.frames_from;
      states_is = sym (count_first (2 ^ layout.bits) layout.frames g.y);
      at_is = refl;
      counted = counts_first layout.bits layout.outputs layout.frames g.y L.frames_from (frames_to layout L);
      explored = record {
        paths = λ u k h. below_suc {P = λ u. k < count_at layout g u → get_or s (layer_at (2 ^ layout.bits) u + k) 0 ≡ path_of layout.bits u (history (2 ^ layout.bits) layout.frames g.y u k)} {n = 0}
            (λ u h. absurd (omega arith)) (λ l. S.clean (0 + k) (omega (arith, count_first (2 ^ layout.bits) layout.frames g.y, some_half))) u (omega arith);
        nexts = λ u d h. absurd (not-suc-le-zero h);
      };
      zero_beyond = λ j a b. S.clean (layout.half + j) (omega arith);
    }

    pub start_holds : Exploring layout g s ws (started layout) (started layout).state
    unfolding first_cursor_lem Numbered
    start_holds =
        group_starts layout g s ws first_cursor_lem first_layer numbered (omega (arith, mul-one layout.outputs))
        (omega (arith, mul-le-mul_left layout.outputs L.frames_from, mul-one layout.outputs))
        (λ h. omega (arith, outputs_le layout L 2 layout.frames h, L.outputs_from))
      where
        numbered : Numbered layout g s first_cursor_lem
        numbered h d l =
            let z : layout.outputs - layout.outputs * 1 ≡ 0 = omega (arith, mul-one layout.outputs) in
            S.clean (layout.half + (layer_at layout.fan 1 + d)) (omega (arith, candidates_in layout g s ws first_cursor_lem first_layer h, candidates_power layout g s ws first_cursor_lem first_layer h))
            ∙ sym (ap (λ j. number_same (same_to layout g 0 j) d) z ∙ same_none layout g 0 d)

-- ---- the next state

module _ (layout : Layout) (g : Subject) (s ws : List ℕ) (c : Cursor) (E : Exploring layout g s ws c (suc c.state)) (l : c.state + 1 < c.states) where
  pub state_turn : Moved layout g s s ws c (record { layer = c.layer; states = c.states; at = c.at; first = c.first; parts = c.parts; state = c.state + 1; counts = c.counts })
  unfolding Numbered
  state_turn = let A = E.layered in record {
    on = record {
      layered = record { roomy = A.roomy; inside = A.inside; states_is = A.states_is; at_is = A.at_is; counted = A.counted; explored = A.explored; zero_beyond = A.zero_beyond };
      numbered = E.numbered;
      first_from = E.first_from;
      group_to = E.group_to;
      some = E.some;
      few = E.few;
      state_in = l;
      traced = λ d i h. E.traced d i (subst (λ (x : ℕ). d < x * layout.fan) (add-one c.state) h);
    };
    falls = omega arith;
    kept = λ j _. refl;
    long = refl;
  }

-- ---- the last state: all are traced

pub done_states : (layout : Layout) (g : Subject) (s ws : List ℕ) (c : Cursor) → Exploring layout g s ws c (suc c.state) → c.states ≤ c.state + 1 → Exploring layout g s ws c c.states
done_states layout g s ws c E h = let e : suc c.state ≡ c.states = omega (arith, E.state_in) in subst (Exploring layout g s ws c) e E

pub states_done : (layout : Layout) (s ws : List ℕ) (c : Cursor) → Underway layout s ws c (suc c.state) → c.states ≤ c.state + 1 → Underway layout s ws c c.states
states_done layout s ws c U h = record { subject = U.subject; exploring = done_states layout U.subject s ws c U.exploring h; more = U.more }

-- ---- the end

-- at the last layer but one all is known
pub explored_all : (layout : Layout) (g : Subject) (s ws : List ℕ) (c : Cursor) (done : ℕ) → Exploring layout g s ws c done → ¬ (suc c.layer < layout.frames) → (t : ℕ) → suc t ≡ layout.frames
    → Explored layout.bits layout.outputs layout.frames g.y layout.half s t × CountsTo layout.bits layout.outputs layout.frames g.y c.counts t
explored_all layout g s ws c done E f t e =
    let A = E.layered in
    let q : c.layer ≡ t = omega (arith, A.inside) in
    subst (λ t. Explored layout.bits layout.outputs layout.frames g.y layout.half s t × CountsTo layout.bits layout.outputs layout.frames g.y c.counts t) q (A.explored, A.counted)
