-- What is followed for a state of the group, and what that adds. Assumes nothing.
use mathlib.Core.Path.{◌≡◌, sym, ap, ap₂, ◌∙◌, subst}
use mathlib.Core.List.{List}
use mathlib.Core.Logic.{⊎_elim}
use Prim.Native.Nat.{ℕ, suc, ◌+◌, ◌*◌, ◌-◌, ◌/◌, ◌%◌, ◌^◌, ◌≤◌, ◌<◌}
use native.Mathlib.Nat.{le_refl, lt_of_lt_of_le, mul-suc, suc-mul, add-mul, mul-le-mul_left, mul-le-mul_right}
use native.Mathlib.Omega.{arith}
use lib.Arith.{digits_lt, digits_div, digits_mod}
use lib.Pow.{pow_mono}
use lib.Dec.{ltb, ltb→lt, lt→ltb}
use lib.ListN.{length, get_or}
use Rattle.layered.proofs.Search.{case}
use Rattle.layered.specs.States.{history}
use Rattle.diagrams.specs.Diagrams.{follow}
use Rattle.diagrams.specs.Theorems.{Holds}
use Rattle.diagrams.specs.Frames.{word_bits}
use Rattle.diagrams.specs.Paths.{path_of}
use Rattle.diagrams.proofs.Paths.{path_below}
use Rattle.diagrams.proofs.Classes.{lead_next}
use Rattle.explore.specs.Explore.{column_count, layer_at, Laid, Subject, lead_at, AtLayer, Numbered, Exploring, Underway, job_of}
use Rattle.explore.specs.declared.Layout.{Layout}
use Rattle.explore.specs.declared.Cursor.{Cursor}
use Rattle.descend.specs.declared.Job.{Job}
use Rattle.explore.proofs.Layers.{layer_in, two_words, half_to, few_states}
use Rattle.explore.proofs.Groups.{candidates_few}

module _ (layout : Layout) (g : Subject) (s ws : List ℕ) (c : Cursor) (done : ℕ) (E : Exploring layout g s ws c done) where
  A : AtLayer layout g s ws c
  A = E.layered

  L : Laid layout
  L = A.roomy.laid

  -- the state's path stands in the half
  pub place_in : c.at + c.state < layout.half
  place_in = omega (arith, A.at_is, E.state_in, A.states_is, few_states layout L g c.layer, layer_in layout.fan (two_words layout L) c.layer layout.frames A.inside, L.half_is)

  pub top_to : layout.bits * c.layer + layout.bits ≤ layout.bits * layout.frames
  top_to = omega (arith, mul-suc layout.bits c.layer, mul-le-mul_left layout.bits A.inside)

  -- a state's ids end where those of the next begin
  pub column_next : c.state * layout.fan * c.parts + layout.fan * c.parts ≡ suc c.state * layout.fan * c.parts
  column_next = sym (ap (λ (x : ℕ). x * c.parts) (suc-mul c.state layout.fan) ∙ add-mul (c.state * layout.fan) layout.fan c.parts)

  pub columns_to : c.state * layout.fan * c.parts + layout.fan * c.parts ≤ column_count
  columns_to = omega (arith, column_next, mul-le-mul_right c.parts (mul-le-mul_right layout.fan E.state_in), E.few)

  -- the state's path
  pub path_at : get_or s (c.at + c.state) 0 ≡ path_of layout.bits c.layer (history (2 ^ layout.bits) layout.frames g.y c.layer c.state)
  path_at =
      let e : c.at + c.state ≡ layer_at (2 ^ layout.bits) c.layer + c.state = omega (arith, A.at_is, ap (λ K. layer_at K c.layer) L.fan_is) in
      ap (λ j. get_or s j 0) e ∙ A.explored.paths c.layer c.state (le_refl _) (omega (arith, E.state_in, A.states_is))

-- what `job_of` needs of numbers
pub record JobSafe (layout : Layout) (s : List ℕ) (c : Cursor) : Type 0 where
  pub near : layout.columns ≤ 65536
  pub from_to : layout.roots + c.first ≤ 65536
  pub at_to : c.at + c.state < 65536
  pub at_in : c.at + c.state < length s
  pub path_to : get_or s (c.at + c.state) 0 < 65536
  pub top_fits : layout.bits * c.layer ≤ 16
  pub words_to : c.state * layout.fan ≤ column_count
  pub columns_fit : c.state * layout.fan * c.parts ≤ column_count

pub job_safe : (layout : Layout) (s : List ℕ) (c : Cursor) → ((ws : List ℕ) × Underway layout s ws c c.state) → JobSafe layout s c
job_safe layout s c (ws, U) =
    let g = U.subject in
    let E = U.exploring in
    let A = E.layered in
    let L = A.roomy.laid in
    record {
      near = L.near;
      from_to = omega (arith, E.group_to, L.apart, L.near);
      at_to = omega (arith, place_in layout g s ws c c.state E, half_to layout L);
      at_in = omega (arith, place_in layout g s ws c c.state E, A.roomy.room);
      path_to = rw (path_at layout g s ws c c.state E) (lt_of_lt_of_le (path_below layout.bits c.layer _) (pow_mono {j = 16} (omega (arith, top_to layout g s ws c c.state E, L.bits_to))));
      top_fits = omega (arith, top_to layout g s ws c c.state E, L.bits_to);
      words_to = omega (arith, candidates_few layout g s ws c A U.more, mul-le-mul_right {m = c.state} {n = c.states} layout.fan (omega (arith, E.state_in)));
      columns_fit = omega (arith, columns_to layout g s ws c c.state E);
    }

-- what `trace` needs of the job
pub record JobFits (layout : Layout) (g : Subject) (s ws : List ℕ) (job : Job) : Type 0 where
  pub fan_is : job.fan ≡ 2 ^ layout.bits
  pub top_to : job.top + layout.bits ≤ layout.bits * layout.frames
  pub apart : job.from + job.count ≤ job.at
  pub within : job.at + job.fan * job.count ≤ length ws
  pub node : (i : ℕ) → i < job.count → 0 < g.D.level (get_or ws (job.from + i) 0)

module _ (layout : Layout) (g : Subject) (s ws : List ℕ) (c : Cursor) (E : Exploring layout g s ws c c.state) where
  abbrev job : Job
  job = job_of s layout c

  root_at : (i : ℕ) → i < c.parts → get_or ws (layout.roots + c.first + i) 0 ≡ g.root (c.first + i)
  root_at i l =
      let e : layout.roots + c.first + i ≡ layout.roots + (c.first + i) = omega arith in
      ap (λ j. get_or ws j 0) e ∙ E.layered.roomy.rooted (c.first + i) (omega (arith, E.group_to))

  pub job_fits : JobFits layout g s ws (job_of s layout c)
  unfolding Holds
  job_fits = let R = E.layered.roomy in record {
    fan_is = R.laid.fan_is;
    top_to = top_to layout g s ws c c.state E;
    apart = omega (arith, E.group_to, R.laid.apart);
    within = omega (arith, columns_to layout g s ws c c.state E, R.columns_room);
    node = λ i l. subst (λ f. 0 < g.D.level f) (sym (root_at i l)) (R.given.holds (c.first + i) (omega (arith, E.group_to))).0;
  }

  -- what is followed
  module _ (ms : List ℕ) (long : length ms ≡ length ws)
      (leads : (w i : ℕ) → w < job.fan → i < job.count
      → get_or ms (job.at + w * job.count + i) 0 ≡ follow g.D (suc job.top) (word_bits layout.bits w) (follow g.D 1 (word_bits job.top job.path) (get_or ws (job.from + i) 0)))
      (before : (j : ℕ) → j < job.at → get_or ms j 0 ≡ get_or ws j 0) where
    -- the ids of word w after the state
    word_leads : (w i : ℕ) → w < layout.fan → i < c.parts
        → get_or ms (layout.columns + (c.state * layout.fan + w) * c.parts + i) 0 ≡ lead_at layout g c.layer (c.state * layout.fan + w) (c.first - layout.outputs * suc c.layer + i)
    word_leads w i l h =
        let K : ℕ = 2 ^ layout.bits in
        let d : ℕ = c.state * layout.fan + w in
        let F = layout.fan in
        let o : layout.outputs * suc c.layer + (c.first - layout.outputs * suc c.layer + i) ≡ c.first + i = omega (arith, E.first_from) in
        let p : layout.columns + d * c.parts + i ≡ layout.columns + c.state * layout.fan * c.parts + w * c.parts + i = omega (arith, add-mul (c.state * layout.fan) w c.parts) in
        let a : d / K ≡ c.state = ap (λ (K : ℕ). d / K) (sym E.layered.roomy.laid.fan_is) ∙ digits_div c.state l in
        let b : d % K ≡ w = ap (λ (K : ℕ). d % K) (sym E.layered.roomy.laid.fan_is) ∙ digits_mod c.state l in
        let n = layout.bits in
        let t = c.layer in
        ap (λ j. get_or ms j 0) p ∙ leads w i l h
        ∙ ap₂ (λ p f. follow g.D (suc (n * t)) (word_bits n w) (follow g.D 1 (word_bits (n * t) p) f)) (path_at layout g s ws c c.state E) (root_at i h ∙ ap g.root (sym o))
        ∙ sym (lead_next n layout.outputs layout.frames g.y g.D g.root t d (c.first - layout.outputs * suc c.layer + i)
        ∙ ap₂ (λ w k. follow g.D (suc (n * t)) (word_bits n w) (follow g.D 1 (word_bits (n * t) (path_of n t (history K layout.frames g.y t k))) (g.root (layout.outputs * suc t + (c.first - layout.outputs * suc t + i))))) b a)

    pub traced_on : Exploring layout g s ms c (suc c.state)
    unfolding Numbered
    traced_on = let A = E.layered in record {
      layered = record {
        roomy = record {
          given = A.roomy.given;
          laid = A.roomy.laid;
          room = A.roomy.room;
          columns_room = omega (arith, long, A.roomy.columns_room);
          rooted = λ o l. before (layout.roots + o) (omega (arith, A.roomy.laid.apart)) ∙ A.roomy.rooted o l;
        };
        inside = A.inside;
        states_is = A.states_is;
        at_is = A.at_is;
        counted = A.counted;
        explored = A.explored;
        zero_beyond = A.zero_beyond;
      };
      numbered = E.numbered;
      first_from = E.first_from;
      group_to = E.group_to;
      some = E.some;
      few = E.few;
      state_in = E.state_in;
      traced = traced;
    }
      where
        traced : (d i : ℕ) → d < suc c.state * layout.fan → i < c.parts → get_or ms (layout.columns + d * c.parts + i) 0 ≡ lead_at layout g c.layer d (c.first - layout.outputs * suc c.layer + i)
        traced d i l h = ⊎_elim (λ t. old (ltb→lt _ _ t)) (λ f. new (λ l. f (lt→ltb d (c.state * layout.fan) l))) (case (ltb d (c.state * layout.fan)))
          where
            old : d < c.state * layout.fan → get_or ms (layout.columns + d * c.parts + i) 0 ≡ lead_at layout g c.layer d (c.first - layout.outputs * suc c.layer + i)
            old b = before (layout.columns + d * c.parts + i) (omega (arith, digits_lt {m = c.state * layout.fan} {c = c.parts} b h)) ∙ E.traced d i b h

            new : ¬ (d < c.state * layout.fan) → get_or ms (layout.columns + d * c.parts + i) 0 ≡ lead_at layout g c.layer d (c.first - layout.outputs * suc c.layer + i)
            new b =
                let w : ℕ = d - c.state * layout.fan in
                let e : c.state * layout.fan + w ≡ d = omega arith in
                subst (λ d. get_or ms (layout.columns + d * c.parts + i) 0 ≡ lead_at layout g c.layer d (c.first - layout.outputs * suc c.layer + i)) e
                (word_leads w i (omega (arith, suc-mul c.state layout.fan)) h)
