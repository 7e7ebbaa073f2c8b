-- A turn of an exploration, and its end, for whatever is explored. Assumes nothing.
use mathlib.Core.Path.{◌≡◌, refl, sym, ◌∙◌, subst}
use mathlib.Core.List.{List}
use Prim.Native.Nat.{ℕ, suc, ◌+◌, ◌*◌, ◌-◌, ◌≤◌, ◌<◌}
use native.Mathlib.Omega.{arith}
use lib.ListN.{length, get_or}
use Rattle.diagrams.specs.Diagrams.{follow}
use Rattle.diagrams.specs.Frames.{word_bits}
use Rattle.nodes.specs.declared.Node.{Node}
use Rattle.records.specs.Records.{nodes_in}
use Rattle.descend.specs.Descend.{Traceable, Traced}
use Rattle.descend.specs.declared.Job.{Job}
use Rattle.descend.proofs.Laws.{standing_less}
use Rattle.explore.specs.Explore.{Laid, Subject, Exploring, Startable, Underway, Moved, Moves, Starts, steps_left, job_of, Explorable, Ends}
use Rattle.explore.specs.declared.Layout.{Layout}
use Rattle.explore.specs.declared.Cursor.{Cursor}
use Rattle.explore.proofs.Layers.{frames_to}
use Rattle.explore.proofs.Begin.{explored_all}
use Rattle.explore.proofs.Jobs.{JobFits, job_fits, traced_on}

module _ (layout : Layout) (ns : List Node) (s ws : List ℕ) (pre : Explorable layout ns s ws) where
  -- how far it has come: s became r, ws became us, and it stands at c
  pub record Reached (r us : List ℕ) (c : Cursor) : Type 0 where
    pub exploring : (g : Subject) → Startable layout g s ws → g.D ≡ nodes_in ns → Exploring layout g r us c c.state
    pub long : length r ≡ length s
    pub work_long : length us ≡ length ws
    pub beyond : (j : ℕ) → 2 * layout.half ≤ j → get_or r j 0 ≡ get_or s j 0
    pub before : (i : ℕ) → i < layout.columns → get_or us i 0 ≡ get_or ws i 0

  pub laid : Laid layout
  laid = pre.startable.roomy.laid

  pub reached_first : (c : Cursor) → Starts layout c → Reached s ws c
  reached_first c S = record { exploring = λ g p _. S g s ws p; long = refl; work_long = refl; beyond = λ _ _. refl; before = λ _ _. refl }

  pub reached_layer : (r us : List ℕ) (c : Cursor) → Reached r us c → c.layer < 16
  reached_layer r us c R = omega (arith, (R.exploring pre.subject pre.startable pre.diagrams).layered.inside, frames_to layout laid)

  module _ (r us : List ℕ) (c : Cursor) (R : Reached r us c) (more : c.layer + 1 < layout.frames) where
    here : Exploring layout pre.subject r us c c.state
    here = R.exploring pre.subject pre.startable pre.diagrams

    pub underway : (us : List ℕ) × Underway layout r us c c.state
    underway = (us, record { subject = pre.subject; exploring = here; more = omega arith })

    fits : JobFits layout pre.subject r us (job_of r layout c)
    fits = job_fits layout pre.subject r us c here

    module _ (job : Job) (e : job ≡ job_of r layout c) where
      pub traceable : Traceable ns us job
      traceable = subst (Traceable ns us) (sym e) (record {
        bits = layout.bits;
        fan_is = fits.fan_is;
        standing = standing_less ns _ _ fits.top_to pre.standing;
        apart = fits.apart;
        within = fits.within;
        node = λ i l. subst (λ D. 0 < D.level (get_or us ((job_of r layout c).from + i) 0)) pre.diagrams (fits.node i l);
      })

      module _ (ms : List ℕ) (long : length ms ≡ length us) (T : Traced ns us job ms) where
        traced : Traced ns us (job_of r layout c) ms
        traced = subst (λ job. Traced ns us job ms) e T

        state_done : (g : Subject) → Startable layout g s ws → g.D ≡ nodes_in ns → Exploring layout g r ms c (suc c.state)
        state_done g p q =
            let job = job_of r layout c in
            traced_on layout g r us c (R.exploring g p q) ms long
            (λ w i l h. subst (λ D. get_or ms (job.at + w * job.count + i) 0 ≡ follow D (suc job.top) (word_bits layout.bits w) (follow D 1 (word_bits job.top job.path) (get_or us (job.from + i) 0))) (sym q) (traced.leads layout.bits w i fits.fan_is l h))
            traced.before

        pub done_underway : Underway layout r ms c (suc c.state)
        done_underway = record { subject = pre.subject; exploring = state_done pre.subject pre.startable pre.diagrams; more = omega arith }

        module _ (q : List ℕ) (d : Cursor) (M : Moves layout r q ms c (suc c.state) d) where
          moved : Moved layout pre.subject r q ms c d
          moved = M pre.subject (state_done pre.subject pre.startable pre.diagrams)

          pub reached_on : Reached q ms d
          reached_on = record {
            exploring = λ g p e. (M g (state_done g p e)).on;
            long = moved.long ∙ R.long;
            work_long = long ∙ R.work_long;
            beyond = λ j h. moved.kept j h ∙ R.beyond j h;
            before = λ i h. traced.before i (omega arith) ∙ R.before i h;
          }

          pub reached_nearer : steps_left layout d < steps_left layout c
          reached_nearer = moved.falls

  pub reached_ends : (r us : List ℕ) (c : Cursor) → Reached r us c → layout.frames ≤ c.layer + 1 → Ends layout ns s r ws us c
  reached_ends r us c R none g p q =
      let all = explored_all layout g r us c c.state (R.exploring g p q) (λ h. omega arith) (layout.frames - 1) (omega (arith, laid.frames_from)) in
      record { explored = all.0; counted = all.1; beyond = R.beyond; before = R.before }
