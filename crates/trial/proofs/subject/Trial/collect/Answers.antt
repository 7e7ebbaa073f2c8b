-- `trial::collect` meets its contract. The invariant: the histories before h are collected, and no bit is demanded both ways.
-- Assumes nothing.
use mathlib.Core.Path.{refl, sym, ◌∙◌}
use Prim.Native.Nat.{suc, ◌^◌, ◌<◌}
use native.Mathlib.Numerals.{add-one}
use native.Mathlib.Omega.{arith}
use lib.ListN.{length, length-set}
use Rattle.trial.specs.Collected.{all, clash}
use Rattle.trial.proofs.Places.{few_entries, few_frames, head_in}
use Rattle.trial.proofs.Collecting.{turn_on, turn_ends, halves_next, halves_skip}
use Rattle.trial.proofs.subject.Trial.collect.Goals as goal
use Rattle.trial.proofs.subject.Trial.collect.Goals.{After-come-visit}

pub connected_of-mask-requires : goal.connected_of-mask-requires
connected_of-mask-requires c =
    record {
      last_value = (c.args.self.held.frames_are, few_frames _ _ _ c.args.self.held, c.requires.t_lt_frames.0);
      last_in_bounds = head_in _ _ _ c.args.self.held;
    }

pub returns-then-mask-eq0 : goal.returns-then-mask-eq0
returns-then-mask-eq0 c =
    all refl (halves_skip _ _ _ _ _ _ (sym c.connected_of-mask.ensures.0 ∙ omega (arith, c.if-mask-eq0.true)) c.requires.halves)

pub loop-h-init : goal.loop-h-init
loop-h-init c =
    (omega arith, c.requires.halves, refl, refl)

-- ---- in a turn

below : (c : After-come-visit) → c.loop-h.h < c.args.self.sought.words ^ suc c.args.t
below c = omega (arith, c.requires.t_lt_frames.1)

-- the entry lies in both lists
inside : (c : After-come-visit) → (c.come-visit.result.entry < length c.loop-h.ones) × (c.come-visit.result.entry < length c.loop-h.zeros)
inside c = (omega (arith, c.come-visit.ensures.bounds.0, c.loop-h.invariant.1.one.long), omega (arith, c.come-visit.ensures.bounds.0, c.loop-h.invariant.1.zero.long))

few : (c : After-come-visit) → c.come-visit.result.entry < 12
few c = omega (arith, c.come-visit.ensures.bounds.0, few_entries _ _ _ c.args.self.held)

pub come-visit-requires : goal.come-visit-requires
come-visit-requires c = (c.requires.t_lt_frames.0, omega (arith, c.requires.t_lt_frames.1))

pub offset_bounds-ones-e : goal.offset_bounds-ones-e
offset_bounds-ones-e c = omega (arith, few (goal.at.offset_bounds-ones-e c).After-come-visit)

pub bounds-ones-e : goal.bounds-ones-e
bounds-ones-e c = (inside (goal.at.bounds-ones-e c).After-come-visit).0

pub offset_bounds-zeros-e : goal.offset_bounds-zeros-e
offset_bounds-zeros-e c = omega (arith, few (goal.at.offset_bounds-zeros-e c).After-come-visit)

pub bounds-zeros-e : goal.bounds-zeros-e
bounds-zeros-e c = (inside (goal.at.bounds-zeros-e c).After-come-visit).1

pub offset_bounds-ones-e-in-loop-h : goal.offset_bounds-ones-e-in-loop-h
offset_bounds-ones-e-in-loop-h c = omega (arith, few (goal.at.offset_bounds-ones-e-in-loop-h c).After-come-visit)

pub bounds-ones-e-in-loop-h : goal.bounds-ones-e-in-loop-h
bounds-ones-e-in-loop-h c = (inside (goal.at.bounds-ones-e-in-loop-h c).After-come-visit).0

pub offset_bounds-zeros-e-in-loop-h : goal.offset_bounds-zeros-e-in-loop-h
offset_bounds-zeros-e-in-loop-h c = omega (arith, few (goal.at.offset_bounds-zeros-e-in-loop-h c).After-come-visit)

pub bounds-zeros-e-in-loop-h : goal.bounds-zeros-e-in-loop-h
bounds-zeros-e-in-loop-h c = (inside (goal.at.bounds-zeros-e-in-loop-h c).After-come-visit).1

pub returns-then-one-zero-ne0 : goal.returns-then-one-zero-ne0
returns-then-one-zero-ne0 c =
    clash _ refl (below (goal.at.returns-then-one-zero-ne0 c).After-come-visit)
    (turn_ends _ _ _ c.args.self.chosen.now c.args.self.held _ _ c.requires.t_lt_frames.0 (below (goal.at.returns-then-one-zero-ne0 c).After-come-visit) _ c.connected_of-mask.ensures.0 c.loop-h.ones c.loop-h.zeros
    c.loop-h.invariant.1 c.come-visit.result c.come-visit.ensures.comes c.come-visit.ensures.bounds (omega (arith, c.if-one-zero-ne0.true)))

pub loop-h-preserved : goal.loop-h-preserved
loop-h-preserved c = (
  omega arith,
  rw (add-one c.loop-h.h)
      (turn_on _ _ _ c.args.self.chosen.now c.args.self.held _ _ c.requires.t_lt_frames.0 (below (goal.at.loop-h-preserved c).After-come-visit) _ c.connected_of-mask.ensures.0 c.loop-h.ones c.loop-h.zeros
      c.loop-h.invariant.1 c.come-visit.result c.come-visit.ensures.comes c.come-visit.ensures.bounds (omega (arith, c.if-one-zero-ne0.false))),
  length-set c.loop-h.ones c.come-visit.result.entry _ ∙ c.loop-h.invariant.2,
  length-set c.loop-h.zeros c.come-visit.result.entry _ ∙ c.loop-h.invariant.3,
)

pub returns : goal.returns
returns c =
    all refl (halves_next _ _ _ _ _ _ c.loop-h.h (omega (arith, c.requires.t_lt_frames.1)) c.loop-h.invariant.1)
