-- `refute::search` meets its contract. The invariant: all candidates before c are refuted.
-- Assumes nothing.
use mathlib.Core.Path.{refl}
use Prim.Native.Nat.{◌≤◌}
use native.Mathlib.Omega.{arith}
use Rattle.refute.specs.Searched.{none}
use Rattle.trial.proofs.Places.{few_entries}
use Rattle.refute.proofs.Searching.{passed, ends, goes_on, digits_same, digits_chosen, told_fits, told_refuted}
use Rattle.refute.proofs.search.Goals as goal
use Rattle.refute.proofs.search.Goals.{In-Err}

pub power-total-requires : goal.power-total-requires
power-total-requires c = (c.requires.some_states, c.requires.few_states, few_entries _ _ _ c.requires)

pub digits-chosen-requires : goal.digits-chosen-requires
digits-chosen-requires c = (c.requires.some_states, c.requires.few_states, few_entries _ _ _ c.requires)

pub invariant_of-trial : goal.invariant_of-trial
invariant_of-trial c = record {
  held = c.requires;
  candidate = digits_chosen _ _ _ (omega (arith, c.requires.some_states)) (omega (arith, few_entries _ _ _ c.requires, c.digits-chosen.ensures.long)) c.digits-chosen.ensures.digits;
}

pub returns-in-Ok : goal.returns-in-Ok
returns-in-Ok c =
    let f = told_fits _ _ _ _ c.judge.ensures _ c.in-Ok.is in
    ends _ c.args.sought.states c.args.sought.entries c.loop-c.c c.digits-chosen.result (omega (arith, c.requires.some_states)) (digits_same _ _ _ c.digits-chosen.result c.digits-chosen.ensures.digits)
    c.in-Ok.ones f.0 f.1 f.2 (omega (arith, c.power-total.ensures.0)) c.loop-c.invariant

-- the judgement refutes a prefix, and so all candidates that are passed
few : (c : In-Err) → c.in-Err.refuted.used ≤ c.args.sought.entries
few c = (told_refuted _ _ _ _ c.judge.ensures _ c.in-Err.is).0

pub skip-c-requires : goal.skip-c-requires
skip-c-requires c =
    (c.requires.some_states, c.requires.few_states, few_entries _ _ _ c.requires, few (goal.at.skip-c-requires c).In-Err, omega (arith, c.power-total.ensures.2))

pub loop-c-smaller : goal.loop-c-smaller
loop-c-smaller c = omega (arith, c.skip-c.ensures, goes_on c.args.sought.states c.args.sought.entries (omega (arith, c.requires.some_states)) c.loop-c.c c.in-Err.refuted.used)

pub loop-c-preserved : goal.loop-c-preserved
loop-c-preserved c d l =
    passed _ c.args.sought.states c.args.sought.entries c.loop-c.c c.digits-chosen.result (omega (arith, c.requires.some_states)) (digits_same _ _ _ c.digits-chosen.result c.digits-chosen.ensures.digits)
    c.in-Err.refuted.used (few (goal.at.loop-c-preserved c).In-Err) (told_refuted _ _ _ _ c.judge.ensures _ c.in-Err.is).1 c.loop-c.invariant d (omega (arith, c.skip-c.ensures))

pub returns : goal.returns
returns c = none refl (λ d l. c.loop-c.invariant d (omega (arith, c.power-total.ensures.0)))
