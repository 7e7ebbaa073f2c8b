-- `trial::follow` meets its contract.
-- Assumes nothing.
use mathlib.Core.Path.{◌≡◌, refl}
use Prim.Native.Nat.{◌+◌, ◌*◌, ◌-◌, ◌/◌, ◌^◌, ◌≤◌, ◌<◌}
use native.Mathlib.Nat.{div-le_self}
use native.Mathlib.Omega.{arith}
use Rattle.trial.proofs.Following.{Turn, shift_small, along_start, along_next, along_end, turn}
use Rattle.trial.proofs.subject.Trial.follow.Goals as goal
use Rattle.trial.proofs.subject.Trial.follow.Goals.{then-used-entry, else-used-entry, In-loop-i}

facts : (c : In-loop-i) → Turn c.args.self.sought c.args.self.table.now c.args.self.starts.now c.loop-i.i c.loop-i.shift c.loop-i.target c.loop-i.state c.loop-i.before ((c.args.h / 2 ^ (c.loop-i.shift - c.args.self.sought.inputs)))
facts c =
    turn _ _ _ c.args.self.chosen.now c.args.self.held c.args.self.candidate c.args.t c.args.h c.requires.0 c.requires.1 _ _ _ _ _ _ c.loop-i.invariant (omega arith)

pub overflow_mul-shift : goal.overflow_mul-shift
overflow_mul-shift c =
    omega (arith, shift_small _ _ _ _ c.args.self.held c.args.self.candidate c.args.t c.args.h c.requires.0 c.requires.1)

pub loop-i-init : goal.loop-i-init
loop-i-init c =
    along_start _ _ _ _ c.args.self.held c.args.self.candidate c.args.t c.args.h c.requires.0 c.requires.1 _ refl

pub overflow_sub-shift : goal.overflow_sub-shift
overflow_sub-shift c =
    omega (arith, facts (goal.at.overflow_sub-shift c).In-loop-i)

pub overflow_shr-prefix : goal.overflow_shr-prefix
overflow_shr-prefix c =
    omega (arith, facts (goal.at.overflow_shr-prefix c).In-loop-i)

pub overflow_mul-word : goal.overflow_mul-word
overflow_mul-word c =
    let prefix-small : (c.args.h / 2 ^ (c.loop-i.shift - c.args.self.sought.inputs)) ≤ c.args.h =
    div-le_self _ _
    in
    omega (arith, facts (goal.at.overflow_mul-word c).In-loop-i, prefix-small)

pub overflow_sub-word : goal.overflow_sub-word
overflow_sub-word c =
    omega (arith, facts (goal.at.overflow_sub-word c).In-loop-i)

pub overflow_mul-entry : goal.overflow_mul-entry
overflow_mul-entry c =
    omega (arith, facts (goal.at.overflow_mul-entry c).In-loop-i)

pub overflow_add-entry : goal.overflow_add-entry
overflow_add-entry c =
    omega (arith, facts (goal.at.overflow_add-entry c).In-loop-i)

pub overflow_add-used : goal.overflow_add-used
overflow_add-used c =
    omega (arith, facts (goal.at.overflow_add-used c).In-loop-i)

pub offset_bounds-self-i : goal.offset_bounds-self-i
offset_bounds-self-i c =
    omega (arith, facts (goal.at.offset_bounds-self-i c).In-loop-i)

pub bounds-self-i : goal.bounds-self-i
bounds-self-i c =
    omega (arith, facts (goal.at.bounds-self-i c).In-loop-i)

pub overflow_mul-target : goal.overflow_mul-target
overflow_mul-target c =
    omega (arith, facts (goal.at.overflow_mul-target c).In-loop-i)

pub overflow_add-target : goal.overflow_add-target
overflow_add-target c =
    omega (arith, facts (goal.at.overflow_add-target c).In-loop-i)

pub overflow_mul-target-in-loop-i : goal.overflow_mul-target-in-loop-i
overflow_mul-target-in-loop-i c =
    omega (arith, facts (goal.at.overflow_mul-target-in-loop-i c).In-loop-i)

pub overflow_add-self : goal.overflow_add-self
overflow_add-self c =
    omega (arith, facts (goal.at.overflow_add-self c).In-loop-i)

pub overflow_add-self-in-loop-i : goal.overflow_add-self-in-loop-i
overflow_add-self-in-loop-i c =
    omega (arith, facts (goal.at.overflow_add-self-in-loop-i c).In-loop-i)

pub read-target-requires : goal.read-target-requires
read-target-requires c =
    (facts (goal.at.read-target-requires c).In-loop-i).target_fits

pub offset_bounds-self-entry : goal.offset_bounds-self-entry
offset_bounds-self-entry c =
    omega (arith, facts (goal.at.offset_bounds-self-entry c).In-loop-i)

pub bounds-self-entry : goal.bounds-self-entry
bounds-self-entry c =
    omega (arith, facts (goal.at.bounds-self-entry c).In-loop-i, c.args.self.candidate.long)

pub overflow_step-i : goal.overflow_step-i
overflow_step-i c =
    omega (arith, facts (goal.at.overflow_step-i c).In-loop-i)

pub loop-i-preserved : goal.loop-i-preserved
loop-i-preserved c =
    let u : (c.loop-i.used ≤ c.if-used-entry.used) × (((c.loop-i.state * c.args.self.sought.words + ((c.args.h / 2 ^ (c.loop-i.shift - c.args.self.sought.inputs)) - c.loop-i.before * c.args.self.sought.words)) < c.if-used-entry.used) × (c.if-used-entry.used ≤ c.args.self.sought.entries)) =
    elim c.if-used-entry.branch [
      | then-used-entry w ↦ let e : c.if-used-entry.used ≡ (c.loop-i.state * c.args.self.sought.words + ((c.args.h / 2 ^ (c.loop-i.shift - c.args.self.sought.inputs)) - c.loop-i.before * c.args.self.sought.words)) + 1 = w.used-is in (omega (arith, w.if-used-entry.true), (omega arith, omega (arith, facts (goal.at.loop-i-preserved c).In-loop-i)))
      | else-used-entry w ↦ let e : c.if-used-entry.used ≡ c.loop-i.used = w.used-is in (omega arith, (omega (arith, w.if-used-entry.false), omega (arith, c.loop-i.invariant.used_in)))
    ] in
    along_next _ _ _ _ c.args.self.held c.args.self.candidate c.args.t c.args.h c.requires.0 c.requires.1 _ _ _ _ _ _ c.loop-i.invariant (omega arith) _ _ refl refl _ _ _ _ refl c.read-target.ensures.0 refl u.0 u.1.0 u.1.1

pub returns : goal.returns
returns c =
    let e = along_end _ _ _ _ c.args.self.held c.args.self.candidate c.args.t c.args.h c.requires.0 c.requires.1 _ _ _ _ _ _ c.loop-i.invariant (omega arith) _ refl in
    record { leads = e.0; bounds = e.1 }
