-- `trial::walk` meets its contract. The invariant: the histories of the frames before t are collected.
-- Assumes nothing.
use native.Mathlib.Nat.{pow-zero, pow-suc}
use native.Mathlib.Numerals.{add-one}
use Rattle.trial.specs.Collected.{all, clash}
use Rattle.trial.proofs.Collecting.{clashed, gathered, count_most}
use mathlib.Core.Path.{◌≡◌, refl, sym, ap, ◌∙◌}
use Prim.Native.Nat.{suc, ◌*◌, ◌^◌}
use native.Mathlib.Omega.{arith}
use Rattle.trial.proofs.subject.Trial.walk.Goals as goal
use Rattle.trial.proofs.subject.Trial.walk.Goals.{In-loop-t}

counted : (c : In-loop-t) → c.loop-t.count * c.args.self.sought.words ≡ c.args.self.sought.words ^ suc c.loop-t.t
counted c = ap (λ k. k * c.args.self.sought.words) c.loop-t.invariant.1 ∙ sym (pow-suc c.args.self.sought.words c.loop-t.t)

pub loop-t-init : goal.loop-t-init
loop-t-init c =
    (omega arith, sym (pow-zero _), c.requires, refl, refl)

pub overflow_mul-count : goal.overflow_mul-count
overflow_mul-count c =
    omega (arith, counted (goal.at.overflow_mul-count c).In-loop-t, count_most _ _ _ c.args.self.chosen.now c.args.self.held c.args.self.candidate c.loop-t.t (omega arith))

pub collect-requires : goal.collect-requires
collect-requires c = record { t_lt_frames = (omega arith, counted (goal.at.collect-requires c).In-loop-t); halves = c.loop-t.invariant.2 }

pub returns-in-Some : goal.returns-in-Some
returns-in-Some c = clash _ refl (omega arith) (clashed _ _ _ _ _ _ _ c.collect.ensures _ c.in-Some.is)

pub loop-t-preserved : goal.loop-t-preserved
loop-t-preserved c = (
  omega arith,
  rw (add-one c.loop-t.t) (counted (goal.at.loop-t-preserved c).In-loop-t),
  rw (add-one c.loop-t.t) (gathered _ _ _ _ _ _ _ c.collect.ensures c.in_default.is),
  c.collect.auto.ones ∙ c.loop-t.invariant.3,
  c.collect.auto.zeros ∙ c.loop-t.invariant.4,
)

pub returns : goal.returns
returns c =
    let e : c.loop-t.t ≡ c.args.self.sought.frames = omega arith in
    all refl (rw e at c.loop-t.invariant.2)
