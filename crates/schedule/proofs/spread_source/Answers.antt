-- `schedule::spread_source` meets its contract.
-- Assumes nothing.
use mathlib.Core.Path.{◌≡◌, ap}
use mathlib.Core.List.{List}
use Prim.Native.Nat.{ℕ}
use native.Mathlib.Nat.{mul-le-mul}
use native.Mathlib.Omega.{arith}
use Rattle.verdict.specs.Judgements.{answer}
use Rattle.verdict.specs.declared.Figures.{Figures}
use Rattle.spreading.specs.Spread.{schedule_checked}
use Rattle.spreading.proofs.Schedule.{Scheduled, scheduled}
use Rattle.schedule.proofs.Spread.{made_source, made_is}
use Rattle.schedule.proofs.spread_source.Goals as goal

-- what an accepted schedule tells
tells : (c : List ℕ) (n m T : ℕ) (ins outs : List ℕ) → (schedule_checked c n m T ins outs).number ≡ 0 → Scheduled c n m T ins outs
tells c n m T ins outs e =
    let f : Figures = schedule_checked c n m T ins outs in
    scheduled c n m T ins outs f.place (ap (λ n. answer n f.place) e)

pub read-own-requires : goal.read-own-requires
read-own-requires c = (tells _ _ _ _ _ _ c.requires).spreads.network.headed

pub overflow_mul-total : goal.overflow_mul-total
overflow_mul-total c =
    let Z = (tells _ _ _ _ _ _ c.requires).spreads.sizes in
    omega (arith, mul-le-mul Z.outputs_to Z.frames_to)

pub overflow_add-result : goal.overflow_add-result
overflow_add-result c =
    let F = (tells _ _ _ _ _ _ c.requires).spreads in
    omega (arith, mul-le-mul F.sizes.outputs_to F.sizes.frames_to, F.few, c.read-own.ensures.gates_is)

pub overflow_mul-result : goal.overflow_mul-result
overflow_mul-result c = omega (arith, (tells _ _ _ _ _ _ c.requires).spreads.sizes.bits_to)

pub overflow_add-result-2 : goal.overflow_add-result-2
overflow_add-result-2 c = omega (arith, (tells _ _ _ _ _ _ c.requires).spreads.sizes.bits_to)

pub held-requires : goal.held-requires
held-requires c =
    let S = tells _ _ _ _ _ _ c.requires in
    omega (arith, S.ins_many, S.spreads.network.headed.inputs_to)

pub held-requires-2 : goal.held-requires-2
held-requires-2 c =
    let S = tells _ _ _ _ _ _ c.requires in
    omega (arith, S.outs_many, S.spreads.few_outputs)

pub returns : goal.returns
returns c =
    let S = tells _ _ _ _ _ _ c.requires in (
      made_source _ _ _ _ _ _ S c.read-own.result c.read-own.ensures c.held.result c.held-2.result c.held.ensures c.held-2.ensures,
      made_is _ _ _ _ _ _ S c.read-own.result c.read-own.ensures c.held.result c.held-2.result c.held.ensures c.held-2.ensures,
    )
