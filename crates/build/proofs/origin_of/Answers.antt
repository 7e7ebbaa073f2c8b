-- `build::origin_of` meets its contract.
-- Assumes nothing.
use native.Mathlib.Omega.{arith}
use Rattle.source.proofs.Sources.{well}
use Rattle.build.proofs.Laws.{origin_input, origin_gate}
use Rattle.build.proofs.origin_of.Goals as goal

pub returns-then-s-base : goal.returns-then-s-base
returns-then-s-base c =
    origin_input _ c.args.work.now c.args.s _ (well _ _ c.requires.source_of).head_is.base_is c.if-s-base.true

pub gate_of-gate-requires : goal.gate_of-gate-requires
gate_of-gate-requires c =
    (c.requires.source_of, omega (arith, well _ _ c.requires.source_of, c.requires, c.if-s-base.false))

pub returns : goal.returns
returns c =
    origin_gate _ c.args.work.now c.args.s _ _ (well _ _ c.requires.source_of).head_is.base_is c.if-s-base.false c.gate_of-gate.ensures

pub overflow_add-s : goal.overflow_add-s
overflow_add-s c =
    omega (arith, well _ _ c.requires.source_of, c.requires)

pub overflow_add-s-2 : goal.overflow_add-s-2
overflow_add-s-2 c =
    omega (arith, well _ _ c.requires.source_of, c.requires)

pub offset_bounds-work-gate : goal.offset_bounds-work-gate
offset_bounds-work-gate c =
    omega (arith, well _ _ c.requires.source_of, c.requires, c.gate_of-gate.ensures)

pub bounds-work-gate : goal.bounds-work-gate
bounds-work-gate c =
    omega (arith, well _ _ c.requires.source_of, c.requires, c.gate_of-gate.ensures)

pub offset_bounds-work-gate-2 : goal.offset_bounds-work-gate-2
offset_bounds-work-gate-2 c =
    omega (arith, well _ _ c.requires.source_of, c.requires, c.gate_of-gate.ensures)

pub bounds-work-gate-2 : goal.bounds-work-gate-2
bounds-work-gate-2 c =
    omega (arith, well _ _ c.requires.source_of, c.requires, c.gate_of-gate.ensures)
