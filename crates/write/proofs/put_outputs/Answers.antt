-- `write::put_outputs` meets its contract: each row is followed, stored, and the next one stands behind it.
-- Assumes nothing.
use mathlib.Core.Path.{ap, ◌∙◌, subst}
use native.Mathlib.Omega.{arith}
use Rattle.descend.specs.Descend.{Traced}
use Rattle.descend.specs.declared.Job.{Job}
use Rattle.explore.proofs.Layers.{two_words}
use Rattle.write.specs.declared.Writing.{Writing}
use Rattle.write.proofs.Rows.{row_to, doing_first, doing_ends, at_row, row_room, row_traceable, doing_on}
use Rattle.write.proofs.put_outputs.Goals as goal

pub loop-writing-init : goal.loop-writing-init
loop-writing-init c =
    λ W. rw c.first_row-writing.ensures (doing_first _ _ _ _ _ _ _ W)

pub row_job-job-requires : goal.row_job-job-requires
row_job-job-requires c =
    (at_row _ _ _ _ _ _ _ c.requires _ _ _ (c.loop-writing.invariant c.requires) c.loop-writing-test.true, omega (arith, c.requires.scratch_room))

pub trace-requires : goal.trace-requires
trace-requires c =
    rw c.row_job-job.ensures (row_traceable _ _ _ _ _ _ _ c.requires _ _ _ (c.loop-writing.invariant c.requires) c.loop-writing-test.true c.loop-writing.auto.work)

pub put_row-requires : goal.put_row-requires
put_row-requires c =
    let room = row_room _ _ _ _ _ _ _ c.requires _ _ _ (c.loop-writing.invariant c.requires) c.loop-writing-test.true in
    (c.requires.laid, omega (arith, c.requires.work_room, c.trace.auto.work, c.loop-writing.auto.work), omega (arith, room, c.loop-writing.auto.res))

pub next_row-next-requires : goal.next_row-next-requires
next_row-next-requires c =
    let room = row_room _ _ _ _ _ _ _ c.requires _ _ _ (c.loop-writing.invariant c.requires) c.loop-writing-test.true in
    (at_row _ _ _ _ _ _ _ c.requires _ _ _ (c.loop-writing.invariant c.requires) c.loop-writing-test.true, c.requires.counted.places, omega (arith, room, c.well_formed))

pub loop-writing-preserved : goal.loop-writing-preserved
loop-writing-preserved c =
    λ W.
    let traced = subst (λ (x : Job). Traced c.args.nodes.now c.loop-writing.work x c.trace.new.work) c.row_job-job.ensures c.trace.ensures in
    rw c.next_row-next.ensures (doing_on _ _ _ _ _ _ _ W _ _ _ (c.loop-writing.invariant W) c.loop-writing-test.true _ traced _ c.put_row.ensures)

pub returns : goal.returns
returns c =
    λ W.
    let doing = c.loop-writing.invariant W in
    (doing_ends _ _ _ _ _ _ _ W _ _ _ doing c.loop-writing-test.false, doing.kept)

pub loop-writing-smaller : goal.loop-writing-smaller
loop-writing-smaller c =
    let room = row_room _ _ _ _ _ _ _ c.requires _ _ _ (c.loop-writing.invariant c.requires) c.loop-writing-test.true in
    let step = ap (λ (w : Writing). w.to) c.next_row-next.ensures ∙ row_to c.args.layout c.args.counts.now c.loop-writing.writing in
    omega (arith, room, step, two_words c.args.layout c.requires.laid, c.put_row.auto.res, c.loop-writing.auto.res)
