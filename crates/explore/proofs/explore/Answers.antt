use native.Mathlib.Omega.{arith}
use Rattle.explore.proofs.Drive.{reached_first, reached_layer, underway, traceable, done_underway, reached_on, reached_nearer, reached_ends}
use Rattle.explore.proofs.explore.Goals as goal

pub loop-cursor-init : goal.loop-cursor-init
loop-cursor-init c = λ pre. reached_first c.args.layout c.args.nodes.now c.args.scratch.now c.args.work.now pre c.start-cursor.result c.start-cursor.ensures

pub overflow_add-cursor : goal.overflow_add-cursor
overflow_add-cursor c = record { fits = omega (arith, reached_layer c.args.layout c.args.nodes.now c.args.scratch.now c.args.work.now c.requires c.loop-cursor.scratch c.loop-cursor.work c.loop-cursor.cursor (c.loop-cursor.invariant c.requires)) }

pub job_of-job-requires : goal.job_of-job-requires
job_of-job-requires c = underway c.args.layout c.args.nodes.now c.args.scratch.now c.args.work.now c.requires c.loop-cursor.scratch c.loop-cursor.work c.loop-cursor.cursor (c.loop-cursor.invariant c.requires) c.loop-cursor-test.true

pub trace-requires : goal.trace-requires
trace-requires c = traceable c.args.layout c.args.nodes.now c.args.scratch.now c.args.work.now c.requires c.loop-cursor.scratch c.loop-cursor.work c.loop-cursor.cursor (c.loop-cursor.invariant c.requires) c.loop-cursor-test.true c.job_of-job.result c.job_of-job.ensures

pub move_on-next-requires : goal.move_on-next-requires
move_on-next-requires c = done_underway c.args.layout c.args.nodes.now c.args.scratch.now c.args.work.now c.requires c.loop-cursor.scratch c.loop-cursor.work c.loop-cursor.cursor (c.loop-cursor.invariant c.requires) c.loop-cursor-test.true c.job_of-job.result c.job_of-job.ensures c.trace.new.work c.trace.auto.work c.trace.ensures

pub loop-cursor-smaller : goal.loop-cursor-smaller
loop-cursor-smaller c = reached_nearer c.args.layout c.args.nodes.now c.args.scratch.now c.args.work.now c.requires c.loop-cursor.scratch c.loop-cursor.work c.loop-cursor.cursor (c.loop-cursor.invariant c.requires) c.loop-cursor-test.true c.job_of-job.result c.job_of-job.ensures c.trace.new.work c.trace.auto.work c.trace.ensures c.move_on-next.new.scratch c.move_on-next.result c.move_on-next.ensures

pub loop-cursor-preserved : goal.loop-cursor-preserved
loop-cursor-preserved c = λ pre. reached_on c.args.layout c.args.nodes.now c.args.scratch.now c.args.work.now pre c.loop-cursor.scratch c.loop-cursor.work c.loop-cursor.cursor (c.loop-cursor.invariant pre) c.loop-cursor-test.true c.job_of-job.result c.job_of-job.ensures c.trace.new.work c.trace.auto.work c.trace.ensures c.move_on-next.new.scratch c.move_on-next.result c.move_on-next.ensures

pub returns : goal.returns
returns c = reached_ends c.args.layout c.args.nodes.now c.args.scratch.now c.args.work.now c.requires c.loop-cursor.scratch c.loop-cursor.work c.loop-cursor.cursor (c.loop-cursor.invariant c.requires) c.loop-cursor-test.false
