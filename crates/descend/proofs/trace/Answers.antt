use native.Mathlib.Omega.{arith}
use Rattle.descend.proofs.Laws.{tracing_first, followable, expandable, tracing_on, tracing_ends}
use Rattle.descend.proofs.trace.Goals as goal

pub loop-i-init : goal.loop-i-init
loop-i-init c = λ t. tracing_first c.args.nodes.now c.args.work.now c.args.job t

pub follow-f-requires : goal.follow-f-requires
follow-f-requires c = followable c.args.nodes.now c.args.work.now c.args.job c.requires c.loop-i.i c.loop-i.work (c.loop-i.invariant c.requires) c.loop-i-test.true c.id_at.result c.id_at.ensures

pub expand-requires : goal.expand-requires
expand-requires c = expandable c.args.nodes.now c.args.work.now c.args.job c.requires c.loop-i.i c.loop-i.work (c.loop-i.invariant c.requires) c.loop-i-test.true c.id_at.result c.id_at.ensures c.follow-f.result c.follow-f.ensures c.spread_of.result c.spread_of.ensures

pub loop-i-preserved : goal.loop-i-preserved
loop-i-preserved c = λ t. tracing_on c.args.nodes.now c.args.work.now c.args.job t c.loop-i.i c.loop-i.work (c.loop-i.invariant t) c.loop-i-test.true c.id_at.result c.id_at.ensures c.follow-f.result c.follow-f.ensures c.spread_of.result c.spread_of.ensures c.expand.new.work c.expand.auto.work c.expand.ensures

pub returns : goal.returns
returns c = tracing_ends c.args.nodes.now c.args.work.now c.args.job c.requires c.loop-i.i c.loop-i.work (c.loop-i.invariant c.requires) (omega arith)
