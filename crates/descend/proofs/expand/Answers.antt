use native.Mathlib.Omega.{arith}
use Rattle.descend.proofs.Laws.{going_first, low_in, high_in, fits, id_in, going_on, going_nearer, going_ends}
use Rattle.descend.proofs.expand.Goals as goal

pub loop-c-init : goal.loop-c-init
loop-c-init c = λ p. going_first c.args.nodes.now c.args.work.now c.args.f c.args.spread p c.begin-c.result c.begin-c.new.work c.begin-c.ensures.0 c.begin-c.ensures.1

pub id_at-id-requires : goal.id_at-id-requires
id_at-id-requires c = low_in c.args.nodes.now c.args.work.now c.args.f c.args.spread c.requires c.loop-c.c c.loop-c.work (c.loop-c.invariant c.requires) c.loop-c-test.true

pub node_of-requires : goal.node_of-requires
node_of-requires c = id_in c.args.nodes.now c.args.work.now c.args.f c.args.spread c.requires c.loop-c.c c.loop-c.work (c.loop-c.invariant c.requires) c.loop-c-test.true c.id_at-id.result c.id_at-id.ensures

pub split-next-requires : goal.split-next-requires
split-next-requires c = (low_in c.args.nodes.now c.args.work.now c.args.f c.args.spread c.requires c.loop-c.c c.loop-c.work (c.loop-c.invariant c.requires) c.loop-c-test.true, high_in c.args.nodes.now c.args.work.now c.args.f c.args.spread c.requires c.loop-c.c c.loop-c.work (c.loop-c.invariant c.requires) c.loop-c-test.true, fits c.args.nodes.now c.args.work.now c.args.f c.args.spread c.requires c.loop-c.c c.loop-c.work (c.loop-c.invariant c.requires) c.loop-c-test.true (omega arith))

pub loop-c-smaller : goal.loop-c-smaller
loop-c-smaller c = going_nearer c.args.nodes.now c.args.work.now c.args.f c.args.spread c.requires c.loop-c.c c.loop-c.work (c.loop-c.invariant c.requires) c.loop-c-test.true c.id_at-id.result c.id_at-id.ensures c.node_of.result c.node_of.ensures c.split-next.result c.split-next.new.work c.split-next.ensures.0 c.split-next.ensures.1

pub loop-c-preserved : goal.loop-c-preserved
loop-c-preserved c = λ p. going_on c.args.nodes.now c.args.work.now c.args.f c.args.spread p c.loop-c.c c.loop-c.work (c.loop-c.invariant p) c.loop-c-test.true c.id_at-id.result c.id_at-id.ensures c.node_of.result c.node_of.ensures c.split-next.result c.split-next.new.work c.split-next.ensures.0 c.split-next.ensures.1

pub returns : goal.returns
returns c = going_ends c.args.nodes.now c.args.work.now c.args.f c.args.spread c.requires c.loop-c.c c.loop-c.work (c.loop-c.invariant c.requires) c.loop-c-test.false
