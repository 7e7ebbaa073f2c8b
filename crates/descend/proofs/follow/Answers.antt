use mathlib.Core.Path.{refl, sym, ap, ◌∙◌, subst}
use Prim.Native.Nat.{suc, ◌-◌, ◌<◌}
use Rattle.diagrams.specs.Diagrams.{follow}
use Rattle.diagrams.specs.Frames.{word_bits}
use Rattle.records.specs.Records.{nodes_in}
use Rattle.descend.proofs.Laws.{down_needs, down_node, down_leads, down_nearer, down_ends}
use Rattle.descend.proofs.follow.Goals as goal

pub loop-x-init : goal.loop-x-init
loop-x-init c = record { node_is = c.node_of-x.ensures; stands = c.requires.node; leads = refl }

pub step_down-next-requires : goal.step_down-next-requires
step_down-next-requires c = down_needs c.args.nodes.now c.args.top c.args.path c.requires.standing c.loop-x.id c.loop-x.x c.loop-x.invariant.node_is c.loop-x.invariant.stands c.loop-x-test.true

pub node_of-x-requires-in-loop-x : goal.node_of-x-requires-in-loop-x
node_of-x-requires-in-loop-x c =
    c.requires.standing.inside c.step_down-next.result
    (subst (λ d. 0 < (nodes_in c.args.nodes.now).level d) (sym c.step_down-next.ensures) (down_node c.args.nodes.now c.args.top c.args.path c.requires.standing c.loop-x.id c.loop-x.x c.loop-x.invariant.node_is c.loop-x.invariant.stands c.loop-x-test.true))

pub loop-x-smaller : goal.loop-x-smaller
loop-x-smaller c =
    subst (λ d. suc c.args.top - (nodes_in c.args.nodes.now).level d < suc c.args.top - (nodes_in c.args.nodes.now).level c.loop-x.id) (sym c.step_down-next.ensures)
    (down_nearer c.args.nodes.now c.args.top c.args.path c.requires.standing c.loop-x.id c.loop-x.x c.loop-x.invariant.node_is c.loop-x.invariant.stands c.loop-x-test.true)

pub loop-x-preserved : goal.loop-x-preserved
loop-x-preserved c = record {
  node_is = c.node_of-x-in-loop-x.ensures;
  stands = subst (λ d. 0 < (nodes_in c.args.nodes.now).level d) (sym c.step_down-next.ensures) (down_node c.args.nodes.now c.args.top c.args.path c.requires.standing c.loop-x.id c.loop-x.x c.loop-x.invariant.node_is c.loop-x.invariant.stands c.loop-x-test.true);
  leads = c.loop-x.invariant.leads ∙ down_leads c.args.nodes.now c.args.top c.args.path c.requires.standing c.loop-x.id c.loop-x.x c.loop-x.invariant.node_is c.loop-x.invariant.stands c.loop-x-test.true
      ∙ ap (follow (nodes_in c.args.nodes.now) 1 (word_bits c.args.top c.args.path)) (sym c.step_down-next.ensures);
}

pub returns : goal.returns
returns c = sym (c.loop-x.invariant.leads ∙ down_ends c.args.nodes.now c.args.top c.args.path c.requires.standing c.loop-x.id c.loop-x.x c.loop-x.invariant.node_is c.loop-x.invariant.stands c.loop-x-test.false)
