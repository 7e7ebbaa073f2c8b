-- `commit::commit` meets its contract: the plan with its numbers is wanted.
-- Assumes nothing.
use lib.ListN.{length}
use Rattle.folded.proofs.Plans.{committing}
use Rattle.ask.specs.Plan.{plan_numbers}
use Rattle.commit.proofs.Committed.{commit_answered, commit_written, commit_promised}
use Rattle.commit.proofs.commit.Goals as goal

pub returns-clause-verdict : goal.returns-clause-verdict
returns-clause-verdict c =
    commit_answered _ _ _ _ _ _ _ _ _ c.fold_wanted.ensures (plan_numbers c.args.plan) c.numbers-numbers.ensures

pub returns-clause-res : goal.returns-clause-res
returns-clause-res c =
    commit_written _ _ _ _ _ _ _ _ _ c.fold_wanted.ensures (plan_numbers c.args.plan) c.numbers-numbers.ensures

pub returns-clause-scratch : goal.returns-clause-scratch
returns-clause-scratch c =
    c.fold_wanted.ensures.scratch_left

pub returns-clause-nodes : goal.returns-clause-nodes
returns-clause-nodes c =
    c.fold_wanted.ensures.nodes_left

pub returns-clause-promised : goal.returns-clause-promised
returns-clause-promised c =
    commit_promised _ _ _ _ _ _ _ _ _ c.fold_wanted.ensures

pub returns-clause-committing : goal.returns-clause-committing
returns-clause-committing c =
    committing c.args.circuit.now (plan_numbers c.args.plan) c.args.scratch.now (length c.args.nodes.now) c.args.res.now
