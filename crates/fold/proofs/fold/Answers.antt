-- `fold::fold` meets its contract: any plan is wanted.
-- Assumes nothing.
use mathlib.Core.Path.{◌∙◌}
use lib.ListN.{length}
use Rattle.fold.proofs.Judged.{any_figures, any_result, promised}
use Rattle.fold.proofs.fold.Goals as goal

pub returns-clause-verdict : goal.returns-clause-verdict
returns-clause-verdict c =
    c.fold_wanted.ensures.answered ∙ any_figures c.args.circuit.now (length c.args.scratch.now) (length c.args.nodes.now) c.args.res.now

pub returns-clause-res : goal.returns-clause-res
returns-clause-res c =
    c.fold_wanted.ensures.written ∙ any_result c.args.circuit.now (length c.args.scratch.now) (length c.args.nodes.now) c.args.res.now

pub returns-clause-scratch : goal.returns-clause-scratch
returns-clause-scratch c =
    c.fold_wanted.ensures.scratch_left

pub returns-clause-nodes : goal.returns-clause-nodes
returns-clause-nodes c =
    c.fold_wanted.ensures.nodes_left

pub returns-clause-promised : goal.returns-clause-promised
returns-clause-promised c =
    promised c.args.circuit.now _ (length c.args.scratch.now) (length c.args.nodes.now) c.args.res.now _ _ c.fold_wanted.ensures.answered c.fold_wanted.ensures.written
