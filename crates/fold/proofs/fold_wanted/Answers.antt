-- `fold::fold_wanted` meets its contract: a refusal of the circuit or the scratch, or what is left of a circuit that was judged.
-- Assumes nothing.
use Rattle.fold.proofs.Finished.{folds_refused, formed, clean_source, folds}
use Rattle.fold.proofs.fold_wanted.Goals as goal

pub returns-in_err-judge_lent : goal.returns-in_err-judge_lent
returns-in_err-judge_lent c =
    folds_refused c.args.circuit.now c.args.wanted c.args.scratch.now c.args.nodes.now c.args.res.now c.judge_lent.new.scratch c.judge_lent.auto.scratch c.judge_lent.ensures.scratch _ c.in_err-judge_lent.ensures.verdict _ c.from_residual.ensures.1

pub of-source-requires : goal.of-source-requires
of-source-requires c =
    (formed c.args.circuit.now c.args.wanted c.args.scratch.now c.args.nodes.now c.args.res.now c.judge_lent.new.scratch c.judge_lent.auto.scratch c.judge_lent.ensures.scratch _ c.in_ok-judge_lent.ensures.verdict).head

pub fold_judged-requires : goal.fold_judged-requires
fold_judged-requires c =
    clean_source c.args.circuit.now c.args.wanted c.args.scratch.now c.args.nodes.now c.args.res.now c.judge_lent.new.scratch c.judge_lent.auto.scratch c.judge_lent.ensures.scratch _ c.in_ok-judge_lent.ensures.verdict _ c.of-source.ensures

pub returns : goal.returns
returns c =
    folds c.args.circuit.now c.args.wanted c.args.scratch.now c.args.nodes.now c.args.res.now c.judge_lent.new.scratch c.judge_lent.auto.scratch c.judge_lent.ensures.scratch _ c.in_ok-judge_lent.ensures.verdict _ c.of-source.ensures _ _ _ _ c.fold_judged.ensures
