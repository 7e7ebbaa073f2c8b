-- `causal::check_look_ahead` meets its contract: where no output reaches a later input none looks ahead, else the first that does was found.
-- Assumes nothing.
use Rattle.causal.proofs.Pass.{judged_at, judged_none, reaching_to, none_before, none_reaching}
use Rattle.source.proofs.Sources.{well}
use Rattle.causal.proofs.check_look_ahead.Goals as goal

pub returns-in_default : goal.returns-in_default
returns-in_default c =
    let W = well _ _ c.requires in
    none_reaching _ W.headed W.legal c.in_default.ensures

pub first_ahead-requires : goal.first_ahead-requires
first_ahead-requires c =
    let W = well _ _ c.requires in
    record {
      source_of = c.requires;
      from_bound = reaching_to _ W.headed W.legal _ c.in-Some.ensures;
      by_index = none_before _ W.headed W.legal _ c.in-Some.ensures;
    }

pub returns-in-Some-first_ahead : goal.returns-in-Some-first_ahead
returns-in-Some-first_ahead c = judged_at _ (well _ _ c.requires).headed _ c.in-Some-first_ahead.ensures

pub returns-in-None : goal.returns-in-None
returns-in-None c = judged_none _ (well _ _ c.requires).headed c.in-None.ensures
