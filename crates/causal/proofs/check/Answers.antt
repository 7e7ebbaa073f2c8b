-- `causal::check` meets its contract: each stage is the definition's, and an accepted form gives the look-ahead what it requires.
-- Assumes nothing.
use mathlib.Core.Path.{sym, ap, ◌∙◌}
use Rattle.verdict.proofs.Laws.{stop, go_on}
use Rattle.circuit.specs.Circuit.{form_checked, look_ahead_checked, checked}
use Rattle.circuit.proofs.Accepted.{formed}
use Rattle.source.proofs.Sources.{whole_source, sourced_whole}
use Rattle.circuit.proofs.Judged.{first_ahead_shown, judged_alike}
use Rattle.circuit.proofs.Causal.{causal}
use Rattle.causal.proofs.check.Goals as goal

pub returns-in_err-check_form : goal.returns-in_err-check_form
unfolding checked form_checked
returns-in_err-check_form c =
    record {
      verdict = stop _ _ _ _ c.from_residual.ensures.1 c.in_err-check_form.ensures;
      ahead = first_ahead_shown _;
      alike = judged_alike _;
      causal = causal _;
    }

pub of-requires : goal.of-requires
unfolding form_checked
of-requires c = (formed _ _ (sym c.in_ok-check_form.ensures)).head

pub check_look_ahead-requires : goal.check_look_ahead-requires
unfolding form_checked
check_look_ahead-requires c = whole_source _ _ (formed _ _ (sym c.in_ok-check_form.ensures)) c.of.ensures

pub returns : goal.returns
unfolding checked form_checked
returns c =
    record {
      verdict = go_on _ _ _ _ c.in_ok-check_form.ensures (c.check_look_ahead.ensures ∙ ap look_ahead_checked (sourced_whole c.args.circuit.now _ c.of.ensures.whole_is));
      ahead = first_ahead_shown _;
      alike = judged_alike _;
      causal = causal _;
    }
