-- `trial::try_all` meets its contract.
-- Assumes nothing.
use mathlib.Core.Path.{◌≡◌, refl}
use lib.ListN.{length}
use Rattle.trial.specs.Collected.{refuted}
use Rattle.trial.proofs.Collecting.{none_both, judged, walk_clashed}
use Rattle.trial.proofs.subject.Trial.try_all.Goals as goal

pub walk-requires : goal.walk-requires
walk-requires c = none_both _ _ _ c.args.self.chosen.now c.args.self.held c.args.self.candidate _ _ refl refl

pub returns-in-Some : goal.returns-in-Some
returns-in-Some c = refuted _ refl (walk_clashed _ _ _ _ _ _ c.walk.ensures _ c.in-Some.is)

pub returns-in-None : goal.returns-in-None
returns-in-None c =
    let long : length c.walk.new.ones ≡ 12 = c.walk.auto.ones in
    judged _ _ _ c.args.self.chosen.now c.args.self.held c.args.self.candidate _ _ _ c.walk.ensures c.in-None.is long
