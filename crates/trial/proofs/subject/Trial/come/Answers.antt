-- `trial::come` meets its contract.
-- Assumes nothing.
use mathlib.Core.Path.{refl}
use native.Mathlib.Omega.{arith}
use Rattle.trial.proofs.Following.{Last, word_from, before_small, last, comes}
use Rattle.trial.proofs.subject.Trial.come.Goals as goal
use Rattle.trial.proofs.subject.Trial.come.Goals.{After-follow-place}

facts : (c : After-follow-place) → Last c.args.self.sought c.args.self.table.now c.args.self.starts.now c.args.t c.args.h c.follow-place.result.target c.follow-place.result.state
facts c =
    last _ _ _ c.args.self.chosen.now c.args.self.held c.args.self.candidate c.args.t c.args.h c.requires.0 c.requires.1 c.follow-place.result c.follow-place.ensures.leads

pub overflow_mul-word : goal.overflow_mul-word
overflow_mul-word c =
    omega (arith, word_from _ _ _ c.args.self.chosen.now c.args.self.held c.args.self.candidate c.args.t c.args.h c.requires.0 c.requires.1)

pub overflow_sub-word : goal.overflow_sub-word
overflow_sub-word c =
    word_from _ _ _ c.args.self.chosen.now c.args.self.held c.args.self.candidate c.args.t c.args.h c.requires.0 c.requires.1

pub follow-place-requires : goal.follow-place-requires
follow-place-requires c = (omega arith, before_small _ _ _ c.args.self.chosen.now c.args.self.held c.args.self.candidate c.args.t c.args.h c.requires.0 c.requires.1)

pub overflow_mul-place : goal.overflow_mul-place
overflow_mul-place c =
    omega (arith, facts (goal.at.overflow_mul-place c).After-follow-place, c.well_formed)

pub overflow_add-place : goal.overflow_add-place
overflow_add-place c =
    omega (arith, facts (goal.at.overflow_add-place c).After-follow-place, c.well_formed)

pub overflow_mul-place-2 : goal.overflow_mul-place-2
overflow_mul-place-2 c =
    omega (arith, facts (goal.at.overflow_mul-place-2 c).After-follow-place, c.well_formed)

pub overflow_add-self : goal.overflow_add-self
overflow_add-self c =
    omega (arith, facts (goal.at.overflow_add-self c).After-follow-place, c.well_formed)

pub read-out-requires : goal.read-out-requires
read-out-requires c =
    (facts (goal.at.read-out-requires c).After-follow-place).target_fits

pub overflow_mul-result : goal.overflow_mul-result
overflow_mul-result c =
    omega (arith, facts (goal.at.overflow_mul-result c).After-follow-place)

pub overflow_add-result : goal.overflow_add-result
overflow_add-result c =
    omega (arith, facts (goal.at.overflow_add-result c).After-follow-place)

pub returns : goal.returns
returns c =
    record {
      comes = comes _ _ _ _ c.args.self.held c.args.self.candidate c.args.t c.args.h c.requires.0 c.requires.1 c.follow-place.result c.follow-place.ensures.leads _ refl c.read-out.ensures.0 refl;
      bounds = ((facts (goal.at.returns c).After-follow-place).entry_fits, c.follow-place.ensures.bounds.1, c.read-out.ensures.1);
    }
