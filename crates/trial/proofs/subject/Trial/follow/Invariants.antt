-- `trial::follow` meets its contract.
-- Assumes nothing.
use Rattle.trial.proofs.Following.{Along}
use Rattle.trial.proofs.subject.Trial.follow.Given as goal

abbrev pub invariant-loop-i : goal.invariant-loop-i
invariant-loop-i l =
    Along l.self.sought l.self.table.now l.self.starts.now l.self.chosen.now l.t l.h l.i l.shift l.target l.state l.used l.before
