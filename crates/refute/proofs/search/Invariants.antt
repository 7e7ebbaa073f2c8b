-- `refute::search` meets its contract. The invariant: all candidates before c are refuted.
-- Assumes nothing.
use Prim.Native.Nat.{ℕ, ◌-◌, ◌<◌}
use Rattle.merged.specs.Demands.{Contradicted}
use Rattle.merged.specs.Merged.{digit_of}
use Rattle.trial.specs.Tried.{target_of}
use Rattle.refute.proofs.search.Given as goal

abbrev pub invariant-loop-c : goal.invariant-loop-c
invariant-loop-c l =
    (d : ℕ) → d < l.c → Contradicted (target_of l.sought.words l.sought.frames l.table) (digit_of l.sought.states l.sought.entries d) l.sought.entries

abbrev pub decreases-loop-c : goal.decreases-loop-c
decreases-loop-c l = l.total - l.c
