-- What a candidate on trial is to match, and its next states.
use Rattle.std.specs.Prelude.{ℕ, get_or}
use Rattle.merged.specs.Merged.{Target}
use Rattle.trial.specs.Tried.{target_of}
use Rattle.trial.specs.declared.subject.Trial.{Trial}

abbrev pub target_in : Trial → Target
target_in a = target_of a.sought.words a.sought.frames a.table.now

abbrev pub next_in : Trial → ℕ → ℕ
next_in a e = get_or a.chosen.now e 0
