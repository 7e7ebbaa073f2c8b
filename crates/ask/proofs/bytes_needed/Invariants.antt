-- `ask::bytes_needed` meets its contract. The invariant: the sum of the counts of the layers so far.
-- Assumes nothing.
use mathlib.Core.Path.{◌≡◌}
use Rattle.layered.specs.Search.{total}
use Rattle.source.specs.Source.{sourced}
use Rattle.ask.proofs.Plans.{state_count}
use Rattle.ask.proofs.bytes_needed.Given as goal

abbrev pub invariant-loop-t : goal.invariant-loop-t
invariant-loop-t l = l.states ≡ total l.t (state_count (sourced l.source l.circuit))
