-- `words::store_all` meets its contract. The invariant: the numbers so far are stored.
-- Assumes nothing.
use mathlib.Core.Path.{◌≡◌}
use lib.ListN.{take}
use Rattle.words.specs.Words.{stored}
use Rattle.words.proofs.store_all.Given as goal

abbrev pub invariant-loop-i : goal.invariant-loop-i
invariant-loop-i l = l.bytes ≡ stored 2 l.initial.bytes l.at (take l.i l.numbers)
