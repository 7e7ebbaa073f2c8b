-- `distinguish::store_words` meets its contract. The invariant: with the words that are left, what is stored is the list.
-- Assumes nothing.
use mathlib.Core.Path.{◌≡◌}
use mathlib.Core.List.{◌++◌}
use lib.ListN.{drop}
use Rattle.layered.specs.Histories.{history_words}
use Rattle.distinguish.proofs.store_words.Given as goal

abbrev pub invariant-loop-left : goal.invariant-loop-left
invariant-loop-left l =
    history_words l.words l.left l.number ++ drop l.left l.res ≡ history_words l.words l.fn.list.length l.fn.list.number ++ drop l.fn.list.length l.initial.res
