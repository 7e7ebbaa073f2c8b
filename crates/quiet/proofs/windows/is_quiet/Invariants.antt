-- `quiet::windows::is_quiet` meets its contract. The invariant: a minute is quiet where one of the windows that are left holds it.
-- Assumes nothing.
use Rattle.std.proofs.Common.{◌≡◌}
use Rattle.std.specs.Slice.Iter.{chunks_exact_rest, chunks_exact_size}
use Rattle.quiet.specs.Windows.{is_quiet}
use Rattle.quiet.proofs.windows.is_quiet.Given as goal

abbrev pub invariant-loop-window : goal.invariant-loop-window
invariant-loop-window l =
    (chunks_exact_size l.window-iterator ≡ 2) × (is_quiet l.windows l.minute ≡ is_quiet (chunks_exact_rest l.window-iterator) l.minute)
