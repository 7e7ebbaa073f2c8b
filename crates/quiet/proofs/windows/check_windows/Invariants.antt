-- `quiet::windows::check_windows` meets its contract. The invariant: what the definition says of all windows is what it says of those that are left.
-- Assumes nothing.
use Rattle.std.proofs.Common.{◌≡◌, ◌-◌, ◌*◌, ◌≤◌, drop}
use Rattle.std.specs.Iterator.Adapters.{enumerate_source, enumerate_count}
use Rattle.std.specs.Slice.Iter.{chunks_rest, chunks_size}
use Rattle.verdict.specs.Judgements.{refuse_first}
use Rattle.quiet.specs.Windows.{window_count, is_bad, windows_checked}
use Rattle.quiet.proofs.Minutes.{none_bad}
use Rattle.quiet.proofs.windows.check_windows.Given as goal

abbrev pub invariant-loop-i : goal.invariant-loop-i
invariant-loop-i l =
    let k = enumerate_count l.i-iterator in
    (k ≤ window_count l.windows) × (chunks_size (enumerate_source l.i-iterator) ≡ 2) × (chunks_rest (enumerate_source l.i-iterator) ≡ drop (2 * k) l.windows)
    × (windows_checked l.windows ≡ refuse_first (is_bad l.windows) 15 (λ i. i) (none_bad l.windows) k (window_count l.windows - k))
