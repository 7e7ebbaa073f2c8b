-- `quiet::windows::is_bad` meets its contract: the flag that the branches make is the definition's.
-- Assumes nothing.
use mathlib.Core.Logic.{◌⊎◌, ⊎_elim}
use Rattle.std.proofs.Common.{◌≡◌, ℕ, ◌≤◌, ◌<◌, true, false, ◌||◌, length, arith}
use lib.Dec.{leb}
use borrow.Author.Tests.{le-leb, lt-leb}
use Rattle.quiet.specs.Limits.{week_minutes}
use Rattle.quiet.specs.Windows.{is_bad, first, last}
use Rattle.quiet.proofs.windows.is_bad.Goals as goal

-- a minute above 10,079, and none
one_past : (a b : ℕ) → (week_minutes ≤ a) ⊎ ((a < week_minutes) × (week_minutes ≤ b)) → (leb week_minutes a || leb week_minutes b) ≡ true
one_past a b = ⊎_elim (λ (h : week_minutes ≤ a). rw (le-leb week_minutes a h)) (λ (h : (a < week_minutes) × (week_minutes ≤ b)). rw (lt-leb week_minutes a h.0) (le-leb week_minutes b h.1))

none_past : (a b : ℕ) → (a < week_minutes) × (b < week_minutes) → (leb week_minutes a || leb week_minutes b) ≡ false
none_past a b h = rw (lt-leb week_minutes a h.0) (lt-leb week_minutes b h.1)

pub returns-then-window-lt2 : goal.returns-then-window-lt2
unfolding is_bad
returns-then-window-lt2 c = rw (le-leb (length c.args.window.now) 1 (omega arith))

pub returns-then-last-ge-MINUTES : goal.returns-then-last-ge-MINUTES
unfolding is_bad first last
returns-then-last-ge-MINUTES c =
    let bad : true ≡ is_bad c.args.window.now 0 = rw (lt-leb (length c.args.window.now) 1 (omega arith), one_past _ _ c.if-last-ge-MINUTES.either) in
    cc

pub returns-else-last-ge-MINUTES : goal.returns-else-last-ge-MINUTES
unfolding is_bad first last
returns-else-last-ge-MINUTES c = rw (lt-leb (length c.args.window.now) 1 (omega arith), none_past _ _ c.if-last-ge-MINUTES.false)
