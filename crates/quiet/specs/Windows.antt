-- Windows in minutes of the week (document 02, Point 7): a minute is a number below 10,080, and Monday midnight is 0. Windows come as one
-- list of numbers, first and last in turn.
use Rattle.std.specs.Prelude.{ℕ, ◌+◌, ◌*◌, ◌-◌, ◌/◌, ◌<◌, ◌≡◌, Bool, false, ◌&&◌, ◌||◌, cond, List, [], ◌∷◌, ltb, leb, eqb, length, get_or}
use Rattle.verdict.specs.Judgements.{answer, refuse, refuse_first, and_then}
use Rattle.verdict.specs.declared.Figures.{Figures}
use Rattle.quiet.specs.Limits.{week_minutes, most_windows}

-- how many windows a list has: a lone number at its end is one too
unfoldable pub window_count : List ℕ → ℕ
window_count ws = (length ws + 1) / 2

-- the first and the last minute of window i
unfoldable pub first : List ℕ → (i : ℕ) → ℕ
first ws i = get_or ws (2 * i) 0

unfoldable pub last : List ℕ → (i : ℕ) → ℕ
last ws i = get_or ws (2 * i + 1) 0

-- window i is bad: its last number is missing, a minute is above 10,079, or its ends are equal
unfoldable pub is_bad : List ℕ → (i : ℕ) → Bool
unfolding first last
is_bad ws i = leb (length ws) (2 * i + 1) || ((leb week_minutes (first ws i) || leb week_minutes (last ws i)) || eqb (first ws i) (last ws i))

-- 15, at the first bad window of the whole list, however long it is; where none is bad, at 32 if there are more windows
unfoldable pub windows_checked : List ℕ → Figures
unfolding refuse_first is_bad window_count
windows_checked ws = refuse_first (is_bad ws) 15 (λ i. i) (refuse (ltb most_windows (window_count ws)) 15 most_windows (answer 0 0)) 0 (window_count ws)

-- 15, then 16 of the present minute
unfoldable pub time_checked : List ℕ → (minute : ℕ) → Figures
unfolding windows_checked
time_checked ws minute = and_then (windows_checked ws) (refuse (leb week_minutes minute) 16 0 (answer 0 0))

-- whether a window holds a minute: from its first on, up to its last but without it; a first above the last runs over the week's end
unfoldable pub holds : (first last minute : ℕ) → Bool
holds first last minute = cond (ltb last first) (leb first minute || ltb minute last) (leb first minute && ltb minute last)

-- whether a minute is quiet: some window holds it. A lone number at the end holds none
unfoldable pub is_quiet : List ℕ → (minute : ℕ) → Bool
unfolding holds
is_quiet [] minute = false
is_quiet (lone ∷ []) minute = false
is_quiet (first ∷ last ∷ ws) minute = holds first last minute || is_quiet ws minute

-- how many minutes pass from one minute of the week until another comes round
abbrev pub until : (from to : ℕ) → ℕ
until from to = cond (leb from to) (to - from) (week_minutes - from + to)

-- so a window holds exactly the minutes that come round from its first on before its last does
unfoldable pub HoldsRound : Type 0
HoldsRound =
    (first last minute : ℕ) → first < week_minutes → last < week_minutes → minute < week_minutes
    → holds first last minute ≡ ltb (until first minute) (until first last)
