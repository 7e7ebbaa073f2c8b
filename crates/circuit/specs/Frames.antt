-- The frame of an input and of an output, by where they stand (document 02, point 5). Frames are counted from 1. Frame 0 has none: nothing is
-- above 0 and at most 0, and nothing is below 0.
use Rattle.std.specs.Prelude.{ℕ, ◌*◌, ◌-◌, ◌≤◌, ◌<◌, ◌≡◌}

-- with n inputs to a frame, input signal s is one of frame t
abbrev pub InputOf : (n t s : ℕ) → Type 0
InputOf n t s = ((t - 1) * n < s) × (s ≤ t * n)

-- it is, and it is one of no other frame
abbrev pub OnlyInputOf : (n t s : ℕ) → Type 0
OnlyInputOf n t s = InputOf n t s × ((u : ℕ) → InputOf n u s → u ≡ t)

-- with m outputs to a frame, output index q, from 0, is one of frame t
abbrev pub OutputOf : (m t q : ℕ) → Type 0
OutputOf m t q = ((t - 1) * m ≤ q) × (q < t * m)

-- it is, and it is one of no other frame
abbrev pub OnlyOutputOf : (m t q : ℕ) → Type 0
OnlyOutputOf m t q = OutputOf m t q × ((u : ℕ) → OutputOf m u q → u ≡ t)

-- frame t does not begin after output index q: counting along the frames may start there
abbrev pub NotAfter : (m t q : ℕ) → Type 0
NotAfter m t q = (1 ≤ t) × ((t - 1) * m ≤ q)
