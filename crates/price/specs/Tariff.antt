-- The tariff (document 02, Point 1). In src/ these numbers are the associated constants of `Tariff`.
use Rattle.std.specs.Prelude.{ℕ, List, [], ◌∷◌}
use Rattle.price.specs.declared.Band.{Band}

-- the bands: how many states each takes, and what each of these costs, in cents
abbrev pub bands : List Band
bands = record { width = 32; cents = 1800 } ∷ record { width = 224; cents = 950 } ∷ []

-- what each state beyond the bands costs
abbrev pub beyond : ℕ
beyond = 320

-- what every table adds
abbrev pub base : ℕ
base = 12000

-- the most frames without a rise
abbrev pub plain_frames : ℕ
plain_frames = 12

-- the rise, in thousandths of the sum
abbrev pub rise_thousandths : ℕ
rise_thousandths = 75
