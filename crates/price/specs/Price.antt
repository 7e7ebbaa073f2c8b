-- The price of a table in cents (document 02, Point 1).
use Rattle.std.specs.Prelude.{ℕ, ◌+◌, ◌*◌, ◌-◌, ◌/◌, cond, List, [], ◌∷◌, ltb, eqb, Result, Ok, Err}
use Rattle.verdict.specs.Judgements.{refusal_figures}
use Rattle.verdict.specs.declared.Figures.{Figures}
use Rattle.verdict.specs.declared.Refusal.{Refusal}
use Rattle.sizes.specs.Sizes.{frames}
use Rattle.layered.specs.Search.{total}
use Rattle.table.specs.Table.{states_below, checked}
use Rattle.price.specs.Tariff.{bands, beyond, base, plain_frames, rise_thousandths}
use Rattle.price.specs.declared.Band.{Band}
use Rattle.price.specs.declared.PriceFigures.{PriceFigures}

-- the charged states: those of layers 0 to T-1
unfoldable pub charged : List ℕ → ℕ
charged b = states_below b (frames b)

-- what the state costs that comes after s others: it falls into a band, or beyond them all
unfoldable pub state_cents : List Band → (s : ℕ) → ℕ
state_cents [] s = beyond
state_cents (band ∷ rest) s = cond (ltb s band.width) band.cents (state_cents rest (s - band.width))

-- what k states cost together: 1,800 each for the first 32, 950 for the next 224, 320 beyond
unfoldable pub states_cents : (k : ℕ) → ℕ
states_cents k = total k (state_cents bands)

-- the part by which a sum rises: 7.5 percent, rounded to the cent, half upward
unfoldable pub rise : (sum : ℕ) → ℕ
rise sum = (sum * rise_thousandths + 500) / 1000

-- a sum over T frames: above 12 it rises
unfoldable pub risen : (T sum : ℕ) → ℕ
risen T sum = sum + cond (ltb plain_frames T) (rise sum) 0

-- the price of k charged states over T frames
unfoldable pub price : (T k : ℕ) → ℕ
price T k = risen T (base + states_cents k)

-- number, place and cents after a judgement: the price where it accepts, 0 cents where it refuses
abbrev pub priced_after : Figures → List ℕ → PriceFigures
priced_after f b = record { number = f.number; place = f.place; cents = cond (eqb f.number 0) (price (frames b) (charged b)) 0 }

-- what pricing returns: only the table's checks refuse
unfoldable pub priced : List ℕ → PriceFigures
priced b = priced_after (checked b) b

-- number, place and cents of each case of its answer
abbrev pub price_figures : Result ℕ Refusal → PriceFigures
price_figures (Ok c) = record { number = 0; place = 0; cents = c }
price_figures (Err r) = record { number = (refusal_figures r).number; place = (refusal_figures r).place; cents = 0 }
