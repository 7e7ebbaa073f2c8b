-- The circuit's check computed quickly: an output whose gates reach no later input is not tried on every sequence.
use mathlib.Core.Path.{◌≡◌, refl}
use mathlib.Core.Bool.{Bool, true, false, ◌&&◌}
use mathlib.Core.List.{List}
use Prim.Native.Nat.{ℕ, ◌<◌}
use native.Mathlib.Omega.{arith}
use Rattle.verdict.specs.Judgements.{answer, and_then, refuse_first}
use Rattle.verdict.specs.declared.Figures.{Figures}
use Rattle.verdict.proofs.Laws.{then_cong, first_cong}
use Rattle.circuit.specs.Circuit.{all_outputs, looks_ahead, look_ahead_checked, form_checked, checked}
use Rattle.circuit.specs.WellFormed.{Formed}
use Rattle.circuit.proofs.Accepted.{formed}
use Rattle.latest.specs.Latest.{reaches_later}
use Rattle.latest.proofs.Unreached.{unreached}

-- output q looks ahead, tried only where its gates reach a later input
unfoldable pub quick_ahead : List ℕ → (q : ℕ) → Bool
quick_ahead b q = reaches_later b q && looks_ahead b q

quick_ahead_lem : (b : List ℕ) → Formed b → (q : ℕ) → q < all_outputs b → looks_ahead b q ≡ quick_ahead b q
unfolding quick_ahead
quick_ahead_lem b F q h = go (reaches_later b q) refl
  where
    go : (t : Bool) → reaches_later b q ≡ t → looks_ahead b q ≡ (t && looks_ahead b q)
    go true e = refl
    go false e = unreached b F.head F.literals q h e

unfoldable pub quick_checked : List ℕ → Figures
quick_checked b = and_then (form_checked b) (refuse_first (quick_ahead b) 4 (λ q. q) (answer 0 0) 0 (all_outputs b))

-- it is the check
pub quick_checked_lem : (b : List ℕ) → checked b ≡ quick_checked b
unfolding checked look_ahead_checked quick_checked
quick_checked_lem b =
    then_cong (form_checked b) _ _ (λ p e.
    first_cong (looks_ahead b) (quick_ahead b) 4 (λ q. q) (answer 0 0) 0 (all_outputs b) (λ q lo hi. quick_ahead_lem b (formed b p e) q (omega arith)))
