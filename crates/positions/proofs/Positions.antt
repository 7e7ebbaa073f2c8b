-- What the acceptance of a position tells. Assumes nothing.
use mathlib.Core.Path.{◌≡◌, refl, sym, ap₂, ◌∙◌}
use mathlib.Core.Bool.{Bool, true, false, cond, ◌||◌}
use mathlib.Core.List.{List}
use Prim.Native.Nat.{ℕ, ◌^◌, ◌≤◌, ◌<◌}
use native.Mathlib.Omega.{arith}
use lib.Dec.{ltb, leb, eqb}
use borrow.Author.Tests.{lt-ltb, le-ltb, ltb-false, leb-false, eqb-false}
use Rattle.verdict.specs.Judgements.{answer, refuse, and_then}
use Rattle.verdict.specs.declared.Figures.{Figures}
use Rattle.verdict.proofs.Laws.{both_accept, passed, refuse_then}
use Rattle.sizes.specs.Sizes.{inputs, frames}
use Rattle.table.specs.Table.{states}
use Rattle.positions.specs.Positions.{place_checked, position_checked}

-- two tests of one judgement are two judgements
apart : (s t : Bool) (k p : ℕ) (f : Figures) → refuse (s || t) k p f ≡ refuse s k p (refuse t k p f)
apart true t k p f = refl
apart false t k p f = refl

-- a position that is accepted is one of the table
pub place_in : (b : List ℕ) (t s p : ℕ) → place_checked b t s ≡ answer 0 p → (t ≤ frames b) × (s < states b t)
unfolding place_checked
place_in b t s p e =
    let e₁ = passed (ltb (frames b) t) 11 t _ p refl (sym (apart (ltb (frames b) t) (leb (states b t) s) 11 t (answer 0 0)) ∙ e) in
    let e₂ = passed (leb (states b t) s) 11 t _ p refl e₁.1 in
    (ltb-false (frames b) t e₁.0, leb-false (states b t) s e₂.0)

-- a position and a word that are accepted are those of an entry
pub placed : (b : List ℕ) (t s w p : ℕ) → position_checked b t s w ≡ answer 0 p → (t < frames b) × (s < states b t) × (w < 2 ^ inputs b)
unfolding position_checked
placed b t s w p e =
    let e₀ = both_accept (place_checked b t s) _ p e in
    let q = place_in b t s _ e₀.1 in
    let e₃ = passed (eqb t (frames b)) 10 (frames b) _ p refl e₀.2 in
    let e₄ = passed (leb (2 ^ inputs b) w) 9 0 _ p refl e₃.1 in
    let n = eqb-false t (frames b) e₃.0 in
    (omega (arith, q.0), q.1, leb-false (2 ^ inputs b) w e₄.0)
