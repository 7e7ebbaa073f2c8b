-- What is proved of what unfolding writes.
use Rattle.std.specs.Prelude.{ℕ, ◌≡◌, List, take}
use Rattle.verdict.specs.Judgements.{answer}
use Rattle.verdict.specs.declared.Figures.{Figures}
use Rattle.unfolded.specs.Theorems.{Unfolding}

-- the theorems, of the bytes that a call with these figures left at the front of the result
unfoldable pub Promised : List ℕ → Figures → (result : List ℕ) → Type 0
Promised b f result = (p : ℕ) → f ≡ answer 0 p → Unfolding b (take p result)
