-- What is proved of every table that passes every check, cited by the check.
use Rattle.std.specs.Prelude.{ℕ, ◌≡◌, List}
use Rattle.verdict.specs.Judgements.{answer}
use Rattle.table.specs.Table.{checked}
use Rattle.table.specs.Sound.{Sound}

-- it is a layered machine, whose layers 0 and T have one state and whose outputs set connected bits alone, and the place is 0
unfoldable pub LegalTable : List ℕ → Type 0
LegalTable b = (p : ℕ) → checked b ≡ answer 0 p → Sound b × (p ≡ 0)
