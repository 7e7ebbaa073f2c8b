-- What is judged and taken of the scratch.
use Rattle.std.specs.Prelude.{ℕ, ◌≡◌, cond, List, ltb, length}
use Rattle.verdict.specs.Judgements.{Verdict, figures}
use Rattle.folded.specs.Folded.{six_checked, cleared_to}

-- 6 is judged, and the needed numbers of the scratch s are zero where it is enough
pub record Takes (needed : ℕ) (s s' : List ℕ) (v : Verdict) : Type 0 where
  pub answered : figures v ≡ six_checked needed (length s)
  pub left : s' ≡ cond (ltb (length s) needed) s (cleared_to needed s)
