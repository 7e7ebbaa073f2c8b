-- Which plan is wanted, and what is judged of a circuit that was surveyed.
use Rattle.std.specs.Prelude.{ℕ, Bool, true, not, List, Option, None, Some}
use Rattle.std.specs.Borrow.{Bor}
use Rattle.verdict.specs.Judgements.{refuse}
use Rattle.verdict.specs.declared.Figures.{Figures}
use Rattle.layered.specs.Search.{equal}
use Rattle.folded.specs.Folded.{room_checked}
use Rattle.folded.specs.Planned.{folded_plan}

-- the plan that is wanted: none, where any is, or the one with these numbers
abbrev pub Wanted : Type 0
Wanted = Option (Bor (List ℕ))

-- whether a plan is the one that is wanted
unfoldable pub agreed_on : Wanted → (plan : List ℕ) → Bool
agreed_on None plan = true
agreed_on (Some numbers) plan = equal numbers.now plan

-- what is judged once the nodes are counted: 14, then 7
abbrev pub table_checked : (b : List ℕ) → Wanted → (result_room : ℕ) → Figures
table_checked b w result_room = refuse (not (agreed_on w (folded_plan b))) 14 0 (room_checked b result_room)
