-- What asking for the plan of a circuit's table, and committing to a plan, answer and leave (document 02, Point 6). What the scratch and
-- the list of records hold after either is what they hold after folding: `scratch_after`, `nodes_after`.
use Rattle.std.specs.Prelude.{ℕ, suc, ◌+◌, not, cond, List, [], ◌∷◌, ◌++◌, ltb, eqb, length, replicate}
use Rattle.verdict.specs.Judgements.{refuse, and_then, result_after}
use Rattle.verdict.specs.declared.Figures.{Figures}
use Rattle.sizes.specs.Limits.{most_frames}
use Rattle.sizes.specs.Sizes.{inputs, outputs, frames}
use Rattle.layered.specs.Search.{tabulate, equal}
use Rattle.table.specs.Table.{states}
use Rattle.folded.specs.Folded.{folded_bytes, ask_checked, room_checked}

-- the counts S 0 to S T, and 0 for the layers from T + 1 to 16
unfoldable pub counts_to : (T : ℕ) (S : ℕ → ℕ) → List ℕ
counts_to T S = tabulate (suc most_frames) (λ t. cond (ltb T t) 0 (S t))

-- the plan of a table, document 02's record: n, m, T, the counts, and the bytes that it takes
unfoldable pub plan_of : (table : List ℕ) → List ℕ
plan_of t = inputs t ∷ outputs t ∷ frames t ∷ (counts_to (frames t) (states t) ++ (length t ∷ []))

-- how many numbers that is
abbrev pub plan_length : ℕ
plan_length = most_frames + 5

-- the plan of a circuit is that of its folded table
unfoldable pub folded_plan : (circuit : List ℕ) → List ℕ
folded_plan b = plan_of (folded_bytes b)

-- what asking returns: number, place and the plan, zeros where it refuses; there is no result, and so no 7
unfoldable pub asked : List ℕ → (scratch_room node_room : ℕ) → List ℕ
asked b scratch_room node_room =
    let f = ask_checked b scratch_room node_room in
    f.number ∷ f.place ∷ cond (eqb f.number 0) (folded_plan b) (replicate plan_length 0)

-- what committing answers: 14 is judged after 18 and before 7
unfoldable pub commit_checked : (b plan : List ℕ) (scratch_room node_room result_room : ℕ) → Figures
commit_checked b plan scratch_room node_room result_room = and_then (ask_checked b scratch_room node_room) (refuse (not (equal plan (folded_plan b))) 14 0 (room_checked b result_room))

-- what the result holds after it
unfoldable pub commit_result : (b plan : List ℕ) (scratch_room node_room : ℕ) (before : List ℕ) → List ℕ
commit_result b plan scratch_room node_room before = result_after (commit_checked b plan scratch_room node_room (length before)) (folded_bytes b) before
