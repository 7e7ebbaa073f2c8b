-- What folding and committing answer and leave in common, and what is proved of the bytes.
use Rattle.std.specs.Prelude.{ℕ, ◌+◌, ◌^◌, ◌≤◌, ◌<◌, min, ◌≡◌, List, length, get_or, take, replicate, Ok, Err}
use Rattle.verdict.specs.Judgements.{Verdict, answer, figures, and_then, result_after}
use Rattle.verdict.specs.declared.Figures.{Figures}
use Rattle.verdict.specs.declared.Refusal.{Refusal}
use Rattle.verdict.specs.declared.Refusal.TheVariants.{Nodes}
use Rattle.sizes.specs.Sizes.{inputs, outputs, frames}
use Rattle.circuit.specs.Circuit.{gates}
use Rattle.circuit.specs.WellFormed.{Accepted}
use Rattle.nodes.specs.declared.Node.{Node}
use Rattle.records.specs.Records.{none}
use Rattle.survey.specs.Survey.{Survey, work_length, most_records, first_short, Known}
use Rattle.folded.specs.Folded.{folded_bytes, scratch_needed, nodes_checked, ask_checked, cleared, scratch_after, nodes_after}
use Rattle.folded.specs.Theorems.{Folding, Canonical}
use Rattle.admit.specs.Admit.{Wanted, table_checked}

-- what is answered, and what the result holds
unfoldable pub wanted_checked : (b : List ℕ) → Wanted → (scratch_room node_room result_room : ℕ) → Figures
wanted_checked b w scratch_room node_room result_room = and_then (ask_checked b scratch_room node_room) (table_checked b w result_room)

unfoldable pub wanted_result : (b : List ℕ) → Wanted → (scratch_room node_room : ℕ) (before : List ℕ) → List ℕ
wanted_result b w scratch_room node_room before = result_after (wanted_checked b w scratch_room node_room (length before)) (folded_bytes b) before

-- demands 2 and 3, of the bytes that a call with these figures left at the front of the result
unfoldable pub Promised : List ℕ → Figures → (result : List ℕ) → Type 0
Promised b f result =
    (p : ℕ) → f ≡ answer 0 p
    → Folding (2 ^ inputs b) (outputs b) (frames b) b (take p result) × Canonical (2 ^ inputs b) (outputs b) (frames b) b (take p result)

-- ---- what is asked of, and left by, each part of a call

-- what is judged of a circuit that is accepted, with enough scratch: 18, then 14 and 7; and what the result holds
unfoldable pub survey_checked : (b : List ℕ) → Wanted → (node_room result_room : ℕ) → Figures
survey_checked b w node_room result_room = and_then (nodes_checked b node_room) (table_checked b w result_room)

unfoldable pub survey_result : (b : List ℕ) → Wanted → (node_room : ℕ) (before : List ℕ) → List ℕ
survey_result b w node_room before = result_after (survey_checked b w node_room (length before)) (folded_bytes b) before

-- an accepted circuit whose survey was begun with enough scratch: what was found, and where the records were enough, what is known in ns, s and ws
pub record Findings (b : List ℕ) (survey : Survey) (ns : List Node) (s ws : List ℕ) : Type 0 where
  pub accepted : Accepted b
  pub enough : scratch_needed b ≤ length s
  pub short : (refusal : Refusal) → survey ≡ Err refusal → (refusal ≡ Nodes (first_short b (length ns))) × (first_short b (length ns) ≤ gates b)
  pub whole : (counts : List ℕ) → survey ≡ Ok counts → (first_short b (length ns) ≡ gates b + 1) × Known b (min (length ns) most_records) ns s ws counts
  pub space : work_length ≤ length ws

-- what is answered, and the result r as it is left
pub record Ends (b : List ℕ) (w : Wanted) (node_room : ℕ) (r r' : List ℕ) (v : Verdict) : Type 0 where
  pub answered : figures v ≡ survey_checked b w node_room (length r)
  pub written : r' ≡ survey_result b w node_room r

-- an accepted circuit and enough scratch, zero as far as it is needed
pub record Clean (b s : List ℕ) : Type 0 where
  pub accepted : Accepted b
  pub enough : scratch_needed b ≤ length s
  pub zeros : (j : ℕ) → j < scratch_needed b → get_or s j 0 ≡ 0

-- what is answered of them, and the scratch s, the records ns and the result r as they are left
pub record Finishes (b : List ℕ) (w : Wanted) (s s' : List ℕ) (ns ns' : List Node) (r r' : List ℕ) (v : Verdict) : Type 0 where
  pub ends : Ends b w (length ns) r r' v
  pub scratch_left : s' ≡ cleared b s
  pub nodes_left : ns' ≡ replicate (length ns) none

-- all of a call: what is answered, and the scratch s, the records ns and the result r as they are left
pub record Folds (b : List ℕ) (w : Wanted) (s s' : List ℕ) (ns ns' : List Node) (r r' : List ℕ) (v : Verdict) : Type 0 where
  pub answered : figures v ≡ wanted_checked b w (length s) (length ns) (length r)
  pub written : r' ≡ wanted_result b w (length s) (length ns) r
  pub scratch_left : s' ≡ scratch_after b s
  pub nodes_left : ns' ≡ nodes_after b (length s) ns
