-- `table::head::check_head` meets its contract: each stage is the definition's, and an accepted stage gives the next one what it requires.
-- Assumes nothing.
use Rattle.std.proofs.Common.{sym, arith}
use Rattle.std.proofs.lemmas.Grind.{common_steps}
use Rattle.verdict.proofs.Laws.{refusal_number, told}
use Rattle.sizes.proofs.Laws.{sized}
use Rattle.table.specs.Table.{head_checked, table_length, nexts_at, outputs_at, entry_count}
use Rattle.table.proofs.Offsets.{head_length_lem, words_most}
use Rattle.table.proofs.head.check_head.Goals as goal

pub returns-in_err-check : goal.returns-in_err-check
unfolding head_checked
returns-in_err-check c = told _ _ _ c.from_residual.ensures.1 (grind (arith, common_steps, refusal_number))

pub head_length-head-requires : goal.head_length-head-requires
head_length-head-requires c = omega (arith, sized _ _ _ _ _ (sym c.in_ok-check.ensures))

pub check_counts-requires-clause-last_in_bounds : goal.check_counts-requires-clause-last_in_bounds
check_counts-requires-clause-last_in_bounds c = omega (arith, head_length_lem c.read-sizes.result.frames)

pub returns-in_err-check_counts : goal.returns-in_err-check_counts
unfolding head_checked
returns-in_err-check_counts c = told _ _ _ c.from_residual-in_err-check_counts.ensures.1 (grind (arith, common_steps, refusal_number, c.in_ok-check.ensures))

pub check_connected-requires-clause-outputs_le_most_outputs :
    goal.check_connected-requires-clause-outputs_le_most_outputs
check_connected-requires-clause-outputs_le_most_outputs c =
    let s = sized _ _ _ _ _ (sym c.in_ok-check.ensures) in
    (s.outputs_to, s.frames_to)

pub returns-in_err-check_connected : goal.returns-in_err-check_connected
unfolding head_checked
returns-in_err-check_connected c = told _ _ _ c.from_residual-in_err-check_connected.ensures.1 (grind (arith, common_steps, refusal_number, c.in_ok-check.ensures))

pub power-requires : goal.power-requires
power-requires c = omega (arith, sized _ _ _ _ _ (sym c.in_ok-check.ensures))

pub entries_below-entries-requires : goal.entries_below-entries-requires
entries_below-entries-requires c =
    let s = sized _ _ _ _ _ (sym c.in_ok-check.ensures) in
    record {
      words_value = (grind arith, omega (arith, words_most _ s.inputs_to));
      layer_le_most_frames = (s.frames_to, omega (arith, head_length_lem c.read-sizes.result.frames));
    }

pub returns-then-length-head-2 : goal.returns-then-length-head-2
unfolding entry_count head_checked nexts_at outputs_at table_length
returns-then-length-head-2 c = grind (arith, common_steps, c.in_ok-check.ensures)

pub returns : goal.returns
unfolding entry_count head_checked nexts_at outputs_at table_length
returns c = grind (arith, common_steps, c.in_ok-check.ensures)
