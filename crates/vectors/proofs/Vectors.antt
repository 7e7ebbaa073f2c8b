-- The figures hold: the test is computed, and where it passes, each row's equation holds.
use mathlib.Core.Path.{◌≡◌, refl, ap, ap₂, ◌∙◌, subst⁻¹}
use mathlib.Core.Bool.{Bool, true, ◌&&◌}
use mathlib.Core.List.{List, [], ◌∷◌}
use Prim.Native.Nat.{ℕ}
use lib.Dec.{T, eqb, eqb→eq}
use Rattle.words.specs.Words.{word_at}
use Rattle.verdict.specs.Judgements.{refuse_first, first_refusal}
use Rattle.verdict.specs.declared.Figures.{Figures}
use Rattle.sizes.specs.Sizes.{inputs, outputs, frames, sizes_checked}
use Rattle.layered.specs.Search.{every, least, tally, total, equal}
use Rattle.layered.specs.Histories.{history_words}
use Rattle.layered.specs.Machines.{table_words}
use Rattle.layered.specs.States.{count, number, history}
use Rattle.layered.proofs.Search.{both, equal_lists}
use Rattle.circuit.specs.Lists.{grown, bit, packed, block_start}
use Rattle.circuit.specs.Circuit as circuit
use Rattle.circuit.specs.Theorems.{response}
use Rattle.table.specs.Table as table
use Rattle.positions.specs.Positions as positions
use Rattle.steps.specs.Steps as steps
use Rattle.diagrams.specs.Counts as counts
use Rattle.functions.specs.Functions as functions
use Rattle.folded.specs.Folded as folded
use Rattle.unfolded.specs.Unfolded as unfolded
use Rattle.latest.specs.Latest.{input_frames, later_frame, latest_frames, reaches_later}
use Rattle.vectors.specs.Vectors.{Call, Check, Fold, Unfold, Step, Outcome, Row, rows, outcome_of, agree, hold, Each}
use Rattle.vectors.proofs.Quick.{quick_ahead, quick_checked, quick_checked_lem}

-- ---- all that is unfolded to compute a circuit's outputs, its check, the same quickly, a folded table's bytes, and a table's check

abbrev circuit_outputs : List ℕ → List ℕ → List ℕ
unfolding circuit.output_word circuit.signal_values circuit.gate_value circuit.operand circuit.unconnected circuit.literal_value circuit.input_values circuit.output_signal circuit.gate_signal circuit.gates circuit.lefts_at circuit.rights_at circuit.literal_at circuit.all_inputs circuit.all_outputs grown bit packed word_at inputs outputs frames
circuit_outputs b words = circuit.output_words b words

abbrev circuit_checked : List ℕ → Figures
unfolding circuit_outputs circuit.checked circuit.form_checked circuit.form_within circuit.head_checked circuit.literals_checked circuit.circuit_length circuit.admissible circuit.of_unconnected circuit.look_ahead_checked circuit.looks_ahead circuit.as_first circuit.output_on circuit.output_bit circuit.later_inputs circuit.frame_of history_words every block_start sizes_checked refuse_first
circuit_checked b = circuit.checked b

abbrev circuit_quick : List ℕ → Figures
unfolding circuit_checked quick_checked quick_ahead reaches_later latest_frames later_frame input_frames
circuit_quick b = quick_checked b

abbrev folded-bytes : List ℕ → List ℕ
unfolding circuit_outputs circuit.connected_outputs folded.folded_bytes table_words count number history response history_words
folded-bytes b = folded.folded_bytes b

abbrev nodes_to_lem : List ℕ → ℕ → ℕ
unfolding circuit_outputs functions.nodes_to functions.signal_on counts.nodes_of counts.nodes_at counts.is_node counts.same_block counts.block counts.bits total tally least every
nodes_to_lem b k = functions.nodes_to b k

abbrev table_checked_lem : List ℕ → Figures
unfolding table.checked table.head_checked table.counts_checked table.connected_checked table.entries_checked table.array_checked table.bad_output table.bad_next table.strays table.part_checked table.layer_part table.count_at table.states table.connected_at table.connected table.head_length table.states_below table.entries_below table.entry_count table.outputs_at table.nexts_at table.table_length table.entry_at total first_refusal
table_checked_lem b = table.checked b

-- ---- the test

-- what a call answers and leaves; that of `Check` computed quickly, since a row has 65,536 sequences
quick_outcome : Call → Outcome
quick_outcome (Check b) = record { figures = quick_checked b; result = []; scratch = [] }
quick_outcome (Fold b scratch nodes result) = outcome_of (Fold b scratch nodes result)
quick_outcome (Unfold b result) = outcome_of (Unfold b result)
quick_outcome (Step b layer state word) = outcome_of (Step b layer state word)

-- it is what the definitions say
quick_outcome_lem : (c : Call) → outcome_of c ≡ quick_outcome c
unfolding outcome_of quick_outcome
quick_outcome_lem (Check b) = ap (λ f. record { figures = f; result = []; scratch = [] }) (quick_checked_lem b)
quick_outcome_lem (Fold b scratch nodes result) = refl
quick_outcome_lem (Unfold b result) = refl
quick_outcome_lem (Step b layer state word) = refl

-- the test over it
quick_hold : List Row → Bool
quick_hold [] = true
quick_hold (r ∷ rs) = agree (quick_outcome r.call) r.expected && quick_hold rs

quick_hold_lem : (rs : List Row) → hold rs ≡ quick_hold rs
unfolding hold quick_hold
quick_hold_lem [] = refl
quick_hold_lem (r ∷ rs) = ap₂ (λ o h. agree o r.expected && h) (quick_outcome_lem r.call) (quick_hold_lem rs)

-- every row, computed
quick : quick_hold rows ≡ true
unfolding quick_hold quick_outcome outcome_of agree rows circuit_quick folded-bytes table_checked_lem folded.fold_checked folded.fold_result folded.ask_checked folded.scratch_checked folded.nodes_checked nodes_to_lem folded.room_checked folded.scratch_after folded.cleared folded.scratch_needed equal unfolded.unfold_result steps.stepped steps.step_checked steps.move_checked positions.position_checked positions.place_checked steps.entry_checked
quick = refl

pub vectors_hold : hold rows ≡ true
vectors_hold = quick_hold_lem rows ∙ quick

-- ---- what it shows

agreed : (o p : Outcome) → T (agree o p) → o ≡ p
unfolding agree
agreed o p t =
    let h = (both (eqb o.figures.number p.figures.number) _).0 t in
    let k = (both (eqb o.figures.place p.figures.place) _).0 h.1 in
    let l = (both (equal o.result p.result) (equal o.scratch p.scratch)).0 k.1 in
    same (eqb→eq _ _ h.0) (eqb→eq _ _ k.0) (equal_lists _ _ l.0) (equal_lists _ _ l.1)
  where
    same : o.figures.number ≡ p.figures.number → o.figures.place ≡ p.figures.place → o.result ≡ p.result → o.scratch ≡ p.scratch → o ≡ p
    same a b c d = λ i. record { figures = record { number = a i; place = b i }; result = c i; scratch = d i }

each : (rs : List Row) → T (hold rs) → Each rs
unfolding hold Each
each [] t = tt
each (r ∷ rs) t = let h = (both (agree (outcome_of r.call) r.expected) (hold rs)).0 t in (agreed (outcome_of r.call) r.expected h.0, each rs h.1)

pub each_holds : Each rows
each_holds = each rows (subst⁻¹ T vectors_hold tt)
