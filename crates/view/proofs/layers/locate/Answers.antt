-- `view::layers::locate` meets its contract: the table's check and the layer are judged, and where both pass the layer's part is found by what the
-- layout says of the array of outputs.
-- Assumes nothing.
use Rattle.std.proofs.Common.{sym, ap₂, ◌*◌, ◌≤◌, arith}
use Rattle.table.specs.Sound.{TableHeaded}
use Rattle.table.proofs.Accepted.{sound}
use Rattle.table.proofs.Offsets.{Laid, laid, row_small}
use Rattle.view.proofs.LayerParts.{table_refused, layer_refused, end_empty, part_located}
use Rattle.view.proofs.layers.locate.Goals as goal
use Rattle.view.proofs.layers.locate.Goals.{In_ok-check, After-read-layout, After-states_of}

headed : (c : In_ok-check) → TableHeaded c.args.table.now
headed c = (sound _ _ (sym c.in_ok-check.ensures.verdict)).headed

layout_is : (c : After-read-layout) → Laid c.args.table.now c.read-layout.result
layout_is c = laid _ _ (sound _ _ (sym c.in_ok-check.ensures.verdict)).headed c.read-layout.ensures

-- the entries of the layer are few
few : (c : After-states_of) → c.states_of.result * c.read-layout.result.words ≤ 16777216
few c = row_small _ _ c.states_of.ensures.1 (laid _ _ (sound _ _ (sym c.in_ok-check.ensures.verdict)).headed c.read-layout.ensures).words_to

pub returns-in_err-check-clause-answer : goal.returns-in_err-check-clause-answer
returns-in_err-check-clause-answer c = table_refused _ _ _ _ c.from_residual.ensures.1 c.in_err-check.ensures.verdict

pub read-layout-requires : goal.read-layout-requires
read-layout-requires c = headed (goal.at.read-layout-requires c).In_ok-check

pub returns-then-last-layer-clause-answer : goal.returns-then-last-layer-clause-answer
returns-then-last-layer-clause-answer c =
    layer_refused _ _ _ (sym c.in_ok-check.ensures.verdict) (omega (arith, layout_is (goal.at.returns-then-last-layer-clause-answer c).After-read-layout))

pub returns-then-layer-last-clause-answer : goal.returns-then-layer-last-clause-answer
returns-then-layer-last-clause-answer c =
    end_empty _ _ _ (sym c.in_ok-check.ensures.verdict) (omega (arith, layout_is (goal.at.returns-then-layer-last-clause-answer c).After-read-layout))

pub entries_below-below-requires : goal.entries_below-below-requires
entries_below-below-requires c =
    let l = layout_is (goal.at.entries_below-below-requires c).After-read-layout in
    record {
      words_value = (l.words_is, l.words_to);
      layer_le_most_frames = (omega arith, omega arith);
    }

pub states_of-requires : goal.states_of-requires
states_of-requires c = omega (arith, layout_is (goal.at.states_of-requires c).After-read-layout)

pub overflow_mul-entries : goal.overflow_mul-entries
overflow_mul-entries c = omega (arith, few (goal.at.overflow_mul-entries c).After-states_of)

pub overflow_add-result : goal.overflow_add-result
overflow_add-result c = omega (arith, layout_is (goal.at.overflow_add-result c).After-read-layout, c.entries_below-below.ensures)

pub overflow_mul-result-2 : goal.overflow_mul-result-2
overflow_mul-result-2 c = omega (arith, few (goal.at.overflow_mul-result-2 c).After-states_of)

pub returns-clause-answer : goal.returns-clause-answer
returns-clause-answer c =
    let l = layout_is (goal.at.returns-clause-answer c).After-read-layout in
    part_located _ _ _ (sym c.in_ok-check.ensures.verdict) _ _ (omega arith) (omega arith) (ap₂ (λ s w. 2 * (s * w)) c.states_of.ensures.0 l.words_is)
