-- `draw::Source::read` meets its contract.
-- Assumes nothing.
use native.Mathlib.Omega.{arith}
use Rattle.table.proofs.Offsets.{Laid, laid}
use Rattle.table.proofs.Parts.{count_in}
use Rattle.draw.proofs.Source.read.Goals as goal
use Rattle.draw.proofs.Source.read.Goals.{Start}

lay : (s : Start) → Laid s.args.table.now s.args.layout
lay s = laid s.args.table.now s.args.layout s.requires.table_headed s.requires.layout_value.0

pub states_of-requires : goal.states_of-requires
states_of-requires c =
    count_in (c.args.table.now) c.requires.table_headed c.args.t (omega (arith, c.requires.layout_value.1))

pub entries_below-below-requires-clause-layer_le_most_frames : goal.entries_below-below-requires-clause-layer_le_most_frames
entries_below-below-requires-clause-layer_le_most_frames c =
    (omega (arith, c.requires.layout_value.1, c.requires.table_headed.sized), omega (arith, c.requires.layout_value.1, count_in c.args.table.now c.requires.table_headed c.args.t (omega (arith, c.requires.layout_value.1))))

pub overflow_add-result : goal.overflow_add-result
overflow_add-result c = omega (arith, (lay (goal.at.overflow_add-result c).Start).end_at, c.well_formed, c.entries_below-below.ensures.1)

pub overflow_add-result-2 : goal.overflow_add-result-2
overflow_add-result-2 c =
    let l = lay (goal.at.overflow_add-result-2 c).Start in
    omega (arith, l.outputs-at, l.frames_to, c.entries_below-below.ensures.1)
