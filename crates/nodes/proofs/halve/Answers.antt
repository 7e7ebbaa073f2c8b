use Rattle.nodes.proofs.Laws.{halves_equal}
use Rattle.nodes.proofs.halve.Goals as goal

-- src/lib.rt:108:1
pub returns : goal.returns
returns c =
    halves_equal c.parts-s.ensures.0 c.parts-s.ensures.1 c.parts-t.ensures.0 c.parts-t.ensures.1
