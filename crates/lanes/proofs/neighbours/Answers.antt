-- `lanes::neighbours` meets its contract: number p is made of the bits that are named for place p.
-- Assumes nothing.
use Rattle.std.proofs.Common.{rules, ◌≡◌, ℕ, ◌+◌, ◌<◌, get_or, sym, ◌∙◌}
use Rattle.circuit.specs.Lists.{bit}
use Rattle.lanes.specs.Limits.{lane_count}
use Rattle.lanes.specs.Lanes.{NumberLanes}
use Rattle.lanes.proofs.Made.{made_at}
use Rattle.lanes.proofs.Laws.{picked_bit}
use Rattle.lanes.proofs.neighbours.Goals as goal

pub returns : goal.returns
unfolding NumberLanes
returns c j p lj lp =
    made_at _ _ _ 0 (λ p y. (j : ℕ) → j < lane_count → bit y j ≡ bit (c.args.at + j) (get_or c.args.bits.now p 0)) (λ p y q k. (search rules, search rules)) _ c.from_fn.ensures.items p lp j lj
    ∙ sym (picked_bit c.args.bits.now (c.args.at + j) p lp)
