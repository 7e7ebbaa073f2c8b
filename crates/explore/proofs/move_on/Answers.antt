use native.Mathlib.Omega.{arith}
use Rattle.explore.proofs.Begin.{state_turn, states_done, done_states}
use Rattle.explore.proofs.move_on.Goals as goal

-- src/lib.rt:178:9
pub returns-then-state-cursor : goal.returns-then-state-cursor
returns-then-state-cursor c =
    λ g E. state_turn c.args.layout g c.args.scratch.now c.args.work.now c.args.cursor E (omega arith)

-- src/lib.rt:180:5
pub end_group-requires : goal.end_group-requires
end_group-requires c =
    states_done c.args.layout c.args.scratch.now c.args.work.now c.args.cursor c.requires (omega arith)

-- src/lib.rt:172:1
pub returns : goal.returns
returns c =
    λ g E. c.end_group.ensures g (done_states c.args.layout g c.args.scratch.now c.args.work.now c.args.cursor E (omega arith))
