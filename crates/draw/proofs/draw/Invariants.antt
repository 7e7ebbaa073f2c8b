-- `draw::draw` meets its contract. The invariant: the gates of the first t frames are stored, and the literals of the states that they reach and
-- of their outputs are kept.
-- Assumes nothing.
use mathlib.Core.Path.{◌≡◌}
use Prim.Native.Nat.{◌*◌, ◌≤◌}
use lib.ListN.{length, take}
use Rattle.unfolded.specs.Unfolded.{drawing}
use Rattle.chains.specs.Chains.{gates_stored}
use Rattle.draw.specs.Limits.{most_literals}
use Rattle.draw.specs.Draw.{StatesKept}
use Rattle.draw.proofs.draw.Given as goal

abbrev pub invariant-loop-t : goal.invariant-loop-t
invariant-loop-t l =
    (l.t ≤ l.frames) × (l.k ≡ length (drawing l.table l.t).gates) × (l.res ≡ gates_stored l.target.gates 0 l.initial.res (drawing l.table l.t).gates) × StatesKept l.table l.t l.states
    × (take (l.count * l.t) l.outputs ≡ (drawing l.table l.t).outputs) × (length l.outputs ≡ most_literals)
