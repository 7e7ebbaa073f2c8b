-- `simulate::write_outputs` meets its contract. The invariant: the outputs on the first k sequences are written, and the rest is as before.
-- Assumes nothing.
use mathlib.Core.Path.{◌≡◌}
use mathlib.Core.List.{◌++◌}
use Prim.Native.Nat.{◌*◌, ◌≤◌}
use lib.ListN.{drop}
use Rattle.sizes.specs.Sizes.{frames as frames_of}
use Rattle.simulate.specs.Simulate.{all_output_words}
use Rattle.simulate.proofs.write_outputs.Given as goal

abbrev pub invariant-loop-k : goal.invariant-loop-k
invariant-loop-k l =
    (l.k ≤ l.count) × (l.res ≡ all_output_words l.circuit l.k l.words ++ drop (l.k * frames_of l.circuit) l.initial.res)
