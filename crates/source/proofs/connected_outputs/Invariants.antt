-- `source::connected_outputs` meets its contract. The invariant: the word is that of the outputs of the frame from j on.
-- Assumes nothing.
use mathlib.Core.Path.{◌≡◌}
use mathlib.Core.Bool.{Bool}
use mathlib.Core.List.{List, []}
use Prim.Native.Nat.{ℕ, ◌-◌, ◌≤◌}
use lib.ListN.{take, drop}
use Rattle.sizes.specs.Sizes.{outputs}
use Rattle.circuit.specs.Lists.{listed, packed}
use Rattle.circuit.specs.Circuit.{connects}
use Rattle.source.specs.Source.{sourced}
use Rattle.source.proofs.connected_outputs.Given as goal

-- which outputs of the frame are connected
abbrev flags : List ℕ → (t : ℕ) → List Bool
flags b t = listed [] (connects b t) (outputs b)

abbrev pub invariant-loop-j : goal.invariant-loop-j
invariant-loop-j l =
    (l.j ≤ l.source.outputs) × (l.word ≡ packed (take (l.source.outputs - l.j) (drop l.j (flags (sourced l.source l.circuit) l.t))))
