-- `write::put_connected` meets its contract. The invariant: the words of the first t frames are stored.
-- Assumes nothing.
use mathlib.Core.Path.{◌≡◌}
use mathlib.Core.List.{List}
use Prim.Native.Nat.{ℕ, ◌≤◌}
use Rattle.words.specs.Words.{stored}
use Rattle.sizes.specs.Sizes.{frames}
use Rattle.layered.specs.Search.{tabulate}
use Rattle.circuit.specs.Circuit.{connected_outputs}
use Rattle.source.specs.Source.{sourced}
use Rattle.table.specs.Table.{connected_at}
use Rattle.write.proofs.put_connected.Given as goal

-- the words of the first t frames
abbrev first : List ℕ → (t : ℕ) → List ℕ
first b t = tabulate t (connected_outputs b)

abbrev pub invariant-loop-t : goal.invariant-loop-t
invariant-loop-t l =
    (l.t ≤ l.last) × (l.res ≡ stored 2 l.initial.res (connected_at (frames (sourced l.source l.circuit)) 0) (first (sourced l.source l.circuit) l.t))
