-- `ask::plan::Plan::numbers` meets its contract. The invariant: the sizes and the counts so far stand in front.
-- Assumes nothing.
use mathlib.Core.Path.{◌≡◌}
use mathlib.Core.List.{List, ◌∷◌}
use Prim.Native.Nat.{ℕ, ◌+◌, ◌≤◌}
use lib.ListN.{length, take}
use Rattle.ask.specs.declared.plan.Plan.{Plan}
use Rattle.ask.proofs.plan.Plan.numbers.Given as goal

-- the sizes, and the counts of the layers below t
abbrev front : Plan → (counts : List ℕ) (t : ℕ) → List ℕ
front p counts t = p.inputs ∷ p.outputs ∷ p.frames ∷ take t counts

abbrev pub invariant-loop-t : goal.invariant-loop-t
invariant-loop-t l =
    (l.t ≤ 17) × (length l.numbers ≡ 21) × (take (3 + l.t) l.numbers ≡ front l.self l.counts l.t)
