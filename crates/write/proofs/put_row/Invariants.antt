-- `write::put_row` meets its contract. The invariant: the words so far are stored.
-- Assumes nothing.
use mathlib.Core.Path.{◌≡◌}
use mathlib.Core.List.{List}
use Prim.Native.Nat.{ℕ, ◌+◌, ◌*◌, ◌≤◌}
use Rattle.words.specs.Words.{stored}
use Rattle.layered.specs.Search.{tabulate}
use Rattle.explore.specs.declared.Layout.{Layout}
use Rattle.write.specs.Write.{word_in}
use Rattle.write.proofs.put_row.Given as goal

-- the words of the first w entries
abbrev word_at : Layout → (ws : List ℕ) (w : ℕ) → ℕ
word_at layout ws w = word_in ws (layout.columns + w * layout.outputs) layout.outputs

abbrev first : Layout → (ws : List ℕ) (w : ℕ) → List ℕ
first layout ws w = tabulate w (word_at layout ws)

abbrev pub invariant-loop-w : goal.invariant-loop-w
invariant-loop-w l =
    (l.w ≤ l.fan) × (l.res ≡ stored 2 l.initial.res l.to (first l.layout l.work l.w))
