-- `table::head::connected_of` meets its contract: the word is within the head.
-- Assumes nothing.
use mathlib.Core.Path.{ap, ◌∙◌}
use Prim.Native.Nat.{ℕ}
use native.Mathlib.Omega.{arith}
use Rattle.words.specs.Words.{word_at}
use Rattle.table.specs.Table.{connected_at, connected}
use Rattle.table.proofs.Offsets.{connected-at, head_length_lem}
use Rattle.table.proofs.head.connected_of.Goals as goal

pub read-requires : goal.read-requires
read-requires c =
    omega (arith, c.requires, c.connected_at.ensures, connected-at c.args.last c.args.t, head_length_lem c.args.last)

pub returns : goal.returns
unfolding connected
returns c =
    (c.read.ensures.0 ∙ ap (word_at c.args.table.now) (c.connected_at.ensures ∙ ap (λ (T : ℕ). connected_at T c.args.t) c.requires.last_value.0), c.read.ensures.1)
