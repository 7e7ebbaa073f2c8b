-- `words::read32` meets its contract: two words are read, one behind the other, which is one of twice their width.
-- Assumes nothing.
use mathlib.Core.Path.{sym, ap₂, ◌∙◌}
use Prim.Native.Nat.{◌+◌, ◌*◌}
use Rattle.words.specs.Words.{word_at}
use Rattle.words.proofs.Laws.{number_join}
use borrow.Author.Rules.{rules}
use Rattle.words.proofs.read32.Goals as goal

pub returns : goal.returns
unfolding word_at
returns c =
    (ap₂ (λ l h. l + 65536 * h) c.read.ensures.0 c.read-2.ensures.0 ∙ sym (number_join 2 2 c.args.bytes.now c.args.at), search rules)
