-- `words::store` meets its contract: the two bytes are those of the word.
-- Assumes nothing.
use native.Mathlib.Numerals.{add-one}
use borrow.Author.Rules.{rules}
use Rattle.words.specs.Words.{bytes_of}
use Rattle.words.proofs.Laws.{stored_one}
use Rattle.words.proofs.store.Goals as goal

pub returns : goal.returns
unfolding bytes_of
returns c =
    rw (add-one c.args.at) (stored_one 2 _ _ _ (search rules))
