-- `words::store_all` meets its contract. The invariant: the numbers so far are stored.
-- Assumes nothing.
use Rattle.std.proofs.Common.{◌∙◌, arith, refl, sym}
use Rattle.words.proofs.Laws.{stored_none, taken_more}
use Rattle.words.proofs.store_all.Goals as goal

pub loop-i-init : goal.loop-i-init
loop-i-init c = sym (stored_none 2 _ _)

pub loop-i-preserved : goal.loop-i-preserved
loop-i-preserved c =
    c.store.ensures ∙ taken_more 2 c.args.bytes.now c.loop-i.bytes c.args.at c.loop-i.i c.args.numbers.now _ c.loop-i.invariant refl (omega arith) (omega arith)
