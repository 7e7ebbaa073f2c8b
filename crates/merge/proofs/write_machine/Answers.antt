-- `merge::write_machine` meets its contract.
-- Assumes nothing.
use native.Mathlib.Omega.{arith}
use Rattle.merge.proofs.Writing.{written}
use Rattle.merge.proofs.write_machine.Goals as goal

pub returns : goal.returns
returns c =
    written c.args.res.now _ _ _ c.args.entries c.args.fewest.outs c.args.fewest.nexts (omega (arith, c.requires.outs_len)) (omega (arith, c.requires.outs_len)) (omega (arith, c.requires.outs_len)) _ _ _ _ _
    c.store.ensures c.store-2.ensures c.store-3.ensures c.store_all.ensures c.store_all-2.ensures
