-- `words::read` meets its contract: each byte is below 256.
-- Assumes nothing.
use mathlib.Core.Path.{sym}
use Prim.Native.Nat.{◌+◌}
use native.Mathlib.Omega.{arith}
use Rattle.words.proofs.Laws.{word_is}
use Rattle.words.proofs.read.Goals as goal

pub overflow_cast-low : goal.overflow_cast-low
overflow_cast-low c =
    omega (arith, c.type_inv.bytes c.args.at)

pub overflow_cast-high : goal.overflow_cast-high
overflow_cast-high c =
    omega (arith, c.type_inv.bytes (c.args.at + 1))

pub overflow_mul-result : goal.overflow_mul-result
overflow_mul-result c =
    omega (arith, c.type_inv.bytes c.args.at, c.type_inv.bytes (c.args.at + 1))

pub overflow_add-result : goal.overflow_add-result
overflow_add-result c =
    omega (arith, c.type_inv.bytes c.args.at, c.type_inv.bytes (c.args.at + 1))

pub returns : goal.returns
returns c =
    (sym (word_is c.args.bytes.now c.args.at), omega (arith, c.type_inv.bytes c.args.at, c.type_inv.bytes (c.args.at + 1)))
