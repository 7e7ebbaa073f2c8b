-- `table::head::entries_below` meets its contract.
-- Assumes nothing.
use mathlib.Core.Path.{ap₂}
use Prim.Native.Nat.{◌*◌, ◌≤◌}
use native.Mathlib.Nat.{mul-le-mul, le_trans}
use native.Mathlib.Omega.{arith}
use lib.Dec.{lit≤}
use Rattle.table.specs.Table.{entries_below}
use Rattle.table.proofs.head.entries_below.Goals as goal

pub overflow_mul-result : goal.overflow_mul-result
overflow_mul-result c =
    let few : c.states_below.result * c.args.words ≤ 268435456 =
    let s : c.states_below.result ≤ 1048576 = omega (arith, c.states_below.ensures) in
    le_trans (mul-le-mul s c.requires.words_value.1) (lit≤ tt)
    in
    omega (arith, few)

pub returns : goal.returns
unfolding entries_below
returns c =
    let few : c.states_below.result * c.args.words ≤ 268435456 =
    let s : c.states_below.result ≤ 1048576 = omega (arith, c.states_below.ensures) in
    le_trans (mul-le-mul s c.requires.words_value.1) (lit≤ tt)
    in
    (ap₂ ◌*◌ c.states_below.ensures.0 c.requires.words_value.0, few)
