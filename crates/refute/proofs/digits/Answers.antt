-- `refute::digits` meets its contract. The invariant: the digits from i on are stored, and `rest` holds the others.
-- Assumes nothing.
use mathlib.Core.Path.{refl, ◌∙◌}
use Prim.Native.Nat.{◌-◌, ◌%◌}
use native.Mathlib.Omega.{arith}
use lib.ListN.{length-set}
use Rattle.refute.proofs.Numbers.{digit_next, rest_next}
use Rattle.refute.proofs.digits.Goals as goal

pub loop-i-preserved : goal.loop-i-preserved
loop-i-preserved c = (
  omega arith,
  rest_next _ _ _ _ _ (omega arith) c.loop-i.invariant.0 c.loop-i.invariant.1,
  digit_next _ _ _ c.loop-i.chosen c.loop-i.i c.loop-i.rest _ (omega arith) c.loop-i.invariant.0 (omega (arith, c.loop-i.invariant, c.requires)) c.loop-i.invariant.1 refl c.loop-i.invariant.2,
  length-set c.loop-i.chosen (c.loop-i.i - 1) (c.loop-i.rest % c.args.states) ∙ c.loop-i.invariant.3,
)
