-- `admit::wanted::same_numbers` meets its contract. The invariant: the numbers so far are the plan's.
-- Assumes nothing.
use mathlib.Core.Path.{◌≡◌, sym, ap}
use mathlib.Core.List.{List}
use Prim.Native.Nat.{ℕ}
use native.Mathlib.Omega.{arith}
use lib.ListN.{length, get_or}
use lib.Seq.{ext_get_or}
use Rattle.layered.proofs.Search.{below_suc, equal_true, equal_false}
use Rattle.admit.proofs.wanted.same_numbers.Goals as goal

pub loop-i-init : goal.loop-i-init
loop-i-init c =
    (omega arith, λ j l. absurd (omega arith))

pub returns-then-numbers-i : goal.returns-then-numbers-i
returns-then-numbers-i c =
    sym (equal_false _ _ (λ e. omega (arith, c.if-numbers-i.true, ap (λ (p : List ℕ). get_or p c.loop-i.i 0) e)))

pub loop-i-preserved : goal.loop-i-preserved
loop-i-preserved c =
    (omega arith, λ j k. below_suc {P = λ j. get_or c.args.numbers.now j 0 ≡ get_or c.args.plan.now j 0} c.loop-i.invariant.1 (omega (arith, c.if-numbers-i.false)) j (omega arith))

pub returns : goal.returns
returns c =
    let e : length c.args.numbers.now ≡ length c.args.plan.now = omega (arith, c.requires.0, c.requires.1) in
    sym (equal_true c.args.numbers.now c.args.plan.now (ext_get_or 0 c.args.numbers.now c.args.plan.now e (λ j k. c.loop-i.invariant.1 j (omega (arith, c.requires.0)))))
