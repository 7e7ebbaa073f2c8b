-- `schedule::first_repeated` meets its contract. The invariant: no item before item k is the same as an earlier one.
-- Assumes nothing.
use mathlib.Core.Path.{◌≡◌, sym, ap, ◌∙◌}
use mathlib.Core.Bool.{false}
use native.Mathlib.Omega.{arith}
use lib.ListN.{length}
use Rattle.layered.proofs.Search.{least_is, below_suc}
use Rattle.circuit.specs.Found.{found}
use Rattle.circuit.proofs.Found.{found_here, found_nowhere}
use Rattle.spreading.specs.Spread.{is_repeated}
use Rattle.schedule.proofs.first_repeated.Goals as goal

pub loop-k-init : goal.loop-k-init
loop-k-init c =
    (omega arith, λ i h. absurd (omega arith))

pub returns-then-is_repeated : goal.returns-then-is_repeated
returns-then-is_repeated c =
    let l = least_is (length c.args.list.now) c.loop-k.k _ (omega arith) c.loop-k.invariant.1 (λ _. sym c.is_repeated.ensures ∙ c.if-is_repeated.true) in
    found_here _ _ (omega arith) ∙ ap (found _) (sym l)

pub loop-k-preserved : goal.loop-k-preserved
loop-k-preserved c =
    (omega arith, λ j h. below_suc {P = λ j. is_repeated c.args.list.now j ≡ false} c.loop-k.invariant.1 (sym c.is_repeated.ensures ∙ c.if-is_repeated.false) j (omega arith))

pub returns : goal.returns
returns c =
    let n = length c.args.list.now in
    let l = least_is n n (is_repeated c.args.list.now) (omega arith) (λ i h. c.loop-k.invariant.1 i (omega arith)) (λ h. absurd (omega arith)) in
    found_nowhere n n (omega arith) ∙ ap (found n) (sym l)
