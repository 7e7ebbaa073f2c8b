-- `circuit::check_first` meets its contract. The invariant: what the definition says of all literals is what it says of those from g on.
-- Assumes nothing.
use mathlib.Core.Path.{◌≡◌, sym, ap, ◌∙◌}
use Prim.Native.Nat.{◌-◌}
use native.Mathlib.Omega.{arith}
use Rattle.verdict.proofs.Laws.{first_here, first_later, first-none}
use Rattle.circuit.specs.Circuit.{literal_at, literals_from}
use Rattle.circuit.proofs.Literals.{too_high, low_enough}
use Rattle.circuit.proofs.check_first.Goals as goal

pub loop-g-init : goal.loop-g-init
loop-g-init c =
    let z : c.args.count ≡ c.args.count - 0 = omega arith in
    (omega arith, ap (literals_from c.args.circuit.now c.args.start 0) z)

pub overflow_mul-at : goal.overflow_mul-at
overflow_mul-at c =
    omega (arith, c.loop-g-test.true, c.requires.circuit_headed)

pub overflow_add-at : goal.overflow_add-at
overflow_add-at c =
    omega (arith, c.loop-g-test.true, c.requires.circuit_headed, c.requires)

pub overflow_add-base : goal.overflow_add-base
overflow_add-base c =
    omega (arith, c.loop-g-test.true, c.requires.circuit_headed, c.requires.head_of)

pub overflow_mul-base : goal.overflow_mul-base
overflow_mul-base c =
    omega (arith, c.loop-g-test.true, c.requires.circuit_headed, c.requires.head_of)

pub read-requires : goal.read-requires
read-requires c =
    omega (arith, c.loop-g-test.true, c.requires.circuit_headed, c.requires)

pub returns-then-base-g : goal.returns-then-base-g
unfolding literal_at
returns-then-base-g c =
    sym (c.loop-g.invariant.1
    ∙ first_here _ _ _ _ _ _ (omega (arith, c.loop-g-test.true)) (too_high c.args.circuit.now c.args.start c.args.count _ c.args.head.base _ c.requires.count_bound.1 c.loop-g-test.true c.requires.head_of.base_is c.read.ensures.0 c.if-base-g.true))

pub loop-g-preserved : goal.loop-g-preserved
unfolding literal_at
loop-g-preserved c = (
  omega (arith, c.loop-g-test.true),
  c.loop-g.invariant.1
      ∙ first_later _ _ _ _ _ _ (omega (arith, c.loop-g-test.true)) (low_enough c.args.circuit.now c.args.start c.args.count _ c.args.head.base _ c.requires.count_bound.1 c.loop-g-test.true c.requires.head_of.base_is c.read.ensures.0 c.if-base-g.false),
)

pub returns : goal.returns
returns c =
    sym (c.loop-g.invariant.1 ∙ first-none _ _ _ _ _ _ (omega arith))
