-- `circuit::check_rest` meets its contract. The invariant: what the definition says of all these literals is what it says of those from g on.
-- Assumes nothing.
use mathlib.Core.Path.{◌≡◌, sym, ap, ◌∙◌}
use mathlib.Core.Bool.{not}
use Prim.Native.Nat.{◌-◌, ◌<◌}
use native.Mathlib.Omega.{arith}
use Rattle.verdict.proofs.Laws.{first_here, first_later, first-none}
use Rattle.circuit.specs.Circuit.{gates, admissible, literal_at, literals_from}
use Rattle.circuit.proofs.check_rest.Goals as goal

pub loop-g-init : goal.loop-g-init
loop-g-init c =
    (omega arith, omega (arith, c.requires.head_of, c.requires.circuit_bound), ap (λ n. literals_from c.args.circuit.now c.args.start c.args.first (n - c.args.first)) (sym c.requires.head_of.gates_is))

pub overflow_mul-at : goal.overflow_mul-at
overflow_mul-at c =
    let below : c.loop-g.g < gates c.args.circuit.now =
    omega (arith, c.loop-g-test.true, c.requires.head_of)
    in
    omega (arith, below, c.requires.circuit_headed)

pub overflow_add-at : goal.overflow_add-at
overflow_add-at c =
    let below : c.loop-g.g < gates c.args.circuit.now =
    omega (arith, c.loop-g-test.true, c.requires.head_of)
    in
    omega (arith, below, c.requires.circuit_headed, c.requires)

pub read-requires : goal.read-requires
read-requires c =
    let below : c.loop-g.g < gates c.args.circuit.now =
    omega (arith, c.loop-g-test.true, c.requires.head_of)
    in
    omega (arith, below, c.requires.circuit_headed, c.requires)

pub is_admissible-requires : goal.is_admissible-requires
is_admissible-requires c =
    let below : c.loop-g.g < gates c.args.circuit.now =
    omega (arith, c.loop-g-test.true, c.requires.head_of)
    in
    record {
      circuit_headed = c.requires.circuit_headed;
      head_of = c.requires.head_of;
      circuit_bound = (omega (arith, c.loop-g.invariant.0, c.requires.circuit_bound), below);
    }

pub returns-then-not-is_admissible : goal.returns-then-not-is_admissible
unfolding literal_at
returns-then-not-is_admissible c =
    let judged : admissible c.args.circuit.now c.loop-g.g (literal_at c.args.circuit.now c.args.start c.loop-g.g) ≡ c.is_admissible.result =
    sym (c.is_admissible.ensures ∙ ap (admissible c.args.circuit.now c.loop-g.g) c.read.ensures.0)
    in
    sym (c.loop-g.invariant.2 ∙ first_here _ _ _ _ _ _ (omega arith) (ap not (judged ∙ c.if-not-is_admissible.true)))

pub loop-g-preserved : goal.loop-g-preserved
unfolding literal_at
loop-g-preserved c =
    let judged : admissible c.args.circuit.now c.loop-g.g (literal_at c.args.circuit.now c.args.start c.loop-g.g) ≡ c.is_admissible.result =
    sym (c.is_admissible.ensures ∙ ap (admissible c.args.circuit.now c.loop-g.g) c.read.ensures.0)
    in
    (omega (arith, c.loop-g.invariant.0), omega arith, c.loop-g.invariant.2 ∙ first_later _ _ _ _ _ _ (omega arith) (ap not (judged ∙ c.if-not-is_admissible.false)))

pub returns : goal.returns
returns c =
    sym (c.loop-g.invariant.2 ∙ first-none _ _ _ _ _ _ (omega arith))
