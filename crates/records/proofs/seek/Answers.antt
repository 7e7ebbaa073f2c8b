use mathlib.Core.Path.{◌≡◌, subst}
use mathlib.Core.Logic.{⊎_elim}
use Prim.Native.Nat.{ℕ, suc, ◌+◌, ◌<◌}
use native.Mathlib.Omega.{arith}
use Rattle.diagrams.specs.Making.{home, place}
use Rattle.diagrams.proofs.Probing.{Passed, passed_none, place_is}
use Rattle.nodes.proofs.Seeking.{home_below, id_in, id_next, id_goes_on, id_ends, id_none}
use Rattle.records.specs.Records.{nodes_in}
use Rattle.records.proofs.Laws.{shows_of}
use Rattle.records.proofs.seek.Goals as goal

begins : (R l p q id : ℕ) → (0 < R → id ≡ home R l p q + 2) → 0 < R → id ≡ place R (home R l p q) 0 + 2
begins R l p q id e h = ⊎_elim (λ c. omega (arith, e h, c)) (λ c. absurd (omega (arith, c, home_below R l p q h))) (place_is R (home R l p q) 0)

pub loop-init : goal.loop-init
loop-init c = record {
  id_is = begins _ _ _ _ _ c.start_of-id.ensures;
  passed = passed_none c.args.room (nodes_in c.args.nodes.now) c.args.level c.args.low c.args.high;
}

pub node_of-requires : goal.node_of-requires
node_of-requires c =
    omega (arith, c.requires, id_in c.args.room (nodes_in c.args.nodes.now) c.args.level c.args.low c.args.high c.requires.0 c.requires.1.0 c.requires.1.1.1 c.loop.counter c.loop-test.true c.loop.id (c.loop.invariant.id_is c.loop-test.true))

pub returns-then-stops : goal.returns-then-stops
returns-then-stops c =
    id_ends c.args.room (nodes_in c.args.nodes.now) c.args.level c.args.low c.args.high c.requires.0 c.requires.1.0 c.requires.1.1.1 c.loop.counter c.loop-test.true c.loop.id (c.loop.invariant.id_is c.loop-test.true)
    c.node_of.result (shows_of c.args.nodes.now c.loop.id c.node_of.result c.node_of.ensures) c.loop.invariant.passed c.stops.result c.stops.ensures c.if-stops.true

pub next_of-id-requires : goal.next_of-id-requires
next_of-id-requires c =
    ((id_in c.args.room (nodes_in c.args.nodes.now) c.args.level c.args.low c.args.high c.requires.0 c.requires.1.0 c.requires.1.1.1 c.loop.counter c.loop-test.true c.loop.id (c.loop.invariant.id_is c.loop-test.true)).1, omega (arith, c.requires))

pub loop-preserved : goal.loop-preserved
loop-preserved c =
    let w : suc c.loop.counter ≡ c.loop.counter + 1 = omega arith in
    record {
      id_is = λ h. subst (λ j. c.next_of-id.result ≡ place c.args.room (home c.args.room c.args.level c.args.low c.args.high) j + 2) w
          (omega (arith, c.next_of-id.ensures, id_next c.args.room (nodes_in c.args.nodes.now) c.args.level c.args.low c.args.high c.requires.0 c.requires.1.0 c.requires.1.1.1 c.loop.counter c.loop-test.true c.loop.id (c.loop.invariant.id_is c.loop-test.true) (omega (arith, h))));
      passed = subst (Passed c.args.room (nodes_in c.args.nodes.now) c.args.level c.args.low c.args.high) w
          (id_goes_on c.args.room (nodes_in c.args.nodes.now) c.args.level c.args.low c.args.high c.requires.0 c.requires.1.0 c.requires.1.1.1 c.loop.counter c.loop-test.true c.loop.id (c.loop.invariant.id_is c.loop-test.true)
          c.node_of.result (shows_of c.args.nodes.now c.loop.id c.node_of.result c.node_of.ensures) c.loop.invariant.passed c.stops.result c.stops.ensures c.if-stops.false);
    }

pub returns : goal.returns
returns c =
    id_none c.args.room (nodes_in c.args.nodes.now) c.args.level c.args.low c.args.high c.requires.0 c.requires.1.0 c.requires.1.1.1 c.loop.counter (omega arith) c.loop.invariant.passed
