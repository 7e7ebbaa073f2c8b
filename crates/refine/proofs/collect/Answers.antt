-- `refine::collect` meets its contract. The invariant: the paths of the candidates of the states so far are stored.
-- Assumes nothing.
use mathlib.Core.Path.{◌≡◌, sym, ap, ◌∙◌}
use Prim.Native.Nat.{◌+◌, ◌*◌, ◌/◌}
use native.Mathlib.Nat.{suc-mul, zero-mul}
use native.Mathlib.Numerals.{add-one}
use native.Mathlib.Omega.{arith}
use Rattle.refine.specs.Collecting.{Collectable}
use Rattle.refine.proofs.Collecting.{collecting_none, collecting_all, collectable_kept, collecting_from, states_in}
use Rattle.refine.proofs.collect.Goals as goal

pub nonzero_div-states : goal.nonzero_div-states
nonzero_div-states c =
    c.requires.words

pub loop-state-init : goal.loop-state-init
loop-state-init c =
    (omega arith, collecting_none c.args.scratch.now c.args.rows c.args.from c.args.fan c.args.bits _ (zero-mul c.args.fan))

pub collect_words-fresh-requires : goal.collect_words-fresh-requires
collect_words-fresh-requires c =
    let good : Collectable c.loop-state.scratch c.args.rows c.args.from c.args.fan c.args.bits =
    collectable_kept c.args.scratch.now _ c.args.rows c.args.from c.args.fan c.args.bits c.requires c.loop-state.invariant.1.kept c.loop-state.invariant.1.long
    in
    record {
      collectable = good;
      state_bound = omega arith;
      collecting = collecting_from c.args.scratch.now _ c.args.rows c.args.from c.args.fan c.args.bits c.requires c.loop-state.invariant.1.kept c.loop-state.invariant.1.long c.loop-state.scratch _ _
          (states_in c.args.scratch.now c.args.rows c.args.from c.args.fan c.args.bits c.loop-state.state c.requires (omega arith)) c.loop-state.invariant.1;
    }

pub loop-state-preserved : goal.loop-state-preserved
loop-state-preserved c =
    let good : Collectable c.loop-state.scratch c.args.rows c.args.from c.args.fan c.args.bits =
    collectable_kept c.args.scratch.now _ c.args.rows c.args.from c.args.fan c.args.bits c.requires c.loop-state.invariant.1.kept c.loop-state.invariant.1.long
    in
    let e : (c.loop-state.state + 1) * c.args.fan ≡ c.loop-state.state * c.args.fan + c.args.fan = rw (add-one c.loop-state.state) (suc-mul c.loop-state.state c.args.fan) in
    let b = states_in c.args.scratch.now c.args.rows c.args.from c.args.fan c.args.bits (c.loop-state.state + 1) c.requires (omega arith) in
    (omega arith, rw e (collecting_from c.loop-state.scratch c.args.scratch.now c.args.rows c.args.from c.args.fan c.args.bits (good) (λ j o. sym (c.loop-state.invariant.1.kept j o)) (sym c.loop-state.invariant.1.long) _ _ _ (omega arith) c.collect_words-fresh.ensures))

pub returns : goal.returns
returns c =
    let e : c.loop-state.state ≡ c.args.rows.count / c.args.fan = omega arith in
    collecting_all c.args.scratch.now _ c.args.rows c.args.from c.args.fan c.args.bits _ _ (ap (λ k. k * c.args.fan) e ∙ c.requires.whole) c.loop-state.invariant.1
