-- `causal::first_ahead` meets its contract. The invariant: where the pass stands, and what is kept of the part before.
-- Assumes nothing.
use mathlib.Core.Path.{◌≡◌, refl, ap, ◌∙◌, subst}
use Prim.Native.Nat.{◌+◌, ◌-◌, ◌^◌}
use native.Mathlib.Omega.{arith}
use borrow.Author.Rules.{rules}
use lib.ListN.{length}
use lib.Pow.{pow_mono}
use Rattle.circuit.specs.Limits.{most_signals}
use Rattle.circuit.specs.Circuit.{all_inputs}
use Rattle.circuit.specs.WellFormed.{WellFormed}
use Rattle.source.specs.Source.{head_of, sourced}
use Rattle.source.proofs.Sources.{well, own_well, own_room, few_items}
use Rattle.lanes.specs.Limits.{lane_count}
use Rattle.lanes.proofs.Laws.{room_ready}
use Rattle.causal.specs.Played.{Firsts}
use Rattle.causal.proofs.Parts.{output_few}
use Rattle.causal.proofs.Played.{outputs_played, placed}
use Rattle.causal.proofs.Pass.{Pass, pass_start, pass_more, pass_some, pass_none, pass_early}
use Rattle.causal.proofs.first_ahead.Goals as goal

pub power-count-requires : goal.power-count-requires
power-count-requires c =
    let known : WellFormed (sourced c.args.source c.args.circuit.now) (head_of c.args.source) =
    well _ _ c.requires.source_of
    in
    omega (arith, known)

pub own_bits-bits-requires : goal.own_bits-bits-requires
own_bits-bits-requires c =
    placed _ _ c.requires.source_of

pub shown_signals-shown-requires : goal.shown_signals-shown-requires
shown_signals-shown-requires c =
    (few_items _ _ c.requires.source_of, (own_room _ _ c.requires.source_of).0, (own_room _ _ c.requires.source_of).1)

pub first_uses-firsts-requires : goal.first_uses-firsts-requires
first_uses-firsts-requires c =
    own_well _ _ c.requires.source_of

pub loop-at-init : goal.loop-at-init
loop-at-init c =
    let known : WellFormed (sourced c.args.source c.args.circuit.now) (head_of c.args.source) =
    well _ _ c.requires.source_of
    in
    let b = (sourced c.args.source c.args.circuit.now) in
    let p = known in
    let all : c.args.source.base - 1 ≡ all_inputs b = omega (arith, p) in
    let count : c.power-count.result ≡ 2 ^ all_inputs b = c.power-count.ensures ∙ ap (λ k. 2 ^ k) all in (
      refl,
      rw count (pow_mono {j = 16} p.headed.inputs_to),
      count,
      search rules,
      search rules,
      pass_start b p.headed c.args.from (omega arith) c.args.source.total p.head_is.total_is,
      λ h. absurd (omega arith),
      c.first_uses-firsts.ensures,
      room_ready c.args.circuit.now _ c.room-lanes.ensures,
    )

pub neighbours-numbers-requires : goal.neighbours-numbers-requires
neighbours-numbers-requires c =
    (c.loop-at.invariant.0, omega (arith, c.own_bits-bits.ensures.as_many), λ p h. (c.own_bits-bits.ensures.are p h).1)

pub store_signals-requires : goal.store_signals-requires
store_signals-requires c =
    let W = own_well _ _ c.requires.source_of in
    record {
      well_formed = W;
      t_bound = (omega (arith, W), search rules, search rules, omega (arith, c.loop-at.invariant.3));
      first_uses = (c.loop-at.invariant.7, c.loop-at.invariant.8);
    }

pub first_differing-found-requires : goal.first_differing-found-requires
first_differing-found-requires c =
    let known : WellFormed (sourced c.args.source c.args.circuit.now) (head_of c.args.source) =
    well _ _ c.requires.source_of
    in
    let W = own_well _ _ c.requires.source_of in
    let lanes : length c.store_signals.new.lanes ≡ most_signals = c.store_signals.auto.lanes ∙ c.loop-at.invariant.3 in record {
      source_of = c.requires.source_of;
      lane_count_value = (c.loop-at.invariant.0, c.loop-at.invariant.5.low, c.loop-at.invariant.5.high);
      most_signals_in_bounds = (omega arith, omega (arith, c.loop-at.invariant.4), c.shown_signals-shown.ensures);
      outputs = outputs_played _ _ c.own_bits-bits.result c.shown_signals-shown.result c.own_bits-bits.ensures c.shown_signals-shown.ensures c.loop-at.at _ (omega (arith, c.loop-at.invariant.0, c.loop-at.invariant.1, c.loop-at-test.true)) c.store_signals.new.lanes W.head_is.frames_is
          (c.store_signals.ensures.signals _ c.neighbours-numbers.ensures) c.requires.source_of (λ q h. output_few (sourced c.args.source c.args.circuit.now) known.headed (head_of c.args.source) known.head_is q h);
      firsts = c.loop-at.invariant.6;
    }

pub returns-then-found-from : goal.returns-then-found-from
returns-then-found-from c =
    let known : WellFormed (sourced c.args.source c.args.circuit.now) (head_of c.args.source) =
    well _ _ c.requires.source_of
    in
    let on : Pass (sourced c.args.source c.args.circuit.now) c.args.from c.first_differing-found.result (c.loop-at.at + lane_count) =
    pass_more (sourced c.args.source c.args.circuit.now) known.headed c.args.from c.loop-at.found c.loop-at.at c.first_differing-found.result c.loop-at.invariant.5 c.first_differing-found.ensures.first_differing
    in
    pass_early (sourced c.args.source c.args.circuit.now) known.headed c.args.from c.requires.by_index c.first_differing-found.result _ (omega (arith, c.if-found-from.true)) c.requires.from_bound on

pub loop-at-preserved : goal.loop-at-preserved
loop-at-preserved c =
    let known : WellFormed (sourced c.args.source c.args.circuit.now) (head_of c.args.source) =
    well _ _ c.requires.source_of
    in
    let on : Pass (sourced c.args.source c.args.circuit.now) c.args.from c.first_differing-found.result (c.loop-at.at + lane_count) =
    pass_more (sourced c.args.source c.args.circuit.now) known.headed c.args.from c.loop-at.found c.loop-at.at c.first_differing-found.result c.loop-at.invariant.5 c.first_differing-found.ensures.first_differing
    in
    let e : c.loop-at.at ≡ c.loop-at.at + lane_count - lane_count = omega arith in (
      omega (arith, c.loop-at.invariant.0),
      c.loop-at.invariant.1,
      c.loop-at.invariant.2,
      c.store_signals.auto.lanes ∙ c.loop-at.invariant.3,
      c.first_differing-found.auto.kept ∙ c.loop-at.invariant.4,
      on,
      λ h. subst (λ at. Firsts (sourced c.args.source c.args.circuit.now) at c.first_differing-found.new.kept c.args.from c.first_differing-found.result) e c.first_differing-found.ensures.firsts_2,
      c.loop-at.invariant.7,
      c.store_signals.ensures.ready,
    )

pub returns-then-found-source : goal.returns-then-found-source
returns-then-found-source c =
    let known : WellFormed (sourced c.args.source c.args.circuit.now) (head_of c.args.source) =
    well _ _ c.requires.source_of
    in
    pass_some _ known.headed c.args.from c.requires.by_index c.loop-at.found c.loop-at.at _ c.loop-at.invariant.2 (omega arith) c.loop-at.invariant.5 (omega (arith, known.head_is.total_is))

pub returns-else-found-source : goal.returns-else-found-source
returns-else-found-source c =
    let known : WellFormed (sourced c.args.source c.args.circuit.now) (head_of c.args.source) =
    well _ _ c.requires.source_of
    in
    pass_none _ known.headed c.args.from c.requires.by_index c.loop-at.found c.loop-at.at _ c.loop-at.invariant.2 (omega arith) c.loop-at.invariant.5 (omega (arith, known.head_is.total_is))
