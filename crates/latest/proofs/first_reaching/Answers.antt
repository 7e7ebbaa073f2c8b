-- `latest::first_reaching` meets its contract. The invariant: no output before q reaches a later frame, and `frame` is not after output q.
-- Assumes nothing.
use mathlib.Core.Path.{◌≡◌, sym, ap, ◌∙◌}
use mathlib.Core.Bool.{false}
use Prim.Native.Nat.{suc, ◌/◌}
use native.Mathlib.Numerals.{add-one}
use native.Mathlib.Omega.{arith}
use borrow.Author.Tests.{lt-ltb, le-ltb}
use lib.Dec.{ltb}
use lib.ListN.{get_or}
use Rattle.layered.proofs.Search.{below_suc, least_is}
use Rattle.circuit.specs.Found.{found}
use Rattle.circuit.specs.Circuit.{frame_of, all_outputs}
use Rattle.circuit.proofs.Found.{found_here, found_nowhere}
use Rattle.circuit.specs.WellFormed.{WellFormed}
use Rattle.circuit.proofs.Frames.{not_after_first, not_after_next}
use Rattle.circuit.proofs.Ahead.{output_parts}
use Rattle.source.specs.Source.{head_of, sourced}
use Rattle.source.proofs.Sources.{well, own_room, few_items}
use Rattle.latest.specs.Latest.{reaches_later}
use Rattle.latest.proofs.Own.{reaches_is}
use Rattle.latest.proofs.first_reaching.Goals as goal

pub loop-q-init : goal.loop-q-init
loop-q-init c =
    (omega arith, λ i h. absurd (omega arith), not_after_first _ 0)

pub output_frame-frame-requires : goal.output_frame-frame-requires
output_frame-frame-requires c =
    let known : WellFormed (sourced c.args.source c.args.circuit.now) (head_of c.args.source) =
    well _ _ c.requires
    in
    record {
      le_outputs = omega (arith, known, c.loop-q.invariant);
      not_after = c.loop-q.invariant.2;
    }

pub overflow_cast-frame : goal.overflow_cast-frame
unfolding frame_of
overflow_cast-frame c =
    let known : WellFormed (sourced c.args.source c.args.circuit.now) (head_of c.args.source) =
    well _ _ c.requires
    in
    let p = output_parts (sourced c.args.source c.args.circuit.now) known.headed c.loop-q.q (omega (arith, known)) in
    omega (arith, c.output_frame-frame.ensures.frame ∙ ap (λ m. suc (c.loop-q.q / m)) known.head_is.outputs_is, p.0, known)

pub shown_signal-requires : goal.shown_signal-requires
shown_signal-requires c =
    (few_items _ _ c.requires, (own_room _ _ c.requires).0, (own_room _ _ c.requires).1)

pub returns-then-frame-latest : goal.returns-then-frame-latest
returns-then-frame-latest c =
    let known : WellFormed (sourced c.args.source c.args.circuit.now) (head_of c.args.source) =
    well _ _ c.requires
    in
    let test : reaches_later (sourced c.args.source c.args.circuit.now) c.loop-q.q ≡ ltb c.output_frame-frame.result (get_or c.store_signals.new.latest c.shown_signal.result 0) =
    reaches_is c.args.circuit.now c.args.source c.requires c.store_signals.new.latest c.output_frame-frame.result c.shown_signal.result c.loop-q.q
    c.store_signals.ensures c.loop-q-test.true c.output_frame-frame.ensures.frame c.shown_signal.ensures.0
    in
    let l = least_is (all_outputs (sourced c.args.source c.args.circuit.now)) c.loop-q.q _ (omega (arith, known)) c.loop-q.invariant.1 (λ h. test ∙ lt-ltb _ _ c.if-frame-latest.true) in
    found_here _ _ (omega (arith, known)) ∙ ap (found _) (sym l)

pub loop-q-preserved : goal.loop-q-preserved
loop-q-preserved c =
    let test : reaches_later (sourced c.args.source c.args.circuit.now) c.loop-q.q ≡ ltb c.output_frame-frame.result (get_or c.store_signals.new.latest c.shown_signal.result 0) =
    reaches_is c.args.circuit.now c.args.source c.requires c.store_signals.new.latest c.output_frame-frame.result c.shown_signal.result c.loop-q.q
    c.store_signals.ensures c.loop-q-test.true c.output_frame-frame.ensures.frame c.shown_signal.ensures.0
    in (
      omega (arith, c),
      rw (add-one c.loop-q.q) (below_suc {P = λ i'. reaches_later (sourced c.args.source c.args.circuit.now) i' ≡ false} c.loop-q.invariant.1 (test ∙ le-ltb _ _ c.if-frame-latest.false)),
      not_after_next _ c.output_frame-frame.result c.loop-q.q c.output_frame-frame.ensures.only.0,
    )

pub returns : goal.returns
returns c =
    let known : WellFormed (sourced c.args.source c.args.circuit.now) (head_of c.args.source) =
    well _ _ c.requires
    in
    let l = least_is (all_outputs (sourced c.args.source c.args.circuit.now)) c.args.source.total _ (omega (arith, known)) (λ i h. c.loop-q.invariant.1 i (omega (arith, c.loop-q.invariant.0))) (λ h. absurd (omega (arith, known))) in
    found_nowhere _ _ (omega (arith, known)) ∙ ap (found _) (sym l)
