-- `simulate::write_outputs` meets its contract. The invariant: the outputs on the first k sequences are written, and the rest is as before.
-- Assumes nothing.
use mathlib.Core.Path.{◌≡◌, refl, sym, ap, ◌∙◌}
use mathlib.Core.List.{◌++◌}
use Prim.Native.Nat.{◌+◌, ◌*◌, ◌≤◌}
use native.Mathlib.Omega.{arith}
use borrow.Author.Rules.{rules}
use lib.ListN.{length, get_or, take, drop}
use lib.Seq.{get_or-take, length-take-le}
use Rattle.sizes.specs.Limits.{most_bits}
use Rattle.sizes.specs.Sizes.{frames as frames_of}
use Rattle.circuit.specs.Limits.{most_signals}
use Rattle.lanes.proofs.Laws.{uses_none, room_ready}
use Rattle.simulate.specs.Limits.{most_sequences}
use Rattle.simulate.specs.Simulate.{all_output_words}
use Rattle.simulate.proofs.Sequences.{ends_before, part_length, fed_by, all_fit, outputs-at, nothing_written, outputs_length, outputs_more}
use Rattle.simulate.proofs.write_outputs.Goals as goal

pub sequence_numbers-sequences-requires : goal.sequence_numbers-sequences-requires
sequence_numbers-sequences-requires c =
    let inputs_to : c.args.head.inputs * c.args.head.frames ≤ most_bits =
    rw (c.requires.well_formed.head_is.inputs_is, c.requires.well_formed.head_is.frames_is) c.requires.well_formed.headed.sizes.bits_to
    in
    record {
      inputs_le_most_bits = (omega (arith, c.requires), inputs_to, omega (arith, c.requires), omega (arith, c.requires));
      fed = fed_by c.args.circuit.now c.args.head c.requires.well_formed.headed c.requires.well_formed.head_is c.args.count c.args.words.now c.requires.fed;
    }

pub gather-numbers-requires : goal.gather-numbers-requires
gather-numbers-requires c =
    let numbers_length : length c.sequence_numbers-sequences.result ≡ most_sequences =
    search rules
    in
    let gathered : c.args.count ≡ length (take c.args.count c.sequence_numbers-sequences.result) =
    sym (length-take-le _ _ (omega (arith, numbers_length, c.requires)))
    in
    omega (arith, gathered, c.requires)

pub store_signals-requires : goal.store_signals-requires
store_signals-requires c =
    record {
      well_formed = c.requires.well_formed;
      t_bound = (omega (arith, c.requires), search rules, search rules, search rules);
      first_uses = (uses_none c.args.circuit.now (1 + most_bits) 0, room_ready c.args.circuit.now _ c.room-lanes.ensures);
    }

pub loop-k-init : goal.loop-k-init
loop-k-init c =
    (omega arith, sym (nothing_written c.args.circuit.now c.args.words.now c.args.res.now))

pub pack_frames-requires : goal.pack_frames-requires
pack_frames-requires c =
    let kept_length : length c.loop-k.res ≡ length c.args.res.now =
    ap length c.loop-k.invariant.1 ∙ outputs_length c.args.circuit.now c.args.words.now c.args.res.now c.loop-k.k (omega (arith, c.requires, ends_before (frames_of c.args.circuit.now) c.loop-k.k c.args.count c.loop-k-test.true))
    in
    let ends : c.loop-k.k * c.args.head.frames + c.args.head.frames ≤ length c.loop-k.res =
    rw c.requires.well_formed.head_is.frames_is (omega (arith, kept_length, c.requires, ends_before (frames_of c.args.circuit.now) c.loop-k.k c.args.count c.loop-k-test.true))
    in
    let room-length : length c.room-lanes.result ≡ most_signals =
    search rules
    in
    let lanes-length : length c.store_signals.new.lanes ≡ most_signals =
    c.store_signals.auto.lanes ∙ room-length
    in
    let fit = all_fit c.args.circuit.now c.args.head c.requires.well_formed.headed c.requires.well_formed.head_is _ (part_length c.args.head.frames c.loop-k.k c.loop-k.res ends ∙ c.requires.well_formed.head_is.frames_is) in
    record {
      count_le_most_outputs = (omega (arith, c.requires), omega (arith, c, c.requires));
      words_in_bounds = omega (arith, fit, lanes-length);
    }

pub loop-k-preserved : goal.loop-k-preserved
loop-k-preserved c =
    let kept_length : length c.loop-k.res ≡ length c.args.res.now =
    ap length c.loop-k.invariant.1 ∙ outputs_length c.args.circuit.now c.args.words.now c.args.res.now c.loop-k.k (omega (arith, c.requires, ends_before (frames_of c.args.circuit.now) c.loop-k.k c.args.count c.loop-k-test.true))
    in
    let ends : c.loop-k.k * c.args.head.frames + c.args.head.frames ≤ length c.loop-k.res =
    rw c.requires.well_formed.head_is.frames_is (omega (arith, kept_length, c.requires, ends_before (frames_of c.args.circuit.now) c.loop-k.k c.args.count c.loop-k-test.true))
    in (
      omega (arith, c),
      outputs_more c.args.circuit.now c.args.words.now c.loop-k.res c.args.res.now c.pack_frames.new.words c.loop-k.k c.args.head.frames _ _
          c.requires.well_formed.head_is.frames_is refl refl c.loop-k.invariant.1
          (outputs-at c.args.circuit.now c.args.head c.requires.well_formed.headed c.requires.well_formed.head_is c.args.count c.args.words.now c.store_signals.new.lanes _
          (λ j. get_or (take c.args.count c.sequence_numbers-sequences.result) j 0) c.loop-k.k _ (omega (arith, c.requires)) c.loop-k-test.true
          (part_length c.args.head.frames c.loop-k.k c.loop-k.res ends) c.requires.fed (get_or-take c.args.count _ c.loop-k.k 0 c.loop-k-test.true ∙ c.sequence_numbers-sequences.ensures c.loop-k.k c.loop-k-test.true)
          (c.store_signals.ensures.signals _ c.gather-numbers.ensures) c.pack_frames.ensures),
    )

pub returns : goal.returns
returns c =
    let e : c.loop-k.k ≡ c.args.count = omega (arith, c.loop-k.invariant) in
    c.loop-k.invariant.1 ∙ ap (λ k. all_output_words c.args.circuit.now k c.args.words.now ++ drop (k * frames_of c.args.circuit.now) c.args.res.now) e
