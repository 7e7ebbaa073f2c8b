-- `simulate::sequence_numbers` meets its contract. The invariant: the numbers of the first k sequences are stored.
-- Assumes nothing.
use mathlib.Core.Path.{refl, ap, ◌∙◌}
use Prim.Native.Nat.{◌*◌, ◌^◌}
use native.Mathlib.Omega.{arith}
use lib.ListN.{length-set}
use Rattle.layered.specs.Histories.{history_number}
use Rattle.simulate.specs.Simulate.{sequence_at}
use Rattle.simulate.proofs.Sequences.{part_is, part_fed, front_more}
use Rattle.simulate.proofs.sequence_numbers.Goals as goal

pub loop-k-init : goal.loop-k-init
loop-k-init c =
    (omega arith, refl, λ i h. absurd (omega arith))

pub sequence_number-requires : goal.sequence_number-requires
sequence_number-requires c =
    let f = part_fed c.args.inputs c.args.frames c.args.count c.args.words.now _ c.requires.inputs_le_most_bits.1 c.requires.fed c.loop-k.k c.loop-k-test.true (part_is c.args.frames c.loop-k.k (c.loop-k.k * c.args.frames) c.args.words.now refl) in
    record {
      inputs_le_most_bits = (c.requires.inputs_le_most_bits.0, f.0);
      fed = f.1;
    }

pub loop-k-preserved : goal.loop-k-preserved
loop-k-preserved c = (
  omega (arith, c),
  simp length-set c.loop-k.invariant.1,
  front_more c.loop-k.numbers c.loop-k.k c.sequence_number.result (λ k. history_number (2 ^ c.args.inputs) 0 (sequence_at c.args.frames c.args.words.now k))
      (omega (arith, c, c.requires)) c.loop-k.invariant.2 (c.sequence_number.ensures ∙ ap (history_number (2 ^ c.args.inputs) 0) (part_is c.args.frames c.loop-k.k (c.loop-k.k * c.args.frames) c.args.words.now refl)),
)

pub returns : goal.returns
returns c k h =
    c.loop-k.invariant.2 k (omega arith)
