-- `simulate::check_sequences` meets its contract.
-- Assumes nothing.
use native.Mathlib.Omega.{arith}
use Rattle.simulate.proofs.Judged.{too_many, few_enough}
use Rattle.simulate.proofs.check_sequences.Goals as goal

pub returns-then-count-gt-SEQUENCES : goal.returns-then-count-gt-SEQUENCES
returns-then-count-gt-SEQUENCES c =
    too_many c.args.inputs c.args.frames c.args.count c.args.words.now c.args.room (omega (arith, c.if-count-gt-SEQUENCES.true))

pub returns : goal.returns
returns c =
    few_enough c.args.inputs c.args.frames c.args.count c.args.words.now c.args.room _ (omega (arith, c.if-count-gt-SEQUENCES.false)) c.check_sequence.ensures
