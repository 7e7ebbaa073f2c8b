-- `tff::tff_ask` meets its contract: asking answers as many numbers in each case.
-- Assumes nothing.
use native.Mathlib.Omega.{arith}
use lib.ListN.{length}
use Rattle.folded.proofs.Asked.{asked_length}
use Rattle.answers.proofs.Laws.{answer_kept}
use Rattle.tff.proofs.tff_ask.Goals as goal

pub returns-then-answer-lt-ASK-clause-answer : goal.returns-then-answer-lt-ASK-clause-answer
returns-then-answer-lt-ASK-clause-answer c = answer_kept _ _ (omega (arith, asked_length c.args.circuit.now (length c.args.scratch.now) (length c.args.nodes.now)))
