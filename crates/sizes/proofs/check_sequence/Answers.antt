-- `sizes::check_sequence` meets its contract: a refusal of the words is the definition's, after a count that is right.
-- Assumes nothing.
use Rattle.std.proofs.Common.{arith}
use Rattle.std.proofs.lemmas.Grind.{common_steps}
use Rattle.verdict.proofs.Laws.{refusal_number, told}
use Rattle.sizes.specs.Sizes.{sequence_checked}
use Rattle.sizes.proofs.check_sequence.Goals as goal

pub returns-in_err-check_words : goal.returns-in_err-check_words
unfolding sequence_checked
returns-in_err-check_words c = told _ _ _ c.from_residual.ensures.1 (grind (arith, common_steps, refusal_number))
