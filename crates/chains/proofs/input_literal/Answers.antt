-- `chains::input_literal` meets its contract.
-- Assumes nothing.
use mathlib.Core.Path.{sym, ◌∙◌}
use native.Mathlib.Omega.{arith}
use Rattle.chains.proofs.Laws.{few_inputs, plain_input, inverted_input}
use Rattle.chains.proofs.input_literal.Goals as goal

pub returns-then-is_set : goal.returns-then-is_set
returns-then-is_set c =
    (plain_input _ _ _ _ (sym c.is_set.ensures ∙ c.if-is_set.true), omega (arith, few_inputs _ _ c.requires.1 c.requires.0))

pub returns-else-is_set : goal.returns-else-is_set
returns-else-is_set c =
    (inverted_input _ _ _ _ (sym c.is_set.ensures ∙ c.if-is_set.false), omega (arith, few_inputs _ _ c.requires.1 c.requires.0))
