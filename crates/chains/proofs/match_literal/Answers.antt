-- `chains::match_literal` meets its contract.
-- Assumes nothing.
use native.Mathlib.Omega.{arith}
use Rattle.chains.specs.Chains.{match_of}
use Rattle.chains.proofs.Laws.{few_matches}
use Rattle.chains.proofs.match_literal.Goals as goal

pub returns : goal.returns
unfolding match_of
returns c =
    (omega arith, omega (arith, few_matches _ _ c.requires.4 c.requires.2))
