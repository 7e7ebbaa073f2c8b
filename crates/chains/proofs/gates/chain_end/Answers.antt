-- `chains::gates::chain_end` meets its contract.
-- Assumes nothing.
use native.Mathlib.Omega.{arith}
use borrow.Author.Tests.{eq-eqb, ne_eqb}
use Rattle.chains.specs.Chains.{end_of}
use Rattle.chains.proofs.gates.chain_end.Goals as goal

pub returns-then-k-first : goal.returns-then-k-first
unfolding end_of
returns-then-k-first c =
    (simp (eq-eqb _ _ c.if-k-first.true), omega arith)

pub returns : goal.returns
unfolding end_of
returns c =
    (simp (ne_eqb _ _ c.if-k-first.false), omega arith)
