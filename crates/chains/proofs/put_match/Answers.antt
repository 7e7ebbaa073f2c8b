-- `chains::put_match` meets its contract. The invariant: the chain's first i gates are stored.
-- Assumes nothing.
use mathlib.Core.Path.{◌≡◌, sym, ap, ◌∙◌}
use mathlib.Core.List.{[]}
use Prim.Native.Nat.{ℕ, ◌+◌}
use native.Mathlib.Omega.{arith}
use Rattle.circuit.specs.Lists.{grown, listed}
use Rattle.unfolded.specs.Unfolded.{chain, input_literal, matching}
use Rattle.circuit.proofs.Lists.{listed_length, listed_more}
use Rattle.chains.specs.Chains.{gates_stored}
use Rattle.chains.proofs.Stored.{gates_none, chain_more}
use Rattle.chains.proofs.put_match.Goals as goal

pub loop-i-init : goal.loop-i-init
unfolding chain grown
loop-i-init c =
    (omega arith, sym (gates_none _ _ _))

pub loop-i-preserved : goal.loop-i-preserved
loop-i-preserved c =
    let f : ℕ → ℕ = input_literal c.args.target.inputs c.args.t c.args.w in (
      omega arith,
      c.put_gate.ensures
          ∙ chain_more c.args.target.gates c.args.target.base c.args.k c.args.res.now c.loop-i.res (listed [] f c.loop-i.i) (listed [] f (c.loop-i.i + 1))
          _ _ _ c.loop-i.invariant.1 (ap (λ (i : ℕ). c.args.k + i) (sym (listed_length f c.loop-i.i))) c.chain_end-left.ensures.0
          (listed_more f c.loop-i.i _ c.input_literal-right.ensures.0) (omega (arith, c.requires.t_lt_most_frames)) c.requires.fits.room,
    )

pub returns : goal.returns
unfolding matching
returns c =
    let e : c.loop-i.i ≡ c.args.target.inputs = omega arith in
    c.loop-i.invariant.1
    ∙ ap (λ (i : ℕ). gates_stored c.args.target.gates c.args.k c.args.res.now (chain (c.args.target.base + c.args.k) 1 (listed [] (input_literal c.args.target.inputs c.args.t c.args.w) i))) e
