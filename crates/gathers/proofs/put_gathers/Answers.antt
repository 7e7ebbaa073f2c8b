-- `gathers::put_gathers` meets its contract. The invariant: the first i chains are stored, and what they end with is kept.
-- Assumes nothing.
use mathlib.Core.Path.{◌≡◌, refl, sym, ap, ◌∙◌}
use mathlib.Core.List.{List, []}
use Prim.Native.Nat.{ℕ, ◌+◌, ◌≤◌, ◌<◌}
use native.Mathlib.Omega.{arith}
use lib.ListN.{length, length-set}
use Rattle.circuit.specs.Lists.{grown}
use Rattle.circuit.proofs.Laws.{fill_grown}
use Rattle.unfolded.specs.Unfolded.{inverted, chains_from, ending}
use Rattle.chains.proofs.Stored.{gates_none, chains_next, chains_longer, chains_room, ending_is}
use Rattle.gathers.specs.Gathers.{gather_edges}
use Rattle.gathers.proofs.put_gathers.Goals as goal
use Rattle.gathers.proofs.put_gathers.Goals.{Start}

-- the edges of chain i
abbrev taken : Start → ℕ → List ℕ
taken s = gather_edges s.args.target s.args.gathering s.args.entries.now

-- one chain more has room
next : (s : Start) (i end : ℕ) → i < length s.args.literals.now → end ≡ s.args.k + length (chains_from (s.args.target.base + s.args.k) (taken s) i)
    → end + length (taken s i) ≤ s.args.target.gates
next s i end h e = omega (arith, e, chains_room (s.args.target.base + s.args.k) (taken s) i (length s.args.literals.now) h, s.requires.literals_bound)

pub loop-i-init : goal.loop-i-init
unfolding chains_from grown
loop-i-init c =
    (omega arith, omega arith, sym (gates_none _ _ _), refl, refl)

pub put_gather-next-requires-clause-i_bound : goal.put_gather-next-requires-clause-i_bound
put_gather-next-requires-clause-i_bound c =
    next (goal.at.put_gather-next-requires-clause-i_bound c).Start c.loop-i.i c.loop-i.end c.loop-i-test.true c.loop-i.invariant.1

pub chain_end-requires : goal.chain_end-requires
chain_end-requires c =
    let e = next (goal.at.chain_end-requires c).Start c.loop-i.i c.loop-i.end c.loop-i-test.true c.loop-i.invariant.1 in
    (c.requires.fits.base_to, omega (arith, c.put_gather-next.ensures.end), omega (arith, c.put_gather-next.ensures.end, e, c.requires.fits))

pub loop-i-preserved : goal.loop-i-preserved
loop-i-preserved c =
    let s = (goal.at.loop-i-preserved c).Start in
    let at : ℕ = c.args.target.base + c.args.k in
    let n : ℕ = c.loop-i.i in
    let e : c.put_gather-next.result ≡ c.loop-i.end + length (taken s n) = c.put_gather-next.ensures.end in (
      omega arith,
      omega (arith, e, c.loop-i.invariant.1, chains_longer at (taken s) n),
      c.put_gather-next.ensures.gates
          ∙ chains_next c.args.target.gates c.args.target.base c.args.k c.args.res.now c.loop-i.res (taken s) n c.loop-i.end c.loop-i.invariant.2 c.loop-i.invariant.1
          (next s n c.loop-i.end c.loop-i-test.true c.loop-i.invariant.1) c.requires.fits.room,
      length-set c.loop-i.literals n _ ∙ c.loop-i.invariant.3,
      fill_grown [] (λ _ j. inverted (ending at (taken s) j)) c.loop-i.literals n n c.invert.result (omega (arith, c.loop-i-test.true, c.loop-i.invariant.3)) c.loop-i.invariant.4
          (c.invert.ensures.0 ∙ ap inverted (c.chain_end.ensures.0 ∙ ending_is c.args.target.base c.args.k (taken s) n c.loop-i.end _ c.loop-i.invariant.1 e))
          (n + 1) (n + 1) refl refl,
    )
