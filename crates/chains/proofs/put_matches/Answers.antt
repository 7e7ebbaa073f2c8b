-- `chains::put_matches` meets its contract. The invariant: the chains of the first w words are stored.
-- Assumes nothing.
use mathlib.Core.Path.{◌≡◌, sym, ◌∙◌}
use mathlib.Core.List.{List}
use Prim.Native.Nat.{ℕ, ◌+◌, ◌*◌, ◌≤◌}
use native.Mathlib.Omega.{arith}
use lib.ListN.{length}
use Rattle.unfolded.specs.Unfolded.{chains_from, matching}
use Rattle.unfolded.proofs.Counts.{matches_length}
use Rattle.chains.proofs.Laws.{match_room, match_length}
use Rattle.chains.proofs.Stored.{gates_none, chains_next}
use Rattle.chains.proofs.put_matches.Goals as goal

pub loop-w-init : goal.loop-w-init
unfolding chains_from
loop-w-init c =
    (omega arith, sym (gates_none _ _ _))

pub loop-w-preserved : goal.loop-w-preserved
loop-w-preserved c =
    let many : length (chains_from (c.args.target.base + c.args.k) (matching c.args.target.inputs c.args.t) c.loop-w.w) ≡ c.loop-w.w * c.args.target.inputs =
    matches_length _ _ _ c.loop-w.w
    in
    let next : c.args.k + c.loop-w.w * c.args.target.inputs + c.args.target.inputs ≤ c.args.target.gates =
    omega (arith, match_room _ _ c.args.target.inputs c.loop-w-test.true, c.requires.t_lt_most_frames)
    in
    let f : ℕ → List ℕ = matching c.args.target.inputs c.args.t in (
      omega arith,
      c.put_match.ensures
          ∙ chains_next c.args.target.gates c.args.target.base c.args.k c.args.res.now c.loop-w.res f c.loop-w.w _ c.loop-w.invariant.1
          (omega (arith, many)) (omega (arith, next, match_length c.args.target.inputs c.args.t c.loop-w.w)) c.requires.fits.room,
    )
