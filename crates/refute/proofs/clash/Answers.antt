-- `refute::clash` meets its contract.
-- Assumes nothing.
use mathlib.Core.Path.{◌≡◌}
use Prim.Native.Nat.{suc, ◌^◌, ◌<◌}
use native.Mathlib.Omega.{arith}
use Rattle.trial.proofs.Places.{head_in}
use Rattle.refute.proofs.Pairs.{history_small, pair_clashes}
use Rattle.refute.proofs.clash.Goals as goal
use Rattle.refute.proofs.clash.Goals.{Else-not-is_history-2}

-- both are histories of the table
first_in : (c : Else-not-is_history-2) → (c.args.first.frame < c.args.trial.sought.frames) × (c.args.first.history < c.args.trial.sought.words ^ suc c.args.first.frame)
first_in c = let h = c.is_history.ensures c.if-not-is_history.false in (h.0, history_small _ _ _ c.args.trial.held _ _ h.1)

second_in : (c : Else-not-is_history-2) → (c.args.second.frame < c.args.trial.sought.frames) × (c.args.second.history < c.args.trial.sought.words ^ suc c.args.second.frame)
second_in c = let h = c.is_history-else-not-is_history.ensures c.if-not-is_history-2.false in (h.0, history_small _ _ _ c.args.trial.held _ _ h.1)

pub come-one-requires : goal.come-one-requires
come-one-requires c = first_in (goal.at.come-one-requires c).Else-not-is_history-2

pub come-zero-requires : goal.come-zero-requires
come-zero-requires c = second_in (goal.at.come-zero-requires c).Else-not-is_history-2

pub connected_of-requires-clause-last_in_bounds : goal.connected_of-requires-clause-last_in_bounds
connected_of-requires-clause-last_in_bounds c = head_in _ _ _ c.args.trial.held

pub connected_of-requires-2-clause-last_in_bounds : goal.connected_of-requires-2-clause-last_in_bounds
connected_of-requires-2-clause-last_in_bounds c = head_in _ _ _ c.args.trial.held

pub returns : goal.returns
returns c =
    let d = (goal.at.returns c).Else-not-is_history-2 in
    let f = first_in d in
    let s = second_in d in
    record {
      by = λ used e. let q : c.max.result ≡ used = cc in (
        omega (arith, c.max.ensures, c.come-one.ensures.bounds.1, c.come-zero.ensures.bounds.1),
        pair_clashes _ _ _ c.args.trial.chosen.now c.args.trial.held c.args.first.frame c.args.first.history c.args.second.frame c.args.second.history f.0 s.0 f.1 s.1
            c.come-one.result c.come-zero.result c.come-one.ensures.comes c.come-zero.ensures.comes c.come-zero.ensures.bounds.2 _ _ c.connected_of.ensures.0 c.connected_of-2.ensures.0
            (omega (arith, c.if-one-zero.false)) (omega (arith, c.if-ones-zeros-eq0.false)) used (omega (arith, c.max.ensures)) (omega (arith, c.max.ensures)),
      );
    }
