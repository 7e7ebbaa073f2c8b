-- `refute::mate` meets its contract.
-- Assumes nothing.
use mathlib.Core.Path.{◌≡◌, sym, ap, ◌∙◌}
use Prim.Native.Nat.{suc, ◌*◌, ◌^◌}
use native.Mathlib.Nat.{pow-suc}
use native.Mathlib.Omega.{arith}
use Rattle.trial.proofs.Places.{head_in}
use Rattle.trial.proofs.Collecting.{count_most}
use Rattle.refute.proofs.Pairs.{history_small}
use Rattle.refute.proofs.mate.Goals as goal
use Rattle.refute.proofs.mate.Goals.{In-loop-s}

-- so many histories have a word more
counted : (c : In-loop-s) → c.loop-s.count * c.args.trial.sought.words ≡ c.args.trial.sought.words ^ suc c.loop-s.s
counted c = ap (λ k. k * c.args.trial.sought.words) c.loop-s.invariant ∙ sym (pow-suc c.args.trial.sought.words c.loop-s.s)

pub come-visit-requires : goal.come-visit-requires
come-visit-requires c = let h = c.is_history.ensures c.if-not-is_history.false in (h.0, history_small _ _ _ c.args.trial.held _ _ h.1)

pub connected_of-mask-requires-clause-last_in_bounds : goal.connected_of-mask-requires-clause-last_in_bounds
connected_of-mask-requires-clause-last_in_bounds c = head_in _ _ _ c.args.trial.held

pub overflow_mul-count : goal.overflow_mul-count
overflow_mul-count c =
    omega (arith, counted (goal.at.overflow_mul-count c).In-loop-s, count_most _ _ _ c.args.trial.chosen.now c.args.trial.held c.args.trial.candidate c.loop-s.s (omega arith))

pub opposite-requires : goal.opposite-requires
opposite-requires c = (omega arith, counted (goal.at.opposite-requires c).In-loop-s)
