-- `refute::judge` meets its contract.
-- Assumes nothing.
use mathlib.Core.Path.{refl}
use native.Mathlib.Nat.{le_refl}
use Rattle.refute.specs.Searched.{refuted}
use Rattle.refute.proofs.Searching.{decided_fits, decided_refuted}
use Rattle.refute.proofs.judge.Goals as goal

pub returns-in-Some : goal.returns-in-Some
returns-in-Some c = let r = c.recall.ensures c.in-Some.refuted c.in-Some.is in refuted _ refl r.0 r.1 r.2

pub returns-in-Ok : goal.returns-in-Ok
returns-in-Ok c = decided_fits _ _ _ _ c.try_all.ensures _ c.in-Ok.is

pub returns-in-Err : goal.returns-in-Err
returns-in-Err c = refuted _ refl (le_refl _) (decided_refuted _ _ _ _ c.try_all.ensures _ c.in-Err.is) c.keep-at.ensures
