-- What a step answers by its stages. Assumes nothing.
use mathlib.Core.Path.{◌≡◌, refl, ap, ◌∙◌}
use mathlib.Core.Bool.{Bool, true, false, cond}
use mathlib.Core.List.{List}
use Prim.Native.Nat.{ℕ}
use lib.Dec.{eqb}
use Rattle.std.specs.Prelude.{Result, Err, IsErrAnd}
use Rattle.std.proofs.lemmas.Result.{err_from_is_err_and}
use Rattle.verdict.specs.Judgements.{answer, refusal_figures}
use Rattle.verdict.specs.declared.Figures.{Figures}
use Rattle.verdict.specs.declared.Refusal.{Refusal}
use Rattle.verdict.proofs.Laws.{never}
use Rattle.table.specs.Table.{head_checked}
use Rattle.positions.specs.declared.Position.{Position}
use Rattle.steps.specs.Steps.{move_checked, moved, handed_back, step_after, step_figures, position_of}
use Rattle.steps.specs.declared.Halted.{Halted}
use Rattle.steps.specs.declared.Moved.{Moved}
use Rattle.steps.specs.declared.StepFigures.{StepFigures}
use Rattle.steps.proofs.Steps.{hands_back, goes_on}
use Rattle.quiet.specs.Windows.{time_checked, is_quiet}
use Rattle.quiet.specs.Quiet.{quiet_checked, heard, quiet_stepped}

-- a position that is handed back is heard as it is
handed : (quiet : Bool) (f : Figures) (t s : ℕ) → handed_back f t s ≡ heard quiet (handed_back f t s)
handed true f t s = refl
handed false f t s = refl

module _ (b ws : List ℕ) (m : ℕ) (from : Position) (w : ℕ) where
  -- where the head and the time are accepted, the move's judgement is the verdict
  pub goes_on_timed : (p q : ℕ) (y : StepFigures) → answer 0 p ≡ head_checked b → answer 0 q ≡ time_checked ws m → y ≡ step_after (move_checked b from.layer from.state w) b from.layer from.state w
      → y ≡ step_after (quiet_checked b ws m from.layer from.state w) b from.layer from.state w
  unfolding quiet_checked
  goes_on_timed p q y e d h = goes_on b from w _ _ p y e (goes_on b from w _ _ q y d h)

  -- it is as it is heard
  pub heard_as : (quiet : Bool) (y : StepFigures) → quiet ≡ is_quiet ws m → y ≡ step_after (quiet_checked b ws m from.layer from.state w) b from.layer from.state w
      → heard quiet y ≡ quiet_stepped b ws m from.layer from.state w
  unfolding quiet_stepped
  heard_as quiet y i e j = heard (i j) (e j)

  -- one that is refused
  pub refused : (r : Refusal) (t s : ℕ) → handed_back (refusal_figures r) t s ≡ step_after (quiet_checked b ws m from.layer from.state w) b from.layer from.state w
      → handed_back (refusal_figures r) t s ≡ quiet_stepped b ws m from.layer from.state w
  refused r t s e = handed (is_quiet ws m) (refusal_figures r) t s ∙ heard_as (is_quiet ws m) _ refl e

  pub refused_head : (r : Refusal) → refusal_figures r ≡ head_checked b → handed_back (refusal_figures r) from.layer from.state ≡ quiet_stepped b ws m from.layer from.state w
  unfolding quiet_checked
  refused_head r e = refused r _ _ (hands_back b from w r _ _ e)

  pub refused_time : (p : ℕ) (r : Refusal) → answer 0 p ≡ head_checked b → refusal_figures r ≡ time_checked ws m
      → handed_back (refusal_figures r) from.layer from.state ≡ quiet_stepped b ws m from.layer from.state w
  unfolding quiet_checked
  refused_time p r d e = refused r _ _ (goes_on b from w _ _ p _ d (hands_back b from w r _ _ e))

  -- and what the move refused, which is passed on
  pub refused_move : (x : Result Moved Halted) (h : Halted) → IsErrAnd x (λ y. y ≡ h) → step_figures (Err h) ≡ step_after (quiet_checked b ws m from.layer from.state w) b from.layer from.state w
      → step_figures x ≡ quiet_stepped b ws m from.layer from.state w
  refused_move x h i e =
      let p = err_from_is_err_and x i in
      ap step_figures (p.1 ∙ ap Err p.2) ∙ refused h.refusal _ _ e

  -- a step that was refused has moved nothing
  pub unmoved : (h : Halted) → step_figures (Err h) ≡ quiet_stepped b ws m from.layer from.state w → from ≡ position_of (quiet_stepped b ws m from.layer from.state w)
  unfolding quiet_stepped
  unmoved h e = go (eqb f.number 0) e
    where
      f : Figures
      f = quiet_checked b ws m from.layer from.state w

      at : Bool → StepFigures
      at x = heard (is_quiet ws m) (cond x (moved b from.layer from.state w) (handed_back f from.layer from.state))

      go : (x : Bool) → step_figures (Err h) ≡ at x → from ≡ position_of (at x)
      go true e = absurd (never h.refusal 0 (ap (λ (f : StepFigures). answer f.number f.place) e))
      go false e = refl
