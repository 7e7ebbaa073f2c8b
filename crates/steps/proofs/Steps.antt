-- Steps: of accepted tables, and what a step answers by its stages. Assumes nothing.
use mathlib.Core.Path.{◌≡◌, refl, ap, ◌∙◌}
use mathlib.Core.List.{List, [], ◌∷◌, ◌++◌}
use Prim.Native.Nat.{ℕ, suc, ◌+◌, ◌^◌, ◌≤◌, ◌<◌}
use native.Mathlib.Nat.{zero-add}
use native.Mathlib.Omega.{arith}
use lib.ListN.{length}
use borrow.Author.Tests.{le-ltb, lt-leb, ne_eqb}
use Rattle.verdict.specs.Judgements.{answer, refusal_figures, and_then}
use Rattle.verdict.specs.declared.Figures.{Figures}
use Rattle.verdict.specs.declared.Refusal.{Refusal}
use Rattle.std.specs.Prelude.{Result, Err, IsErrAnd}
use Rattle.std.proofs.lemmas.Result.{err_from_is_err_and}
use Rattle.verdict.proofs.Laws.{never, refusal_number}
use Rattle.sizes.specs.Sizes.{inputs, frames}
use Rattle.layered.specs.States.{Words, none, more}
use Rattle.layered.specs.Machines.{feed}
use Rattle.table.specs.Table.{states, machine, bad_next, checked}
use Rattle.positions.specs.Positions.{place_checked, position_checked}
use Rattle.positions.specs.declared.Position.{Position}
use Rattle.steps.specs.Steps.{entry_checked, move_checked, step_checked, moved, handed_back, step_after, stepped, step_figures}
use Rattle.steps.specs.declared.Moved.{Moved}
use Rattle.steps.specs.declared.Halted.{Halted}
use Rattle.steps.specs.declared.StepFigures.{StepFigures}
use Rattle.layered.specs.Machines.{reached}
use Rattle.steps.specs.Theorems.{steps_by, outputs_of, StepReaches, StepsFeed}
use Rattle.layered.proofs.Feeding.{words_length, reached_append, reached_below}
use Rattle.table.proofs.Accepted.{head_accepts, sound}

-- ---- steps

module _ (b : List ℕ) (p : ℕ) (e : checked b ≡ answer 0 p) where
  module _ (t s w : ℕ) (ht : t < frames b) (hs : s < states b t) (hw : w < 2 ^ inputs b) where
    -- the position, the word and the entry pass
    position_passes : position_checked b t s w ≡ answer 0 0
    unfolding position_checked place_checked
    position_passes =
        let n : t ≡ frames b → ⊥ = λ q. omega arith in
        rw (le-ltb (frames b) t (omega arith), lt-leb (states b t) s hs, ne_eqb t (frames b) n, lt-leb (2 ^ inputs b) w hw)

    entry_passes : entry_checked b t s w ≡ answer 0 0
    unfolding entry_checked bad_next
    entry_passes =
        rw (
          (sound b p e).outputs_connected t s w ht hs hw,
          lt-leb (states b (suc t)) ((machine b).next t s w) ((sound b p e).legal.next_is t s w ht hs hw),
        )

    -- so does the move
    pub move_passes : move_checked b t s w ≡ answer 0 0
    unfolding move_checked
    move_passes = rw (position_passes, entry_passes)

    -- a step from a state of a layer below T by a word below 2^n is accepted
    pub moves : stepped b t s w ≡ moved b t s w
    unfolding stepped step_checked
    moves = rw ((head_accepts b p e).1, move_passes)

  -- steps from a state give what the machine gives
  walks : {k : ℕ} {c : List ℕ} (t s : ℕ) → s < states b t → t + k ≤ frames b → Words (2 ^ inputs b) k c → outputs_of (steps_by b (record { layer = t; state = s }) c) ≡ feed (machine b) t s c
  unfolding steps_by outputs_of feed
  walks t s h l none = refl
  walks t s h l (more {k = k} {w = w} {c = c} hw r) =
      rw (moves t s w (omega arith) h hw)
      (ap (λ l. (machine b).out t s w ∷ l) (walks (suc t) ((machine b).next t s w) ((sound b p e).legal.next_is t s w (omega arith) h hw) (omega arith) r))

-- the theorems
pub step_reaches : (b : List ℕ) → StepReaches b
unfolding StepReaches reached
step_reaches b p e t w c ht r hw =
    let S = sound b p e in
    let i : reached (machine b) 0 0 c < states b t = rw zero-add at (reached_below (machine b) S.legal 0 0 (omega arith) S.legal.start_is r) in
    let m : reached (machine b) 0 0 (c ++ (w ∷ [])) ≡ (machine b).next t (reached (machine b) 0 0 c) w =
    reached_append (machine b) 0 0 c (w ∷ []) ∙ (let q : 0 + length c ≡ t = omega (arith, words_length r) in ap (λ k. (machine b).next k (reached (machine b) 0 0 c) w) q) in
    rw m (moves b p e t (reached (machine b) 0 0 c) w ht i hw)

pub steps_feed : (b : List ℕ) → StepsFeed b
unfolding StepsFeed
steps_feed b p e words r = walks b p e 0 0 (sound b p e).legal.start_is (omega arith) r

-- ---- what a step's answer tells

-- an answer by the stages of its judgement, of a step from a position
module _ (b : List ℕ) (from : Position) (w : ℕ) where
  -- a stage that refuses, whatever comes after it: the position that was given is handed back
  pub hands_back : (r : Refusal) (f g : Figures) → refusal_figures r ≡ f → handed_back (refusal_figures r) from.layer from.state ≡ step_after (and_then f g) b from.layer from.state w
  hands_back r f g e = rw (← e, refusal_number r, refusal_number r)

  -- and what `?` passes on is that refusal
  pub stops : (x : Result Moved Halted) (r : Refusal) (f g : Figures) → IsErrAnd x (λ y. y ≡ record { refusal = r; position = from }) → refusal_figures r ≡ f
      → step_figures x ≡ step_after (and_then f g) b from.layer from.state w
  stops x r f g h e = let p = err_from_is_err_and x h in ap step_figures (p.1 ∙ ap Err p.2) ∙ hands_back r f g e

  -- after a stage that accepts, what comes after it answers
  pub goes_on : (f g : Figures) (p : ℕ) (y : StepFigures) → answer 0 p ≡ f → y ≡ step_after g b from.layer from.state w
      → y ≡ step_after (and_then f g) b from.layer from.state w
  goes_on f g p y e h = rw (← e) h

-- the answer x of a step that is accepted is no refusal
pub not_refused : (b : List ℕ) (t s w : ℕ) (h : Halted) → step_figures (Err h) ≡ moved b t s w → ⊥
not_refused b t s w h e = never h.refusal 0 (ap (λ (f : StepFigures). answer f.number f.place) e)
