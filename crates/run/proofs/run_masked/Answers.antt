-- `run::run_masked` meets its contract. The invariant: the position is a state of layer t, and what the masked machine gives on all words is what
-- is stored and then what it gives from there on the rest. No step is refused.
-- Assumes nothing.
use mathlib.Core.Path.{◌≡◌, refl, sym, ap, ◌∙◌}
use mathlib.Core.List.{List, ◌++◌}
use Prim.Native.Nat.{ℕ, suc, ◌<◌}
use native.Mathlib.Numerals.{add-one}
use native.Mathlib.Omega.{arith}
use lib.Bits.{bit_and}
use lib.ListN.{length, drop, get_or, length-set}
use Rattle.verdict.specs.Judgements.{answer}
use Rattle.sizes.specs.Sizes.{inputs, frames as frames_of}
use Rattle.sizes.specs.Sized.{Fed}
use Rattle.layered.specs.Machines.{Machine, masked, feed}
use Rattle.layered.proofs.Lists.{drop_more}
use Rattle.table.specs.Table.{states, machine, checked}
use Rattle.steps.specs.Steps.{moved, stepped}
use Rattle.steps.specs.declared.StepFigures.{StepFigures}
use Rattle.run.specs.Run.{shown}
use Rattle.table.specs.Sound.{Sound}
use Rattle.table.proofs.Accepted.{sound}
use Rattle.steps.proofs.Steps.{moves, not_refused}
use Rattle.run.proofs.Runs.{feed_more, feed_all}
use Rattle.run.proofs.run_masked.Goals as goal

-- the table as it is seen through the mask
abbrev seen : List ℕ → (mask : ℕ) → Machine
seen table mask = masked (λ _. mask) (machine table)

-- frame t of an accepted table that is fed words: its step is accepted
module _ (b words : List ℕ) (accepted : checked b ≡ answer 0 0) (fed₀ : Fed (inputs b) (frames_of b) words) (t : ℕ) (h : t < length words) where
  frame_in : t < frames_of b
  frame_in = omega (arith, fed₀.as_many)

  step_moves : (layer state : ℕ) (x : StepFigures) → x ≡ stepped b layer state (get_or words t 0) → layer ≡ t → state < states b t → x ≡ moved b t state (get_or words t 0)
  step_moves layer state x e l s = e ∙ ap (λ (k : ℕ). stepped b k state (get_or words t 0)) l ∙ moves b 0 accepted t state (get_or words t 0) frame_in s (fed₀.below t frame_in)

pub loop-t-init : goal.loop-t-init
loop-t-init c =
    let sound₀ : Sound c.args.table.now = sound c.args.table.now 0 c.requires.table_value in
    (omega arith, refl, c.start-position.ensures.0, omega (arith, c.start-position.ensures.1, sound₀.headed.one_first), ap (λ (q : ℕ). feed (seen c.args.table.now c.args.mask) 0 q c.args.words.now) (sym c.start-position.ensures.1), refl)

pub returns-in_err-moved : goal.returns-in_err-moved
returns-in_err-moved c =
    absurd (not_refused _ _ _ _ _ (step_moves c.args.table.now c.args.words.now c.requires.table_value c.requires.fed c.loop-t.t c.loop-t-test.true c.loop-t.position.layer c.loop-t.position.state _ c.in_err-moved.ensures.answer c.loop-t.invariant.2 c.loop-t.invariant.3))

pub loop-t-preserved : goal.loop-t-preserved
loop-t-preserved c =
    let f : c.loop-t.t < frames_of c.args.table.now = frame_in c.args.table.now c.args.words.now c.requires.table_value c.requires.fed c.loop-t.t c.loop-t-test.true in
    let room : c.loop-t.t < length c.loop-t.res = omega (arith, f, c.requires.table_in_bounds, c.loop-t.invariant.1) in
    let w = get_or c.args.words.now c.loop-t.t 0 in
    let m = step_moves c.args.table.now c.args.words.now c.requires.table_value c.requires.fed c.loop-t.t c.loop-t-test.true c.loop-t.position.layer c.loop-t.position.state _ c.in_ok-moved.ensures.answer c.loop-t.invariant.2 c.loop-t.invariant.3 in
    let next : c.in_ok-moved.moved.position.state ≡ (machine c.args.table.now).next c.loop-t.t c.loop-t.position.state w = ap (λ (f : StepFigures). f.state) m in
    let n : c.in_ok-moved.moved.position.state < states c.args.table.now (suc c.loop-t.t) = omega (arith, next, (sound c.args.table.now 0 c.requires.table_value).legal.next_is c.loop-t.t c.loop-t.position.state w f c.loop-t.invariant.3 (c.requires.fed.below c.loop-t.t f)) in (
      omega (arith, c.loop-t-test.true),
      simp length-set c.loop-t.invariant.1,
      ap (λ (f : StepFigures). f.layer) m ∙ sym (add-one c.loop-t.t),
      rw add-one n,
      feed_more (seen c.args.table.now c.args.mask) c.args.words.now c.loop-t.res c.loop-t.t c.loop-t.position.state _ _ c.loop-t-test.true room (ap (λ (f : StepFigures). bit_and f.output c.args.mask) m) next c.loop-t.invariant.4,
      drop_more c.loop-t.res c.args.res.now c.loop-t.t _ c.loop-t.invariant.5,
    )

pub returns : goal.returns
returns c =
    let t : length c.args.words.now ≡ c.loop-t.t = omega (arith, c.loop-t-test.false, c.loop-t.invariant.0) in
    let T : length c.args.words.now ≡ frames_of c.args.table.now = c.requires.fed.as_many in
    let r : c.loop-t.res ≡ shown c.args.table.now c.args.mask c.args.words.now ++ drop c.loop-t.t c.args.res.now = feed_all (seen c.args.table.now c.args.mask) c.args.words.now c.loop-t.res c.args.res.now c.loop-t.t c.loop-t.position.state t c.loop-t.invariant.4 c.loop-t.invariant.5 in
    record {
      verdict = ap (answer 0) T;
      outputs = r ∙ ap (λ (n : ℕ). shown c.args.table.now c.args.mask c.args.words.now ++ drop n c.args.res.now) (sym t ∙ T);
    }
