-- `view::view` meets its contract: the table, then the mask, then the words and the room are judged, and the run is seen through the mask.
-- Assumes nothing.
use mathlib.Core.List.{List}
use Rattle.std.proofs.Common.{◌≡◌, refl, sym, ap, ◌∙◌, ℕ, ◌^◌, ◌≤◌, ◌<◌, length, arith}
use Rattle.std.specs.Prelude.{Err}
use borrow.Author.Tests.{le-leb, lt-leb}
use Rattle.verdict.specs.Judgements.{answer, and_then}
use Rattle.verdict.specs.declared.Figures.{Figures}
use Rattle.verdict.specs.declared.Refusal.TheVariants.{Mask}
use Rattle.verdict.proofs.Laws.{stop, told, go_on}
use Rattle.sizes.specs.Sizes.{inputs, outputs, frames as frames_of, sequence_checked}
use Rattle.sizes.specs.Sized.{Fed, sizes_of}
use Rattle.sizes.specs.declared.Sizes.{Sizes}
use Rattle.sizes.proofs.Laws.{fed}
use Rattle.table.proofs.Offsets.{arrays_stand}
use Rattle.table.proofs.Accepted.{sound, accepted_at}
use Rattle.view.specs.View.{mask_checked, viewed}
use Rattle.view.proofs.Views.{view_kept, view_left}
use Rattle.view.proofs.view.Goals as goal
use Rattle.view.proofs.view.Goals.{After-check_sequence, In_ok-check_sequence}

-- what is judged behind the table, by the sizes that are read: a mask that is too large
module _ (b : List ℕ) (mask : ℕ) (s : Sizes) (es : s ≡ sizes_of b) (limit : ℕ) (el : limit ≡ 2 ^ s.outputs) where
  limit_is : limit ≡ 2 ^ outputs b
  limit_is = el ∙ ap (λ (s : Sizes). 2 ^ s.outputs) es

  wide : (f : Figures) → limit ≤ mask → answer 17 0 ≡ and_then (mask_checked (outputs b) mask) f
  unfolding mask_checked
  wide f h = rw (le-leb (2 ^ outputs b) mask (omega (arith, limit_is)))

  -- another one, and then the words and the room
  narrow : (words : List ℕ) (room : ℕ) (f : Figures) → mask < limit → f ≡ sequence_checked s.inputs s.frames words room
      → f ≡ and_then (mask_checked (outputs b) mask) (sequence_checked (inputs b) (frames_of b) words room)
  unfolding mask_checked
  narrow words room f h e =
      rw (lt-leb (2 ^ outputs b) mask (omega (arith, limit_is))) (e ∙ ap (λ (s : Sizes). sequence_checked s.inputs s.frames words room) es)

-- so the judgement of the words is the verdict
judged : (c : After-check_sequence) (f : Figures) → f ≡ sequence_checked c.read-sizes.result.inputs c.read-sizes.result.frames c.args.words.now (length c.args.res.now)
    → f ≡ viewed c.args.table.now c.args.mask c.args.words.now (length c.args.res.now)
unfolding viewed
judged c f e =
    go_on _ _ _ _ c.in_ok-check.ensures.verdict
    (narrow c.args.table.now c.args.mask c.read-sizes.result c.read-sizes.ensures c.power.result c.power.ensures c.args.words.now (length c.args.res.now) f c.if-power-mask.false e)

-- an accepted sequence is one of the table's
fed_here : (c : In_ok-check_sequence) → Fed (inputs c.args.table.now) (frames_of c.args.table.now) c.args.words.now × (frames_of c.args.table.now ≤ length c.args.res.now)
    × (c.in_ok-check_sequence.field-0 ≡ frames_of c.args.table.now)
fed_here c =
    fed _ _ c.args.words.now (length c.args.res.now) _
    (sym (c.in_ok-check_sequence.ensures ∙ ap (λ (s : Sizes). sequence_checked s.inputs s.frames c.args.words.now (length c.args.res.now)) c.read-sizes.ensures))

pub returns-in_err-check-clause-verdict : goal.returns-in_err-check-clause-verdict
unfolding viewed
returns-in_err-check-clause-verdict c = stop _ _ _ _ c.from_residual.ensures.1 c.in_err-check.ensures.verdict

pub returns-in_err-check-clause-outputs : goal.returns-in_err-check-clause-outputs
unfolding viewed
returns-in_err-check-clause-outputs c =
    let r = c.in_err-check.field-0.0 in
    view_kept _ c.args.mask _ _ r (stop (Err r) r _ _ refl c.in_err-check.ensures.verdict)

pub read-sizes-requires : goal.read-sizes-requires
read-sizes-requires c = omega (arith, (sound _ _ (sym c.in_ok-check.ensures.verdict)).headed.whole, arrays_stand c.args.table.now)

pub power-requires : goal.power-requires
power-requires c = omega (arith, ap (λ (s : Sizes). s.outputs) c.read-sizes.ensures, (sound _ _ (sym c.in_ok-check.ensures.verdict)).headed.sized)

pub returns-then-power-mask-clause-verdict : goal.returns-then-power-mask-clause-verdict
unfolding viewed
returns-then-power-mask-clause-verdict c =
    go_on _ _ _ _ c.in_ok-check.ensures.verdict (wide c.args.table.now c.args.mask c.read-sizes.result c.read-sizes.ensures c.power.result c.power.ensures _ c.if-power-mask.true)

pub returns-then-power-mask-clause-outputs : goal.returns-then-power-mask-clause-outputs
unfolding viewed
returns-then-power-mask-clause-outputs c =
    view_kept _ c.args.mask _ _ (Mask 0)
    (go_on _ _ _ _ c.in_ok-check.ensures.verdict (wide c.args.table.now c.args.mask c.read-sizes.result c.read-sizes.ensures c.power.result c.power.ensures _ c.if-power-mask.true))

pub check_sequence-requires : goal.check_sequence-requires
check_sequence-requires c =
    omega (arith, ap (λ (s : Sizes). s.inputs) c.read-sizes.ensures, (sound _ _ (sym c.in_ok-check.ensures.verdict)).headed.sized)

pub returns-in_err-check_sequence-clause-verdict : goal.returns-in_err-check_sequence-clause-verdict
returns-in_err-check_sequence-clause-verdict c =
    told _ _ _ c.from_residual-in_err-check_sequence.ensures.1
    (judged (goal.at.returns-in_err-check_sequence-clause-verdict c).After-check_sequence _ c.in_err-check_sequence.ensures)

pub returns-in_err-check_sequence-clause-outputs : goal.returns-in_err-check_sequence-clause-outputs
returns-in_err-check_sequence-clause-outputs c =
    view_kept _ c.args.mask _ _ _ (judged (goal.at.returns-in_err-check_sequence-clause-outputs c).After-check_sequence _ c.in_err-check_sequence.ensures)

pub run_masked-requires : goal.run_masked-requires
run_masked-requires c =
    let f = fed_here (goal.at.run_masked-requires c).In_ok-check_sequence in
    record { table_value = accepted_at _ _ (sym c.in_ok-check.ensures.verdict); fed = f.0; table_in_bounds = f.1 }

pub returns-clause-verdict : goal.returns-clause-verdict
returns-clause-verdict c =
    let f = fed_here (goal.at.returns-clause-verdict c).In_ok-check_sequence in
    c.run_masked.ensures.verdict ∙ ap (answer 0) (sym f.2) ∙ judged (goal.at.returns-clause-verdict c).After-check_sequence _ c.in_ok-check_sequence.ensures

pub returns-clause-outputs : goal.returns-clause-outputs
returns-clause-outputs c =
    let f = fed_here (goal.at.returns-clause-outputs c).In_ok-check_sequence in
    view_left _ c.args.mask _ _ _ _ (ap (answer 0) (sym f.2) ∙ judged (goal.at.returns-clause-outputs c).After-check_sequence _ c.in_ok-check_sequence.ensures)
    c.run_masked.ensures.outputs
