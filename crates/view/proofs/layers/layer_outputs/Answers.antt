-- `view::layers::layer_outputs` meets its contract: what is located stands in the table, so its part can be shown, and it is the layer's.
-- Assumes nothing.
use mathlib.Core.List.{List}
use Rattle.std.proofs.Common.{◌≡◌, sym, ap, subst, ◌∙◌, ℕ, ◌+◌, ◌≤◌, length, take, drop, arith}
use Rattle.std.specs.Prelude.{Err}
use Rattle.std.proofs.lemmas.Result.{err_from_is_err_and}
use Rattle.verdict.specs.Judgements.{answer}
use Rattle.view.specs.Layers.{layer_checked, layer_outputs, located, shown_figures}
use Rattle.view.specs.Theorems.{LayerStands}
use Rattle.view.specs.declared.layers.LayerFigures.{LayerFigures}
use Rattle.view.proofs.layers.layer_outputs.Goals as goal

-- what `locate` answers of a layer
module _ (b : List ℕ) (layer : ℕ) (found : LayerFigures) (e : found ≡ located b layer) where
  -- it stands in the table
  inside : LayerStands b layer → found.offset + found.length ≤ length b
  unfolding LayerStands
  inside h = subst (λ (x : LayerFigures). x.offset + x.length ≤ length b) (sym e) h.0

  -- the verdict is the layer's
  judged : answer found.number found.place ≡ layer_checked b layer
  unfolding located
  judged = ap (λ (x : LayerFigures). answer x.number x.place) e

  -- and so is the part that is shown
  shown : LayerStands b layer → (k : ℕ) → k ≡ found.length → take k (drop found.offset b) ≡ layer_outputs b layer
  unfolding LayerStands
  shown h k d = ap (λ (k : ℕ). take k (drop found.offset b)) d ∙ ap (λ (x : LayerFigures). take x.length (drop x.offset b)) e ∙ sym h.1

pub returns-in_err-part-clause-verdict : goal.returns-in_err-part-clause-verdict
returns-in_err-part-clause-verdict c =
    let p = err_from_is_err_and c.from_residual.result c.from_residual.ensures.1 in
    ap shown_figures (p.1 ∙ ap Err p.2) ∙ judged _ _ _ c.in_err-part.ensures.answer

pub overflow_add-result : goal.overflow_add-result
overflow_add-result c = omega (arith, inside _ _ _ c.in_ok-part.ensures.answer c.in_ok-part.ensures.stands)

pub slice_bounds-result-end : goal.slice_bounds-result-end
slice_bounds-result-end c = omega (arith, inside _ _ _ c.in_ok-part.ensures.answer c.in_ok-part.ensures.stands)

pub returns-clause-verdict : goal.returns-clause-verdict
returns-clause-verdict c = judged _ _ _ c.in_ok-part.ensures.answer

pub returns-clause-part : goal.returns-clause-part
returns-clause-part c = shown _ _ _ c.in_ok-part.ensures.answer c.in_ok-part.ensures.stands _ (omega arith)

pub returns-clause-own : goal.returns-clause-own
returns-clause-own c =
    let o : c.in_ok-part.part.offset ≡ (located c.args.table.now c.args.layer).offset = ap (λ (x : LayerFigures). x.offset) c.in_ok-part.ensures.answer in
    ap (λ (n : ℕ). (c.args.table.ref_ptr.0, n + c.args.table.ref_ptr.1)) o
