-- What committing makes of a call of `fold_wanted` with the plan of these numbers. Assumes nothing.
use mathlib.Core.Path.{◌≡◌, ap, ◌∙◌}
use mathlib.Core.List.{List}
use Prim.Native.Nat.{ℕ}
use lib.ListN.{length}
use Rattle.std.specs.Prelude.{Some}
use Rattle.std.specs.Borrow.{Bor}
use Rattle.verdict.specs.Judgements.{Verdict, figures}
use Rattle.nodes.specs.declared.Node.{Node}
use Rattle.folded.specs.Planned.{commit_checked, commit_result}
use Rattle.fold.specs.Fold.{Folds, Promised}
use Rattle.fold.proofs.Judged.{promised, numbers_figures, numbers_result}

module _ (b : List ℕ) (numbers : Bor (List ℕ)) (s s' : List ℕ) (ns ns' : List Node) (r r' : List ℕ) (v : Verdict) (F : Folds b (Some numbers) s s' ns ns' r r' v) where
  pub commit_answered : (own : List ℕ) → numbers.now ≡ own → figures v ≡ commit_checked b own (length s) (length ns) (length r)
  commit_answered own e = F.answered ∙ numbers_figures b (length s) (length ns) r numbers ∙ ap (λ (l : List ℕ). commit_checked b l (length s) (length ns) (length r)) e

  pub commit_written : (own : List ℕ) → numbers.now ≡ own → r' ≡ commit_result b own (length s) (length ns) r
  commit_written own e = F.written ∙ numbers_result b (length s) (length ns) r numbers ∙ ap (λ (l : List ℕ). commit_result b l (length s) (length ns) r) e

  pub commit_promised : Promised b (figures v) r'
  commit_promised = promised b (Some numbers) (length s) (length ns) r (figures v) r' F.answered F.written
