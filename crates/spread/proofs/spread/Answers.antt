-- `spread::spread` meets its contract: what the judgement refuses, and else what the fold of the network's source answers and leaves, by proofs/Ended.
-- Assumes nothing.
use mathlib.Core.Path.{◌≡◌, sym, subst}
use mathlib.Core.List.{List}
use Prim.Native.Nat.{ℕ}
use lib.ListN.{length}
use Rattle.verdict.specs.Judgements.{Verdict, answer, refusal_figures}
use Rattle.std.specs.Prelude.{None, IsErrAnd}
use Rattle.verdict.specs.declared.Refusal.{Refusal}
use Rattle.sizes.specs.declared.Sizes.{Sizes}
use Rattle.nodes.specs.declared.Node.{Node}
use Rattle.source.specs.Rearranged.{rearranged}
use Rattle.source.specs.Source.{sourced, SourceOf}
use Rattle.source.specs.declared.Source.{Source}
use Rattle.fold.specs.Fold.{Clean, Finishes}
use Rattle.spreading.specs.Spread.{schedule_checked, spread_lent, spread_scratch}
use Rattle.spreading.proofs.Outcomes.{as_folding}
use Rattle.spreading.proofs.Nodes.{own_gates}
use Rattle.spread.proofs.Ended.{Ended, promised, ended_refused, scheduled, clean_source, ended}
use Rattle.spread.proofs.spread.Goals as goal

-- c is the network, z are the sizes that are given, ins and outs the lists; the scratch s, the records ys and the result r before. s₁ is the scratch
-- after what is judged before the nodes are counted
module _ (c : List ℕ) (n m T' : ℕ) (z : Sizes) (given : z ≡ record { inputs = n; outputs = m; frames = T' }) (ins outs s : List ℕ) (ys : List Node) (r : List ℕ)
    (s₁ : List ℕ) (l₁ : length s₁ ≡ length s) (L : s₁ ≡ spread_scratch c z.inputs z.outputs z.frames ins outs s) where
  left : s₁ ≡ spread_scratch c n m T' ins outs s
  left = subst (λ (z : Sizes). s₁ ≡ spread_scratch c z.inputs z.outputs z.frames ins outs s) given L

  refused : (f : Refusal) → refusal_figures f ≡ spread_lent c z.inputs z.outputs z.frames ins outs (length s) → (v : Verdict) → IsErrAnd v (λ y. y ≡ f) → Ended c n m T' ins outs s ys r s₁ ys r v
  refused f J = ended_refused c n m T' ins outs s ys r s₁ l₁ left f (subst (λ (z : Sizes). refusal_figures f ≡ spread_lent c z.inputs z.outputs z.frames ins outs (length s)) given J)

  module _ (p : ℕ) (J : answer 0 p ≡ spread_lent c z.inputs z.outputs z.frames ins outs (length s)) where
    judged : answer 0 p ≡ spread_lent c n m T' ins outs (length s)
    judged = subst (λ (z : Sizes). answer 0 p ≡ spread_lent c z.inputs z.outputs z.frames ins outs (length s)) given J

    accepted : (schedule_checked c z.inputs z.outputs z.frames ins outs).number ≡ 0
    accepted = subst (λ (z : Sizes). (schedule_checked c z.inputs z.outputs z.frames ins outs).number ≡ 0) (sym given) (scheduled c n m T' ins outs s ys r s₁ l₁ left p judged)

    -- the source of the lists
    module _ (h : Source) (O : SourceOf c h × (sourced h c ≡ rearranged c z.inputs z.outputs z.frames ins outs)) where
      its : sourced h c ≡ rearranged c n m T' ins outs
      its = subst (λ (z : Sizes). sourced h c ≡ rearranged c z.inputs z.outputs z.frames ins outs) given O.1

      clean : SourceOf c h × Clean (sourced h c) s₁
      clean = clean_source c n m T' ins outs s ys r s₁ l₁ left p judged h O.0 its

      finished : (s' : List ℕ) (ns : List Node) (r' : List ℕ) (v' : Verdict) → Finishes (sourced h c) None s₁ s' ys ns r r' v' → Ended c n m T' ins outs s ys r s' ns r' v'
      finished = ended c n m T' ins outs s ys r s₁ l₁ left p judged h O.0 its

pub returns-in_err-judge_spread : goal.returns-in_err-judge_spread
returns-in_err-judge_spread c =
    let E = refused _ _ _ _ _ c.given-sizes.ensures _ _ c.args.scratch.now c.args.nodes.now c.args.res.now _ c.judge_spread.auto.scratch c.judge_spread.ensures.scratch _ c.in_err-judge_spread.ensures.verdict _ c.from_residual.ensures.1 in
    record {
      verdict = E.answered;
      res = E.written;
      scratch = E.scratch_left;
      nodes = E.nodes_left;
      promised = promised _ _ _ _ _ _ c.args.scratch.now c.args.nodes.now c.args.res.now _ _ E.answered E.written;
      folding = as_folding;
      gates = own_gates;
    }

pub spread_source-source-requires : goal.spread_source-source-requires
spread_source-source-requires c =
    accepted _ _ _ _ _ c.given-sizes.ensures _ _ c.args.scratch.now c.args.nodes.now c.args.res.now _ c.judge_spread.auto.scratch c.judge_spread.ensures.scratch _ c.in_ok-judge_spread.ensures.verdict

pub fold_judged-requires : goal.fold_judged-requires
fold_judged-requires c =
    clean _ _ _ _ _ c.given-sizes.ensures _ _ c.args.scratch.now c.args.nodes.now c.args.res.now _ c.judge_spread.auto.scratch c.judge_spread.ensures.scratch _ c.in_ok-judge_spread.ensures.verdict _ c.spread_source-source.ensures

pub returns : goal.returns
returns c =
    let E = finished _ _ _ _ _ c.given-sizes.ensures _ _ c.args.scratch.now c.args.nodes.now c.args.res.now _ c.judge_spread.auto.scratch c.judge_spread.ensures.scratch _ c.in_ok-judge_spread.ensures.verdict _ c.spread_source-source.ensures _ _ _ _ c.fold_judged.ensures in
    record {
      verdict = E.answered;
      res = E.written;
      scratch = E.scratch_left;
      nodes = E.nodes_left;
      promised = promised _ _ _ _ _ _ c.args.scratch.now c.args.nodes.now c.args.res.now _ _ E.answered E.written;
      folding = as_folding;
      gates = own_gates;
    }
