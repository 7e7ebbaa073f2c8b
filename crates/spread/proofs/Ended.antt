-- What spreading answers and leaves, stage by stage. Assumes nothing.
use mathlib.Core.Path.{◌≡◌, refl, sym, ap, subst, ◌∙◌}
use mathlib.Core.Bool.{false}
use mathlib.Core.List.{List}
use Prim.Native.Nat.{ℕ, ◌+◌, ◌≤◌}
use native.Mathlib.Omega.{arith}
use lib.Dec.{ltb, eqb}
use lib.ListN.{length, get_or}
use borrow.Author.Tests.{ltb-false}
use Rattle.verdict.specs.Judgements.{Verdict, answer, figures, refusal_figures, and_then, result_after}
use Rattle.std.specs.Prelude.{None, IsErrAnd}
use Rattle.verdict.specs.declared.Figures.{Figures}
use Rattle.verdict.specs.declared.Refusal.{Refusal}
use Rattle.verdict.proofs.Laws.{both_accept, passed, told}
use Rattle.circuit.specs.Circuit.{look_ahead_checked}
use Rattle.nodes.specs.declared.Node.{Node}
use Rattle.source.specs.Rearranged.{rearranged}
use Rattle.source.specs.Source.{sourced, SourceOf}
use Rattle.source.specs.declared.Source.{Source}
use Rattle.folded.specs.Folded.{folded_bytes, scratch_needed, nodes_checked, room_checked, cleared}
use Rattle.ask.proofs.Answered.{cleared_zero, cleared_beyond, cleared_same}
use Rattle.admit.specs.Admit.{agreed_on}
use Rattle.fold.specs.Fold.{survey_checked, survey_result, Clean, Finishes}
use Rattle.fold.proofs.Judged.{no_acceptance}
use Rattle.spreading.specs.Spread.{schedule_checked, spread_lent, spread_checked, spread_result, spread_scratch, spread_nodes}
use Rattle.spreading.specs.Theorems.{Spread, Spreadings}
use Rattle.spreading.proofs.Outcomes.{lent_tells}
use Rattle.spreading.proofs.Theorems.{spreadings}

keeps : (f g : Figures) → eqb f.number 0 ≡ false → f ≡ and_then f g
keeps f g z = rw z

-- c is the network, n, m and T are the sizes, ins and outs the lists; the scratch s, the records ys and the result r before
module _ (c : List ℕ) (n m T' : ℕ) (ins outs s : List ℕ) (ys : List Node) (r : List ℕ) where
  abbrev b : List ℕ
  b = rearranged c n m T' ins outs

  -- all that the contract says of what is answered and left
  pub record Ended (s' : List ℕ) (ns : List Node) (r' : List ℕ) (v : Verdict) : Type 0 where
    pub answered : figures v ≡ spread_checked c n m T' ins outs (length s) (length ys) (length r)
    pub written : r' ≡ spread_result c n m T' ins outs (length s) (length ys) r
    pub scratch_left : s' ≡ spread_scratch c n m T' ins outs s
    pub nodes_left : ns ≡ spread_nodes c n m T' ins outs (length s) ys

  -- demands 2 and 3, and the outputs recovered
  pub promised : (f : Figures) (r' : List ℕ) → f ≡ spread_checked c n m T' ins outs (length s) (length ys) (length r) → r' ≡ spread_result c n m T' ins outs (length s) (length ys) r → Spread c n m T' ins outs f r'
  unfolding Spread Spreadings
  promised f r' ef er p e = rw er (spreadings c n m T' ins outs r (length s) (length ys) p (sym ef ∙ e))

  -- s₁ is the scratch after what is judged before the nodes are counted
  module _ (s₁ : List ℕ) (l₁ : length s₁ ≡ length s) (L : s₁ ≡ spread_scratch c n m T' ins outs s) where
    pub ended_refused : (f : Refusal) → refusal_figures f ≡ spread_lent c n m T' ins outs (length s) → (v : Verdict) → IsErrAnd v (λ y. y ≡ f) → Ended s₁ ys r v
    unfolding spread_checked spread_result spread_nodes
    ended_refused f J₀ v i =
        let z : eqb (figures v).number 0 ≡ false = no_acceptance v f i in
        let J : figures v ≡ spread_lent c n m T' ins outs (length s) = told v f _ i J₀ in
        let a : figures v ≡ spread_checked c n m T' ins outs (length s) (length ys) (length r)
        = keeps (figures v) _ z ∙ ap (λ (f : Figures). and_then f (and_then (nodes_checked b (length ys)) (room_checked b (length r)))) J in
        record { answered = a; written = rw (← a, z); scratch_left = L; nodes_left = rw (← J, z) }

    module _ (p : ℕ) (J : answer 0 p ≡ spread_lent c n m T' ins outs (length s)) where
      accepts_at : spread_lent c n m T' ins outs (length s) ≡ answer 0 p
      accepts_at = sym J

      -- the network, the sizes and the lists are accepted
      pub scheduled : (schedule_checked c n m T' ins outs).number ≡ 0
      unfolding spread_lent
      scheduled = ap (λ (f : Figures). f.number) (both_accept (schedule_checked c n m T' ins outs) _ p accepts_at).1

      enough : scratch_needed b ≤ length s
      unfolding spread_lent
      enough =
          let a = both_accept (schedule_checked c n m T' ins outs) _ p accepts_at in
          let d = both_accept (look_ahead_checked b) _ p a.2 in
          ltb-false (length s) (scratch_needed b) (passed (ltb (length s) (scratch_needed b)) 6 _ (answer 0 0) p refl d.2).0

      is_cleared : s₁ ≡ cleared b s
      unfolding spread_scratch
      is_cleared = rw (accepts_at) at L

      clean : Clean b s₁
      clean = record {
        accepted = (lent_tells c n m T' ins outs (length s) p accepts_at).1;
        enough = omega (arith, enough);
        zeros = λ j l. ap (λ (r : List ℕ). get_or r j 0) is_cleared ∙ cleared_zero b s j l;
      }

      -- the source of the lists
      module _ (h : Source) (O : SourceOf c h) (E : sourced h c ≡ b) where
        pub clean_source : SourceOf c h × Clean (sourced h c) s₁
        clean_source = (O, subst (λ b. Clean b s₁) (sym E) clean)

        pub ended : (s' : List ℕ) (ns : List Node) (r' : List ℕ) (v' : Verdict) → Finishes (sourced h c) None s₁ s' ys ns r r' v' → Ended s' ns r' v'
        unfolding spread_checked spread_result spread_scratch spread_nodes survey_checked survey_result agreed_on
        ended s' ns r' v' F₀ =
            let F = subst (λ b. Finishes b None s₁ s' ys ns r r' v') E F₀ in
            let e : survey_checked b None (length ys) (length r) ≡ spread_checked c n m T' ins outs (length s) (length ys) (length r) = rw accepts_at in
            record {
              answered = F.ends.answered ∙ e;
              written = F.ends.written ∙ ap (λ f. result_after f (folded_bytes b) r) e;
              scratch_left = F.scratch_left ∙ cleared_same b s s₁ l₁ (λ i. ap (λ (r : List ℕ). get_or r (scratch_needed b + i) 0) is_cleared ∙ cleared_beyond b s i) ∙ rw accepts_at;
              nodes_left = F.nodes_left ∙ rw accepts_at;
            }
