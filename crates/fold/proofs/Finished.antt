-- What a call leaves, stage by stage. Assumes nothing.
use mathlib.Core.Path.{◌≡◌, sym, ap, ◌∙◌, subst}
use mathlib.Core.Bool.{false}
use mathlib.Core.List.{List}
use Prim.Native.Nat.{ℕ, ◌+◌, ◌*◌, ◌^◌, ◌≤◌, min}
use native.Mathlib.Omega.{arith}
use lib.ListN.{length, get_or, replicate}
use lib.Dec.{eqb}
use Rattle.verdict.specs.Judgements.{Verdict, answer, figures, refusal_figures, and_then}
use Rattle.std.specs.Prelude.{IsErrAnd}
use Rattle.verdict.specs.declared.Figures.{Figures}
use Rattle.verdict.specs.declared.Refusal.{Refusal}
use Rattle.verdict.specs.declared.Refusal.TheVariants.{Nodes}
use Rattle.verdict.proofs.Laws.{told, refusal_number}
use Rattle.circuit.specs.Circuit.{gates}
use Rattle.circuit.specs.WellFormed.{HeadOf, Formed, Accepted}
use Rattle.circuit.proofs.Accepted.{accepted as accepted_circuit}
use Rattle.source.specs.Source.{head_of, sourced, WholeOf, SourceOf}
use Rattle.source.specs.declared.Source.{Source}
use Rattle.source.proofs.Sources.{sourced_whole, whole_source}
use Rattle.lent.proofs.Needed.{needed_is, bits_fit}
use Rattle.nodes.specs.declared.Node.{Node}
use Rattle.records.specs.Records.{none}
use Rattle.survey.specs.Survey.{Survey, work_length, most_records, first_short, Known, Surveyable, Surveyed}
use Rattle.folded.specs.Folded.{scratch_needed, scratch_checked, nodes_checked, ask_checked, cleared_to, cleared, scratch_after}
use Rattle.folded.proofs.Asked.{scratch_tells, scratch_passed, used, records_unused, records_used}
use Rattle.ask.proofs.Answered.{zeros_length, zeros_at, needed_as, cleared_zero, cleared_beyond, cleared_same}
use Rattle.admit.specs.Admit.{Wanted, table_checked}
use Rattle.fold.specs.Fold.{wanted_checked, Findings, Ends, Clean, Finishes, Folds}
use Rattle.fold.proofs.Judged.{no_acceptance, wanted_kept, passed_figures, passed_result}

-- ---- after the judgement: s is clean

module _ (b : List ℕ) (w : Wanted) (s : List ℕ) (ys : List Node) (r : List ℕ) (C : Clean b s) where
  pub surveyable : (ws : List ℕ) → ws ≡ replicate work_length 0 → Surveyable b s ws
  surveyable ws e = record {
    accepted = C.accepted;
    room = omega (arith, needed_as b, C.enough);
    clean = λ j l. C.zeros j (omega (arith, needed_as b));
    zeros = λ i. ap (λ (r : List ℕ). get_or r i 0) e ∙ zeros_at work_length i;
    space = omega (arith, ap length e ∙ zeros_length work_length);
  }

  -- what is needed of the scratch can be cleared
  pub clearable : (h : Source) → HeadOf b (head_of h) → (s₂ : List ℕ) → length s₂ ≡ length s → (h.inputs * h.frames ≤ 16) × (2 * 2 ^ (h.inputs * h.frames) ≤ length s₂)
  clearable h O s₂ l = (bits_fit b h C.accepted.form.head O, omega (arith, needed_is b h O, C.enough))

  -- after the survey
  module _ (ns : List Node) (s₂ ws : List ℕ) (found : Survey) (l : length ns ≡ length ys) (l₂ : length s₂ ≡ length s) (lw : length ws ≡ work_length) (S : Surveyed b (length ys) ns s s₂ ws found) where
    pub findings : Findings b found ns s₂ ws
    findings = record {
      accepted = C.accepted;
      enough = omega (arith, C.enough);
      short = λ f e. subst (λ n. (f ≡ Nodes (first_short b n)) × (first_short b n ≤ gates b)) (sym l) (S.short f e);
      whole = λ cs e. subst (λ n. (first_short b n ≡ gates b + 1) × Known b (min n most_records) ns s₂ ws cs) (sym l) (S.whole cs e);
      space = omega arith;
    }

    pub finishes : (v : Verdict) (r' : List ℕ) → Ends b w (length ns) r r' v → (zs : List Node) → zs ≡ replicate (length ns) none → (s₃ : List ℕ) → s₃ ≡ cleared b s₂ → Finishes b w s s₃ ys zs r r' v
    finishes v r' E zs ez s₃ es = record {
      ends = subst (λ n. Ends b w n r r' v) l E;
      scratch_left = es ∙ cleared_same b s s₂ l₂ (λ i. S.beyond (scratch_needed b + i) (omega (arith, needed_as b)));
      nodes_left = ez ∙ ap (λ n. replicate n none) l;
    }

-- what clearing leaves, by the sizes of a source
pub cleared_by : (b : List ℕ) (h : Source) → HeadOf b (head_of h) → (s s' : List ℕ) → s' ≡ cleared_to (2 * 2 ^ (h.inputs * h.frames)) s → s' ≡ cleared b s
unfolding cleared
cleared_by b h O s s' e = e ∙ ap (λ k. cleared_to k s) (needed_is b h O)

keeps : (f g : Figures) → eqb f.number 0 ≡ false → f ≡ and_then f g
keeps f g z = rw z

-- what refuses before the nodes are counted
stops : (b : List ℕ) (w : Wanted) (room nodes x : ℕ) (f : Figures) → f ≡ scratch_checked b room → eqb f.number 0 ≡ false → f ≡ wanted_checked b w room nodes x
unfolding wanted_checked ask_checked
stops b w room nodes x f e z = keeps f _ z ∙ ap (λ (h : Figures). and_then h (table_checked b w x)) (keeps f (nodes_checked b nodes) z ∙ ap (λ (h : Figures). and_then h (nodes_checked b nodes)) e)

-- ---- the whole: s₁ is the scratch after the circuit and the scratch were judged

module _ (b : List ℕ) (w : Wanted) (s : List ℕ) (ys : List Node) (r : List ℕ) (s₁ : List ℕ) (l₁ : length s₁ ≡ length s) (L : s₁ ≡ scratch_after b s) where
  pub folds_refused : (f : Refusal) → refusal_figures f ≡ scratch_checked b (length s) → (v : Verdict) → IsErrAnd v (λ y. y ≡ f) → Folds b w s s₁ ys ys r r v
  folds_refused f J v i =
      let no : eqb (figures v).number 0 ≡ false = no_acceptance v f i in
      let refused : figures v ≡ wanted_checked b w (length s) (length ys) (length r) = stops b w (length s) (length ys) (length r) (figures v) (told v f _ i J) no in
      record {
        answered = refused;
        written = wanted_kept b w (length s) (length ys) r (figures v) refused no;
        scratch_left = L;
        nodes_left = sym (records_unused b (length s) ys _ _ (sym J) (refusal_number f));
      }

  module _ (p : ℕ) (J : answer 0 p ≡ scratch_checked b (length s)) where
    passed : scratch_checked b (length s) ≡ answer 0 0
    passed = scratch_passed b (length s) (ap (λ (f : Figures). eqb f.number 0) (sym J))

    accepted : Accepted b
    accepted = accepted_circuit b _ (scratch_tells b (length s) passed).0

    pub formed : Formed b
    formed = accepted.form

    is_cleared : s₁ ≡ cleared b s
    is_cleared = L ∙ used b s passed

    clean : Clean b s₁
    clean = record {
      accepted = accepted;
      enough = omega (arith, (scratch_tells b (length s) passed).1);
      zeros = λ j l. ap (λ (r : List ℕ). get_or r j 0) is_cleared ∙ cleared_zero b s j l;
    }

    -- the source of the circuit as it stands
    module _ (h : Source) (O : WholeOf b h) where
      pub clean_source : SourceOf b h × Clean (sourced h b) s₁
      clean_source = (whole_source b h formed O, subst (λ b. Clean b s₁) (sym (sourced_whole b h O.whole_is)) clean)

      pub folds : (s' : List ℕ) (ns : List Node) (r' : List ℕ) (v' : Verdict) → Finishes (sourced h b) w s₁ s' ys ns r r' v' → Folds b w s s' ys ns r r' v'
      folds s' ns r' v' F₀ =
          let F = subst (λ b. Finishes b w s₁ s' ys ns r r' v') (sourced_whole b h O.whole_is) F₀ in
          record {
            answered = F.ends.answered ∙ sym (passed_figures b w (length s) (length ys) r passed);
            written = F.ends.written ∙ sym (passed_result b w (length s) (length ys) r passed);
            scratch_left = F.scratch_left ∙ cleared_same b s s₁ l₁ (λ i. ap (λ (r : List ℕ). get_or r (scratch_needed b + i) 0) is_cleared ∙ cleared_beyond b s i) ∙ sym (used b s passed);
            nodes_left = F.nodes_left ∙ sym (records_used b (length s) ys passed);
          }
