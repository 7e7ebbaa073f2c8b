-- What asking answers of a circuit that was judged and surveyed, and what it leaves. Assumes nothing.
use mathlib.Core.Path.{◌≡◌, refl, sym, ap, ◌∙◌, subst}
use mathlib.Core.List.{List, ◌∷◌, ◌++◌}
use Prim.Native.Nat.{ℕ, zero, suc, ◌+◌, ◌*◌, ◌-◌, ◌^◌, ◌≤◌, ◌<◌, min}
use native.Mathlib.Omega.{arith}
use lib.Dec.{eqb}
use lib.ListN.{length, get_or, drop, replicate, length-drop, length-replicate, get_or-append}
use lib.Seq.{get_or-append-add, get_or-drop, ext_get_or}
use Rattle.verdict.specs.Judgements.{answer, refusal_figures}
use Rattle.verdict.specs.declared.Figures.{Figures}
use Rattle.verdict.specs.declared.Refusal.{Refusal}
use Rattle.std.specs.Prelude.{Ok, Err, IsErrAnd}
use Rattle.std.proofs.lemmas.Result.{err_from_is_err_and}
use Rattle.verdict.proofs.Laws.{refusal_number}
use Rattle.layered.proofs.Rows.{pow-mul}
use Rattle.sizes.specs.Sizes.{inputs, frames}
use Rattle.circuit.specs.Circuit.{gates, all_inputs}
use Rattle.circuit.specs.WellFormed.{CircuitHeaded, WellFormed, Formed, Accepted}
use Rattle.circuit.specs.declared.Head.{Head}
use Rattle.circuit.proofs.Accepted.{accepted as accepted_circuit, well_formed}
use Rattle.source.specs.Source.{head_of, sourced, WholeOf, SourceOf}
use Rattle.source.specs.declared.Source.{Source}
use Rattle.source.proofs.Sources.{sourced_whole, whole_source}
use Rattle.lent.proofs.Needed.{needed_is, bits_fit}
use Rattle.nodes.specs.declared.Node.{Node}
use Rattle.records.specs.Records.{none}
use Rattle.survey.specs.Survey.{Survey, work_length, most_records, first_short, Surveyable, Surveyed}
use Rattle.folded.specs.Folded.{scratch_needed, scratch_checked, nodes_checked, ask_checked, cleared_to, cleared, scratch_after, nodes_after}
use Rattle.folded.specs.Planned.{plan_length, folded_plan, asked}
use Rattle.folded.specs.Theorems.{Asking, Askings}
use Rattle.folded.proofs.Counting.{nodes_refused, nodes_pass, capped}
use Rattle.folded.proofs.Asked.{ask_counts, ask_refused, asked_refused, asked_accepted, scratch_tells, scratch_passed, used, records_unused, records_used}
use Rattle.folded.proofs.Plans.{askings}
use Rattle.ask.specs.declared.plan.Plan.{Plan}
use Rattle.ask.specs.Plan.{Asked, Counted, plan_numbers, ask_numbers}

module _ (b : List ℕ) (h : Head) (W : WellFormed b h) (records : ℕ) where
  -- counting nodes, by the first gate for which the records are too few
  pub counted_refused : first_short b records ≤ gates b → nodes_checked b records ≡ answer 18 (first_short b records)
  counted_refused l = sym (capped b h W records _ refl) ∙ nodes_refused b (min records most_records) l

  pub counted_passed : first_short b records ≡ gates b + 1 → nodes_checked b records ≡ answer 0 0
  counted_passed e = sym (capped b h W records _ refl) ∙ nodes_pass b (min records most_records) e

-- ---- asking, stage by stage: b is the circuit, s the scratch, `room` its length, and there are so many records

abbrev pub zeros : ℕ → List ℕ
zeros n = replicate n 0

pub zeros_length : (n : ℕ) → length (zeros n) ≡ n
zeros_length n = length-replicate {A = ℕ} n 0

pub zeros_at : (n i : ℕ) → get_or (zeros n) i 0 ≡ 0
zeros_at zero i = refl
zeros_at (suc n) zero = refl
zeros_at (suc n) (suc i) = zeros_at n i

-- how the numbers needed are counted when a circuit is surveyed
pub needed_as : (b : List ℕ) → 2 * (2 ^ inputs b) ^ frames b ≡ scratch_needed b
unfolding scratch_needed all_inputs
needed_as b = ap (λ n. 2 * n) (sym (pow-mul 2 (inputs b) (frames b)))

-- within what is needed a cleared scratch is zero, and beyond it is as before
module _ (b s : List ℕ) where
  pub cleared_zero : (j : ℕ) → j < scratch_needed b → get_or (cleared b s) j 0 ≡ 0
  unfolding cleared
  cleared_zero j l = get_or-append (zeros (scratch_needed b)) (drop (scratch_needed b) s) 0 j (omega (arith, zeros_length (scratch_needed b))) ∙ zeros_at (scratch_needed b) j

  pub cleared_beyond : (i : ℕ) → get_or (cleared b s) (scratch_needed b + i) 0 ≡ get_or s (scratch_needed b + i) 0
  unfolding cleared
  cleared_beyond i =
      ap (λ n. get_or (cleared b s) (n + i) 0) (sym (zeros_length (scratch_needed b)))
      ∙ get_or-append-add (zeros (scratch_needed b)) (drop (scratch_needed b) s) i 0
      ∙ get_or-drop (scratch_needed b) s i 0

  -- two scratches that agree beyond what is needed are the same when they are cleared
  pub cleared_same : (r : List ℕ) → length r ≡ length s → ((i : ℕ) → get_or r (scratch_needed b + i) 0 ≡ get_or s (scratch_needed b + i) 0) → cleared b r ≡ cleared b s
  unfolding cleared
  cleared_same r l e = ap (λ (t : List ℕ). zeros (scratch_needed b) ++ t) (ext_get_or 0 (drop (scratch_needed b) r) (drop (scratch_needed b) s)
      (length-drop (scratch_needed b) r ∙ ap (λ n. n - scratch_needed b) l ∙ sym (length-drop (scratch_needed b) s))
      (λ i _. get_or-drop (scratch_needed b) r i 0 ∙ e i ∙ sym (get_or-drop (scratch_needed b) s i 0)))

-- the numbers of what the exit of a `?` answers
ask_told : (a : Asked) (r : Refusal) → IsErrAnd a (λ y. y ≡ r) → ask_numbers a ≡ (refusal_figures r).number ∷ (refusal_figures r).place ∷ replicate plan_length 0
ask_told a r h = let p = err_from_is_err_and a h in ap ask_numbers p.1 ∙ ap (λ (r : Refusal). ask_numbers (Err r)) p.2

-- whatever is answered as `asked` says
pub asking_of : (b : List ℕ) (room records : ℕ) (a : Asked) → ask_numbers a ≡ asked b room records → (plan : Plan) → a ≡ Ok plan → Asking b room records (plan_numbers plan)
unfolding Askings
asking_of b room records a e plan q = askings b room records (plan_numbers plan) (sym e ∙ ap ask_numbers q)

module _ (b s : List ℕ) (ys : List Node) where
  -- where the judgement refuses
  module _ (r : Refusal) (judged : refusal_figures r ≡ scratch_checked b (length s)) where
    pub refused_asked : (a : Asked) → IsErrAnd a (λ y. y ≡ r) → ask_numbers a ≡ asked b (length s) (length ys)
    refused_asked a h = ask_told a r h ∙ asked_refused b (length s) (length ys) r (ask_refused b (length s) (length ys) r (sym judged))

    pub refused_nodes : ys ≡ nodes_after b (length s) ys
    refused_nodes = sym (records_unused b (length s) ys _ _ (sym judged) (refusal_number r))

  -- and where it accepts: s₁ is the scratch after it
  module _ (p : ℕ) (judged : answer 0 p ≡ scratch_checked b (length s)) where
    pub judged_passed : scratch_checked b (length s) ≡ answer 0 0
    judged_passed = scratch_passed b (length s) (ap (λ (f : Figures). eqb f.number 0) (sym judged))

    pub headed_all : Formed b
    headed_all = (accepted_circuit b _ (scratch_tells b (length s) judged_passed).0).form

    pub headed : CircuitHeaded b
    headed = headed_all.head

    -- what is needed of the scratch can be cleared
    pub clearable : (h : Source) → WholeOf b h → (s₂ : List ℕ) → length s₂ ≡ length s → (h.inputs * h.frames ≤ 16) × (2 * 2 ^ (h.inputs * h.frames) ≤ length s₂)
    clearable h O s₂ l = (bits_fit b h headed O.head_is, omega (arith, needed_is b h O.head_is, (scratch_tells b (length s) judged_passed).1))

    module _ (s₁ : List ℕ) (l₁ : length s₁ ≡ length s) (left : s₁ ≡ scratch_after b s) where
      s₁_is : s₁ ≡ cleared b s
      s₁_is = left ∙ used b s judged_passed

      pub surveyable : (ws : List ℕ) → ws ≡ replicate work_length 0 → Surveyable b s₁ ws
      surveyable ws e = let t = scratch_tells b (length s) judged_passed in record {
        accepted = accepted_circuit b _ t.0;
        room = omega (arith, needed_as b, t.1, l₁);
        clean = λ j l. ap (λ (r : List ℕ). get_or r j 0) s₁_is ∙ cleared_zero b s j (omega (arith, needed_as b));
        zeros = λ i. ap (λ (r : List ℕ). get_or r i 0) e ∙ zeros_at work_length i;
        space = omega (arith, ap length e ∙ zeros_length work_length);
      }

      -- after the survey
      module _ (ns : List Node) (s₂ ws : List ℕ) (found : Survey) (l₂ : length s₂ ≡ length s) (S : Surveyed b (length ys) ns s₁ s₂ ws found) where
        pub left_cleared : (s₃ : List ℕ) → s₃ ≡ cleared b s₂ → s₃ ≡ scratch_after b s
        left_cleared s₃ e = e ∙ cleared_same b s s₂ l₂ beyond ∙ sym (used b s judged_passed)
          where
            beyond : (i : ℕ) → get_or s₂ (scratch_needed b + i) 0 ≡ get_or s (scratch_needed b + i) 0
            beyond i = S.beyond (scratch_needed b + i) (omega (arith, needed_as b)) ∙ ap (λ (r : List ℕ). get_or r (scratch_needed b + i) 0) s₁_is ∙ cleared_beyond b s i

        pub left_empty : (zs : List Node) → length ns ≡ length ys → zs ≡ replicate (length ns) none → zs ≡ nodes_after b (length s) ys
        left_empty zs l e = e ∙ ap (λ n. replicate n none) l ∙ sym (records_used b (length s) ys judged_passed)

        module _ (h : Source) (O : WholeOf b h) where
          W : WellFormed b (head_of h)
          W = well_formed headed_all O.head_is

          counts_asked : ask_checked b (length s) (length ys) ≡ nodes_checked b (length ys)
          counts_asked = ask_counts b (length s) (length ys) judged_passed

          -- the records are too few
          pub short : (r : Refusal) → found ≡ Err r → (a : Asked) → IsErrAnd a (λ y. y ≡ r) → ask_numbers a ≡ asked b (length s) (length ys)
          short r e a i =
              let t = S.short r e in
              ask_told a r i ∙ asked_refused b (length s) (length ys) r (counts_asked ∙ counted_refused b (head_of h) W (length ys) t.1 ∙ ap refusal_figures (sym t.0))

          -- they are enough
          module _ (counts : List ℕ) (e : found ≡ Ok counts) where
            pub plannable : SourceOf b h × Accepted (sourced h b) × Counted (sourced h b) counts
            plannable =
                let t = subst (λ b. Accepted b × Counted b counts) (sym (sourced_whole b h O.whole_is)) (accepted_circuit b _ (scratch_tells b (length s) judged_passed).0, (S.whole counts e).1.counted) in
                (whole_source b h headed_all O, t.0, t.1)

            pub planned : (plan : Plan) → plan_numbers plan ≡ folded_plan (sourced h b) → ask_numbers (Ok plan) ≡ asked b (length s) (length ys)
            planned plan q =
                asked_accepted b (length s) (length ys) (plan_numbers plan) (counts_asked ∙ counted_passed b (head_of h) W (length ys) (S.whole counts e).0)
                (q ∙ ap folded_plan (sourced_whole b h O.whole_is))

-- ---- the source of a circuit as it stands

module _ (b : List ℕ) (h : Source) where
  pub sourced_survey : (s ws : List ℕ) → Formed b → WholeOf b h → Surveyable b s ws → SourceOf b h × Surveyable (sourced h b) s ws
  sourced_survey s ws F O S = (whole_source b h F O, subst (λ b. Surveyable b s ws) (sym (sourced_whole b h O.whole_is)) S)

  pub cleared_is : WholeOf b h → (s s' : List ℕ) → s' ≡ cleared_to (2 * 2 ^ (h.inputs * h.frames)) s → s' ≡ cleared b s
  unfolding cleared
  cleared_is O s s' e = e ∙ ap (λ k. cleared_to k s) (needed_is b h O.head_is)
