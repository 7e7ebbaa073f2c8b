-- What folding and committing answer and leave of a circuit that was judged behind its survey. Assumes nothing.
use mathlib.Core.Path.{◌≡◌, refl, sym, ap, ◌∙◌}
use mathlib.Core.Bool.{false, not}
use mathlib.Core.List.{List, ◌++◌}
use Prim.Native.Nat.{ℕ, ◌+◌, ◌≤◌, min}
use borrow.Author.Tests.{ltb-false}
use lib.Dec.{eqb, ltb}
use lib.ListN.{length, drop}
use Rattle.verdict.specs.Judgements.{Verdict, answer, figures, refusal_figures, and_then, result_after}
use Rattle.std.specs.Prelude.{None, Some, Ok, Err, IsErrAnd}
use Rattle.std.specs.Borrow.{Bor}
use Rattle.verdict.specs.declared.Figures.{Figures}
use Rattle.verdict.specs.declared.Refusal.{Refusal}
use Rattle.verdict.proofs.Laws.{both_accept, passed, left, told, stop, go_on, refusal_number}
use Rattle.sizes.specs.Sizes.{inputs, outputs, frames}
use Rattle.circuit.specs.Circuit.{gates, all_inputs, all_outputs}
use Rattle.circuit.specs.WellFormed.{HeadOf, WellFormed, Accepted}
use Rattle.circuit.specs.declared.Head.{Head}
use Rattle.circuit.proofs.Accepted.{well_formed}
use Rattle.nodes.specs.declared.Node.{Node}
use Rattle.survey.specs.Survey.{Survey, most_records}
use Rattle.folded.specs.Folded.{folded_bytes, scratch_checked, nodes_checked, ask_checked, room_checked, fold_checked, fold_result}
use Rattle.folded.specs.Planned.{folded_plan, commit_checked, commit_result}
use Rattle.folded.specs.Theorems.{Foldings}
use Rattle.folded.proofs.Asked.{ask_counts}
use Rattle.folded.proofs.Theorems.{foldings}
use Rattle.ask.proofs.Answered.{counted_refused, counted_passed}
use Rattle.ask.specs.Plan.{Counted}
use Rattle.admit.specs.Admit.{Wanted, agreed_on, table_checked}
use Rattle.write.specs.Write.{Tabled}
use Rattle.fold.specs.Fold.{Findings, Ends, survey_checked, survey_result, wanted_checked, wanted_result, Promised}

-- ---- what is answered, and what the result holds, once the circuit is accepted

module _ (b : List ℕ) (w : Wanted) (nodes : ℕ) (r : List ℕ) where
  -- a refusal leaves the result
  result_kept : (f : Figures) → f ≡ survey_checked b w nodes (length r) → eqb f.number 0 ≡ false → r ≡ survey_result b w nodes r
  unfolding survey_result
  result_kept f e z = rw (← e, z)

  module _ (p : ℕ) (e : survey_checked b w nodes (length r) ≡ answer 0 p) where
    -- the nodes were enough, and the bytes fit
    nodes_enough : (q : ℕ) × (nodes_checked b nodes ≡ answer 0 q)
    unfolding survey_checked
    nodes_enough = let (q, a, c) = both_accept (nodes_checked b nodes) _ p e in (q, a)

    roomy : (length (folded_bytes b) ≤ length r) × (p ≡ length (folded_bytes b))
    unfolding survey_checked room_checked
    roomy =
        let (q, a, c) = both_accept (nodes_checked b nodes) _ p e in
        let k = (passed (not (agreed_on w (folded_plan b))) 14 0 (room_checked b (length r)) p refl c).1 in
        let l = passed (ltb (length r) (length (folded_bytes b))) 7 _ _ p refl k in
        (ltb-false (length r) _ l.0, sym (ap (λ (f : Figures). f.place) l.1))

    -- the bytes at the front are what the result holds
    result_written : (r' : List ℕ) → r' ≡ folded_bytes b ++ drop (length (folded_bytes b)) r → r' ≡ survey_result b w nodes r
    unfolding survey_result
    result_written r' q = left (survey_checked b w nodes (length r)) p (folded_bytes b) r r' (sym e) (q ∙ ap (λ (n : ℕ). folded_bytes b ++ drop n r) (sym roomy.1))

-- ---- and with all that is judged before

module _ (b : List ℕ) (w : Wanted) (room nodes : ℕ) (r : List ℕ) where
  -- where the circuit's checks and 6 pass, the rest is answered
  pub passed_figures : scratch_checked b room ≡ answer 0 0 → wanted_checked b w room nodes (length r) ≡ survey_checked b w nodes (length r)
  unfolding wanted_checked survey_checked
  passed_figures e = ap (λ f. and_then f (table_checked b w (length r))) (ask_counts b room nodes e)

  pub passed_result : scratch_checked b room ≡ answer 0 0 → wanted_result b w room nodes r ≡ survey_result b w nodes r
  unfolding wanted_result survey_result
  passed_result e = ap (λ f. result_after f (folded_bytes b) r) (passed_figures e)

  -- a refusal before it leaves the result
  pub wanted_kept : (f : Figures) → f ≡ wanted_checked b w room nodes (length r) → eqb f.number 0 ≡ false → r ≡ wanted_result b w room nodes r
  unfolding wanted_result
  wanted_kept f e z = rw (← e, z)

  -- folding accepts where this does, and the result is the same
  module _ (p : ℕ) (e : wanted_checked b w room nodes (length r) ≡ answer 0 p) where
    fold_accepts : fold_checked b room nodes (length r) ≡ answer 0 p
    unfolding wanted_checked fold_checked
    fold_accepts =
        let (q, a, c) = both_accept (ask_checked b room nodes) _ p e in
        let k = (passed (not (agreed_on w (folded_plan b))) 14 0 (room_checked b (length r)) p refl c).1 in
        ap (λ (t : Figures). and_then t (room_checked b (length r))) a ∙ k

    same_result : wanted_result b w room nodes r ≡ fold_result b room nodes r
    unfolding wanted_result fold_result
    same_result = ap (λ (f : Figures). result_after f (folded_bytes b) r) (e ∙ sym fold_accepts)

  -- demands 2 and 3
  pub promised : (f : Figures) (r' : List ℕ) → f ≡ wanted_checked b w room nodes (length r) → r' ≡ wanted_result b w room nodes r → Promised b f r'
  unfolding Promised Foldings
  promised f r' ef er p e = let a = sym ef ∙ e in rw (er ∙ same_result p a) (foldings b r room nodes p (fold_accepts p a))

module _ (b : List ℕ) (room nodes : ℕ) (r : List ℕ) where
  -- any plan: folding
  pub any_figures : wanted_checked b None room nodes (length r) ≡ fold_checked b room nodes (length r)
  unfolding wanted_checked fold_checked agreed_on
  any_figures = refl

  pub any_result : wanted_result b None room nodes r ≡ fold_result b room nodes r
  unfolding wanted_result fold_result
  any_result = ap (λ (f : Figures). result_after f (folded_bytes b) r) any_figures

  -- the plan with these numbers: committing
  module _ (numbers : Bor (List ℕ)) where
    pub numbers_figures : wanted_checked b (Some numbers) room nodes (length r) ≡ commit_checked b numbers.now room nodes (length r)
    unfolding wanted_checked commit_checked agreed_on
    numbers_figures = refl

    pub numbers_result : wanted_result b (Some numbers) room nodes r ≡ commit_result b numbers.now room nodes r
    unfolding wanted_result commit_result
    numbers_result = ap (λ (f : Figures). result_after f (folded_bytes b) r) numbers_figures

-- a circuit has a head
headed : List ℕ → Head
headed b = record { inputs = inputs b; outputs = outputs b; frames = frames b; gates = gates b; base = 1 + all_inputs b; total = all_outputs b }

head_of : (b : List ℕ) → HeadOf b (headed b)
unfolding headed
head_of b = record { inputs_is = refl; outputs_is = refl; frames_is = refl; gates_is = refl; base_is = refl; total_is = refl }

-- ---- a circuit that was surveyed: r is the result

-- what the exit of a `?` returns is no acceptance
pub no_acceptance : (v : Verdict) (f : Refusal) → IsErrAnd v (λ y. y ≡ f) → eqb (figures v).number 0 ≡ false
no_acceptance v f i = ap (λ (f : Figures). eqb f.number 0) (told v f (refusal_figures f) i refl) ∙ refusal_number f

module _ (b : List ℕ) (survey : Survey) (w : Wanted) (ns : List Node) (s ws r : List ℕ) (F : Findings b survey ns s ws) where
  W : WellFormed b (headed b)
  W = well_formed F.accepted.form (head_of b)

  -- what is refused is not written
  kept : (v : Verdict) (f : Refusal) → IsErrAnd v (λ y. y ≡ f) → figures v ≡ survey_checked b w (length ns) (length r) → Ends b w (length ns) r r v
  kept v f i e = record { answered = e; written = result_kept b w (length ns) r (figures v) e (no_acceptance v f i) }

  -- the records are too few
  pub short : (f : Refusal) → survey ≡ Err f → (v : Verdict) → IsErrAnd v (λ y. y ≡ f) → Ends b w (length ns) r r v
  unfolding survey_checked
  short f e v i =
      let t = F.short f e in
      let counted : refusal_figures f ≡ nodes_checked b (length ns) = ap refusal_figures t.0 ∙ sym (counted_refused b (headed b) W (length ns) t.1) in
      kept v f i (stop v f (nodes_checked b (length ns)) (table_checked b w (length r)) i counted)

  -- they are enough
  module _ (counts : List ℕ) (e : survey ≡ Ok counts) where
    enough : answer 0 0 ≡ nodes_checked b (length ns)
    enough = sym (counted_passed b (headed b) W (length ns) (F.whole counts e).0)

    pub countable : Accepted b × Counted b counts
    countable = (F.accepted, (F.whole counts e).1.counted)

    -- 14 and 7
    pub refused : (f : Refusal) → refusal_figures f ≡ table_checked b w (length r) → (v : Verdict) → IsErrAnd v (λ y. y ≡ f) → Ends b w (length ns) r r v
    unfolding survey_checked
    refused f J v i = kept v f i (go_on (nodes_checked b (length ns)) (table_checked b w (length r)) (figures v) 0 enough (told v f _ i J))

    module _ (p : ℕ) (J : answer 0 p ≡ table_checked b w (length r)) where
      passes : survey_checked b w (length ns) (length r) ≡ answer 0 p
      unfolding survey_checked
      passes = sym (go_on (nodes_checked b (length ns)) (table_checked b w (length r)) (answer 0 p) 0 enough J)

      -- what is accepted can be written
      pub tabled : Tabled b counts ns s ws r
      tabled = record {
        accepted = F.accepted;
        records = min (length ns) most_records;
        known = (F.whole counts e).1;
        enough = F.enough;
        space = F.space;
        room = (roomy b w (length ns) r p passes).0;
      }

      pub ends_written : (r' : List ℕ) → r' ≡ folded_bytes b ++ drop (length (folded_bytes b)) r → Ends b w (length ns) r r' (Ok p)
      ends_written r' e = record { answered = sym passes; written = result_written b w (length ns) r p passes r' e }
