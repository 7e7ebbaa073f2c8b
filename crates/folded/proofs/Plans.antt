-- What the plan of a folded table is, and the statements of specs/Theorems about asking and committing.
use mathlib.Core.Path.{◌≡◌, refl, sym, ap, ap₂, ◌∙◌}
use mathlib.Core.Bool.{cond}
use mathlib.Core.List.{List, [], ◌∷◌, ◌++◌}
use Prim.Native.Nat.{ℕ, ◌+◌, ◌^◌, ◌≤◌, ◌<◌}
use native.Mathlib.Omega.{arith}
use native.Mathlib.Decide.{dec_lt}
use lib.Dec.{ltb}
use lib.ListN.{length, get_or}
use lib.Seq.{take_at, get_or-take, get_or-drop, get_or-append_seam}
use borrow.Author.Tests.{le-ltb, lt-ltb, ne_eqb}
use Rattle.verdict.specs.Judgements.{answer}
use Rattle.sizes.specs.Limits.{most_frames}
use Rattle.sizes.specs.Sizes.{inputs, outputs, frames}
use Rattle.layered.proofs.Lists.{tabulate_cong, tabulate_at}
use Rattle.circuit.specs.Circuit.{checked}
use Rattle.circuit.specs.WellFormed.{Accepted}
use Rattle.circuit.proofs.Accepted.{accepted as accepted_circuit}
use Rattle.circuit.proofs.Causal.{causal_of}
use Rattle.table.specs.Table.{states}
use Rattle.folded.specs.Folded.{folded_bytes, ask_checked}
use Rattle.folded.specs.Planned.{counts_to, plan_of, folded_plan}
use Rattle.folded.specs.Theorems.{Folding, Askings, Committing}
use Rattle.folded.proofs.Written.{table_bytes, machine_back}
use Rattle.folded.proofs.Tables.{folded_machine, table_writable}
use Rattle.folded.proofs.Outcomes.{written_bytes}
use Rattle.folded.proofs.Asked.{counts_length, ask_tells, ask_passed, asked_figures, asked_plan, used, used_refused, commit_refused, other_answer, commit_keeps, own_figures, own_result, fold_accepts, fold_refuses}
use Rattle.folded.proofs.Theorems.{folding}

-- counts that agree in every layer
counts_cong : (T : ℕ) (S R : ℕ → ℕ) → ((k : ℕ) → k < 17 → cond (ltb T k) 0 (S k) ≡ cond (ltb T k) 0 (R k)) → counts_to T S ≡ counts_to T R
unfolding counts_to
counts_cong T S R e = tabulate_cong 17 _ _ e

-- a count of a plan
pub count_at : (T k : ℕ) (S : ℕ → ℕ) → k < 17 → get_or (counts_to T S) k 0 ≡ cond (ltb T k) 0 (S k)
unfolding counts_to
count_at T k S h = tabulate_at 17 k (λ t. cond (ltb T t) 0 (S t)) h

-- the count of layer k, and the bytes, in a table's plan
module _ (t : List ℕ) where
  behind : (i : ℕ) → get_or (plan_of t) (3 + i) 0 ≡ get_or (counts_to (frames t) (states t) ++ (length t ∷ [])) i 0
  unfolding plan_of
  behind i = sym (get_or-drop 3 (plan_of t) i 0)

  plan_count : (k : ℕ) → k ≤ frames t → k ≤ most_frames → get_or (plan_of t) (3 + k) 0 ≡ states t k
  plan_count k h l =
      let c = counts_to (frames t) (states t) in
      behind k
      ∙ sym (get_or-take 17 (c ++ (length t ∷ [])) k 0 (omega arith))
      ∙ ap (λ c. get_or c k 0) (take_at c (length t ∷ []) 17 (counts_length (frames t) (states t)))
      ∙ count_at (frames t) k (states t) (omega arith)
      ∙ rw (le-ltb (frames t) k h)

  plan_bytes : get_or (plan_of t) 20 0 ≡ length t
  plan_bytes =
      let c = counts_to (frames t) (states t) in
      behind 17 ∙ ap (λ (i : ℕ). get_or (c ++ (length t ∷ [])) i 0) (sym (counts_length (frames t) (states t))) ∙ get_or-append_seam c (length t) [] 0

-- the circuit's sizes, the counts of its states and the length of its table
abbrev pub plan_parts : List ℕ → List ℕ
plan_parts b = inputs b ∷ outputs b ∷ frames b ∷ (counts_to (frames b) (folded_machine b).states ++ (length (folded_bytes b) ∷ []))

-- ---- of an accepted circuit: its plan is these

module _ (b : List ℕ) (A : Accepted b) where
  is_folding : Folding (2 ^ inputs b) (outputs b) (frames b) b (folded_bytes b)
  is_folding = folding b (causal_of b A) A.form.sizes

  -- a layer's count, as it is written
  states_are : (k : ℕ) → k ≤ frames b → states (folded_bytes b) k ≡ (folded_machine b).states k
  unfolding folded_bytes table_bytes
  states_are k h = sym ((machine_back (table_writable b (causal_of b A) A.form.sizes)).states_are k h)

  pub folded_plan_lem : folded_plan b ≡ plan_parts b
  unfolding folded_plan plan_of
  folded_plan_lem =
      let F = is_folding in
      ap₂ (λ (n : ℕ) (l : List ℕ). n ∷ l) F.same_inputs
      (ap₂ (λ (m : ℕ) (l : List ℕ). m ∷ l) F.same_outputs (ap₂ (λ (T : ℕ) (c : List ℕ). T ∷ (c ++ (length (folded_bytes b) ∷ []))) F.same_frames counts_are))
    where
      count_is : (k : ℕ) → Dec (frames b < k) → cond (ltb (frames b) k) 0 (states (folded_bytes b) k) ≡ cond (ltb (frames b) k) 0 ((folded_machine b).states k)
      count_is k (yes l) = rw (lt-ltb (frames b) k l)
      count_is k (no n) = ap (cond (ltb (frames b) k) 0) (states_are k (omega arith))

      counts_are : counts_to (frames (folded_bytes b)) (states (folded_bytes b)) ≡ counts_to (frames b) (folded_machine b).states
      counts_are = ap (λ (T : ℕ). counts_to T (states (folded_bytes b))) is_folding.same_frames ∙ counts_cong (frames b) _ _ (λ k l. count_is k (dec_lt (frames b) k))

pub askings : Askings
unfolding Askings folded_plan
askings b room nodes plan e =
    let a : ask_checked b room nodes ≡ answer 0 0 = asked_figures b room nodes 0 0 plan e in
    let own : plan ≡ plan_of (folded_bytes b) = asked_plan b room nodes plan e in
    let c : checked b ≡ answer 0 (checked b).place = (ask_tells b room nodes a).0 in
    let A = accepted_circuit b _ c in
    let F = is_folding b A in
    let z = A.form.sizes.frames_to in
    let bytes : get_or plan 20 0 ≡ length (folded_bytes b) = ap (λ l. get_or l 20 0) own ∙ plan_bytes (folded_bytes b) in
    record {
      enough = λ x l. fold_accepts b room nodes x (get_or plan 20 0) a bytes (omega arith);
      too_short = λ x l. fold_refuses b room nodes x (get_or plan 20 0) a bytes (omega arith);
      as_folded = λ before scratch_room node_room p a. own ∙ ap plan_of (sym (written_bytes b before scratch_room node_room p a));
      fewest = λ M L G k h.
          omega (arith, F.fewest M L G k h, ap (λ l. get_or l (3 + k) 0) own, plan_count (folded_bytes b) k (omega (arith, F.same_frames)) (omega arith));
    }

pub committing : (b plan scratch : List ℕ) (nodes : ℕ) (result : List ℕ) → Committing b plan scratch nodes result
committing b plan scratch nodes result =
    let s : ℕ = length scratch in
    record {
      as_folding = λ room records e.
          let own = asked_plan b room records plan e in
          (own_figures b plan s nodes result own, own_result b plan s nodes result own);
      other_plan = λ its e n.
          let a = asked_figures b s nodes 0 0 its e in
          let o = other_answer b plan s nodes result a (λ q. n (q ∙ sym (asked_plan b s nodes its e))) in
          (o, commit_keeps b plan s nodes result 14 0 o refl, used b scratch (ask_passed b s nodes a));
      as_asking = λ number place none e n.
          let a = asked_figures b s nodes number place none e in
          let z = ne_eqb number 0 n in
          let o = commit_refused b plan s nodes result number place a z in
          (o, commit_keeps b plan s nodes result number place o z, used_refused b scratch nodes number place a z);
    }
