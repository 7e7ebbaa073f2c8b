-- What asking and committing answer and leave in each case, and what an answer of asking tells.
use mathlib.Core.Path.{◌≡◌, refl, sym, ap, ap₂, ◌∙◌}
use mathlib.Core.Bool.{Bool, true, false, cond}
use mathlib.Core.Logic.{⊎_elim}
use mathlib.Core.List.{List, [], ◌∷◌}
use Prim.Native.Nat.{ℕ, suc, ◌+◌, ◌≤◌, ◌<◌}
use native.Mathlib.Omega.{arith}
use lib.Dec.{ltb, eqb, lit<}
use lib.ListN.{length, get_or, drop, replicate, length-append}
use borrow.Author.Tests.{lt-ltb, le-ltb, ltb-false, eqb-true, eqb-false, ne_eqb}
use Rattle.verdict.specs.Judgements.{answer, refusal_figures, refuse, result_after}
use Rattle.verdict.specs.declared.Figures.{Figures}
use Rattle.verdict.specs.declared.Refusal.{Refusal}
use Rattle.verdict.proofs.Laws.{refusal_number, both_accept, passed, under_refuse, under_then}
use Rattle.sizes.specs.Sizes.{frames}
use Rattle.layered.proofs.Search.{equal_true, equal_false}
use Rattle.layered.proofs.Lists.{tabulate_length}
use Rattle.circuit.specs.Circuit.{checked}
use Rattle.circuit.proofs.Judged.{checked_number}
use Rattle.table.specs.Table.{states}
use Rattle.nodes.specs.declared.Node.{Node}
use Rattle.records.specs.Records.{none}
use Rattle.folded.specs.Folded.{folded_bytes, scratch_needed, scratch_checked, nodes_checked, ask_checked, room_checked, fold_checked, fold_result, cleared, scratch_after, nodes_after}
use Rattle.folded.proofs.Counting.{nodes_refused, nodes_pass, either}
use Rattle.folded.specs.Planned.{counts_to, plan_of, plan_length, folded_plan, asked, commit_checked, commit_result}

-- ---- how long plans are

pub counts_length : (T : ℕ) (S : ℕ → ℕ) → length (counts_to T S) ≡ 17
unfolding counts_to
counts_length T S = tabulate_length 17 (λ t. cond (ltb T t) 0 (S t))

pub plan_length_lem : (b : List ℕ) → length (folded_plan b) ≡ plan_length
unfolding folded_plan plan_of
plan_length_lem b =
    let t = folded_bytes b in
    omega (arith, length-append (counts_to (frames t) (states t)) (length t ∷ []), counts_length (frames t) (states t))

-- ---- asking

module _ (b : List ℕ) (room : ℕ) where
  -- what is judged: the scratch is too short, or not
  pub scratch_refused : (p : ℕ) → checked b ≡ answer 0 p → room < scratch_needed b → scratch_checked b room ≡ answer 6 (scratch_needed b)
  unfolding scratch_checked
  scratch_refused p c l = rw (c, lt-ltb room (scratch_needed b) l)

  pub scratch_accepts : (p : ℕ) → checked b ≡ answer 0 p → scratch_needed b ≤ room → scratch_checked b room ≡ answer 0 0
  unfolding scratch_checked
  scratch_accepts p c l = rw (c, le-ltb room (scratch_needed b) l)

  -- acceptance tells of the circuit and the scratch
  pub scratch_tells : scratch_checked b room ≡ answer 0 0 → (checked b ≡ answer 0 (checked b).place) × (scratch_needed b ≤ room)
  unfolding scratch_checked
  scratch_tells e =
      let a = both_accept (checked b) _ 0 e in
      let p = passed (ltb room (scratch_needed b)) 6 _ _ 0 refl a.2 in
      (ap (λ (n : ℕ). answer n (checked b).place) (ap (λ (f : Figures). f.number) a.1), ltb-false room _ p.0)

  -- its place is 0
  pub scratch_zero : (p : ℕ) → scratch_checked b room ≡ answer 0 p → scratch_checked b room ≡ answer 0 0
  unfolding scratch_checked
  scratch_zero p e =
      let a = both_accept (checked b) _ p e in
      let q = passed (ltb room (scratch_needed b)) 6 _ _ p refl a.2 in
      e ∙ sym q.1

  -- no number is above 6
  pub scratch_number : (scratch_checked b room).number < 7
  unfolding scratch_checked
  scratch_number = under_then 7 (checked b) _ (omega (arith, checked_number b)) (under_refuse 7 (ltb room (scratch_needed b)) 6 _ (answer 0 0) (lit< tt) (lit< tt))

  pub scratch_passed : eqb (scratch_checked b room).number 0 ≡ true → scratch_checked b room ≡ answer 0 0
  scratch_passed q = scratch_zero (scratch_checked b room).place (ap (λ n. answer n (scratch_checked b room).place) (eqb-true _ 0 q))

-- 18 is the only number that counting nodes answers
pub nodes_number : (b : List ℕ) (nodes n p : ℕ) → nodes_checked b nodes ≡ answer n p → eqb n 0 ≡ false → n ≡ 18
nodes_number b nodes n p e z = ⊎_elim (λ h. ap (λ (f : Figures). f.number) (sym e ∙ nodes_refused b nodes h)) (λ h. absurd (eqb-false n 0 z (ap (λ (f : Figures). f.number) (sym e ∙ nodes_pass b nodes h)))) (either b nodes)

-- ---- asking

module _ (b : List ℕ) (room nodes : ℕ) where
  -- what refuses before the nodes are counted refuses asking
  pub ask_refused : (r : Refusal) → scratch_checked b room ≡ refusal_figures r → ask_checked b room nodes ≡ refusal_figures r
  unfolding ask_checked
  ask_refused r e = rw (e, refusal_number r)

  -- else the nodes are counted
  pub ask_counts : scratch_checked b room ≡ answer 0 0 → ask_checked b room nodes ≡ nodes_checked b nodes
  unfolding ask_checked
  ask_counts e = rw e

  pub ask_tells : ask_checked b room nodes ≡ answer 0 0 → (checked b ≡ answer 0 (checked b).place) × (scratch_needed b ≤ room)
  unfolding ask_checked
  ask_tells e = let a = both_accept (scratch_checked b room) (nodes_checked b nodes) 0 e in scratch_tells b room (scratch_zero b room a.0 a.1)

  pub ask_passed : ask_checked b room nodes ≡ answer 0 0 → scratch_checked b room ≡ answer 0 0
  unfolding ask_checked
  ask_passed e = let a = both_accept (scratch_checked b room) (nodes_checked b nodes) 0 e in scratch_zero b room a.0 a.1

  -- what is returned: zeros with a refusal, or the plan
  pub asked_refused : (r : Refusal) → ask_checked b room nodes ≡ refusal_figures r → (refusal_figures r).number ∷ (refusal_figures r).place ∷ replicate plan_length 0 ≡ asked b room nodes
  unfolding asked
  asked_refused r e = rw (e, refusal_number r)

  pub asked_accepted : (plan : List ℕ) → ask_checked b room nodes ≡ answer 0 0 → plan ≡ folded_plan b → 0 ∷ 0 ∷ plan ≡ asked b room nodes
  unfolding asked
  asked_accepted plan e q = rw e (ap (λ (p : List ℕ). 0 ∷ 0 ∷ p) q)

  -- it tells number and place, and the plan
  pub asked_figures : (n p : ℕ) (plan : List ℕ) → asked b room nodes ≡ n ∷ p ∷ plan → ask_checked b room nodes ≡ answer n p
  unfolding asked
  asked_figures n p plan e = ap₂ answer (ap (λ (l : List ℕ). get_or l 0 0) e) (ap (λ (l : List ℕ). get_or l 1 0) e)

  pub asked_plan : (plan : List ℕ) → asked b room nodes ≡ 0 ∷ 0 ∷ plan → plan ≡ folded_plan b
  asked_plan plan e = ap (drop 2) (sym e ∙ sym (asked_accepted (folded_plan b) (asked_figures 0 0 plan e) refl))

  -- there are 23 numbers
  pub asked_length : length (asked b room nodes) ≡ 2 + plan_length
  unfolding asked
  asked_length = go (eqb (ask_checked b room nodes).number 0)
    where
      go : (t : Bool) → suc (suc (length (cond t (folded_plan b) (replicate plan_length 0)))) ≡ 2 + plan_length
      go true = omega (arith, plan_length_lem b)
      go false = refl

-- ---- what was lent

module _ (b before : List ℕ) where
  pub used : scratch_checked b (length before) ≡ answer 0 0 → scratch_after b before ≡ cleared b before
  unfolding scratch_after
  used e = rw e

  -- a refusal of asking leaves it as it was, but for 18
  pub used_refused : (nodes n p : ℕ) → ask_checked b (length before) nodes ≡ answer n p → eqb n 0 ≡ false → scratch_after b before ≡ cond (eqb n 18) (cleared b before) before
  unfolding scratch_after ask_checked
  used_refused nodes n p e z = go (eqb (scratch_checked b (length before)).number 0) refl e
    where
      go : (t : Bool) → eqb (scratch_checked b (length before)).number 0 ≡ t → cond t (nodes_checked b nodes) (scratch_checked b (length before)) ≡ answer n p
          → cond t (cleared b before) before ≡ cond (eqb n 18) (cleared b before) before
      go true q a = rw (nodes_number b nodes n p a z)
      go false q a = let u : ¬ (n ≡ 18) = λ d. omega (arith, scratch_number b (length before), ap (λ (f : Figures). f.number) a) in rw (ne_eqb n 18 u)

module _ (b : List ℕ) (room : ℕ) (before : List Node) where
  pub records_unused : (n p : ℕ) → scratch_checked b room ≡ answer n p → eqb n 0 ≡ false → nodes_after b room before ≡ before
  unfolding nodes_after
  records_unused n p e z = rw (e, z)

  pub records_used : scratch_checked b room ≡ answer 0 0 → nodes_after b room before ≡ replicate (length before) none
  unfolding nodes_after
  records_used e = rw e

-- ---- committing

module _ (b plan : List ℕ) (room nodes : ℕ) (result : List ℕ) where
  -- what asking refuses
  pub commit_refused : (n p : ℕ) → ask_checked b room nodes ≡ answer n p → eqb n 0 ≡ false → commit_checked b plan room nodes (length result) ≡ answer n p
  unfolding commit_checked
  commit_refused n p e z = rw (e, z)

  -- another plan
  pub other_answer : ask_checked b room nodes ≡ answer 0 0 → ¬ (plan ≡ folded_plan b) → commit_checked b plan room nodes (length result) ≡ answer 14 0
  unfolding commit_checked
  other_answer e o = rw (e, equal_false plan (folded_plan b) o)

  -- a refusal leaves the result
  pub commit_keeps : (n p : ℕ) → commit_checked b plan room nodes (length result) ≡ answer n p → eqb n 0 ≡ false → commit_result b plan room nodes result ≡ result
  unfolding commit_result
  commit_keeps n p e z = rw (e, z)

  -- committing to the circuit's own plan is folding
  pub own_figures : plan ≡ folded_plan b → commit_checked b plan room nodes (length result) ≡ fold_checked b room nodes (length result)
  unfolding commit_checked fold_checked
  own_figures own = rw (equal_true plan (folded_plan b) own)

  pub own_result : plan ≡ folded_plan b → commit_result b plan room nodes result ≡ fold_result b room nodes result
  unfolding commit_result fold_result
  own_result own = ap (λ (f : Figures). result_after f (folded_bytes b) result) (own_figures own)

-- folding, where asking accepts: with room for the bytes, and with less
module _ (b : List ℕ) (room nodes x p : ℕ) (e : ask_checked b room nodes ≡ answer 0 0) (q : p ≡ length (folded_bytes b)) where
  pub fold_accepts : length (folded_bytes b) ≤ x → fold_checked b room nodes x ≡ answer 0 p
  unfolding fold_checked room_checked
  fold_accepts l = rw (e, q, le-ltb x (length (folded_bytes b)) l)

  pub fold_refuses : x < length (folded_bytes b) → fold_checked b room nodes x ≡ answer 7 p
  unfolding fold_checked room_checked
  fold_refuses l = rw (e, q, lt-ltb x (length (folded_bytes b)) l)
