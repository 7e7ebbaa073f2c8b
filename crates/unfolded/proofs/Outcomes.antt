-- What unfolding answers and leaves in each case: refused by the table's check, by 8, by 7, or accepted; and what acceptance tells.
use mathlib.Core.Path.{◌≡◌, refl, sym, ap, ◌∙◌}
use mathlib.Core.List.{List, ◌++◌}
use Prim.Native.Nat.{ℕ, ◌≤◌}
use lib.Dec.{ltb}
use lib.ListN.{length, take, drop}
use lib.Seq.{take_at}
use borrow.Author.Tests.{ltb-false}
use Rattle.verdict.specs.Judgements.{Verdict, answer, refusal_figures, figures, result_after}
use Rattle.verdict.specs.declared.Figures.{Figures}
use Rattle.std.specs.Prelude.{Err, IsErrAnd}
use Rattle.verdict.specs.declared.Refusal.{Refusal}
use Rattle.verdict.proofs.Laws.{told, stop, go_on, kept, left, both_accept, passed}
use Rattle.circuit.specs.Limits.{most_gates}
use Rattle.table.specs.Table.{checked}
use Rattle.table.specs.Sound.{Sound}
use Rattle.table.proofs.Accepted.{sound}
use Rattle.unfolded.specs.Unfolded.{gates_needed, unfolded_bytes, drawn_checked, unfold_checked, unfold_result}

-- ---- what acceptance tells

pub record Accepted (b : List ℕ) (room p : ℕ) : Type 0 where
  pub table_sound : Sound b
  pub gates_to : gates_needed b ≤ most_gates
  pub room_enough : length (unfolded_bytes b) ≤ room
  pub place_is : p ≡ length (unfolded_bytes b)

pub accepted : (b : List ℕ) (room p : ℕ) → unfold_checked b room ≡ answer 0 p → Accepted b room p
unfolding unfold_checked drawn_checked
accepted b room p e =
    let e₁ = both_accept (checked b) _ p e in
    let e₂ = passed (ltb most_gates (gates_needed b)) 8 _ _ p refl e₁.2 in
    let e₃ = passed (ltb room (length (unfolded_bytes b))) 7 _ _ p refl e₂.1 in
    record {
      table_sound = sound b e₁.0 e₁.1;
      gates_to = ltb-false most_gates _ e₂.0;
      room_enough = ltb-false room _ e₃.0;
      place_is = sym (ap (λ (f : Figures). f.place) e₃.1);
    }

-- the bytes that were written
pub written_bytes : (b before : List ℕ) (p : ℕ) → unfold_checked b (length before) ≡ answer 0 p → take p (unfold_result b before) ≡ unfolded_bytes b
unfolding unfold_result
written_bytes b before p e =
    ap (λ f. take p (result_after f (unfolded_bytes b) before)) e ∙ take_at (unfolded_bytes b) (drop p before) p (sym (accepted b (length before) p e).place_is)

-- ---- what is answered and left in each case

-- of a table b, the result before, the figures f, the result after
pub record Outcome (b result : List ℕ) (f : Figures) (result' : List ℕ) : Type 0 where
  pub figures_are : f ≡ unfold_checked b (length result)
  pub result_left : result' ≡ unfold_result b result

-- the table is refused
pub table_refuses : (b : List ℕ) (room : ℕ) (r : Refusal) → refusal_figures r ≡ checked b → refusal_figures r ≡ unfold_checked b room
unfolding unfold_checked
table_refuses b room r e = stop (Err r) r (checked b) _ refl e

-- it is accepted, and then 8 and 7 are judged
pub drawn_answer : (b : List ℕ) (room p : ℕ) (y : Figures) → answer 0 p ≡ checked b → y ≡ drawn_checked (gates_needed b) (length (unfolded_bytes b)) room
    → y ≡ unfold_checked b room
unfolding unfold_checked
drawn_answer b room p y e h = go_on (checked b) _ y p e h

module _ (b result : List ℕ) where
  -- a refusal leaves the result as it was
  pub refused : (x : Verdict) (r : Refusal) → IsErrAnd x (λ y. y ≡ r) → refusal_figures r ≡ unfold_checked b (length result) → Outcome b result (figures x) result
  unfolding unfold_result
  refused x r h e = record { figures_are = told x r _ h e; result_left = kept _ r (unfolded_bytes b) result e }

  -- an acceptance leaves the circuit's bytes, and the rest as it was
  pub unfolded : (p : ℕ) (after : List ℕ) → answer 0 p ≡ unfold_checked b (length result) → after ≡ unfolded_bytes b ++ drop p result
      → Outcome b result (answer 0 p) after
  unfolding unfold_result
  unfolded p after e h = record { figures_are = e; result_left = left _ p (unfolded_bytes b) result after e h }
