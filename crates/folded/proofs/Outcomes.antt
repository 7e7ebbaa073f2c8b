-- What acceptance tells, of a circuit and of folding, and the bytes that were written.
use mathlib.Core.Path.{◌≡◌, refl, sym, ap, ◌∙◌}
use mathlib.Core.List.{List}
use Prim.Native.Nat.{ℕ, ◌≤◌}
use lib.Dec.{ltb}
use lib.ListN.{length, take, drop}
use lib.Seq.{take_at}
use borrow.Author.Tests.{ltb-false}
use Rattle.sizes.specs.Limits.{most_inputs}
use Rattle.verdict.specs.Judgements.{answer, result_after}
use Rattle.verdict.specs.declared.Figures.{Figures}
use Rattle.verdict.proofs.Laws.{both_accept, passed}
use Rattle.sizes.specs.Sizes.{inputs, outputs, frames}
use Rattle.sizes.specs.Sized.{Sized}
use Rattle.circuit.specs.Circuit.{checked}
use Rattle.circuit.proofs.Accepted.{accepted as accepted_circuit}
use Rattle.folded.specs.Folded.{folded_bytes, scratch_needed, scratch_checked, nodes_checked, ask_checked, room_checked, fold_checked, fold_result}

-- ---- what acceptance tells

-- of a circuit
pub circuit_sized : (b : List ℕ) (p : ℕ) → checked b ≡ answer 0 p → Sized most_inputs (inputs b) (outputs b) (frames b)
circuit_sized b p e = (accepted_circuit b p e).form.sizes

-- of folding
pub record Accepted (b : List ℕ) (scratch_room node_room result_room p : ℕ) : Type 0 where
  pub circuit_place : ℕ
  pub circuit_accepted : checked b ≡ answer 0 circuit_place
  pub scratch_enough : scratch_needed b ≤ scratch_room
  pub room_enough : length (folded_bytes b) ≤ result_room
  pub place_is : p ≡ length (folded_bytes b)

pub accepted : (b : List ℕ) (scratch_room node_room result_room p : ℕ) → fold_checked b scratch_room node_room result_room ≡ answer 0 p → Accepted b scratch_room node_room result_room p
unfolding fold_checked ask_checked scratch_checked room_checked
accepted b s n r p e =
    let (q, a, c) = both_accept (ask_checked b s n) (room_checked b r) p e in
    let (o, d, f) = both_accept (scratch_checked b s) (nodes_checked b n) q a in
    let e₁ = both_accept (checked b) _ o d in
    let e₂ = passed (ltb s (scratch_needed b)) 6 _ _ o refl e₁.2 in
    let e₃ = passed (ltb r (length (folded_bytes b))) 7 _ _ p refl c in
    record {
      circuit_place = e₁.0;
      circuit_accepted = e₁.1;
      scratch_enough = ltb-false s _ e₂.0;
      room_enough = ltb-false r _ e₃.0;
      place_is = sym (ap (λ (f : Figures). f.place) e₃.1);
    }

-- the bytes that were written
pub written_bytes : (b before : List ℕ) (room nodes p : ℕ) → fold_checked b room nodes (length before) ≡ answer 0 p → take p (fold_result b room nodes before) ≡ folded_bytes b
unfolding fold_result
written_bytes b before room nodes p e =
    ap (λ f. take p (result_after f (folded_bytes b) before)) e ∙ take_at (folded_bytes b) (drop p before) p (sym (accepted b room nodes (length before) p e).place_is)
