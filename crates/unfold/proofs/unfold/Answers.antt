-- `unfold::unfold` meets its contract: each return is an outcome of the definition, and the theorems hold of what an accepted one wrote.
-- Assumes nothing.
use mathlib.Core.Path.{◌≡◌, sym, ap, ap₂, ◌∙◌}
use mathlib.Core.List.{List, ◌++◌}
use Prim.Native.Nat.{ℕ, ◌+◌, ◌*◌}
use native.Mathlib.Omega.{arith}
use lib.ListN.{length, drop}
use Rattle.verdict.specs.declared.Figures.{Figures}
use Rattle.circuit.specs.Limits.{circuit_head}
use Rattle.table.specs.Sound.{Sound}
use Rattle.table.proofs.Accepted.{sound}
use Rattle.table.proofs.Offsets.{arrays_stand}
use Rattle.unfolded.specs.Unfolded.{unfolded_bytes, drawn_checked, unfold_checked}
use Rattle.unfolded.proofs.Outcomes.{accepted, table_refuses, drawn_answer, refused, unfolded}
use Rattle.unfold.proofs.Circuits.{bytes_needed, bytes_stored, promises}
use Rattle.unfold.proofs.unfold.Goals as goal
use Rattle.unfold.proofs.unfold.Goals.{In_ok-check, After-check_drawn}

-- an accepted table is sound
known : (c : In_ok-check) → Sound c.args.table.now
known c = sound c.args.table.now c.in_ok-check.field-0 (sym c.in_ok-check.ensures.verdict)

bytes_are : (d : After-check_drawn) → circuit_head + 4 * d.gates_needed-gates.result ≡ length (unfolded_bytes d.args.table.now)
bytes_are d = ap (λ (n : ℕ). circuit_head + 4 * n) d.gates_needed-gates.ensures.0 ∙ sym (bytes_needed d.args.table.now)

-- the verdict on the gates and the room is that on all
drawn-is : (d : After-check_drawn) (y : Figures) → y ≡ drawn_checked d.gates_needed-gates.result (circuit_head + 4 * d.gates_needed-gates.result) (length d.args.res.now)
    → y ≡ unfold_checked d.args.table.now (length d.args.res.now)
drawn-is d y e =
    drawn_answer d.args.table.now (length d.args.res.now) d.in_ok-check.field-0 y d.in_ok-check.ensures.verdict
    (e ∙ ap₂ (λ (n m : ℕ). drawn_checked n m (length d.args.res.now)) d.gates_needed-gates.ensures.0 (bytes_are d))

-- ---- the answers

pub returns-in_err-check : goal.returns-in_err-check
returns-in_err-check c =
    let p = promises c.args.table.now c.args.res.now _ _ (refused c.args.table.now c.args.res.now _ _ c.from_residual.ensures.1 (table_refuses c.args.table.now _ _ c.in_err-check.ensures.verdict)) in
    record { verdict = p.0; res = p.1.0; promised = p.1.1 }

pub read-layout-requires : goal.read-layout-requires
read-layout-requires c = (known (goal.at.read-layout-requires c).In_ok-check).headed

pub read-sizes-requires : goal.read-sizes-requires
read-sizes-requires c = omega (arith, (known (goal.at.read-sizes-requires c).In_ok-check).headed.whole, arrays_stand c.args.table.now)

pub gates_needed-gates-requires : goal.gates_needed-gates-requires
gates_needed-gates-requires c = record { sound = known (goal.at.gates_needed-gates-requires c).In_ok-check; layout_value = (c.read-layout.ensures, c.read-sizes.ensures) }

pub returns-in_err-bytes : goal.returns-in_err-bytes
returns-in_err-bytes c =
    let d = (goal.at.returns-in_err-bytes c).After-check_drawn in
    let p = promises c.args.table.now c.args.res.now _ _ (refused c.args.table.now c.args.res.now _ _ c.from_residual-in_err-bytes.ensures.1 (drawn-is d _ c.in_err-bytes.ensures)) in
    record { verdict = p.0; res = p.1.0; promised = p.1.1 }

pub write_circuit-requires : goal.write_circuit-requires
write_circuit-requires c =
    let d = (goal.at.write_circuit-requires c).After-check_drawn in
    let f = accepted c.args.table.now (length c.args.res.now) c.in_ok-bytes.bytes (sym (drawn-is d _ c.in_ok-bytes.ensures)) in record {
      sound = known (goal.at.write_circuit-requires c).In_ok-check;
      layout_value = (c.read-layout.ensures, c.read-sizes.ensures, c.gates_needed-gates.ensures.0);
      gates_le_most_gates = (omega (arith, c.gates_needed-gates.ensures.0, f.gates_to), omega (arith, bytes_are d, f.room_enough));
    }

pub returns : goal.returns
returns c =
    let d = (goal.at.returns c).After-check_drawn in
    let b : List ℕ = c.args.table.now in
    let r : List ℕ = c.args.res.now in
    let e = drawn-is d _ c.in_ok-bytes.ensures in
    let f = accepted b (length r) c.in_ok-bytes.bytes (sym e) in
    let p = promises b r _ _ (unfolded b r c.in_ok-bytes.bytes _ e (c.write_circuit.ensures ∙ bytes_stored b r ∙ ap (λ (k : ℕ). unfolded_bytes b ++ drop k r) (sym f.place_is))) in
    record { verdict = p.0; res = p.1.0; promised = p.1.1 }
