-- The gates of outputs, as the code finds them. Assumes nothing.
use mathlib.Core.Path.{◌≡◌, sym, ap, ap₂, ◌∙◌}
use mathlib.Core.Bool.{Bool}
use mathlib.Core.List.{List, [], ◌++◌}
use Prim.Native.Nat.{ℕ, ◌+◌, ◌*◌, ◌≤◌}
use native.Mathlib.Nat.{mul-suc}
use native.Mathlib.Numerals.{add-one}
use native.Mathlib.Omega.{arith}
use lib.ListN.{length, get_or}
use Rattle.sizes.specs.Sizes.{outputs}
use Rattle.circuit.specs.Lists.{listed, bit}
use Rattle.circuit.specs.declared.Gate.{Gate}
use Rattle.circuit.proofs.Lists.{listed_length, listed_cong, listed_add}
use Rattle.table.specs.Table.{connected}
use Rattle.circuit.specs.Circuit.{output_gate}
use Rattle.unfolded.specs.Unfolded.{is_connected}
use Rattle.unfolded.proofs.Drawings.{connected-at}
use Rattle.chains.specs.Chains.{gates_stored}
use Rattle.chains.proofs.Stored.{gates_append}

-- ---- one gate, by whether its output is connected

abbrev pub gate_by : (t : Bool) (literal : ℕ) → Gate
gate_by t literal = record { left = (output_gate t literal).0; right = (output_gate t literal).1 }

-- its two literals
pub gate_pair : (t : Bool) (literal : ℕ) (r : Gate) → r ≡ gate_by t literal → ◌≡◌ {A = ℕ × ℕ} (r.left, r.right) (output_gate t literal)
gate_pair t literal r e = ap (λ (r : Gate). (r.left, r.right)) e

-- ---- the outputs of a frame, behind those before it

-- output q of all, and output j of a frame
abbrev pub gate_of : (b literals : List ℕ) → ℕ → ℕ × ℕ
gate_of b literals q = output_gate (is_connected b q) (get_or literals q 0)

abbrev pub gate_in : (connected from : ℕ) (literals : List ℕ) → ℕ → ℕ × ℕ
gate_in connected from literals j = output_gate (bit connected j) (get_or literals (from + j) 0)

module _ (b literals : List ℕ) (t : ℕ) where
  frame_more : listed [] (gate_of b literals) (outputs b * (t + 1))
      ≡ listed [] (gate_of b literals) (outputs b * t) ++ listed [] (gate_in (connected b t) (outputs b * t) literals) (outputs b)
  frame_more =
      let m : ℕ = outputs b in
      ap (λ k. listed [] (gate_of b literals) k) (ap (λ k. m * k) (add-one t) ∙ mul-suc m t)
      ∙ listed_add (gate_of b literals) (m * t) m
      ∙ ap (λ l. listed [] (gate_of b literals) (m * t) ++ l)
      (listed_cong _ _ m (λ j h. ap (λ x. output_gate x (get_or literals (m * t + j) 0)) (connected-at b t j h)))

  -- stored behind those of the frames before
  pub frame_stored : (G k m c : ℕ) (v w w' : List ℕ) → m ≡ outputs b → c ≡ connected b t → w ≡ gates_stored G k v (listed [] (gate_of b literals) (outputs b * t))
      → w' ≡ gates_stored G (k + m * t) w (listed [] (gate_in c (m * t) literals) m) → k + outputs b * t + outputs b ≤ G → 8 + 4 * G ≤ length v
      → w' ≡ gates_stored G k v (listed [] (gate_of b literals) (outputs b * (t + 1)))
  frame_stored G k m c v w w' em ec ew e h room =
      let gs : List (ℕ × ℕ) = listed [] (gate_of b literals) (outputs b * t) in
      let hs : List (ℕ × ℕ) = listed [] (gate_in (connected b t) (outputs b * t) literals) (outputs b) in
      e ∙ ap₂ (λ m c. gates_stored G (k + m * t) w (listed [] (gate_in c (m * t) literals) m)) em ec
      ∙ ap (λ w. gates_stored G (k + outputs b * t) w hs) ew
      ∙ gates_append G k v gs hs (k + outputs b * t) (omega (arith, listed_length (gate_of b literals) (outputs b * t)))
      (omega (arith, listed_length (gate_in (connected b t) (outputs b * t) literals) (outputs b))) room
      ∙ ap (gates_stored G k v) (sym frame_more)
