-- What is proved of the circuit that unfolding writes. b is a table; t are the bytes that unfolding it wrote. The table is the machine that
-- its bytes are, with start 0; the outputs of a circuit are what its simulation gives.
use Rattle.std.specs.Prelude.{ℕ, ◌^◌, ◌<◌, ◌≡◌, List, length, take}
use Rattle.verdict.specs.Judgements.{answer}
use Rattle.sizes.specs.Sizes.{inputs, outputs, frames}
use Rattle.layered.specs.States.{Words}
use Rattle.layered.specs.Machines.{feed}
use Rattle.circuit.specs.Circuit.{checked, connected_outputs, output_words}
use Rattle.table.specs.Table.{connected, machine}
use Rattle.folded.specs.Folded.{nodes_checked, fold_checked, fold_result}
use Rattle.unfolded.specs.Unfolded.{unfold_checked, unfold_result}

pub record Unfolding (b t : List ℕ) : Type 0 where
  -- the sizes are the table's
  pub same_inputs : inputs t ≡ inputs b
  pub same_outputs : outputs t ≡ outputs b
  pub same_frames : frames t ≡ frames b
  -- the same outputs are connected
  pub same_connected : (k : ℕ) → k < frames b → connected_outputs t k ≡ connected b k
  -- the bytes pass every check of a circuit
  pub legal : checked t ≡ answer 0 0
  -- on every sequence the circuit's outputs are what the table gives
  pub gives : (c : List ℕ) → Words (2 ^ inputs b) (frames b) c → output_words t c ≡ feed (machine b) 0 0 c
  -- where the table is what folding a circuit d wrote, folding the drawn circuit in the same room, with records enough for its own nodes, is accepted
  -- too, and writes the same bytes
  pub folds_back : (d before : List ℕ) (room nodes p : ℕ) → fold_checked d room nodes (length before) ≡ answer 0 p → b ≡ take p (fold_result d room nodes before)
      → (records : ℕ) → nodes_checked t records ≡ answer 0 0 → (fold_checked t room records (length before) ≡ answer 0 p) × (take p (fold_result t room records before) ≡ b)

-- whatever unfolding accepts
unfoldable pub Unfoldings : Type 0
Unfoldings = (b before : List ℕ) (p : ℕ) → unfold_checked b (length before) ≡ answer 0 p → Unfolding b (take p (unfold_result b before))
