-- `unfold::write_circuit` meets its contract.
-- Assumes nothing.
use mathlib.Core.Path.{◌∙◌}
use mathlib.Core.List.{◌∷◌, []}
use Rattle.words.specs.Words.{stored}
use Rattle.sizes.specs.Sizes.{inputs, outputs, frames}
use Rattle.unfolded.specs.Unfolded.{drawn, gates_needed}
use Rattle.unfold.proofs.Circuits.{circuit_stored}
use Rattle.unfold.proofs.write_circuit.Goals as goal

pub returns : goal.returns
unfolding gates_needed
returns c =
    let b = (c.args.table.now) in
    circuit_stored (inputs b) (outputs b) (frames b) c.args.gates (drawn b) c.args.res.now (c.store_all.new.bytes) _
    (c.store_all.ensures ∙ (λ i. stored 2 c.args.res.now 0 ((c.requires.layout_value.1 i).inputs ∷ (c.requires.layout_value.1 i).outputs ∷ (c.requires.layout_value.1 i).frames ∷ c.args.gates ∷ []))) c.requires.layout_value.2 c.draw.ensures c.requires.gates_le_most_gates.1
