-- Laws of the count of gates, as the code takes it. Assumes nothing.
use mathlib.Core.Path.{◌≡◌, ap, ◌∙◌}
use mathlib.Core.Bool.{Bool, true, false, cond}
use mathlib.Core.List.{List}
use Prim.Native.Nat.{ℕ, ◌+◌, ◌*◌, ◌/◌, ◌^◌, ◌≤◌, ◌<◌}
use native.Mathlib.Omega.{arith}
use lib.ListN.{length}
use Rattle.words.specs.Words.{word_at}
use Rattle.sizes.specs.Sizes.{inputs, outputs, frames}
use Rattle.circuit.specs.Lists.{bit}
use Rattle.layered.specs.Search.{tally, total}
use Rattle.layered.proofs.Lists.{total_cong}
use Rattle.table.specs.Table.{states, entry_count, outputs_at, layer_part}
use Rattle.unfolded.specs.Counted.{ones}
use Rattle.table.proofs.Parts.{part_length, part_entry}

-- all or none
pub cond_most : (t : Bool) {x k : ℕ} → x ≤ k → cond t x 0 ≤ k
cond_most true h = h
cond_most false h = omega arith

-- the bits 1 of a layer's outputs are those of its part
pub ones_are : (b : List ℕ) (t : ℕ) → outputs_at b + 2 * entry_count b ≤ length b → t < frames b
    → total (length (layer_part b (outputs_at b) t) / 2) (λ e. tally (outputs b) (bit (word_at (layer_part b (outputs_at b) t) (2 * e)))) ≡ ones b t
unfolding ones
ones_are b t room h =
    let c : length (layer_part b (outputs_at b) t) / 2 ≡ states b t * 2 ^ inputs b = omega (arith, part_length b (outputs_at b) t room h) in
    ap (λ (n : ℕ). total n (λ e. tally (outputs b) (bit (word_at (layer_part b (outputs_at b) t) (2 * e))))) c
    ∙ total_cong (states b t * 2 ^ inputs b) _ _ (λ e l. ap (λ (x : ℕ). tally (outputs b) (bit x)) (part_entry b (outputs_at b) t e l))
