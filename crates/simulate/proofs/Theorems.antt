-- Each sequence gets what it gets alone. Assumes nothing.
use mathlib.Core.Path.{◌≡◌, refl, sym, ap, ◌∙◌}
use mathlib.Core.List.{List}
use Prim.Native.Nat.{ℕ, ◌*◌, ◌≤◌, ◌<◌}
use native.Mathlib.Nat.{one-mul, zero-mul}
use native.Mathlib.Omega.{arith}
use lib.ListN.{length, take, drop}
use lib.Seq.{take_all}
use Rattle.verdict.specs.Judgements.{answer}
use Rattle.verdict.proofs.Laws.{both_accept, left}
use Rattle.sizes.specs.Sizes.{inputs, frames, sequence_checked}
use Rattle.sizes.specs.Sized.{Fed}
use Rattle.sizes.proofs.Laws.{sequence_passes}
use Rattle.circuit.specs.Circuit.{checked, output_words}
use Rattle.simulate.specs.Simulate.{sequence_at, all_output_words, sequences_checked, simulated, simulation_result}
use Rattle.simulate.specs.Theorems.{EachAlone}
use Rattle.simulate.proofs.Sequences.{fed_at, part_at, output_words_length}
use Rattle.simulate.proofs.Judged.{SequencesFed, all_fed, few_enough}

-- in the result of a call that accepts, part k has the outputs on sequence k
outputs_in : (b : List ℕ) (count : ℕ) (words before : List ℕ) (p : ℕ) → simulated b count words (length before) ≡ answer 0 p → (k : ℕ) → k < count
    → sequence_at (frames b) (simulation_result b count words before) k ≡ output_words b (sequence_at (frames b) words k)
unfolding simulation_result all_output_words
outputs_in b count words before p e k h =
    ap (λ l. sequence_at (frames b) l k) (sym (left (simulated b count words (length before)) p (all_output_words b count words) before _ (sym e) refl))
    ∙ part_at (frames b) (λ i. output_words b (sequence_at (frames b) words i)) (λ i. output_words_length b _) count (drop p before) k h

-- the only sequence of a list
only : (T : ℕ) (words : List ℕ) → length words ≡ T → sequence_at T words 0 ≡ words
unfolding sequence_at
only T words e = ap (λ i. take T (drop i words)) (zero-mul T) ∙ take_all T words (omega arith)

-- a call that accepts found nothing in the circuit and nothing in the sequences
both_parts : (b : List ℕ) (count : ℕ) (words : List ℕ) (room p : ℕ) → simulated b count words room ≡ answer 0 p
    → (q : ℕ) × (checked b ≡ answer 0 q) × (sequences_checked (inputs b) (frames b) count words room ≡ answer 0 p)
unfolding simulated
both_parts b count words room p e = both_accept (checked b) (sequences_checked (inputs b) (frames b) count words room) p e

-- one sequence is accepted
alone_accepted : (b own : List ℕ) (room q : ℕ) → checked b ≡ answer 0 q → Fed (inputs b) (frames b) own → frames b ≤ room → simulated b 1 own room ≡ answer 0 (frames b)
unfolding simulated
alone_accepted b own room q e F h =
    let one : sequence_checked (inputs b) (1 * frames b) own room ≡ answer 0 (frames b) = rw (one-mul (frames b)) (sequence_passes (inputs b) (frames b) own room F h) in
    rw e (sym (few_enough (inputs b) (frames b) 1 own room (answer 0 (frames b)) (omega arith) (sym one)))

pub each_alone : (b : List ℕ) → EachAlone b
unfolding EachAlone
each_alone b count words before p e k h before' room =
    let n = inputs b in
    let T = frames b in
    let c = both_parts b count words (length before) p e in
    let F : SequencesFed n T count words (length before) p = all_fed n T count words (length before) p c.2 in
    let own : List ℕ = sequence_at T words k in
    let fed : Fed n T own = fed_at n T count words F.all_words k h in
    let alone : simulated b 1 own (length before') ≡ answer 0 T = alone_accepted b own (length before') c.0 c.1 fed room in (
      alone,
      outputs_in b count words before p e k h,
      outputs_in b 1 own before' T alone 0 (omega arith) ∙ ap (output_words b) (only T own fed.as_many),
    )
