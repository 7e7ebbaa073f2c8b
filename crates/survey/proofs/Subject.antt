-- What is explored of a circuit whose signals are built: its response, by the diagrams of its outputs.
use mathlib.Core.Path.{◌≡◌, sym, ap, ap₂, ◌∙◌, subst}
use mathlib.Core.List.{List}
use Prim.Native.Nat.{ℕ, suc, ◌+◌, ◌*◌, ◌-◌, ◌^◌, ◌≤◌, ◌<◌}
use native.Mathlib.Omega.{arith}
use lib.ListN.{length, get_or}
use Rattle.sizes.specs.Sizes.{inputs, outputs, frames}
use Rattle.layered.proofs.Rows.{pow-mul}
use Rattle.circuit.specs.Limits.{most_signals}
use Rattle.circuit.specs.Circuit.{gates, all_inputs, all_outputs, gate_of_output, gate_signal, output_signal}
use Rattle.circuit.specs.WellFormed.{WellFormed, Accepted}
use Rattle.circuit.specs.Theorems.{response}
use Rattle.circuit.specs.declared.Head.{Head}
use Rattle.diagrams.specs.Diagrams.{value, Reduced, Denotes}
use Rattle.diagrams.specs.Frames.{Responds}
use Rattle.diagrams.specs.Theorems.{Holds}
use Rattle.diagrams.specs.Making.{no_id}
use Rattle.diagrams.specs.Building.{Built}
use Rattle.functions.specs.Functions.{signal_on, output_on}
use Rattle.functions.specs.Theorems.{OutputsRespond}
use Rattle.functions.proofs.Outputs.{outputs_respond}
use Rattle.nodes.specs.declared.Node.{Node}
use Rattle.records.specs.Records.{nodes_in}
use Rattle.descend.specs.Descend.{Standing}
use Rattle.descend.proofs.Laws.{standing_of}
use Rattle.explore.specs.Explore.{column_count, Laid, Given, Startable}
use Rattle.explore.specs.declared.Layout.{Layout}
use Rattle.survey.specs.Survey.{LayoutOf, subject_of}

module _ (b : List ℕ) (h : Head) (W : WellFormed b h) (l : Layout) (L : LayoutOf h l) where
  pub bits : l.bits ≡ inputs b
  bits = L.bits_is ∙ W.head_is.inputs_is

  pub frames_are : l.frames ≡ frames b
  frames_are = L.frames_is ∙ W.head_is.frames_is

  pub outputs_are : l.outputs ≡ outputs b
  outputs_are = L.outputs_is ∙ W.head_is.outputs_is

  all-inputs : l.bits * l.frames ≡ all_inputs b
  unfolding all_inputs
  all-inputs = ap₂ ◌*◌ bits frames_are

  all-outputs : l.outputs * l.frames ≡ all_outputs b
  unfolding all_outputs
  all-outputs = ap₂ ◌*◌ outputs_are frames_are

  roots_are : l.roots ≡ 1 + all_inputs b + (gates b - all_outputs b)
  roots_are = L.roots_is ∙ ap₂ ◌+◌ W.head_is.base_is (ap₂ ◌-◌ W.head_is.gates_is W.head_is.total_is)

  pub laid : Laid l
  laid = record {
    fan_is = L.fan_is ∙ ap (λ n. 2 ^ n) (sym L.bits_is);
    half_is = L.half_is ∙ ap₂ (λ n T. 2 ^ (n * T)) (sym L.bits_is) (sym L.frames_is) ∙ pow-mul 2 l.bits l.frames ∙ ap (λ k. k ^ l.frames) (sym (L.fan_is ∙ ap (λ n. 2 ^ n) (sym L.bits_is)));
    apart = omega (arith, roots_are, all-outputs, L.columns_is, W.headed.outputs_to, W.headed.gates_to, W.headed.inputs_to);
    inputs_from = omega (arith, bits, W.headed.sizes.inputs_from);
    outputs_from = omega (arith, outputs_are, W.headed.sizes.outputs_from);
    frames_from = omega (arith, frames_are, W.headed.sizes.frames_from);
    bits_to = omega (arith, all-inputs, W.headed.inputs_to);
    outputs_to = omega (arith, outputs_are, W.headed.sizes.outputs_to);
    near = omega (arith, L.columns_is);
  }

  module _ (A : Accepted b) (R : ℕ) (ns : List Node) (ws : List ℕ) (B : Built (all_inputs b) (all_inputs b + gates b) R (signal_on b) (nodes_in ns) ws) where
    -- the ids of the outputs
    holds : Holds (all_inputs b) (all_outputs b) (output_on b) (nodes_in ns) (λ o. get_or ws (output_signal b o) 0)
    unfolding Holds Denotes output_on output_signal gate_signal
    holds o k =
        let s : ℕ = all_inputs b + gate_of_output b o in
        let in_all : s < all_inputs b + gates b = omega (arith, W.headed.outputs_to) in
        let q : suc s ≡ 1 + all_inputs b + gate_of_output b o = omega arith in
        let H = B.holds s in_all in
        (subst (λ i. 0 < (nodes_in ns).level (get_or ws i 0)) q H.0, λ vs d. subst (λ i. value (nodes_in ns) 1 vs (get_or ws i 0) ≡ signal_on b s vs) q (H.1 vs d))

    pub given : Given l (subject_of b ns ws)
    unfolding OutputsRespond
    given = record {
      reduced = subst (λ N. Reduced N (nodes_in ns)) (sym all-inputs) B.table.reduced;
      holds = subst (λ N. Holds N (l.outputs * l.frames) (output_on b) (nodes_in ns) (λ o. get_or ws (output_signal b o) 0)) (sym all-inputs) (subst (λ M. Holds (all_inputs b) M (output_on b) (nodes_in ns) (λ o. get_or ws (output_signal b o) 0)) (sym all-outputs) holds);
      responds = subst (λ n. Responds n l.outputs l.frames (response b) (output_on b)) (sym bits) (subst (λ m. Responds (inputs b) m l.frames (response b) (output_on b)) (sym outputs_are) (subst (λ T. Responds (inputs b) (outputs b) T (response b) (output_on b)) (sym frames_are) (outputs_respond b A)));
    }

    pub startable : (s : List ℕ) → 2 * l.half ≤ length s → most_signals + column_count ≤ length ws → ((j : ℕ) → j < 2 * l.half → get_or s j 0 ≡ 0) → Startable l (subject_of b ns ws) s ws
    unfolding output_signal gate_signal
    startable s room space clean = record {
      roomy = record {
        given = given;
        laid = laid;
        room = room;
        columns_room = omega (arith, L.columns_is);
        rooted = λ o k. let q : l.roots + o ≡ 1 + all_inputs b + (gates b - all_outputs b + o) = omega (arith, roots_are) in ap (λ i. get_or ws i 0) q;
      };
      clean = clean;
    }

    pub standing : R ≤ length ns → R + 2 < no_id → Standing ns (l.bits * l.frames)
    standing within room = standing_of (all_inputs b) R (l.bits * l.frames) ns (record { table = B.table; within = within; room = room }) (omega (arith, all-inputs)) W.headed.inputs_to
