-- 18 is of the network's own gates: `own_gates`.
use mathlib.Core.Path.{◌≡◌, refl, sym, ap, ◌∙◌}
use mathlib.Core.Bool.{Bool, true, false, not, cond}
use mathlib.Core.Logic.{◌⊎◌, inl, inr}
use mathlib.Core.List.{List}
use Prim.Native.Nat.{ℕ, ◌+◌, ◌*◌, ◌-◌, ◌≤◌, ◌<◌}
use native.Mathlib.Omega.{arith}
use lib.Dec.{ltb, eqb}
use lib.ListN.{length}
use borrow.Author.Tests.{ltb-true}
use Rattle.verdict.specs.Judgements.{answer, and_then, refuse_first}
use Rattle.verdict.proofs.Laws.{then-first, then_second, other_refuse, other_then, other_first}
use Rattle.sizes.specs.Limits.{most_inputs, most_bits}
use Rattle.sizes.specs.Sizes.{sizes_checked}
use Rattle.layered.proofs.Search.{below_or}
use Rattle.circuit.specs.Circuit.{gates, all_inputs, all_outputs, gate_of_output, network_checked, looks_ahead, look_ahead_checked}
use Rattle.circuit.proofs.Judged.{sizes_number, within_number}
use Rattle.diagrams.proofs.Repeated.{Repeats, nodes_repeated}
use Rattle.functions.specs.Functions.{signal_on, output_on, nodes_to}
use Rattle.source.specs.Rearranged.{rearranged, item_at}
use Rattle.source.specs.declared.Source.{Source}
use Rattle.source.proofs.Rearranged.{inputs_are, outputs_are, gates_are}
use Rattle.source.proofs.Signals.{gate_same, output_same}
use Rattle.folded.specs.Folded.{folded_bytes, scratch_needed, nodes_checked, room_checked}
use Rattle.folded.proofs.Counting.{nodes_tell}
use Rattle.spreading.specs.Spread.{is_outside, is_taken, lists_checked, schedule_checked, spread_lent, spread_checked}
use Rattle.spreading.specs.Theorems.{OwnGates}
use Rattle.spreading.proofs.Schedule.{spread_source, Scheduled}
use Rattle.spreading.proofs.Outcomes.{lent_tells}
use Rattle.spreading.proofs.Values.{picked, picked_length, picked_at}

-- ---- the gates behind the network's own

module _ (c : List ℕ) (n m T : ℕ) (ins outs : List ℕ) (S : Scheduled c n m T ins outs) where
  abbrev s : Source
  s = spread_source c n m T ins outs

  abbrev r : List ℕ
  r = rearranged c n m T ins outs

  abbrev item : ℕ → ℕ
  item q = item_at (all_outputs c) outs q

  -- the one for place q is an output of the network, or false
  shows : (q : ℕ) → q < m * T → (vs : List Bool) → length vs ≡ all_inputs r
      → signal_on r (all_inputs r + gates c + q) vs ≡ cond (ltb (item q) (all_outputs c)) (output_on c (item q) (picked (all_inputs c) ins vs)) false
  unfolding output_on
  shows q h vs l =
      let P = S.spreads in
      let e : all_inputs r + gates c + q ≡ all_inputs r + gate_of_output r q = omega (arith, gates_are c s P, outputs_are c s P) in
      ap (λ i. signal_on r i vs) e
      ∙ output_same c s P vs (picked (all_inputs c) ins vs) (l ∙ inputs_are c s P) (picked_length (all_inputs c) ins vs) (picked_at (all_inputs c) ins vs) q h

  -- so it repeats one of the network's gates, or is false
  repeats : (q : ℕ) → q < m * T → Repeats (all_inputs r) (signal_on r) (all_inputs r + gates c + q)
  unfolding Repeats output_on
  repeats q h = go (ltb (item q) (all_outputs c)) refl (shows q h)
    where
      go : (t : Bool) → ltb (item q) (all_outputs c) ≡ t
          → ((vs : List Bool) → length vs ≡ all_inputs r → signal_on r (all_inputs r + gates c + q) vs ≡ cond t (output_on c (item q) (picked (all_inputs c) ins vs)) false)
          → Repeats (all_inputs r) (signal_on r) (all_inputs r + gates c + q)
      go false e f = inl f
      go true e f =
          let P = S.spreads in
          let g : ℕ = gate_of_output c (item q) in
          let own : g < gates c = omega (arith, ltb-true (item q) (all_outputs c) e, P.network.headed.outputs_to) in
          inr (
            all_inputs r + g,
            omega arith,
            λ vs l.
                f vs l
                ∙ sym (gate_same c s P vs (picked (all_inputs c) ins vs) (l ∙ inputs_are c s P) (picked_length (all_inputs c) ins vs) (picked_at (all_inputs c) ins vs) g own)
                ∙ ap (λ k. signal_on r (k + g) vs) (sym (inputs_are c s P)),
          )

  -- and adds no nodes
  nodes_kept : (j : ℕ) → j ≤ m * T → nodes_to r (gates c + j) ≡ nodes_to r (gates c)
  unfolding nodes_to
  nodes_kept j h =
      let e : all_inputs r + (gates c + j) ≡ all_inputs r + gates c + j = omega arith in
      rw e (nodes_repeated (all_inputs r) (signal_on r) (all_inputs r + gates c) j (λ i l. repeats i (omega arith)))

  -- the first gate with too many nodes is the network's
  first_own : (nodes g : ℕ) → nodes_checked r nodes ≡ answer 18 g → g ≤ gates c
  first_own nodes g e = go (below_or (gates c) g)
    where
      go : (gates c < g) ⊎ (g ≤ gates c) → g ≤ gates c
      go (inr l) = l
      go (inl l) =
          let (most, over, few) = nodes_tell r nodes g e in
          let j : ℕ = g - gates c in
          let back : gates c + j ≡ g = omega arith in
          absurd (omega (arith, over, few (gates c) l, ap (nodes_to r) back, nodes_kept j (omega (arith, gates_are c s S.spreads))))

-- ---- no other judgement answers 18

module _ (c : List ℕ) (n m T : ℕ) (ins outs : List ℕ) where
  lists_other : ¬ ((lists_checked c n m T ins outs).number ≡ 18)
  unfolding lists_checked
  lists_other =
      other_refuse 18 (not (eqb (length ins) (all_inputs c))) 12 (length ins) _ (λ e. omega arith)
      (other_refuse 18 (not (eqb (length outs) (all_outputs c))) 12 (length outs) _ (λ e. omega arith)
      (other_then 18 (refuse_first (is_outside n m T ins outs) 19 (λ k. k) (answer 0 0) 0 (length ins + length outs)) _
      (other_first 18 (is_outside n m T ins outs) 19 _ (answer 0 0) 0 (length ins + length outs) (λ e. omega arith) (λ e. omega arith))
      (other_first 18 (is_taken ins outs) 20 _ (answer 0 0) 0 (length ins + length outs) (λ e. omega arith) (λ e. omega arith))))

  schedule_other : ¬ ((schedule_checked c n m T ins outs).number ≡ 18)
  unfolding schedule_checked network_checked
  schedule_other =
      other_then 18 (network_checked c) _ (λ e. omega (arith, within_number most_bits 1 c))
      (other_then 18 (sizes_checked most_inputs n m T) (lists_checked c n m T ins outs) (λ e. omega (arith, sizes_number most_inputs n m T)) lists_other)

  lent_other : (room : ℕ) → ¬ ((spread_lent c n m T ins outs room).number ≡ 18)
  unfolding spread_lent look_ahead_checked
  lent_other room =
      let r : List ℕ = rearranged c n m T ins outs in
      other_then 18 (schedule_checked c n m T ins outs) _ schedule_other
      (other_then 18 (look_ahead_checked r) _
      (other_first 18 (looks_ahead r) 4 _ (answer 0 0) 0 (all_outputs r) (λ e. omega arith) (λ e. omega arith))
      (other_refuse 18 (ltb room (scratch_needed r)) 6 (scratch_needed r) (answer 0 0) (λ e. omega arith) (λ e. omega arith)))

pub own_gates : OwnGates
unfolding OwnGates spread_checked room_checked
own_gates c n m T ins outs room nodes x g e =
    let b : List ℕ = rearranged c n m T ins outs in
    let (l, a) = then_second (spread_lent c n m T ins outs room) (and_then (nodes_checked b nodes) (room_checked b x)) 18 g (lent_other c n m T ins outs room) e in
    let size : ℕ = length (folded_bytes b) in
    first_own c n m T ins outs (lent_tells c n m T ins outs room _ l).0 nodes g
    (then-first (nodes_checked b nodes) (room_checked b x) 18 g (other_refuse 18 (ltb x size) 7 size (answer 0 size) (λ e. omega arith) (λ e. omega arith)) a)
