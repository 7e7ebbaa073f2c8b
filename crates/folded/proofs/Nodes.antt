-- What 18 means, that it plays no part where there are enough records, and that more records change no acceptance.
use mathlib.Core.Path.{◌≡◌, refl, sym, ap, ◌∙◌}
use mathlib.Core.Bool.{Bool, true, false, cond}
use mathlib.Core.List.{List}
use Prim.Native.Nat.{ℕ, ◌+◌, ◌≤◌, ◌<◌}
use native.Mathlib.Omega.{arith}
use lib.Dec.{eqb}
use lib.ListN.{length}
use Rattle.verdict.specs.Judgements.{answer, and_then, result_after}
use Rattle.verdict.specs.declared.Figures.{Figures}
use Rattle.verdict.proofs.Laws.{both_accept}
use Rattle.circuit.specs.Circuit.{gates, all_inputs}
use Rattle.diagrams.proofs.Building.{nodes_grow}
use Rattle.functions.specs.Functions.{signal_on, nodes_to}
use Rattle.folded.specs.Folded.{folded_bytes, scratch_checked, nodes_checked, ask_checked, room_checked, fold_checked, fold_result}
use Rattle.folded.specs.Theorems.{EnoughNodes, MoreNodes, TooManyNodes}
use Rattle.folded.proofs.Counting.{nodes_tell, nodes_at_lem, nodes_few, nodes_enough}
use Rattle.folded.proofs.Asked.{scratch_number, scratch_passed}

-- 18 is not what the circuit's checks or 6 answer
under_eighteen : (b : List ℕ) (room nodes g : ℕ) → ask_checked b room nodes ≡ answer 18 g → (scratch_checked b room ≡ answer 0 0) × (nodes_checked b nodes ≡ answer 18 g)
unfolding ask_checked
under_eighteen b room nodes g e = go (eqb (scratch_checked b room).number 0) refl e
  where
    go : (t : Bool) → eqb (scratch_checked b room).number 0 ≡ t → cond t (nodes_checked b nodes) (scratch_checked b room) ≡ answer 18 g → (scratch_checked b room ≡ answer 0 0) × (nodes_checked b nodes ≡ answer 18 g)
    go true q a = (scratch_passed b room q, a)
    go false q a = absurd (omega (arith, scratch_number b room, ap (λ (f : Figures). f.number) a))

-- ---- the theorems

pub too_many_nodes : TooManyNodes
unfolding TooManyNodes ask_checked
too_many_nodes b room nodes g = (there, back)
  where
    there : ask_checked b room nodes ≡ answer 18 g → (scratch_checked b room ≡ answer 0 0) × (g ≤ gates b) × (nodes < nodes_to b g) × ((k : ℕ) → k < g → nodes_to b k ≤ nodes)
    there e =
        let a = under_eighteen b room nodes g e in
        let t = nodes_tell b nodes g a.1 in
        (a.0, t.0, t.1, t.2)

    back : (scratch_checked b room ≡ answer 0 0) × (g ≤ gates b) × (nodes < nodes_to b g) × ((k : ℕ) → k < g → nodes_to b k ≤ nodes) → ask_checked b room nodes ≡ answer 18 g
    back h = rw h.0 (nodes_at_lem b nodes g h.1 h.2 h.3)

-- what the checks and 6 answer, with nothing to judge behind them
nothing_behind : (b : List ℕ) (room : ℕ) → and_then (scratch_checked b room) (answer 0 0) ≡ scratch_checked b room
nothing_behind b room = go (eqb (scratch_checked b room).number 0) refl
  where
    go : (t : Bool) → eqb (scratch_checked b room).number 0 ≡ t → cond t (answer 0 0) (scratch_checked b room) ≡ scratch_checked b room
    go true q = sym (scratch_passed b room q)
    go false q = refl

pub enough_nodes : EnoughNodes
unfolding EnoughNodes fold_checked ask_checked fold_result nodes_to
enough_nodes b before room nodes h =
    let few : nodes_checked b nodes ≡ answer 0 0 = nodes_enough b nodes (λ g l. omega (arith, nodes_grow (all_inputs b) (all_inputs b + g) (all_inputs b + gates b) (signal_on b) (omega arith))) in
    let asked : ask_checked b room nodes ≡ scratch_checked b room = ap (and_then (scratch_checked b room)) few ∙ nothing_behind b room in
    let folds : fold_checked b room nodes (length before) ≡ and_then (scratch_checked b room) (room_checked b (length before)) = ap (λ f. and_then f (room_checked b (length before))) asked in
    (asked, folds, ap (λ f. result_after f (folded_bytes b) before) folds)

pub more_nodes : MoreNodes
unfolding MoreNodes fold_checked ask_checked fold_result
more_nodes b before room nodes p more e h =
    let (q, a, c) = both_accept (ask_checked b room nodes) (room_checked b (length before)) p e in
    let (s, u, v) = both_accept (scratch_checked b room) (nodes_checked b nodes) q a in
    let same : ask_checked b room more ≡ ask_checked b room nodes = ap (and_then (scratch_checked b room)) (nodes_enough b more (λ g l. omega (arith, nodes_few b nodes q v g l)) ∙ sym (nodes_enough b nodes (λ g l. nodes_few b nodes q v g l))) in
    let figures : fold_checked b room more (length before) ≡ fold_checked b room nodes (length before) = ap (λ f. and_then f (room_checked b (length before))) same in
    (figures ∙ e, ap (λ f. result_after f (folded_bytes b) before) figures)
