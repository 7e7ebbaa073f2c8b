-- What spreading a plain network over frames answers and leaves (document 02, Point 11). c is the network, n, m and T are the sizes that are given, and
-- ins and outs the lists of the places of its inputs and of its outputs.
use Rattle.std.specs.Prelude.{ℕ, ◌+◌, ◌*◌, ◌-◌, Bool, not, cond, List, ◌++◌, ltb, leb, eqb, length, get_or, replicate}
use Rattle.verdict.specs.Judgements.{answer, refuse, and_then, refuse_first, result_after}
use Rattle.verdict.specs.declared.Figures.{Figures}
use Rattle.sizes.specs.Limits.{most_inputs}
use Rattle.sizes.specs.Sizes.{sizes_checked}
use Rattle.layered.specs.Search.{every}
use Rattle.circuit.specs.Circuit.{all_inputs, all_outputs, network_checked, look_ahead_checked}
use Rattle.source.specs.Rearranged.{rearranged}
use Rattle.nodes.specs.declared.Node.{Node}
use Rattle.records.specs.Records.{none}
use Rattle.folded.specs.Folded.{folded_bytes, scratch_needed, nodes_checked, room_checked, cleared}

-- item k of both lists joined is outside its range: 0 to n·T - 1 for an input, 0 to m·T - 1 for an output
unfoldable pub is_outside : (n m T : ℕ) (ins outs : List ℕ) (k : ℕ) → Bool
is_outside n m T ins outs k = leb (cond (ltb k (length ins)) (n * T) (m * T)) (get_or (ins ++ outs) k 0)

-- item k of a list is the same as an earlier one
unfoldable pub is_repeated : (list : List ℕ) (k : ℕ) → Bool
is_repeated list k = not (every k (λ i. not (eqb (get_or list i 0) (get_or list k 0))))

-- item k of both lists joined is the same as an earlier one of its list
unfoldable pub is_taken : (ins outs : List ℕ) (k : ℕ) → Bool
is_taken ins outs k = cond (ltb k (length ins)) (is_repeated ins k) (is_repeated outs (k - length ins))

-- 12 for the inputs' list, 12 for the outputs', 19 over both, 20 over both
unfoldable pub lists_checked : (c : List ℕ) (n m T : ℕ) (ins outs : List ℕ) → Figures
lists_checked c n m T ins outs =
    refuse (not (eqb (length ins) (all_inputs c))) 12 (length ins)
    (refuse (not (eqb (length outs) (all_outputs c))) 12 (length outs)
    (and_then (refuse_first (is_outside n m T ins outs) 19 (λ k. k) (answer 0 0) 0 (length ins + length outs))
    (refuse_first (is_taken ins outs) 20 (λ k. k) (answer 0 0) 0 (length ins + length outs))))

-- what is judged before the network is rearranged: itself, the given sizes, the lists
unfoldable pub schedule_checked : (c : List ℕ) (n m T : ℕ) (ins outs : List ℕ) → Figures
schedule_checked c n m T ins outs = and_then (network_checked c) (and_then (sizes_checked most_inputs n m T) (lists_checked c n m T ins outs))

-- and before anything that is lent is used: 4 and 6, of the network rearranged
unfoldable pub spread_lent : (c : List ℕ) (n m T : ℕ) (ins outs : List ℕ) (scratch_room : ℕ) → Figures
spread_lent c n m T ins outs scratch_room =
    let r = rearranged c n m T ins outs in
    and_then (schedule_checked c n m T ins outs)
    (and_then (look_ahead_checked r)
    (refuse (ltb scratch_room (scratch_needed r)) 6 (scratch_needed r)
    (answer 0 0)))

-- what spreading answers: then 18 and 7, as for folding
unfoldable pub spread_checked : (c : List ℕ) (n m T : ℕ) (ins outs : List ℕ) (scratch_room node_room result_room : ℕ) → Figures
spread_checked c n m T ins outs scratch_room node_room result_room =
    let r = rearranged c n m T ins outs in
    and_then (spread_lent c n m T ins outs scratch_room) (and_then (nodes_checked r node_room) (room_checked r result_room))

-- what the result holds after it: the table of the network rearranged
unfoldable pub spread_result : (c : List ℕ) (n m T : ℕ) (ins outs : List ℕ) (scratch_room node_room : ℕ) (before : List ℕ) → List ℕ
spread_result c n m T ins outs scratch_room node_room before = result_after (spread_checked c n m T ins outs scratch_room node_room (length before)) (folded_bytes (rearranged c n m T ins outs)) before

-- what the scratch and the list of records hold: cleared where all before 18 passes, whatever is judged then; else as before
unfoldable pub spread_scratch : (c : List ℕ) (n m T : ℕ) (ins outs before : List ℕ) → List ℕ
spread_scratch c n m T ins outs before = cond (eqb (spread_lent c n m T ins outs (length before)).number 0) (cleared (rearranged c n m T ins outs) before) before

unfoldable pub spread_nodes : (c : List ℕ) (n m T : ℕ) (ins outs : List ℕ) (scratch_room : ℕ) (before : List Node) → List Node
spread_nodes c n m T ins outs scratch_room before = cond (eqb (spread_lent c n m T ins outs scratch_room).number 0) (replicate (length before) none) before
