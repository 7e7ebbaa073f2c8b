-- A plain network rearranged over frames (document 02, Point 11): c is a network, n, m and T are the sizes that are given, `places` has the place of each
-- of its inputs, 0 to n·T - 1, and `shown` that of each of its outputs, 0 to m·T - 1, frame by frame.
use Rattle.std.specs.Prelude.{ℕ, ◌+◌, ◌*◌, ◌-◌, ◌/◌, ◌%◌, List, [], ◌++◌, Bool, not, ◌&&◌, cond, get_or, ltb, eqb}
use Rattle.words.specs.Words.{word_bytes}
use Rattle.layered.specs.Search.{least}
use Rattle.circuit.specs.Lists.{listed}
use Rattle.circuit.specs.Circuit.{gates, lefts_at, rights_at, all_inputs, all_outputs, gate_of_output, unconnected, operand, circuit_words, output_gate}

-- as which signal a network's signal s stands, where it has `own` inputs and there are `all` places for them: the constant as itself, an input by its
-- place, a gate behind all places
unfoldable pub standing : (own : ℕ) (places : List ℕ) (all s : ℕ) → ℕ
standing own places all s = cond (ltb own s) (all + (s - own)) (cond (eqb s 0) 0 (1 + get_or places (s - 1) 0))

-- a literal's
unfoldable pub renamed : (own : ℕ) (places : List ℕ) (all literal : ℕ) → ℕ
renamed own places all literal = 2 * standing own places all (literal / 2) + literal % 2

-- gate g of the network, so renamed; an unconnected output among the gates gives 0
unfoldable pub renamed_gate : (c places : List ℕ) (all g : ℕ) → ℕ × ℕ
renamed_gate c places all g = (renamed (all_inputs c) places all (operand c (lefts_at c) g), renamed (all_inputs c) places all (operand c (rights_at c) g))

-- which of `count` outputs stands at place q: the first that names it; `count` where none does
unfoldable pub item_at : (count : ℕ) (shown : List ℕ) (q : ℕ) → ℕ
item_at count shown q = least count (λ k. eqb (get_or shown k 0) q)

-- the output at place q is connected: one of the network stands there, and is connected in it
unfoldable pub connects_at : (c shown : List ℕ) (q : ℕ) → Bool
connects_at c shown q = ltb (item_at (all_outputs c) shown q) (all_outputs c) && not (unconnected c (gate_of_output c (item_at (all_outputs c) shown q)))

-- the literal of the gate that is shown there
unfoldable pub shown_literal : (c shown : List ℕ) (all q : ℕ) → ℕ
shown_literal c shown all q = 2 * (1 + all + gate_of_output c (item_at (all_outputs c) shown q))

-- the network's gates, and behind them a gate for each place of an output
unfoldable pub rearranged_gates : (c : List ℕ) (n m T : ℕ) (places shown : List ℕ) → List (ℕ × ℕ)
rearranged_gates c n m T places shown =
    listed [] (renamed_gate c places (n * T)) (gates c)
    ++ listed [] (λ q. output_gate (connects_at c shown q) (shown_literal c shown (n * T) q)) (m * T)

-- the network rearranged, as a circuit; it may have more gates than a circuit that is given
unfoldable pub rearranged : (c : List ℕ) (n m T : ℕ) (places shown : List ℕ) → List ℕ
rearranged c n m T places shown = word_bytes (circuit_words n m T (rearranged_gates c n m T places shown))
