-- The words that tell two states of a layer apart (document 02, Point 12), known as a distinguishing sequence: the shortest, and of the shortest
-- the first in word order. The machine M is fed words below K; r and s are states of its layer t.
use Rattle.std.specs.Prelude.{ℕ, suc, ◌-◌, ◌^◌, Bool, not, cond, Option, Some, None, List, [], ltb, eqb, length, get_or}
use Rattle.verdict.specs.Judgements.{answer, refuse, and_then, result_after}
use Rattle.verdict.specs.declared.Figures.{Figures}
use Rattle.sizes.specs.Sizes.{inputs, frames}
use Rattle.layered.specs.Search.{least}
use Rattle.layered.specs.Histories.{history_words}
use Rattle.layered.specs.Machines.{Machine, feed}
use Rattle.table.specs.Table.{machine, checked}
use Rattle.positions.specs.Positions.{place_checked}

-- the output at the last of the words c, fed from state s of layer t; 0 where there is no word
unfoldable pub last_output : Machine → (t s : ℕ) → List ℕ → ℕ
last_output M t s c = get_or (feed M t s c) (length c - 1) 0

-- the words c separate the states r and s: the outputs at the last of them differ
unfoldable pub separates : Machine → (t r s : ℕ) → List ℕ → Bool
unfolding last_output
separates M t r s c = not (eqb (last_output M t r c) (last_output M t s c))

-- the first list of k words that separates them, by its number, which has its first word highest; K ^ k, as many as there are lists, where none does
unfoldable pub first_list : (K : ℕ) → Machine → (t r s k : ℕ) → ℕ
unfolding separates
first_list K M t r s k = least (K ^ k) (λ h. separates M t r s (history_words K k h))

-- a number, if it is below n: none where it is n, as with the first of n that a search did not find
abbrev pub below : (n x : ℕ) → Option ℕ
below n x = cond (ltb x n) (Some x) None

-- whether some list of k words separates them
unfoldable pub separable : (K : ℕ) → Machine → (t r s k : ℕ) → Bool
unfolding first_list
separable K M t r s k = ltb (first_list K M t r s k) (K ^ k)

-- one less than the fewest words, of 1 to `left`, of which some list separates them; `left` where none does
unfoldable pub fewest : (K : ℕ) → Machine → (t r s left : ℕ) → ℕ
unfolding separable
fewest K M t r s left = least left (λ i. separable K M t r s (suc i))

-- the first list of so many words; no words where there is none
unfoldable pub shortest : (K : ℕ) → Machine → (t r s left : ℕ) → List ℕ
unfolding fewest first_list
shortest K M t r s left =
    let k = suc (fewest K M t r s left) in
    cond (ltb (fewest K M t r s left) left) (history_words K k (first_list K M t r s k)) []

-- that of two states of a layer of a table: T less the layer are the words that can still be fed
unfoldable pub distinguishing : List ℕ → (layer first second : ℕ) → List ℕ
unfolding shortest
distinguishing b layer first second = shortest (2 ^ inputs b) (machine b) layer first second (frames b - layer)

-- 11: the table has no such layer, or the layer no such state
unfoldable pub pair_checked : List ℕ → (layer first second : ℕ) → Figures
pair_checked b layer first second = and_then (place_checked b layer first) (place_checked b layer second)

-- 7: room for fewer numbers than the words that can still be fed, whether or not some are found; else accepted with the number of words found
unfoldable pub room_checked : List ℕ → (layer first second room : ℕ) → Figures
unfolding distinguishing
room_checked b layer first second room =
    refuse (ltb room (frames b - layer)) 7 (frames b - layer) (answer 0 (length (distinguishing b layer first second)))

-- the table's checks, 11, 7
unfoldable pub distinguish_checked : List ℕ → (layer first second room : ℕ) → Figures
unfolding pair_checked room_checked
distinguish_checked b layer first second room = and_then (checked b) (and_then (pair_checked b layer first second) (room_checked b layer first second room))

-- what the result holds after the call: the words at its front, and then what it held
unfoldable pub distinguish_result : List ℕ → (layer first second : ℕ) (before : List ℕ) → List ℕ
unfolding distinguish_checked distinguishing
distinguish_result b layer first second before =
    result_after (distinguish_checked b layer first second (length before)) (distinguishing b layer first second) before
