-- Where the numbers of a table's states stand in the result: behind T and the counts, two parallel arrays of 32-bit words.
use Rattle.std.specs.Prelude.{ℕ, suc, ◌+◌, ◌*◌, List}
use Rattle.sizes.specs.Sizes.{frames}
use Rattle.table.specs.Table.{states_below}

-- the length of the head: T and the counts of layers 0 to T
unfoldable pub reach_head : List ℕ → ℕ
reach_head b = 4 + 2 * frames b

-- how many states all layers have
unfoldable pub all_states : List ℕ → ℕ
all_states b = states_below b (suc (frames b))

-- byte offset of the number of histories of state s of layer t
unfoldable pub histories_at : List ℕ → (t s : ℕ) → ℕ
unfolding reach_head
histories_at b t s = reach_head b + 4 * (states_below b t + s)

-- how far behind it the smallest history stands
unfoldable pub gap : List ℕ → ℕ
unfolding all_states
gap b = 4 * all_states b
