-- The histories that lead to each state of a layered machine (document 02, Point 4): how many they are, and the smallest of them. The machine
-- is fed words below K.
use Rattle.std.specs.Prelude.{ℕ, suc, ◌^◌, Bool, cond, List, eqb}
use Rattle.layered.specs.Search.{least, tally, join, tabulate}
use Rattle.layered.specs.Histories.{history_words}
use Rattle.layered.specs.Machines.{Machine, reached}

-- the state that the history h of t words leads to, from the start
unfoldable pub leads_to : (K : ℕ) → Machine → (t h : ℕ) → ℕ
leads_to K M t h = reached M 0 M.start (history_words K t h)

-- whether it is s
unfoldable pub leads : (K : ℕ) → Machine → (t s h : ℕ) → Bool
unfolding leads_to
leads K M t s h = eqb (leads_to K M t h) s

-- the number of histories of t words that lead from the start to state s of layer t
unfoldable pub histories : (K : ℕ) → Machine → (t s : ℕ) → ℕ
unfolding leads
histories K M t s = tally (K ^ t) (leads K M t s)

-- the smallest number below n of which p holds; 0 where there is none
unfoldable pub smallest_of : (n : ℕ) → (ℕ → Bool) → ℕ
smallest_of n p = cond (eqb (tally n p) 0) 0 (least n p)

-- the smallest such history; an unreached state has 0
unfoldable pub smallest : (K : ℕ) → Machine → (t s : ℕ) → ℕ
unfolding leads smallest_of
smallest K M t s = smallest_of (K ^ t) (leads K M t s)

-- f t s for each state s of each layer t from 0 to T, where layer t has S t of them
unfoldable pub of_states : (T : ℕ) (S : ℕ → ℕ) (f : ℕ → ℕ → ℕ) → List ℕ
of_states T S f = join (suc T) λ t. tabulate (S t) (f t)
