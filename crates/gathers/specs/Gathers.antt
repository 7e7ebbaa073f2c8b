-- Gather chains: which edges belong to each, their gates, and the literals that they leave.
use Rattle.std.specs.Prelude.{ℕ, ◌+◌, ◌*◌, ◌/◌, Bool, List, [], eqb, length}
use Rattle.words.specs.Words.{word_at}
use Rattle.circuit.specs.Lists.{listed, bit}
use Rattle.unfolded.specs.Unfolded.{inverted, chains_from, ending, inverted_edges}
use Rattle.chains.specs.declared.Target.{Target}
use Rattle.gathers.specs.declared.Key.{Key}
use Rattle.gathers.specs.declared.Key.TheVariants.{NextState, OutputBit}
use Rattle.gathers.specs.declared.Gathering.{Gathering}

-- whether an edge with the next state or output x belongs to chain i
unfoldable pub chosen : Key → (i x : ℕ) → Bool
chosen NextState i x = eqb x i
chosen OutputBit i x = bit x i

-- the right literals of chain i: the inverted edges that belong to it; `entries` are the edges' next states or outputs
unfoldable pub gather_edges : Target → Gathering → (entries : List ℕ) (i : ℕ) → List ℕ
gather_edges target g entries i = inverted_edges (target.base + g.edges) (λ e. chosen g.key i (word_at entries (2 * e))) (length entries / 2)

-- the first `count` chains, from gate k on
abbrev pub gather_gates : Target → Gathering → (entries : List ℕ) (k count : ℕ) → List (ℕ × ℕ)
gather_gates target g entries k count = chains_from (target.base + k) (gather_edges target g entries) count

-- what they stand for: the literal that each ends with, inverted
abbrev pub gather_literals : Target → Gathering → (entries : List ℕ) (k count : ℕ) → List ℕ
gather_literals target g entries k count = listed [] (λ i. inverted (ending (target.base + k) (gather_edges target g entries) i)) count
