-- The diagrams of a circuit's signals, as they are made one after the other.
use Rattle.std.specs.Prelude.{◌≡◌, List, ℕ, suc, ◌+◌, ◌-◌, ◌/◌, ◌%◌, ◌≤◌, ◌<◌, eqb, ltb, length, get_or, replicate, Result, Ok, Err, cond}
use Rattle.verdict.specs.declared.Refusal.{Refusal}
use Rattle.verdict.specs.declared.Refusal.TheVariants.{Nodes as TooManyNodes}
use Rattle.circuit.specs.Limits.{most_signals}
use Rattle.circuit.specs.Circuit.{gates, lefts_at, rights_at, all_inputs, operand}
use Rattle.circuit.specs.WellFormed.{WellFormed}
use Rattle.circuit.specs.declared.Head.{Head}
use Rattle.diagrams.specs.Diagrams.{Nodes}
use Rattle.diagrams.specs.Making.{Joined, no_id}
use Rattle.diagrams.specs.Building.{Built, first_over}
use Rattle.functions.specs.Functions.{signal_on}
use Rattle.nodes.specs.declared.Node.{Node}
use Rattle.nodes.specs.declared.Pair.{Pair}
use Rattle.records.specs.Records.{none, nodes_in, Kept}
use Rattle.conjoin.specs.Cache.{cache_length, Cached, Ready, Anded}
use Rattle.conjoin.specs.declared.Shape.{Shape}
use Rattle.build.specs.declared.Origin.{Origin}
use Rattle.build.specs.declared.Origin.TheVariants.{Input, And}

-- the ids and inversions of the operands of gate g, given the ids of the signals
abbrev pub operands_in : (b ws : List ℕ) (g : ℕ) → Pair
operands_in b ws g = record {
  f = get_or ws (operand b (lefts_at b) g / 2) 0;
  a = eqb (operand b (lefts_at b) g % 2) 1;
  g = get_or ws (operand b (rights_at b) g / 2) 0;
  b = eqb (operand b (rights_at b) g % 2) 1;
}

-- what is to be made of signal s + 1
abbrev pub origin_of : (b ws : List ℕ) (s : ℕ) → Origin
origin_of b ws s = cond (ltb s (all_inputs b)) (Input (s + 1)) (And (operands_in b ws (s - all_inputs b)))

-- what is to be made can be: an input's node has a level, and an AND is of nodes
pub record Makeable (N R c : ℕ) (ns : List Node) (ws : List ℕ) (m : Origin) : Type 0 where
  pub kept : Kept N R ns
  pub level : (l : ℕ) → m ≡ Input l → 0 < l
  pub pair : (p : Pair) → m ≡ And p → Ready N R c ns ws p N

-- what making does: the node of an input is joined, the AND of a pair made
pub data Makes (N R c : ℕ) (m : Origin) (D E : Nodes) (ws vs : List ℕ) (r : ℕ) : Type 0 where
  an_input : (l : ℕ) → m ≡ Input l → Joined R D E l 0 1 r → vs ≡ ws → Makes N R c m D E ws vs r
  an_and : (p : Pair) → m ≡ And p → Anded N R (suc N - N) c D E ws vs p r → Makes N R c m D E ws vs r

-- the list holds the nodes of the first s signals of b, inputs first, and work their ids; the cache behind is true
pub record Signals (b : List ℕ) (R s : ℕ) (ns : List Node) (ws : List ℕ) : Type 0 where
  pub built : Built (all_inputs b) s R (signal_on b) (nodes_in ns) ws
  pub cached : Cached (all_inputs b) (nodes_in ns) most_signals ws
  pub within : R ≤ length ns
  pub room : R + 2 < no_id
  pub space : most_signals + cache_length ≤ length ws

-- what building may be asked: a circuit that passed its check, an empty list, and numbers that are all zero, with the cache behind the ids
pub record Buildable (b : List ℕ) (h : Head) (ns : List Node) (ws : List ℕ) (m : Shape) : Type 0 where
  pub formed : WellFormed b h
  pub inputs_is : m.inputs ≡ all_inputs b
  pub cache_is : m.cache ≡ most_signals
  pub within : m.room ≤ length ns
  pub room : m.room + 2 < no_id
  pub empty : ns ≡ replicate (length ns) none
  pub zeros : (i : ℕ) → get_or ws i 0 ≡ 0
  pub space : most_signals + cache_length ≤ length ws

-- what building answers and leaves: 18 with the number of the first gate for whose nodes R records are too few (0: for the inputs' alone), else all
-- signals are built
pub record Building (b : List ℕ) (R : ℕ) (ns : List Node) (ws : List ℕ) (r : Result (Unit {0}) Refusal) : Type 0 where
  pub short : (refusal : Refusal) → r ≡ Err refusal
      → (refusal ≡ TooManyNodes (first_over (all_inputs b) R (gates b) (signal_on b))) × (first_over (all_inputs b) R (gates b) (signal_on b) ≤ gates b)
  pub whole : (u : Unit {0}) → r ≡ Ok u → (first_over (all_inputs b) R (gates b) (signal_on b) ≡ gates b + 1) × Signals b R (all_inputs b + gates b) ns ws
