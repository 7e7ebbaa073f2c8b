-- The diagrams of a circuit: its inputs, then its gates, one after the other.
use Rattle.std.specs.Prelude.{◌≡◌, Bool, false, cond, not, ◌&&◌, List, ℕ, zero, suc, ◌+◌, ◌/◌, ◌%◌, ◌<◌, eqb, ltb, length, get_or}
use Rattle.layered.specs.Search.{least}
use Rattle.diagrams.specs.Diagrams.{Nodes}
use Rattle.diagrams.specs.Making.{Table}
use Rattle.diagrams.specs.Counts.{nodes_of}
use Rattle.diagrams.specs.Theorems.{Holds, Within}

-- the value of a signal on the inputs vs: signal 0 is false, signal s + 1 is F s
unfoldable pub signal : (F : ℕ → List Bool → Bool) (vs : List Bool) → (s : ℕ) → Bool
signal F vs zero = false
signal F vs (suc s) = F s vs

-- the value of a literal: twice a signal, plus 1 if inverted
unfoldable pub literal : (F : ℕ → List Bool → Bool) (vs : List Bool) → (p : ℕ) → Bool
literal F vs p = cond (eqb (p % 2) 1) (not (signal F vs (p / 2))) (signal F vs (p / 2))

-- F is a circuit's: F s is input s below N, and the AND of its two literals for each of G gates from there on
pub record Family (N G : ℕ) (left right : ℕ → ℕ) (F : ℕ → List Bool → Bool) : Type 0 where
  pub inputs : (s : ℕ) → s < N → (vs : List Bool) → length vs ≡ N → F s vs ≡ get_or vs s false
  pub gates : (g : ℕ) → g < G → (vs : List Bool) → length vs ≡ N → F (N + g) vs ≡ literal F vs (left g) && literal F vs (right g)

-- the smallest k for which the inputs and the first k of G gates have more nodes than R records; G + 1 where there is none
unfoldable pub first_over : (N R G : ℕ) (F : ℕ → List Bool → Bool) → ℕ
first_over N R G F = least (suc G) (λ k. ltb R (nodes_of N (N + k) F))

-- the list holds the nodes of the first M functions and no others; ids are those of the signals up to M
pub record Built (N M R : ℕ) (F : ℕ → List Bool → Bool) (D : Nodes) (ids : List ℕ) : Type 0 where
  pub table : Table N R D
  pub within : Within N M F D
  pub holds : Holds N M F D (λ s. get_or ids (suc s) 0)
  pub false_is : get_or ids 0 0 ≡ 0
