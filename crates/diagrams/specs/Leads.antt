-- Candidates told apart by where they lead: T frames of n inputs and m outputs, as in Frames.
use Rattle.std.specs.Prelude.{Bool, List, ℕ, suc, ◌+◌, ◌*◌, ◌-◌, ◌^◌, ◌<◌, eqb}
use Rattle.layered.specs.Search.{every}
use Rattle.diagrams.specs.Diagrams.{Nodes, follow, Reduced}
use Rattle.diagrams.specs.Theorems.{Holds}
use Rattle.diagrams.specs.Frames.{word_bits, Responds}
use Rattle.diagrams.specs.Paths.{path_of}
use Rattle.diagrams.specs.Forward.{candidate, Tells}

module _ (n m T : ℕ) (y : ℕ → ℕ → ℕ) (D : Nodes) (root : ℕ → ℕ) (t : ℕ) where
  -- where candidate c of layer t + 1 leads in the diagram of output i of all after frame t + 1
  unfoldable pub lead : (c i : ℕ) → ℕ
  lead c i = follow D 1 (word_bits (n * suc t) (path_of n (suc t) (candidate (2 ^ n) T y t c))) (root (m * suc t + i))

  -- whether two candidates lead to the same ids in all of them
  unfoldable pub same_leads : (d c : ℕ) → Bool
  same_leads d c = every (m * T - m * suc t) (λ i. eqb (lead d i) (lead c i))

-- that tells which candidates are equivalent
unfoldable pub LeadsTell : Type 0
LeadsTell = (n m T : ℕ) (y : ℕ → ℕ → ℕ) (F : ℕ → List Bool → Bool) (D : Nodes) (root : ℕ → ℕ) → Reduced (n * T) D → Holds (n * T) (m * T) F D root → Responds n m T y F
    → (t : ℕ) → t < T → Tells (2 ^ n) T y t (same_leads n m T y D root t)
