-- A cache of ANDs in a list of numbers: entries of two ids, their inversions as one number, and the id of the AND.
use Rattle.std.specs.Prelude.{◌≡◌, Bool, ◌≢◌, List, ℕ, suc, ◌+◌, ◌*◌, ◌-◌, ◌≤◌, ◌<◌, length, get_or, Option, None, Some}
use Rattle.diagrams.specs.Diagrams.{Nodes}
use Rattle.diagrams.specs.Making.{Conjoined, no_id}
use Rattle.diagrams.specs.Caching.{AndIs, flags_of}
use Rattle.nodes.specs.declared.Node.{Node}
use Rattle.nodes.specs.declared.Pair.{Pair}
use Rattle.records.specs.Records.{nodes_in, Kept}

-- how many entries there are, and how many numbers they take. In src/ they are the associated constants of `Limits`.
abbrev pub cache_entries : ℕ
cache_entries = 4096

abbrev pub cache_length : ℕ
cache_length = 4 * cache_entries

-- every entry of the cache that begins at c is true; an entry of zeros says that false and false is false
unfoldable pub Cached : (N : ℕ) → Nodes → (c : ℕ) → List ℕ → Type 0
Cached N D c ws = (i : ℕ) → i < cache_entries → (a b : Bool) → get_or ws (c + 4 * i + 2) 0 ≡ flags_of a b
    → AndIs N D (get_or ws (c + 4 * i) 0) a (get_or ws (c + 4 * i + 1) 0) b (get_or ws (c + 4 * i + 3) 0)

-- s is where an entry of the cache that begins at c stands
pub record Slot (c s : ℕ) : Type 0 where
  pub entry : ℕ
  pub small : entry < cache_entries
  pub is : s ≡ c + 4 * entry

-- what is found of a pair at s
pub data Looked (ws : List ℕ) (s : ℕ) (p : Pair) (r : Option ℕ) : Type 0 where
  hit : get_or ws s 0 ≡ p.f → get_or ws (s + 1) 0 ≡ p.g → get_or ws (s + 2) 0 ≡ flags_of p.a p.b → r ≡ Some (get_or ws (s + 3) 0) → Looked ws s p r
  missed : r ≡ None → Looked ws s p r

-- vs is ws with the AND r of a pair kept at s
pub record KeptIn (ws vs : List ℕ) (s : ℕ) (p : Pair) (r : ℕ) : Type 0 where
  pub first : get_or vs s 0 ≡ p.f
  pub second : get_or vs (s + 1) 0 ≡ p.g
  pub flags : get_or vs (s + 2) 0 ≡ flags_of p.a p.b
  pub result : get_or vs (s + 3) 0 ≡ r
  pub else_is : (i : ℕ) → (s ≤ i → s + 4 ≤ i) → get_or vs i 0 ≡ get_or ws i 0

-- a pair of nodes of a level that so many levels are left from, in a list of R records, with a true cache at c
pub record Ready (N R c : ℕ) (ns : List Node) (ws : List ℕ) (p : Pair) (left : ℕ) : Type 0 where
  pub kept : Kept N R ns
  pub most : left ≤ N
  pub small : N < 65536
  pub first : suc N - left ≤ (nodes_in ns).level p.f
  pub second : suc N - left ≤ (nodes_in ns).level p.g
  pub cached : Cached N (nodes_in ns) c ws
  pub space : c + cache_length ≤ length ws
  pub near : c < 4294967296

-- what the AND of a pair does: it makes the id r, or there are too few records; the cache stays true, and nothing before it changes
pub record Anded (N R l c : ℕ) (D E : Nodes) (ws vs : List ℕ) (p : Pair) (r : ℕ) : Type 0 where
  pub and : Conjoined N R l D E p.f p.a p.g p.b r
  pub still : r ≢ no_id → Cached N E c vs
  pub before : (i : ℕ) → i < c → get_or vs i 0 ≡ get_or ws i 0
