-- Diagrams in a list of records, followed down by given inputs. Ids lie in a list of numbers.
use Rattle.std.specs.Prelude.{◌≡◌, cond, ◌≢◌, List, ℕ, suc, ◌+◌, ◌*◌, ◌-◌, ◌/◌, ◌%◌, ◌^◌, ◌≤◌, ◌<◌, eqb, length, get_or}
use Rattle.diagrams.specs.Diagrams.{follow, Reduced}
use Rattle.diagrams.specs.Frames.{word_bits}
use Rattle.nodes.specs.declared.Node.{Node}
use Rattle.records.specs.Records.{nodes_in}
use Rattle.descend.specs.declared.Spread.{Spread}
use Rattle.descend.specs.declared.Cursor.{Cursor}
use Rattle.descend.specs.declared.Job.{Job}

-- the records are nodes of some inputs, at most 16, the first `top` levels among them, every one within the list
pub record Standing (ns : List Node) (top : ℕ) : Type 0 where
  pub inputs : ℕ
  pub reduced : Reduced inputs (nodes_in ns)
  pub inside : (f : ℕ) → 0 < (nodes_in ns).level f → f < length ns + 2
  pub most : top ≤ inputs
  pub few : inputs ≤ 16

-- the branch of x that bit level - 1 of the path chooses
abbrev pub branch_of : Node → (path : ℕ) → ℕ
branch_of x path = cond (eqb (path / 2 ^ (x.level - 1) % 2) 1) x.high x.low

-- what `follow` needs: f is a node
pub record Followable (ns : List Node) (f top : ℕ) : Type 0 where
  pub standing : Standing ns top
  pub node : 0 < (nodes_in ns).level f

-- what `expand` needs: f is a node, and places for the words of some bits
pub record Expandable (ns : List Node) (ws : List ℕ) (f : ℕ) (s : Spread) : Type 0 where
  pub bits : ℕ
  pub size_is : s.size ≡ 2 ^ bits
  pub standing : Standing ns (s.level + bits - 1)
  pub node : 0 < (nodes_in ns).level f
  pub apart : 0 < s.stride
  pub within : s.at + s.size * s.stride < length ws + s.stride
  pub short : s.stride ≤ length ws

-- ms has at place w, counted in strides, where f leads from the level on by the bits of w, and is ws elsewhere
pub record Expanded (ns : List Node) (ws : List ℕ) (f : ℕ) (s : Spread) (ms : List ℕ) : Type 0 where
  pub leads : (n w : ℕ) → s.size ≡ 2 ^ n → w < s.size → get_or ms (s.at + w * s.stride) 0 ≡ follow (nodes_in ns) s.level (word_bits n w) f
  pub kept : (j : ℕ) → ((w : ℕ) → w < s.size → j ≢ s.at + w * s.stride) → get_or ms j 0 ≡ get_or ws j 0

-- what `trace` needs: the ids are nodes, and places behind them for each and for the words of some bits
pub record Traceable (ns : List Node) (ws : List ℕ) (job : Job) : Type 0 where
  pub bits : ℕ
  pub fan_is : job.fan ≡ 2 ^ bits
  pub standing : Standing ns (job.top + bits)
  pub apart : job.from + job.count ≤ job.at
  pub within : job.at + job.fan * job.count ≤ length ws
  pub node : (i : ℕ) → i < job.count → 0 < (nodes_in ns).level (get_or ws (job.from + i) 0)

-- ms has, for each word w below `fan` and each i below `count`, where id i leads by the path and then by the bits of w, and is ws elsewhere
pub record Traced (ns : List Node) (ws : List ℕ) (job : Job) (ms : List ℕ) : Type 0 where
  pub leads : (n w i : ℕ) → job.fan ≡ 2 ^ n → w < job.fan → i < job.count
      → get_or ms (job.at + w * job.count + i) 0 ≡ follow (nodes_in ns) (suc job.top) (word_bits n w) (follow (nodes_in ns) 1 (word_bits job.top job.path) (get_or ws (job.from + i) 0))
  pub before : (j : ℕ) → j < job.at → get_or ms j 0 ≡ get_or ws j 0
  pub after : (j : ℕ) → job.at + job.fan * job.count ≤ j → get_or ms j 0 ≡ get_or ws j 0

-- the cursor at the first word
abbrev pub first_cursor : Spread → Cursor
first_cursor s = record { level = s.level; count = 1; low = s.at; high = s.at + s.stride; end = s.at + s.stride }

-- the cursor after c: where the words of one bit fewer are all split, the next level begins
unfoldable pub next_cursor : Spread → Cursor → Cursor
next_cursor s c = cond (eqb (c.low + s.stride) c.end)
    (record { level = c.level + 1; count = c.count + 1; low = s.at; high = c.high + s.stride; end = c.high + s.stride })
    (record { level = c.level; count = c.count + 1; low = c.low + s.stride; high = c.high + s.stride; end = c.end })

-- the next cursor's numbers fit
pub record CursorFits (s : Spread) (c : Cursor) : Type 0 where
  pub level_fits : c.level + 1 < 2 ^ 32
  pub count_fits : c.count + 1 < 2 ^ 64
  pub low_fits : c.low + s.stride < 2 ^ 64
  pub high_fits : c.high + s.stride < 2 ^ 64
