-- The states of all layers as an exploration leaves them in scratch, and how far it has come.
use Rattle.std.specs.Prelude.{◌≡◌, Bool, List, ℕ, zero, suc, ◌+◌, ◌*◌, ◌-◌, ◌/◌, ◌^◌, ◌≤◌, ◌<◌, min, eqb, length, get_or, set, replicate}
use Rattle.layered.specs.Search.{every}
use Rattle.layered.specs.States.{count, number, history}
use Rattle.diagrams.specs.Diagrams.{Nodes, Reduced}
use Rattle.diagrams.specs.Theorems.{Holds}
use Rattle.diagrams.specs.Frames.{Responds}
use Rattle.diagrams.specs.Paths.{path_of}
use Rattle.diagrams.specs.Numbering.{number_same}
use Rattle.diagrams.specs.Forward.{candidate}
use Rattle.diagrams.specs.Leads.{lead}
use Rattle.nodes.specs.declared.Node.{Node}
use Rattle.records.specs.Records.{nodes_in}
use Rattle.descend.specs.Descend.{Standing}
use Rattle.descend.specs.declared.Job.{Job}
use Rattle.refine.specs.declared.Rows.{Rows}
use Rattle.explore.specs.declared.Layout.{Layout}
use Rattle.explore.specs.declared.Cursor.{Cursor}

-- how many ids of candidates there is room for. In src/ it is `Limits::COLUMNS`.
abbrev pub column_count : ℕ
column_count = 32768

-- where the states of layer t begin, after those of earlier layers, of which there are no more than histories
unfoldable pub layer_at : (K t : ℕ) → ℕ
layer_at K zero = 0
layer_at K (suc t) = layer_at K t + K ^ t

-- the sizes are within the limits, and what lies in work lies apart
pub record Laid (layout : Layout) : Type 0 where
  pub fan_is : layout.fan ≡ 2 ^ layout.bits
  pub half_is : layout.half ≡ layout.fan ^ layout.frames
  pub apart : layout.roots + layout.outputs * layout.frames ≤ layout.columns
  pub inputs_from : 1 ≤ layout.bits
  pub outputs_from : 1 ≤ layout.outputs
  pub frames_from : 1 ≤ layout.frames
  pub bits_to : layout.bits * layout.frames ≤ 16
  pub outputs_to : layout.outputs ≤ 16
  pub near : layout.columns ≤ 65536

-- K = 2 ^ n words, T frames of m outputs, the response y
module _ (n m T : ℕ) (y : ℕ → ℕ → ℕ) where
  -- s holds the paths of the states of layers 0 to t, each by its smallest history, and of layers below t the next state of each entry
  pub record Explored (half : ℕ) (s : List ℕ) (t : ℕ) : Type 0 where
    pub paths : (u k : ℕ) → u ≤ t → k < count (2 ^ n) T y u → get_or s (layer_at (2 ^ n) u + k) 0 ≡ path_of n u (history (2 ^ n) T y u k)
    pub nexts : (u c : ℕ) → u < t → c < count (2 ^ n) T y u * 2 ^ n → get_or s (half + (layer_at (2 ^ n) (suc u) + c)) 0 ≡ number (2 ^ n) T y (suc u) (candidate (2 ^ n) T y u c)

  -- these are the counts of layers 0 to t and of layer T, and 0 of the others
  pub record CountsTo (counts : List ℕ) (t : ℕ) : Type 0 where
    pub places : length counts ≡ 17
    pub known : (u : ℕ) → u ≤ t → get_or counts u 0 ≡ count (2 ^ n) T y u
    pub last : get_or counts T 0 ≡ 1
    pub none : (u : ℕ) → t < u → ¬ (u ≡ T) → get_or counts u 0 ≡ 0

-- what is explored: a response y of functions F, which the diagrams D hold; root o is the id of output o, counted over all frames
pub record Subject : Type 0 where
  pub y : ℕ → ℕ → ℕ
  pub F : ℕ → List Bool → Bool
  pub D : Nodes
  pub root : ℕ → ℕ

-- what is known of it, with the layout's sizes
pub record Given (layout : Layout) (g : Subject) : Type 0 where
  pub reduced : Reduced (layout.bits * layout.frames) g.D
  pub holds : Holds (layout.bits * layout.frames) (layout.outputs * layout.frames) g.F g.D g.root
  pub responds : Responds layout.bits layout.outputs layout.frames g.y g.F

module _ (layout : Layout) (g : Subject) where
  -- how many states layer t has, and where its candidate c leads in the diagram of output i of all after frame t + 1
  abbrev pub count_at : (t : ℕ) → ℕ
  count_at t = count (2 ^ layout.bits) layout.frames g.y t

  abbrev pub lead_at : (t c i : ℕ) → ℕ
  lead_at t c i = lead layout.bits layout.outputs layout.frames g.y g.D g.root t c i

  -- whether two candidates of layer t + 1 lead to the same ids in the first k of these outputs
  unfoldable pub same_to : (t k d c : ℕ) → Bool
  same_to t k d c = every k (λ i. eqb (lead_at t d i) (lead_at t c i))

  -- scratch s and work ws have room, and work has the outputs' ids
  pub record Roomy (s ws : List ℕ) : Type 0 where
    pub given : Given layout g
    pub laid : Laid layout
    pub room : 2 * layout.half ≤ length s
    pub columns_room : layout.columns + column_count ≤ length ws
    pub rooted : (o : ℕ) → o < layout.outputs * layout.frames → get_or ws (layout.roots + o) 0 ≡ g.root o

  -- the cursor stands at a layer, whose states are known
  pub record AtLayer (s ws : List ℕ) (c : Cursor) : Type 0 where
    pub roomy : Roomy s ws
    pub inside : c.layer < layout.frames
    pub states_is : c.states ≡ count_at c.layer
    pub at_is : c.at ≡ layer_at layout.fan c.layer
    pub counted : CountsTo layout.bits layout.outputs layout.frames g.y c.counts c.layer
    pub explored : Explored layout.bits layout.outputs layout.frames g.y layout.half s c.layer
    pub zero_beyond : (j : ℕ) → layer_at layout.fan (suc (suc c.layer)) ≤ j → j < layout.half → get_or s (layout.half + j) 0 ≡ 0

  -- its candidates are numbered by the outputs before the group
  unfoldable pub Numbered : (s : List ℕ) → Cursor → Type 0
  Numbered s c = suc c.layer < layout.frames → (d : ℕ) → d < c.states * layout.fan
      → get_or s (layout.half + (layer_at layout.fan (suc c.layer) + d)) 0 ≡ number_same (same_to c.layer (c.first - layout.outputs * suc c.layer)) d

  -- how far an exploration has come: for the group of outputs all candidates of the first `done` states have their ids in work
  pub record Exploring (s ws : List ℕ) (c : Cursor) (done : ℕ) : Type 0 where
    pub layered : AtLayer s ws c
    pub numbered : Numbered s c
    pub first_from : layout.outputs * suc c.layer ≤ c.first
    pub group_to : c.first + c.parts ≤ layout.outputs * layout.frames
    pub some : suc c.layer < layout.frames → 1 ≤ c.parts
    pub few : c.states * layout.fan * c.parts ≤ column_count
    pub state_in : c.state < c.states
    pub traced : (d i : ℕ) → d < done * layout.fan → i < c.parts
        → get_or ws (layout.columns + d * c.parts + i) 0 ≡ lead_at c.layer d (c.first - layout.outputs * suc c.layer + i)

-- an exploration that has frames left can start: nothing is in scratch yet
pub record Startable (layout : Layout) (g : Subject) (s ws : List ℕ) : Type 0 where
  pub roomy : Roomy layout g s ws
  pub clean : (j : ℕ) → j < 2 * layout.half → get_or s j 0 ≡ 0

-- a bound on the steps that are left
abbrev pub steps_left : Layout → Cursor → ℕ
steps_left layout c = (layout.frames - c.layer) * 12000000 + (layout.outputs * layout.frames - c.first) * 40000 + (c.states - c.state)

-- the exploration of something stands before the last layer, with `done` states traced
pub record Underway (layout : Layout) (s ws : List ℕ) (c : Cursor) (done : ℕ) : Type 0 where
  pub subject : Subject
  pub exploring : Exploring layout subject s ws c done
  pub more : suc c.layer < layout.frames

-- one step: s became r, and c became d
pub record Moved (layout : Layout) (g : Subject) (s r ws : List ℕ) (c d : Cursor) : Type 0 where
  pub on : Exploring layout g r ws d d.state
  pub falls : steps_left layout d < steps_left layout c
  pub kept : (j : ℕ) → 2 * layout.half ≤ j → get_or r j 0 ≡ get_or s j 0
  pub long : length r ≡ length s

-- whatever is explored, the cursor c is its start
abbrev pub Starts : Layout → (c : Cursor) → Type 0
Starts layout c = (g : Subject) (s ws : List ℕ) → Startable layout g s ws → Exploring layout g s ws c c.state

-- whatever is explored, s and c with `done` states traced become r and d by one step
abbrev pub Moves : Layout → (s r ws : List ℕ) (c : Cursor) (done : ℕ) (d : Cursor) → Type 0
Moves layout s r ws c done d = (g : Subject) → Exploring layout g s ws c done → Moved layout g s r ws c d

-- ---- the whole

-- what an exploration with the records ns needs: something that can start, whose diagrams they are; every node stands within the list
pub record Explorable (layout : Layout) (ns : List Node) (s ws : List ℕ) : Type 0 where
  pub subject : Subject
  pub startable : Startable layout subject s ws
  pub diagrams : subject.D ≡ nodes_in ns
  pub standing : Standing ns (layout.bits * layout.frames)

-- an exploration's end: s became r, which holds the states of all layers, the cursor c has their counts, and ws became us, the same before the room for candidates
pub record Ended (layout : Layout) (g : Subject) (s r ws us : List ℕ) (c : Cursor) : Type 0 where
  pub explored : Explored layout.bits layout.outputs layout.frames g.y layout.half r (layout.frames - 1)
  pub counted : CountsTo layout.bits layout.outputs layout.frames g.y c.counts (layout.frames - 1)
  pub beyond : (j : ℕ) → 2 * layout.half ≤ j → get_or r j 0 ≡ get_or s j 0
  pub before : (i : ℕ) → i < layout.columns → get_or us i 0 ≡ get_or ws i 0

-- whatever is explored with the records ns ends so
abbrev pub Ends : Layout → List Node → (s r ws us : List ℕ) (c : Cursor) → Type 0
Ends layout ns s r ws us c = (g : Subject) → Startable layout g s ws → g.D ≡ nodes_in ns → Ended layout g s r ws us c

-- ---- what the functions answer

-- the group from the cursor's first output on, at the first state: as many outputs as there is room for
unfoldable pub grouped : Layout → Cursor → Cursor
grouped layout c = record {
  layer = c.layer;
  states = c.states;
  at = c.at;
  first = c.first;
  parts = min (layout.outputs * layout.frames - c.first) (column_count / (c.states * layout.fan));
  state = 0;
  counts = c.counts;
}

-- the start: layer 0 has one state, of the empty path, and the last layer has one
abbrev pub started : Layout → Cursor
started layout =
    grouped layout (record { layer = 0; states = 1; at = 0; first = layout.outputs; parts = 0; state = 0; counts = set (set (replicate 17 0) 0 1) layout.frames 1 })

-- the group after c's, and the next layer, of k states
abbrev pub next_group : Layout → Cursor → Cursor
next_group layout c =
    grouped layout (record { layer = c.layer; states = c.states; at = c.at; first = c.first + c.parts; parts = 0; state = 0; counts = c.counts })

abbrev pub next_layer : Layout → Cursor → (k : ℕ) → Cursor
next_layer layout c k = grouped layout (record {
  layer = suc c.layer;
  states = k;
  at = c.at * layout.fan + 1;
  first = layout.outputs * suc (suc c.layer);
  parts = 0;
  state = 0;
  counts = set c.counts (suc c.layer) k;
})

-- where the candidates of the layer lie
abbrev pub rows_of : Layout → Cursor → Rows
rows_of layout c = record {
  count = c.states * layout.fan;
  parts = c.parts;
  copy = c.at * layout.fan + 1;
  numbers = layout.half + (c.at * layout.fan + 1);
  ids = layout.columns;
}

-- the ids of the group's outputs, followed by the state's path and then by each word
abbrev pub job_of : (s : List ℕ) → Layout → Cursor → Job
job_of s layout c = record {
  from = layout.roots + c.first;
  count = c.parts;
  path = get_or s (c.at + c.state) 0;
  top = layout.bits * c.layer;
  fan = layout.fan;
  at = layout.columns + c.state * layout.fan * c.parts;
}

-- ---- what they need of numbers

-- a cursor whose group can be made
pub record Groupable (layout : Layout) (c : Cursor) : Type 0 where
  pub laid : Laid layout
  pub states_from : 1 ≤ c.states
  pub states_to : c.states ≤ 65536
  pub first_to : c.first ≤ layout.outputs * layout.frames

-- a cursor whose candidates lie in the halves
pub record Rowable (layout : Layout) (c : Cursor) : Type 0 where
  pub next_in : c.at * layout.fan + 1 + c.states * layout.fan ≤ layout.half
  pub half_to : layout.half ≤ 65536

-- a cursor that has a next layer, of k states
pub record Nextable (layout : Layout) (c : Cursor) (k : ℕ) : Type 0 where
  pub laid : Laid layout
  pub more : suc c.layer < layout.frames
  pub counts_in : length c.counts ≡ 17
  pub count_from : 1 ≤ k
  pub count_to : k ≤ 32768
