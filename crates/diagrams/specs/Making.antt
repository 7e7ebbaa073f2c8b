-- What a function that makes nodes does to a list of them.
use Rattle.std.specs.Prelude.{◌≡◌, Bool, true, false, cond, ◌⊎◌, ◌≢◌, List, ℕ, ◌+◌, ◌*◌, ◌-◌, ◌/◌, ◌%◌, ◌≤◌, ◌<◌, ltb}
use Rattle.diagrams.specs.Diagrams.{Nodes, branch, Reduced, Denotes, Grown, conjunction}

-- r is H as a function of the inputs from level l on, and E is D with no more than the nodes of H added
pub record Made (N l : ℕ) (H : List Bool → Bool) (D E : Nodes) (r : ℕ) : Type 0 where
  pub grown : Grown N l H D E
  pub under : l ≤ E.level r
  pub is : Denotes N E l r H

-- H has a node for which R records are too few: with one record more, and each one taken, all are nodes of D or of H
pub record Overfull (N R l : ℕ) (H : List Bool → Bool) (D : Nodes) : Type 0 where
  pub nodes : Nodes
  pub grown : Grown N l H D nodes
  pub many : (f : ℕ) → f < R + 3 → 0 < nodes.level f
  pub below : (f : ℕ) → 0 < nodes.level f → f < R + 3

-- no record has the level l and the branches x and y
unfoldable pub Absent : Nodes → (l x y : ℕ) → Type 0
Absent D l x y = (f : ℕ) → 2 ≤ f → D.level f ≡ l → D.low f ≡ x → D.high f ≡ y → ⊥

-- E is D with the level l and the branches x and y at id i
pub record Added (D E : Nodes) (i l x y : ℕ) : Type 0 where
  pub here_level : E.level i ≡ l
  pub here_low : E.low i ≡ x
  pub here_high : E.high i ≡ y
  pub else_level : (f : ℕ) → f ≢ i → E.level f ≡ D.level f
  pub else_low : (f : ℕ) → f ≢ i → E.low f ≡ D.low f
  pub else_high : (f : ℕ) → f ≢ i → E.high f ≡ D.high f

-- ---- where records lie

-- where a record with the level l and the branches x and y is sought first in a list of R records: 32 bits of a sum, scaled to R
unfoldable pub home : (R l x y : ℕ) → ℕ
home R l x y = (x * 1640531527 + y * 1327217885 + l * 805459861) % 4294967296 * R / 4294967296

-- the place j after s, round the list
unfoldable pub place : (R s j : ℕ) → ℕ
place R s j = cond (ltb (s + j) R) (s + j) (s + j - R)

-- record i is sought from s on, and no place before it is free
pub record Path (R : ℕ) (D : Nodes) (s i : ℕ) : Type 0 where
  pub steps : ℕ
  pub fewer : steps < R
  pub ends : place R s steps ≡ i
  pub taken : (k : ℕ) → k < steps → 0 < D.level (place R s k + 2)

-- each of R records is found from its home on
unfoldable pub Laid : (R : ℕ) → Nodes → Type 0
Laid R D = (i : ℕ) → 0 < D.level (i + 2) → Path R D (home R (D.level (i + 2)) (D.low (i + 2)) (D.high (i + 2))) i

-- a list of R records that are nodes of N inputs
pub record Table (N R : ℕ) (D : Nodes) : Type 0 where
  pub reduced : Reduced N D
  pub below : (f : ℕ) → 0 < D.level f → f < R + 2
  pub laid : Laid R D

-- the answer where there is no id
abbrev pub no_id : ℕ
no_id = 4294967295

-- where the record with the level l and the branches x and y is, or may be put: R where there is none and no place is free
pub data Sought (R : ℕ) (D : Nodes) (l x y : ℕ) (r : ℕ) : Type 0 where
  there : r < R → D.level (r + 2) ≡ l → D.low (r + 2) ≡ x → D.high (r + 2) ≡ y → Sought R D l x y r
  free : r < R → D.level (r + 2) ≡ 0 → Absent D l x y → Path R D (home R l x y) r → Sought R D l x y r
  no_room : r ≡ R → ((i : ℕ) → i < R → 0 < D.level (i + 2)) → Absent D l x y → Sought R D l x y r

-- the id of the level l and the branches x and y in E, which is D with at most that record more
pub data Joined (R : ℕ) (D E : Nodes) (l x y : ℕ) (r : ℕ) : Type 0 where
  nothing : y ≡ no_id → r ≡ no_id → Joined R D E l x y r
  one : y ≢ no_id → x ≡ y → r ≡ y → E ≡ D → Joined R D E l x y r
  found : y ≢ no_id → r < R + 2 → E ≡ D → D.level r ≡ l → D.low r ≡ x → D.high r ≡ y → Joined R D E l x y r
  added : y ≢ no_id → x ≢ y → 2 ≤ r → r < R + 2 → D.level r ≡ 0 → Absent D l x y → Path R D (home R l x y) (r - 2) → Added D E r l x y → Joined R D E l x y r
  lacking : y ≢ no_id → x ≢ y → r ≡ no_id → ((i : ℕ) → i < R → 0 < D.level (i + 2)) → Absent D l x y → Joined R D E l x y r

-- what is known of an AND without a look at its nodes
pub data Known (f : ℕ) (a : Bool) (g : ℕ) (b : Bool) (r : ℕ) : Type 0 where
  first_false : f ≡ cond a 1 0 → r ≡ 0 → Known f a g b r
  second_false : g ≡ cond b 1 0 → r ≡ 0 → Known f a g b r
  both_true : f ≢ cond a 1 0 → g ≢ cond b 1 0 → f < 2 → g < 2 → r ≡ 1 → Known f a g b r
  first_true : f ≢ cond a 1 0 → f < 2 → b ≡ false → r ≡ g → Known f a g b r
  second_true : g ≢ cond b 1 0 → g < 2 → a ≡ false → r ≡ f → Known f a g b r
  opposite : f ≡ g → a ≢ b → r ≡ 0 → Known f a g b r
  same : f ≡ g → a ≡ false → b ≡ false → r ≡ f → Known f a g b r
  unknown : (2 ≤ f) ⊎ (2 ≤ g) → r ≡ no_id → Known f a g b r

-- the branches of f and g at level l
pub record Halved (D : Nodes) (l f g : ℕ) (f-low f-high g-low g-high : ℕ) : Type 0 where
  pub f_low_is : f-low ≡ branch D l false f
  pub f_high_is : f-high ≡ branch D l true f
  pub g_low_is : g-low ≡ branch D l false g
  pub g_high_is : g-high ≡ branch D l true g

-- what the AND of f and g, as a function of the inputs from level l on, does: it makes the id r, or there are too few records
pub record Conjoined (N R l : ℕ) (D E : Nodes) (f : ℕ) (a : Bool) (g : ℕ) (b : Bool) (r : ℕ) : Type 0 where
  pub table : r ≢ no_id → Table N R E
  pub made : r ≢ no_id → Made N l (conjunction D l f a g b) D E r
  pub full : r ≡ no_id → Overfull N R l (conjunction D l f a g b) D
