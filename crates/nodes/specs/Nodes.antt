-- What is decided at a record, and at a pair of ids.
use Rattle.std.specs.Prelude.{◌≡◌, Bool, true, false, cond, ◌⊎◌, ◌≢◌, ℕ, ◌+◌, ◌-◌, ◌≤◌, ◌<◌, eqb, ltb, Option, None, Some}
use Rattle.diagrams.specs.Diagrams.{Nodes}
use Rattle.diagrams.specs.Making.{Sought, no_id}
use Rattle.nodes.specs.declared.Node.{Node}
use Rattle.nodes.specs.declared.Pair.{Pair}
use Rattle.nodes.specs.declared.Halves.{Halves}

-- an id as a number: `no_id` where there is none
abbrev pub id_of : Option ℕ → ℕ
id_of None = no_id
id_of (Some f) = f

-- where there is an id, it is no `no_id`
abbrev pub Real : Option ℕ → Type 0
Real None = Unit
Real (Some f) = f ≢ no_id

-- the halves at level l of a pair whose records are x and y
abbrev pub halves_of : (x y : Node) (l : ℕ) → Pair → Halves
halves_of x y l p = record {
  low = record { f = cond (eqb x.level l) x.low p.f; a = p.a; g = cond (eqb y.level l) y.low p.g; b = p.b };
  high = record { f = cond (eqb x.level l) x.high p.f; a = p.a; g = cond (eqb y.level l) y.high p.g; b = p.b };
}

-- the id after i in a list of R records, round the list
abbrev pub next_id : (R i : ℕ) → ℕ
next_id R i = cond (ltb (i + 1) (R + 2)) (i + 1) 2

-- r says whether the record x is free, or has the level l and the branches p and q
pub record Stops (x : Node) (l p q : ℕ) (r : Bool) : Type 0 where
  pub yes : r ≡ true → (x.level ≡ 0) ⊎ ((x.level ≡ l) × (x.low ≡ p) × (x.high ≡ q))
  pub no : r ≡ false → (x.level ≢ 0) × (x.level ≡ l → x.low ≡ p → x.high ≡ q → ⊥)

-- x is what D has of id f
pub record Shows (D : Nodes) (f : ℕ) (x : Node) : Type 0 where
  pub level_is : x.level ≡ D.level f
  pub low_is : x.low ≡ D.low f
  pub high_is : x.high ≡ D.high f

-- the id of the record with the level l and the branches x and y, or one where it may be put; none where there is neither
pub record SoughtId (R : ℕ) (D : Nodes) (l x y : ℕ) (r : Option ℕ) : Type 0 where
  pub none_is : r ≡ None → Sought R D l x y R
  pub one_is : (id : ℕ) → r ≡ Some id → (2 ≤ id) × (id < R + 2) × Sought R D l x y (id - 2)
