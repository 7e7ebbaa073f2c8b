-- What a target demands of a machine's outputs, once its next states are chosen; and next states as numbers.
use Rattle.std.specs.Prelude.{◌≡◌, Bool, true, false, ◌↔◌, ℕ, zero, suc, ◌+◌, ◌*◌, ◌-◌, ◌/◌, ◌%◌, ◌^◌, ◌<◌}
use Rattle.circuit.specs.Lists.{bit}
use Rattle.merged.specs.Merged.{Target}

module _ (B : Target) where
  -- the target's state after the history h of t words
  unfoldable pub target_after : (t h : ℕ) → ℕ
  target_after zero h = B.machine.start
  target_after (suc t) h = B.machine.next t (target_after t (h / B.K)) (h % B.K)

  -- that of a machine with these next states
  unfoldable pub state_after : (next : ℕ → ℕ) (t h : ℕ) → ℕ
  state_after next zero h = 0
  state_after next (suc t) h = next (state_after next t (h / B.K) * B.K + h % B.K)

  -- the history used the next states of no other entries than those below p
  unfoldable pub Within : (next : ℕ → ℕ) (p t h : ℕ) → Type 0
  Within next p zero h = Unit {0}
  Within next p (suc t) h = Within next p t (h / B.K) × (state_after next t (h / B.K) * B.K + h % B.K < p)

  -- bit i of entry e must be v: some history, and a word w after it, come to this entry in a frame where the bit counts and is v
  pub record Demand (next : ℕ → ℕ) (p e i : ℕ) (v : Bool) : Type 0 where
    pub t : ℕ
    pub h : ℕ
    pub w : ℕ
    pub frame_in : t < B.T
    pub history_in : h < B.K ^ t
    pub word_in : w < B.K
    pub within : Within next p t h
    pub comes : state_after next t h * B.K + w ≡ e
    pub counts : bit (B.connected t) i ≡ true
    pub is : bit (B.machine.out t (target_after t h) w) i ≡ v

  -- one bit is demanded both ways, by the next states of entries below p alone
  pub record Contradicted (next : ℕ → ℕ) (p : ℕ) : Type 0 where
    pub e : ℕ
    pub i : ℕ
    pub bit_in : i < B.m
    pub one : Demand next p e i true
    pub zero : Demand next p e i false

  -- `ones` has exactly the bits that are demanded 1, of L entries
  pub record Ones (next : ℕ → ℕ) (L : ℕ) (ones : ℕ → ℕ) : Type 0 where
    pub small : (e : ℕ) → e < L → ones e < 2 ^ B.m
    pub are : (e i : ℕ) → e < L → i < B.m → (bit (ones e) i ≡ true) ↔ Demand next L e i true

-- the number of the first p digits f in base k, the first highest
unfoldable pub pack_to : (k : ℕ) (f : ℕ → ℕ) → (p : ℕ) → ℕ
pack_to k f zero = 0
pack_to k f (suc p) = pack_to k f p * k + f p

-- the first number after c whose first p of L digits are not those of c
unfoldable pub skipped : (k L c p : ℕ) → ℕ
skipped k L c p = (c / k ^ (L - p) + 1) * k ^ (L - p)
