-- The places of a machine's entries, counted by layer, state and word: each number below the count of all entries is one entry's place.
use mathlib.Core.Path.{◌≡◌}
use Prim.Native.Nat.{ℕ, zero, suc, ◌+◌, ◌*◌, ◌-◌, ◌/◌, ◌%◌, ◌≤◌, ◌<◌}
use native.Mathlib.Nat.{le_refl, div-lt_iff_lt-mul, div-add-mod', mod-lt}
use native.Mathlib.Decide.{dec_lt}
use native.Mathlib.Omega.{arith}
use lib.Arith.{digits_lt}
use Rattle.layered.specs.Machines.{Machine}
use Rattle.layered.specs.Search.{total}
use Rattle.layered.proofs.Lists.{total_le}

-- how many entries the layers below t have
abbrev pub before : (K : ℕ) → Machine → (t : ℕ) → ℕ
before K M t = total t (λ t. M.states t * K)

-- a layer's entries are among all
layer_within : (K T : ℕ) (M : Machine) (t : ℕ) → t < T → before K M t + M.states t * K ≤ before K M T
unfolding total
layer_within K T M t b = total_le (suc t) T (λ t. M.states t * K) b

-- an entry's place is below the count of all
pub place_below : (K T : ℕ) (M : Machine) (t s w : ℕ) → t < T → s < M.states t → w < K → before K M t + (s * K + w) < before K M T
place_below K T M t s w b l k = omega (arith, digits_lt l k, layer_within K T M t b)

-- the entry at place i
pub record Placed (K T : ℕ) (M : Machine) (i : ℕ) : Type 0 where
  pub layer : ℕ
  pub state : ℕ
  pub word : ℕ
  pub layer_is : layer < T
  pub state_is : state < M.states layer
  pub word_is : word < K
  pub place_is : before K M layer + (state * K + word) ≡ i

pub entry_at : (K T : ℕ) (M : Machine) (i : ℕ) → 0 < K → i < before K M T → Placed K T M i
unfolding total
entry_at K zero M i p h = absurd (omega arith)
entry_at K (suc T) M i p h = go (dec_lt i (before K M T)) (entry_at K T M i p)
  where
    go : Dec (i < before K M T) → (i < before K M T → Placed K T M i) → Placed K (suc T) M i
    go (yes l) f =
        let e = f l in
        record { layer = e.layer; state = e.state; word = e.word; layer_is = omega (arith, e.layer_is); state_is = e.state_is; word_is = e.word_is; place_is = e.place_is }
    go (no l) f =
        let j : ℕ = i - before K M T in
        record {
          layer = T;
          state = j / K;
          word = j % K;
          layer_is = le_refl _;
          state_is = (div-lt_iff_lt-mul p).1 (omega arith);
          word_is = mod-lt j p;
          place_is = omega (arith, div-add-mod' j K);
        }
