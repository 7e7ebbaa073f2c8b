-- The demands of a table on a candidate, collected history by history: frame by frame, in each frame in the order of numbers.
use Rattle.std.specs.Prelude.{◌≡◌, Bool, true, false, ◌⊎◌, List, ℕ, suc, ◌+◌, ◌*◌, ◌^◌, ◌≤◌, ◌<◌, length, get_or, Option, None, Some, Result, Ok, Err}
use Rattle.std.specs.Int.Bits.{bit_and}
use Rattle.circuit.specs.Lists.{bit}
use Rattle.merged.specs.Merged.{Target}
use Rattle.merged.specs.Demands.{target_after, state_after, Demand, Contradicted, Ones}
use Rattle.trial.specs.declared.Spot.{Spot}

module _ (B : Target) (next : ℕ → ℕ) (L : ℕ) where
  -- `list` has of each of L entries the bits that are demanded v by histories before h of t + 1 words, and no other bits than are demanded v
  pub record Half (v : Bool) (list : List ℕ) (t h : ℕ) : Type 0 where
    pub long : L ≤ length list
    pub small : (e : ℕ) → e < L → get_or list e 0 < 2 ^ B.m
    pub sound : (e i : ℕ) → e < L → i < B.m → bit (get_or list e 0) i ≡ true → Demand B next L e i v
    pub whole : (s g w i : ℕ) → g < B.K ^ s → w < B.K → (s < t) ⊎ ((s ≡ t) × (g * B.K + w < h)) → i < B.m
        → bit (B.connected s) i ≡ true → bit (B.machine.out s (target_after B s g) w) i ≡ v
        → bit (get_or list (state_after B next s g * B.K + w) 0) i ≡ true

  -- both halves, with no bit in both
  pub record Halves (ones zeros : List ℕ) (t h : ℕ) : Type 0 where
    pub one : Half true ones t h
    pub zero : Half false zeros t h
    pub apart : (e : ℕ) → e < L → bit_and (get_or ones e 0) (get_or zeros e 0) ≡ 0

  -- all histories of t + 1 words are collected, or one of them shows a contradiction
  pub data Collected (ones zeros : List ℕ) (t : ℕ) (r : Option ℕ) : Type 0 where
    all : r ≡ None → Halves ones zeros (suc t) 0 → Collected ones zeros t r
    clash : (h : ℕ) → r ≡ Some h → h < B.K ^ suc t → Contradicted B next L → Collected ones zeros t r

  -- all histories of all frames, or one shows a contradiction
  pub data Walked (ones zeros : List ℕ) (r : Option Spot) : Type 0 where
    all : r ≡ None → Halves ones zeros B.T 0 → Walked ones zeros r
    clash : (spot : Spot) → r ≡ Some spot → spot.frame < B.T → Contradicted B next L → Walked ones zeros r

  -- the candidate is refuted, or nothing is contradicted, and r are the bits demanded 1
  pub data Judged (r : Result (List ℕ) Spot) : Type 0 where
    refuted : (spot : Spot) → r ≡ Err spot → Contradicted B next L → Judged r
    fits : (ones : List ℕ) → r ≡ Ok ones → length ones ≡ 12 → (Contradicted B next L → ⊥) → Ones B next L (λ e. get_or ones e 0) → Judged r
