-- What is proved of every target.
use Rattle.std.specs.Prelude.{◌≡◌, Bool, true, false, ◌↔◌, List, ℕ, suc, ◌+◌, ◌*◌, ◌^◌, ◌≤◌, ◌<◌}
use Rattle.layered.specs.States.{Words}
use Rattle.circuit.specs.Lists.{bit}
use Rattle.merged.specs.Merged.{Target, Merged, Proper, entries_of, seen, Matches, matches, Same, Before, Smaller, digit_of, output_choices, machine_count, first_match, most_merged, fewest_states, first_machine}
use Rattle.merged.specs.Demands.{state_after, Demand, Contradicted, Ones, pack_to, skipped}

-- ---- the machine that is written

-- G matches with one to three states, no machine of fewer states matches, and none of as many that matches comes before it
pub record Chosen (B : Target) (G : Merged) : Type 0 where
  pub proper : Proper B G
  pub few : G.states ≤ most_merged
  pub matching : Matches B G
  pub fewest : (H : Merged) → Proper B H → Matches B H → G.states ≤ H.states
  pub first : (H : Merged) → Proper B H → Matches B H → H.states ≡ G.states → Smaller B H G → ⊥

-- no machine of one to three states matches
unfoldable pub NoneMatches : Target → Type 0
NoneMatches B = (H : Merged) → Proper B H → H.states ≤ most_merged → Matches B H → ⊥

-- the test is the meaning
unfoldable pub Tested : Type 0
Tested = (B : Target) (G : Merged) → (matches B G ≡ true) ↔ Matches B G

-- the first machine is so chosen, wherever there is one
unfoldable pub FirstChosen : Type 0
FirstChosen = (B : Target) → fewest_states B ≤ most_merged → Chosen B (first_machine B)

-- and there is none exactly where no machine of one to three states matches
unfoldable pub NoneExactly : Type 0
NoneExactly = (B : Target) → (most_merged < fewest_states B) ↔ NoneMatches B

-- only one machine is so chosen
unfoldable pub Only : Type 0
Only = (B : Target) (G H : Merged) → Chosen B G → Chosen B H
    → (G.states ≡ H.states) × Same (entries_of B G.states) G.next H.next × Same (entries_of B G.states) G.out H.out

-- some history before the last frame, and a word w after it, use the next state of entry e
pub record Used (B : Target) (next : ℕ → ℕ) (e : ℕ) : Type 0 where
  pub t : ℕ
  pub h : ℕ
  pub w : ℕ
  pub frame_in : suc t < B.T
  pub history_in : h < B.K ^ t
  pub word_in : w < B.K
  pub comes : state_after B next t h * B.K + w ≡ e

-- what nothing decides is 0: an output's bit that no sequence demands, and a next state that no sequence uses before the last frame
pub record Undecided (B : Target) (G : Merged) : Type 0 where
  pub outputs : (e i : ℕ) → e < entries_of B G.states → i < B.m → (Demand B G.next (entries_of B G.states) e i true → ⊥) → bit (G.out e) i ≡ false
  pub nexts : (e : ℕ) → e < entries_of B G.states → (Used B G.next e → ⊥) → G.next e ≡ 0

-- of a target whose connected bits are among its m
unfoldable pub UndecidedZero : Type 0
UndecidedZero = (B : Target) → ((t : ℕ) → t < B.T → B.connected t < 2 ^ B.m) → (G : Merged) → Chosen B G → Undecided B G

-- two targets of equal sizes and connections that give the same outputs on every sequence have the same first machine
pub record Alike (B C : Target) : Type 0 where
  pub same_words : B.K ≡ C.K
  pub same_bits : B.m ≡ C.m
  pub same_frames : B.T ≡ C.T
  pub same_seen : (c : List ℕ) → Words B.K B.T c → seen B B.machine c ≡ seen C C.machine c
  pub same_connected : (t : ℕ) → t < B.T → B.connected t ≡ C.connected t

unfoldable pub SameMachine : Type 0
SameMachine = (B C : Target) → Alike B C → (fewest_states B ≡ fewest_states C) × (first_machine B ≡ first_machine C)

-- ---- how it is found

-- a machine matches exactly when each of its bits is what is demanded of it
unfoldable pub ByDemands : Type 0
ByDemands = (B : Target) → ((t : ℕ) → t < B.T → B.connected t < 2 ^ B.m) → (G : Merged) → Proper B G
    → Matches B G ↔ ((e i : ℕ) (v : Bool) → i < B.m → Demand B G.next (entries_of B G.states) e i v → bit (G.out e) i ≡ v)

-- numbers are tables of next states, in dictionary order; up to `skipped` the first p digits stay the same
pub record Numbered (k L : ℕ) : Type 0 where
  pub digits_below : (c e : ℕ) → digit_of k L c e < k
  pub pack_below : (f : ℕ → ℕ) → ((e : ℕ) → e < L → f e < k) → pack_to k f L < k ^ L
  pub digits_packed : (f : ℕ → ℕ) → ((e : ℕ) → e < L → f e < k) → Same L (digit_of k L (pack_to k f L)) f
  pub ordered : (f g : ℕ → ℕ) → ((e : ℕ) → e < L → f e < k) → ((e : ℕ) → e < L → g e < k) → Before L f g → pack_to k f L < pack_to k g L
  pub skips : (c d p : ℕ) → p ≤ L → c ≤ d → d < skipped k L c p → Same p (digit_of k L c) (digit_of k L d)
  pub ahead : (c p : ℕ) → c < skipped k L c p

unfoldable pub InOrder : Type 0
InOrder = (k L : ℕ) → 0 < k → Numbered k L

-- what a search in order has: all next states before the number c are refuted, and those of c, with the bits demanded 1, are not; these make the first
-- machine of k states
unfoldable pub FirstFound : Type 0
FirstFound = (B : Target) → ((t : ℕ) → t < B.T → B.connected t < 2 ^ B.m) → (k c : ℕ) (ones : ℕ → ℕ) → 0 < k → c < k ^ entries_of B k
    → ((d : ℕ) → d < c → Contradicted B (digit_of k (entries_of B k) d) (entries_of B k))
    → Ones B (digit_of k (entries_of B k) c) (entries_of B k) ones → (Contradicted B (digit_of k (entries_of B k) c) (entries_of B k) → ⊥)
    → first_match B k ≡ c * output_choices B k + pack_to (2 ^ B.m) ones (entries_of B k)

-- and where all next states are refuted, no machine of k states matches
unfoldable pub NoneFound : Type 0
NoneFound = (B : Target) → (k : ℕ) → 0 < k → ((d : ℕ) → d < k ^ entries_of B k → Contradicted B (digit_of k (entries_of B k) d) (entries_of B k))
    → first_match B k ≡ machine_count B k
