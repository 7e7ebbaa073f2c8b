-- One machine for all frames (document 02, Point 13: the merged level): what it is to match a table, and which of those that do is written.
use Rattle.std.specs.Prelude.{◌≡◌, Bool, ◌⊎◌, List, ℕ, suc, ◌+◌, ◌*◌, ◌-◌, ◌/◌, ◌%◌, ◌^◌, ◌<◌, ltb}
use Rattle.layered.specs.Search.{every, least, equal}
use Rattle.layered.specs.States.{Words}
use Rattle.layered.specs.Histories.{history_words}
use Rattle.layered.specs.Machines.{Machine, feed, masked}

-- What is to be matched: a layered machine of T frames, fed words below K. In frame t, from 0, those of its m output bits count that `connected t` has.
pub record Target : Type 0 where
  pub K : ℕ
  pub m : ℕ
  pub T : ℕ
  pub machine : Machine
  pub connected : (t : ℕ) → ℕ

-- A machine for all frames starts in state 0. State s has for the word w the entry s * K + w: a next state and an output.
-- What is given beyond the entries of its states does not count.
pub record Merged : Type 0 where
  pub states : ℕ
  pub next : (e : ℕ) → ℕ
  pub out : (e : ℕ) → ℕ

-- how many entries k states have
unfoldable pub entries_of : Target → (k : ℕ) → ℕ
entries_of B k = k * B.K

pub record Proper (B : Target) (G : Merged) : Type 0 where
  pub some : 0 < G.states
  pub next_is : (e : ℕ) → e < entries_of B G.states → G.next e < G.states
  pub out_is : (e : ℕ) → e < entries_of B G.states → G.out e < 2 ^ B.m

-- it is a layered machine whose layers are all alike
abbrev pub layers_of : (K : ℕ) → Merged → Machine
layers_of K G = record { states = λ t. G.states; start = 0; out = λ t s w. G.out (s * K + w); next = λ t s w. G.next (s * K + w) }

-- ---- matching

-- what a machine gives for the words c in the bits that count, the others being 0
unfoldable pub seen : Target → Machine → List ℕ → List ℕ
seen B M c = feed (masked B.connected M) 0 M.start c

-- G matches: on every sequence of T words it gives the target's outputs in the bits that count
unfoldable pub Matches : Target → Merged → Type 0
Matches B G = (c : List ℕ) → Words B.K B.T c → seen B (layers_of B.K G) c ≡ seen B B.machine c

-- the test of that, sequence by sequence
unfoldable pub matches : Target → Merged → Bool
unfolding seen
matches B G = every (B.K ^ B.T) λ h. equal (seen B (layers_of B.K G) (history_words B.K B.T h)) (seen B B.machine (history_words B.K B.T h))

-- ---- dictionary order

-- of n numbers: at the first place where they differ, f has the smaller one
pub record Before (n : ℕ) (f g : ℕ → ℕ) : Type 0 where
  pub place : ℕ
  pub inside : place < n
  pub same : (j : ℕ) → j < place → f j ≡ g j
  pub less : f place < g place

unfoldable pub Same : (n : ℕ) (f g : ℕ → ℕ) → Type 0
Same n f g = (j : ℕ) → j < n → f j ≡ g j

-- of machines with as many states: all next states first, then all outputs
unfoldable pub Smaller : Target → (G H : Merged) → Type 0
Smaller B G H =
    Before (entries_of B G.states) G.next H.next
    ⊎ (Same (entries_of B G.states) G.next H.next × Before (entries_of B G.states) G.out H.out)

-- ---- machines by their numbers, which are in dictionary order

-- digit e of a number of L digits in base k, the first highest
unfoldable pub digit_of : (k L c e : ℕ) → ℕ
digit_of k L c e = c / k ^ (L - suc e) % k

-- how many choices of outputs k states have
unfoldable pub output_choices : Target → (k : ℕ) → ℕ
unfolding entries_of
output_choices B k = (2 ^ B.m) ^ entries_of B k

-- how many machines of k states there are
unfoldable pub machine_count : Target → (k : ℕ) → ℕ
unfolding output_choices
machine_count B k = k ^ entries_of B k * output_choices B k

-- the machine of k states with the number x: its digits are all next states, then all outputs
abbrev pub numbered : Target → (k x : ℕ) → Merged
numbered B k x = record {
  states = k;
  next = digit_of k (entries_of B k) (x / output_choices B k);
  out = digit_of (2 ^ B.m) (entries_of B k) (x % output_choices B k);
}

-- ---- the machine that is written

-- the first machine of k states that matches, by its number; `machine_count`, as many as there are, where none does
unfoldable pub first_match : Target → (k : ℕ) → ℕ
unfolding matches machine_count
first_match B k = least (machine_count B k) (λ x. matches B (numbered B k x))

-- whether some machine of k states matches
unfoldable pub matched : Target → (k : ℕ) → Bool
unfolding first_match
matched B k = ltb (first_match B k) (machine_count B k)

-- the most states that are tried
abbrev pub most_merged : ℕ
most_merged = 3

-- the fewest states, of 1 to 3, of which some machine matches; 4 where none does
unfoldable pub fewest_states : Target → ℕ
unfolding matched
fewest_states B = suc (least most_merged (λ i. matched B (suc i)))

-- the first machine of so many states
abbrev pub first_machine : Target → Merged
first_machine B = numbered B (fewest_states B) (first_match B (fewest_states B))
