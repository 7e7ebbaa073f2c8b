-- Literals of inputs and matches, and bounds on them. Assumes nothing.
use mathlib.Core.Path.{◌≡◌}
use mathlib.Core.Bool.{Bool, true, false, cond}
use Prim.Native.Nat.{ℕ, ◌+◌, ◌*◌, ◌/◌, ◌%◌, ◌^◌, ◌≤◌, ◌<◌}
use native.Mathlib.Nat.{mul-le-mul, mul-le-mul_right, suc-mul, le_trans, le_of_lt}
use native.Mathlib.Omega.{arith}
use mathlib.Core.List.{List}
use lib.Dec.{lit≤}
use lib.Pow.{pow_mono}
use lib.ListN.{length, get_or}
use Rattle.circuit.specs.Lists.{bit}
use Rattle.unfolded.specs.Unfolded.{input_literal, matching}
use Rattle.circuit.proofs.Lists.{listed_length}
use Rattle.chains.specs.Chains.{match_of, edge_of}

-- frames have few inputs and few words
pub few_inputs : (t n : ℕ) → t < 16 → n ≤ 8 → t * n ≤ 128
few_inputs t n h l = le_trans (mul-le-mul (le_of_lt h) l) (lit≤ tt)

pub few_matches : (w n : ℕ) → w < 256 → n ≤ 8 → w * n ≤ 2048
few_matches w n h l = le_trans (mul-le-mul (le_of_lt h) l) (lit≤ tt)

-- an input is inverted where the bit is 0
input_is : (n t w i : ℕ) (v : Bool) → bit w i ≡ v → 2 * (1 + (t * n + i)) + cond v 0 1 ≡ input_literal n t w i
unfolding input_literal
input_is n t w i v e = rw e

pub plain_input : (n t w i : ℕ) → bit w i ≡ true → 2 * (1 + (t * n + i)) ≡ input_literal n t w i
plain_input n t w i e = omega (arith, input_is n t w i true e)

pub inverted_input : (n t w i : ℕ) → bit w i ≡ false → 2 * (1 + (t * n + i)) + 1 ≡ input_literal n t w i
inverted_input n t w i e = input_is n t w i false e

-- ---- matches and edges

-- a frame has at most 256 words
pub words_to : (n w : ℕ) → w ≡ 2 ^ n → n ≤ 8 → w ≤ 256
words_to n w e h = rw e (pow_mono {j = 8} h)

-- the match chains so far, and one more, are no more than all
pub match_room : (w words n : ℕ) → w < words → w * n + n ≤ words * n
match_room w words n h = omega (arith, suc-mul w n, mul-le-mul_right n h)

pub match_length : (n t w : ℕ) → length (matching n t w) ≡ n
unfolding matching
match_length n t w = listed_length (input_literal n t w) n

-- an edge's two literals
pub edge_is : (n at words e m : ℕ) (states : List ℕ) → words ≡ 2 ^ n → m ≡ match_of n at (e % words) → (get_or states (e / words) 0, m) ≡ edge_of n at states e
unfolding edge_of
edge_is n at words e m states ew em = rw (em, ew)
