-- The statement about classes the other way round, refuted on named circuits: `silent` is the first two frames of `delayed`, whose third output is its
-- first input. Both histories of one word come to one state of the shorter's table and to two of the longer's.
use mathlib.Core.Path.{◌≡◌, refl}
use mathlib.Core.List.{List, [], ◌∷◌}
use Prim.Native.Nat.{ℕ, zero, suc, ◌≤◌, ◌<◌}
use native.Mathlib.Omega.{arith}
use lib.Dec.{lit<, lit≤}
use lib.ListN.{take}
use Rattle.words.specs.Words.{word_bytes}
use Rattle.layered.specs.States.{Words, none, more}
use Rattle.circuit.specs.Examples.{silent, delayed}
use Rattle.circuit.specs.Circuit.{connected_outputs, output_words}
use Rattle.folded.specs.Theorems.{state_of, Folding}
use Rattle.folded.proofs.Wrong.{given, next_output_alone, silent_same}
use Rattle.prefix.specs.FirstFrames.{FirstFrames}

connected_alike : (k : ℕ) → k < 2 → connected_outputs (word_bytes silent) k ≡ connected_outputs (word_bytes delayed) k
unfolding given connected_outputs silent delayed
connected_alike zero l = refl
connected_alike (suc zero) l = refl
connected_alike (suc (suc k)) l = absurd (omega arith)

given_alike : (c : List ℕ) → Words 2 3 c → output_words (word_bytes silent) (take 2 c) ≡ take 2 (output_words (word_bytes delayed) c)
unfolding given silent delayed
given_alike c (more l (more k (more j none))) = refl

pub silent_first : FirstFrames (word_bytes delayed) (word_bytes silent)
unfolding given silent delayed
silent_first = record {
  same_inputs = refl;
  same_outputs = refl;
  no_longer = lit≤ tt;
  same_connected = connected_alike;
  same_words = given_alike;
}

pub other_way : (t s : List ℕ) → Folding 2 1 3 (word_bytes delayed) t → Folding 2 1 2 (word_bytes silent) s
    → ¬ ((k : ℕ) (c d : List ℕ) → k ≤ 2 → Words 2 k c → Words 2 k d → state_of s c ≡ state_of s d → state_of t c ≡ state_of t d)
other_way t s F G R = next_output_alone t (R 1 (0 ∷ []) (1 ∷ []) (lit≤ tt) (more (lit< tt) none) (more (lit< tt) none) (silent_same s G)) F
