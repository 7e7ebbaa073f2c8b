-- What number 4 means, and what an accepted circuit is to the theory of layered states: its response, and that its outputs are the response's.
use Rattle.std.specs.Prelude.{ℕ, suc, ◌-◌, ◌^◌, ◌<◌, ◌≡◌, ◌↔◌, List, ◌++◌, take, replicate}
use Rattle.std.specs.Int.Bits.{bit_and}
use Rattle.verdict.specs.Judgements.{answer}
use Rattle.sizes.specs.Sizes.{inputs, outputs, frames}
use Rattle.layered.specs.States.{Words, outputs as outputs_of}
use Rattle.layered.specs.Histories.{history_words}
use Rattle.circuit.specs.Circuit.{all_outputs, connected_outputs, frame_of, output_word, output_words, output_bit, form_checked, checked}

-- ---- number 4

-- two sequences agree up to the frame of output q and differ in it (document 02, point 2)
unfoldable pub DependsOnLater : List ℕ → (q : ℕ) → Type 0
DependsOnLater b q =
    (c d : List ℕ) × Words (2 ^ inputs b) (frames b) c × Words (2 ^ inputs b) (frames b) d
    × (take (frame_of (outputs b) q) c ≡ take (frame_of (outputs b) q) d) × ¬ (output_bit b c q ≡ output_bit b d q)

-- number 4 at q, exactly when every other check passes and q is the first output for which there are two such sequences
unfoldable pub FirstAhead : List ℕ → Type 0
FirstAhead b = (q : ℕ)
    → (checked b ≡ answer 4 q) ↔ ((form_checked b ≡ answer 0 0) × (q < all_outputs b) × DependsOnLater b q × ((r : ℕ) → r < q → ¬ DependsOnLater b r))

-- circuits of valid literals, equal sizes and equal outputs on every sequence are judged alike, whatever their gates
unfoldable pub JudgedAlike : List ℕ → Type 0
JudgedAlike b = (d : List ℕ) → form_checked b ≡ answer 0 0 → form_checked d ≡ answer 0 0 → inputs d ≡ inputs b → outputs d ≡ outputs b → frames d ≡ frames b
    → ((c : List ℕ) → Words (2 ^ inputs b) (frames b) c → output_words b c ≡ output_words d c) → checked b ≡ checked d

-- ---- the response

-- the output word of frame t, from 1, on the words of the history h of t words followed by zero words
unfoldable pub response : List ℕ → (t h : ℕ) → ℕ
response b t h = output_word b (history_words (2 ^ inputs b) t h ++ replicate (frames b - t) 0) (t - 1)

-- the outputs on every sequence are the response's: no output depends on later words. All that is known of number 4 above the check.
-- And no output that is unconnected is ever set.
pub record Causal (b : List ℕ) : Type 0 where
  pub follows : (c : List ℕ) → Words (2 ^ inputs b) (frames b) c → output_words b c ≡ outputs_of (2 ^ inputs b) (response b) 0 0 c
  pub below : (t h : ℕ) → response b t h < 2 ^ outputs b
  pub clear : (t h : ℕ) → t < frames b → bit_and (response b (suc t) h) (connected_outputs b t) ≡ response b (suc t) h

-- a circuit that passes every check is causal
unfoldable pub AcceptedCausal : List ℕ → Type 0
AcceptedCausal b = (p : ℕ) → checked b ≡ answer 0 p → Causal b
