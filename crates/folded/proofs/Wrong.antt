-- The foldings that document 01 calls wrong ("False foldings", "To the testers"), ruled out: whatever bytes they write, for a named small
-- circuit those are no folding of it. Invented counts are ruled out by `counts_determined`, and all else by `determined` (Determined).
use mathlib.Core.Path.{◌≡◌, refl, sym, ap, ◌∙◌, subst⁻¹}
use mathlib.Core.Logic.{◌≢◌}
use mathlib.Core.List.{List, [], ◌∷◌}
use Prim.Native.Nat.{ℕ, zero, suc, ◌+◌, ◌-◌, ◌^◌, ◌≤◌, ◌<◌, zero-le}
use native.Mathlib.Omega.{arith}
use lib.Dec.{lit<, lit≤}
use lib.ListN.{get_or, drop}
use Rattle.words.specs.Words.{word_at, word_bytes}
use Rattle.layered.specs.States.{Words, none, more}
use Rattle.layered.specs.Machines.{feed, Gives}
use Rattle.layered.proofs.Feeding.{reached_below}
use Rattle.circuit.specs.Lists.{grown, bit, packed}
use Rattle.circuit.specs.Examples.{parity, silent, delayed}
use Rattle.circuit.specs.Circuit.{gates, lefts_at, rights_at, literal_at, all_inputs, all_outputs, gate_signal, output_signal, unconnected, operand, input_values, literal_value, gate_value, signal_values, output_word, output_words}
use Rattle.sizes.specs.Sizes.{inputs, outputs, frames}
use Rattle.table.specs.Table.{states, machine}
use Rattle.layered.specs.Histories.{history_number}
use Rattle.folded.specs.Theorems.{state_of, Smallest, Folding}
use Rattle.folded.proofs.Checked.{passed_table}

-- ---- outputs

-- the outputs of a circuit, with all that is computed for them
unfoldable pub given : (b c : List ℕ) → List ℕ
unfolding output_words output_word output_signal signal_values gate_value literal_value operand unconnected literal_at input_values gate_signal all_inputs all_outputs gates lefts_at rights_at grown bit packed inputs outputs frames word_at word_bytes
given b c = output_words b c

parity_10 : output_words (word_bytes parity) (1 ∷ 0 ∷ []) ≡ 1 ∷ 1 ∷ []
unfolding given parity
parity_10 = refl

parity_00 : output_words (word_bytes parity) (0 ∷ 0 ∷ []) ≡ 0 ∷ 0 ∷ []
unfolding given parity
parity_00 = refl

delayed_100 : output_words (word_bytes delayed) (1 ∷ 0 ∷ 0 ∷ []) ≡ 0 ∷ 0 ∷ 1 ∷ []
unfolding given delayed
delayed_100 = refl

delayed_000 : output_words (word_bytes delayed) (0 ∷ 0 ∷ 0 ∷ []) ≡ 0 ∷ 0 ∷ 0 ∷ []
unfolding given delayed
delayed_000 = refl

silent_all : (v w : ℕ) → output_words (word_bytes silent) (v ∷ w ∷ []) ≡ 0 ∷ 0 ∷ []
unfolding given silent
silent_all v w = refl

-- ---- one word of history, and what its continuations give

-- a word below 2
bit_below : (v : ℕ) → v < 2 → Words 2 1 (v ∷ [])
bit_below v l = more l none

-- y2 after 0 and after 1 tells them apart
parity_apart : (t : List ℕ) → Folding 2 1 2 (word_bytes parity) t → state_of t (0 ∷ []) ≢ state_of t (1 ∷ [])
parity_apart t F e =
    let w : 0 < 2 = lit< tt in
    let a = (F.apart 1 (0 ∷ []) (1 ∷ []) (lit≤ tt) (bit_below 0 w) (bit_below 1 (lit< tt))).0 e (0 ∷ []) (bit_below 0 w) in
    omega (arith, ap (λ l. get_or l 0 0) (sym (ap (drop 1) parity_00) ∙ a ∙ ap (drop 1) parity_10))

-- nothing does
pub silent_same : (t : List ℕ) → Folding 2 1 2 (word_bytes silent) t → state_of t (0 ∷ []) ≡ state_of t (1 ∷ [])
silent_same t F = (F.apart 1 (0 ∷ []) (1 ∷ []) (lit≤ tt) (bit_below 0 (lit< tt)) (bit_below 1 (lit< tt))).1 same
  where
    same : (e : List ℕ) → Words 2 (2 - 1) e → drop 1 (output_words (word_bytes silent) (0 ∷ e)) ≡ drop 1 (output_words (word_bytes silent) (1 ∷ e))
    same e (more {w = w} l none) = ap (drop 1) (silent_all 0 w ∙ sym (silent_all 1 w))

-- ---- False foldings

-- Judging a state by the next output alone: y2 is 0 whatever x1 was, so the histories 0 and 1 of `delayed` get one state; y3 tells them apart.
pub next_output_alone : (t : List ℕ) → state_of t (0 ∷ []) ≡ state_of t (1 ∷ []) → ¬ Folding 2 1 3 (word_bytes delayed) t
next_output_alone t e F =
    let w : 0 < 2 = lit< tt in
    let a = (F.apart 1 (0 ∷ []) (1 ∷ []) (lit≤ tt) (bit_below 0 w) (bit_below 1 (lit< tt))).0 e (0 ∷ 0 ∷ []) (more w (more w none)) in
    omega (arith, ap (λ l. get_or l 1 0) (sym (ap (drop 1) delayed_000) ∙ a ∙ ap (drop 1) delayed_100))

-- Numbering states by discovery backwards in time: the state of x1 = 1 is not the first.
pub backwards : (t : List ℕ) → state_of t (1 ∷ []) ≡ 0 → ¬ Folding 2 1 2 (word_bytes parity) t
unfolding history_number Smallest
backwards t e F = omega (arith, F.in_order 1 (0 ∷ []) (1 ∷ []) (lit≤ tt) (bit_below 0 (lit< tt)) (bit_below 1 (lit< tt)) first second (lit< tt))
  where
    first : Smallest 2 t (0 ∷ [])
    first d W q = zero-le

    second : Smallest 2 t (1 ∷ [])
    second d (more {w = zero} l none) q = absurd (parity_apart t F q)
    second d (more {w = suc v} l none) q = omega arith

-- Giving each history its own state: nothing tells the histories 0 and 1 of `silent` apart.
pub each_history : (t : List ℕ) → state_of t (0 ∷ []) ≢ state_of t (1 ∷ []) → ¬ Folding 2 1 2 (word_bytes silent) t
each_history t n F = n (silent_same t F)

-- Merging states of different layers because their rows agree: state 0 of layer 1 of `delayed` and state 0 of layer 2 have the same row, output
-- 0 and next state 0 (`delayed_rows` in layered), so that merged into one they would leave layer 1 or layer 2 one state of its own: counts
-- 1 1 2 1 or 1 2 1 1. The histories 0 and 1, and 00 and 10, keep two states apart.
module _ (t : List ℕ) (F : Folding 2 1 3 (word_bytes delayed) t) where
  delayed_sizes : (inputs t ≡ 1) × (frames t ≡ 3)
  unfolding given delayed
  delayed_sizes = (F.same_inputs, F.same_frames)

  one_state : {k : ℕ} {c : List ℕ} → k ≤ 3 → states t k ≡ 1 → Words 2 k c → state_of t c ≡ 0
  unfolding state_of
  one_state {k} {c} h e W =
      let L = (passed_table t 0 F.legal).1.is_legal in
      let U = subst⁻¹ (λ n. Words (2 ^ n) k c) delayed_sizes.0 W in
      let l : 0 + k ≤ frames t = omega (arith, delayed_sizes.1) in
      let q : 0 + k ≡ k = omega arith in
      omega (arith, e, ap (states t) q, reached_below (machine t) L 0 0 l L.start_is U)

pub merged_layers : (t : List ℕ) → (states t 1 ≡ 1 → ¬ Folding 2 1 3 (word_bytes delayed) t) × (states t 2 ≡ 1 → ¬ Folding 2 1 3 (word_bytes delayed) t)
merged_layers t = (
  (λ e F. next_output_alone t (one_state t F (lit≤ tt) e (bit_below 0 (lit< tt)) ∙ sym (one_state t F (lit≤ tt) e (bit_below 1 (lit< tt)))) F),
  λ e F.
      let w : 0 < 2 = lit< tt in
      let W = more w (bit_below 0 w) in
      let U = more {w = 1} (lit< tt) (bit_below 0 w) in
      let a = (F.apart 2 (0 ∷ 0 ∷ []) (1 ∷ 0 ∷ []) (lit≤ tt) W U).0 (one_state t F (lit≤ tt) e W ∙ sym (one_state t F (lit≤ tt) e U)) (0 ∷ []) (bit_below 0 w) in
      omega (arith, ap (λ l. get_or l 0 0) (sym (ap (drop 2) delayed_000) ∙ a ∙ ap (drop 2) delayed_100)),
)

-- ---- To the testers

-- One table for all circuits: of two circuits with one table, each gives what the table gives.
one_table : {K m T : ℕ} (b d t : List ℕ) → Folding K m T b t → Folding K m T d t → (c : List ℕ) → Words K T c → output_words b c ≡ output_words d c
unfolding Gives
one_table b d t F G c W = sym (F.gives c W) ∙ G.gives c W

one_for_all : (t : List ℕ) → Folding 2 1 2 (word_bytes parity) t → ¬ Folding 2 1 2 (word_bytes silent) t
one_for_all t F G =
    omega (arith, ap (λ l. get_or l 0 0) (sym parity_10 ∙ one_table (word_bytes parity) (word_bytes silent) t F G (1 ∷ 0 ∷ []) (more (lit< tt) (more (lit< tt) none)) ∙ silent_all 1 0))

-- Right in frame 1 and silent later.
idle_later : (t : List ℕ) → ((k s w : ℕ) → 1 ≤ k → (machine t).out k s w ≡ 0) → ¬ Folding 2 1 2 (word_bytes parity) t
unfolding Gives feed
idle_later t z F =
    let g = F.gives (1 ∷ 0 ∷ []) (more (lit< tt) (more (lit< tt) none)) ∙ parity_10 in
    omega (arith, ap (λ l. get_or l 1 0) g, z 1 ((machine t).next 0 0 1) 0 (lit≤ tt))

-- A call that writes nothing, into an empty or a zeroed buffer: n is not there.
unwritten : (t : List ℕ) → inputs t ≡ 0 → ¬ Folding 2 1 2 (word_bytes parity) t
unfolding given parity
unwritten t e F = omega (arith, F.same_inputs)
