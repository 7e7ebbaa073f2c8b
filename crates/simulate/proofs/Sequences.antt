-- Sequences that stand one behind the other: their words, their numbers, and their outputs. Assumes nothing.
use mathlib.Core.Path.{◌≡◌, sym, ap, ap₂, ◌∙◌, subst}
use mathlib.Core.Bool.{Bool}
use mathlib.Core.List.{List, [], ◌∷◌, ◌++◌, append_assoc}
use Prim.Native.Nat.{ℕ, zero, suc, ◌+◌, ◌*◌, ◌-◌, ◌^◌, ◌≤◌, ◌<◌}
use native.Mathlib.Nat.{zero-mul, suc-mul, mul-le-mul, mul-le-mul_left, mul-le-mul_right}
use native.Mathlib.Numerals.{add-one}
use native.Mathlib.Decide.{dec_lt}
use native.Mathlib.Omega.{arith}
use lib.ListN.{length, get_or, take, drop, set, length-append, length-drop}
use lib.Pow.{pow_mono}
use lib.Seq.{take-suc, take_at, drop_at, get_or-take, get_or-drop, get_or-set_same, get_or-set_other, length-take-le}
use Rattle.sizes.specs.Limits.{most_frames, most_bits}
use Rattle.sizes.specs.Sizes.{inputs, frames}
use Rattle.sizes.specs.Sized.{Fed}
use Rattle.layered.specs.Search.{join}
use Rattle.layered.specs.States.{Words}
use Rattle.layered.specs.Histories.{history_words, history_number}
use Rattle.layered.proofs.Rows.{pow-mul}
use Rattle.layered.proofs.Lists.{part_more, join_length, total_each}
use Rattle.layered.proofs.Feeding.{sequence as words_are}
use Rattle.layered.proofs.Histories.{numbered_append, history_below, words_number}
use Rattle.circuit.specs.Limits.{most_signals}
use Rattle.circuit.specs.Lists.{listed, packed}
use Rattle.circuit.specs.Circuit.{gates, all_outputs, gate_signal, signal_values, output_word, output_words}
use Rattle.circuit.specs.WellFormed.{CircuitHeaded, HeadOf}
use Rattle.circuit.specs.declared.Head.{Head}
use Rattle.circuit.proofs.Lists.{listed_length, listed_cong}
use Rattle.circuit.proofs.Laws.{signals_fit, first_output, frame_word}
use Rattle.lanes.specs.Limits.{lane_count}
use Rattle.lanes.specs.Lanes.{lane, sequence, Lanes, SignalLanes}
use Rattle.lanes.proofs.Laws.{whole}
use Rattle.simulate.specs.Limits.{most_sequences}
use Rattle.simulate.specs.Simulate.{sequence_at, all_output_words}

-- ---- words

-- sequence k ends before the list does
pub ends_before : (T k count : ℕ) → k < count → k * T + T ≤ count * T
ends_before T k count h = omega (arith, suc-mul k T, mul-le-mul_right {m = suc k} {n = count} T h)

pub ends_small : (T k count : ℕ) → k < count → count ≤ most_sequences → T ≤ most_frames → k * T + T ≤ most_sequences * most_frames
ends_small T k count h few l = omega (arith, ends_before T k count h, mul-le-mul few l)

-- as a part, it has T places
pub part_length : (T k : ℕ) (l : List ℕ) → k * T + T ≤ length l → length (take (k * T + T - k * T) (drop (k * T) l)) ≡ T
part_length T k l h =
    let e : k * T + T - k * T ≡ T = omega arith in
    ap (λ i. length (take i (drop (k * T) l))) e ∙ length-take-le T (drop (k * T) l) (omega (arith, length-drop (k * T) l))

-- it has T words, each below 2^n
pub fed_at : (n T count : ℕ) (words : List ℕ) → Fed n (count * T) words → (k : ℕ) → k < count → Fed n T (sequence_at T words k)
unfolding sequence_at
fed_at n T count words F k h = record {
  as_many = length-take-le T (drop (k * T) words) (omega (arith, length-drop (k * T) words, F.as_many, ends_before T k count h));
  below = λ t l.
      subst (λ w. w < 2 ^ n) (sym (get_or-take T (drop (k * T) words) t 0 l ∙ get_or-drop (k * T) words t 0))
      (F.below (k * T + t) (omega (arith, ends_before T k count h)));
}

-- as a part from `at` to `at` + T
pub part_is : (T k at : ℕ) (words : List ℕ) → at ≡ k * T → take (at + T - at) (drop at words) ≡ sequence_at T words k
unfolding sequence_at
part_is T k at words e = let l : at + T - at ≡ T = omega arith in ap₂ (λ i j. take i (drop j words)) l e

pub part_fed : (n T count : ℕ) (words part : List ℕ) → n * T ≤ most_bits → Fed n (count * T) words → (k : ℕ) → k < count → part ≡ sequence_at T words k
    → (n * length part ≤ most_bits) × Fed n (length part) part
part_fed n T count words part few F k h e =
    let f : Fed n T part = rw e (fed_at n T count words F k h) in
    rw f.as_many (few, f)

-- ---- numbers

module _ (n : ℕ) (words : List ℕ) (F : Fed n (length words) words) (fits : n * length words ≤ most_bits) where
  -- the first t words are words
  front_words : (t : ℕ) → t ≤ length words → Words (2 ^ n) t (take t words)
  front_words t h =
      words_are (2 ^ n) t (take t words) (length-take-le t words h) (λ i l. subst (λ w. w < 2 ^ n) (sym (get_or-take t words i 0 l)) (F.below i (omega arith)))

  pub number_below : (t : ℕ) → t ≤ length words → history_number (2 ^ n) 0 (take t words) < 65536
  number_below t h =
      let few : n * t ≤ 16 = omega (arith, mul-le-mul_left n h) in
      omega (arith, history_below (front_words t h), pow-mul 2 n t, pow_mono {i = n * t} {j = 16} few)

-- one word more
pub number_more : (K t : ℕ) (words : List ℕ) → t < length words → history_number K 0 (take (t + 1) words) ≡ history_number K 0 (take t words) * K + get_or words t 0
unfolding history_number
number_more K t words h = ap (λ k. history_number K 0 (take k words)) (add-one t) ∙ ap (history_number K 0) (take-suc words t 0 h) ∙ numbered_append K 0 (take t words) (get_or words t 0 ∷ [])

-- v has f 0, f 1, .. at its front
pub front_more : (v : List ℕ) (k x : ℕ) (f : ℕ → ℕ) → k < length v → ((i : ℕ) → i < k → get_or v i 0 ≡ f i) → x ≡ f k → (i : ℕ) → i < k + 1 → get_or (set v k x) i 0 ≡ f i
front_more v k x f room F X i h = go (dec_lt i k)
  where
    go : Dec (i < k) → get_or (set v k x) i 0 ≡ f i
    go (yes l) = get_or-set_other v k i x 0 (λ e. omega arith) ∙ F i l
    go (no n) =
        let e : i ≡ k = omega arith in
        rw e (get_or-set_same v k x 0 room ∙ X)

-- a sequence is that of its number
sequence_is : (n T : ℕ) (words : List ℕ) (x : ℕ) → Fed n T words → x ≡ history_number (2 ^ n) 0 words → sequence (2 ^ n) T T x ≡ words
sequence_is n T words x F e = whole (2 ^ n) T x ∙ ap (history_words (2 ^ n) T) e ∙ words_number (words_are (2 ^ n) T words F.as_many F.below)

-- ---- outputs

module _ (b : List ℕ) (head : Head) (H : CircuitHeaded b) (O : HeadOf b head) where
  -- a lane that holds the values on a sequence holds its outputs
  lane_outputs : (words : List ℕ) (v : List Bool) → take (gate_signal b (gates b)) v ≡ signal_values b words (gates b)
      → listed [] (λ t. packed (take head.outputs (drop (first_output head t) v))) (frames b) ≡ output_words b words
  unfolding output_words
  lane_outputs words v L = listed_cong _ (output_word b words) (frames b) (λ t h. frame_word b head H O words v t h L)

  -- all words of the list, by the sizes in the code
  pub fed_by : (count : ℕ) (words : List ℕ) → Fed (inputs b) (count * frames b) words → Fed head.inputs (count * head.frames) words
  fed_by count words F = rw (O.inputs_is, O.frames_is) F

  -- all outputs are signals
  pub all_fit : (T : ℕ) → T ≡ frames b → first_output head T ≤ most_signals
  unfolding all_outputs gate_signal
  all_fit T e =
      let q : head.outputs * T ≡ all_outputs b = rw (O.outputs_is, e) in
      omega (arith, O.base_is, O.gates_is, O.total_is, H.outputs_to, signals_fit b H)

  -- the outputs on sequence k, where lane k holds the values on the history of its number
  pub outputs-at : (count : ℕ) (words v r : List ℕ) (x : ℕ → ℕ) (k len : ℕ) → count ≤ lane_count → k < count → len ≡ head.frames → Fed (inputs b) (count * frames b) words
      → x k ≡ history_number (2 ^ head.inputs) 0 (sequence_at head.frames words k) → SignalLanes b head.frames x v
      → r ≡ listed [] (λ t. packed (take head.outputs (drop (first_output head t) (lane k v)))) len
      → r ≡ output_words b (sequence_at (frames b) words k)
  unfolding Lanes
  outputs-at count words v r x k len few h el F ex L er =
      let own : List ℕ = sequence_at (frames b) words k in
      let number : x k ≡ history_number (2 ^ inputs b) 0 own = ex ∙ ap₂ (λ (n T : ℕ). history_number (2 ^ n) 0 (sequence_at T words k)) O.inputs_is O.frames_is in
      let played : sequence (2 ^ inputs b) (frames b) head.frames (x k) ≡ own =
      ap (λ t. sequence (2 ^ inputs b) (frames b) t (x k)) O.frames_is ∙ sequence_is (inputs b) (frames b) own (x k) (fed_at (inputs b) (frames b) count words F k h) number in
      er
      ∙ ap (listed [] (λ t. packed (take head.outputs (drop (first_output head t) (lane k v))))) (el ∙ O.frames_is)
      ∙ lane_outputs own (lane k v) (L k (omega arith) ∙ ap (λ c. signal_values b c (gates b)) played)

-- ---- parts of equal length, one behind the other

module _ (T : ℕ) (f : ℕ → List ℕ) (each : (k : ℕ) → length (f k) ≡ T) where
  parts_length : (k : ℕ) → length (join k f) ≡ k * T
  parts_length k = join_length k f (λ _. T) (λ i h. each i) ∙ total_each k T

  -- part k
  pub part_at : (count : ℕ) (rest : List ℕ) (k : ℕ) → k < count → sequence_at T (join count f ++ rest) k ≡ f k
  unfolding join sequence_at
  part_at zero rest k h = absurd (omega arith)
  part_at (suc n) rest k h = ap (λ l. sequence_at T l k) (append_assoc (join n f) (f n) rest) ∙ go (dec_lt k n) (part_at n (f n ++ rest) k)
    where
      go : Dec (k < n) → (k < n → sequence_at T (join n f ++ (f n ++ rest)) k ≡ f k) → sequence_at T (join n f ++ (f n ++ rest)) k ≡ f k
      go (yes l) ih = ih l
      go (no l) ih =
          let e : k ≡ n = omega arith in
          rw e (ap (take T) (drop_at (join n f) (f n ++ rest) (n * T) (parts_length n)) ∙ take_at (f n) rest T (each n))

pub output_words_length : (b words : List ℕ) → length (output_words b words) ≡ frames b
unfolding output_words
output_words_length b words = listed_length (output_word b words) (frames b)

-- no outputs are written
pub nothing_written : (b words l : List ℕ) → all_output_words b 0 words ++ drop (0 * frames b) l ≡ l
unfolding all_output_words join
nothing_written b words l = ap (λ i. drop i l) (zero-mul (frames b))

-- the outputs on the first k sequences, and the rest as it was
pub outputs_length : (b words l : List ℕ) (k : ℕ) → k * frames b ≤ length l → length (all_output_words b k words ++ drop (k * frames b) l) ≡ length l
unfolding all_output_words
outputs_length b words l k h =
    let f : ℕ → List ℕ = λ i. output_words b (sequence_at (frames b) words i) in
    length-append (join k f) (drop (k * frames b) l) ∙ omega (arith, parts_length (frames b) f (λ i. output_words_length b _) k, length-drop (k * frames b) l)

-- the outputs on one sequence more are written
pub outputs_more : (b words v l r : List ℕ) (k T at end : ℕ) → T ≡ frames b → at ≡ k * T → end ≡ at + T → v ≡ all_output_words b k words ++ drop (k * frames b) l
    → r ≡ output_words b (sequence_at (frames b) words k) → take at v ++ (r ++ drop (end - at) (drop at v)) ≡ all_output_words b (k + 1) words ++ drop ((k + 1) * frames b) l
unfolding all_output_words join
outputs_more b words v l r k T at end eT ea ee ev er =
    let f : ℕ → List ℕ = λ i. output_words b (sequence_at (frames b) words i) in
    let ea' : at ≡ k * frames b = rw eT at ea in
    let last : end ≡ (k + 1) * frames b = omega (arith, suc-mul k (frames b)) in
    part_more v l r (join k f) at end (omega arith) (parts_length (frames b) f (λ i. output_words_length b _) k ∙ sym ea') (ev ∙ ap (λ i. join k f ++ drop i l) (sym ea'))
    ∙ ap (λ s. join k f ++ s ++ drop end l) er
    ∙ ap (λ i. join k f ++ f k ++ drop i l) last
    ∙ ap (λ i. join i f ++ drop ((k + 1) * frames b) l) (sym (add-one k))
