-- Laws of the definitions: arrays that are filled from the front, values and output words. Assumes nothing.
use mathlib.Core.Path.{◌≡◌, refl, sym, ap, ap₂, ◌∙◌}
use mathlib.Core.Bool.{Bool, true, false, ◌&&◌, cond}
use mathlib.Core.List.{List, [], ◌∷◌, ◌++◌}
use Prim.Native.Nat.{ℕ, zero, suc, ◌+◌, ◌*◌, ◌-◌, ◌/◌, ◌^◌, ◌≤◌, ◌<◌}
use native.Mathlib.Nat.{add-zero, mul-suc, mul-le-mul_left, lt_of_lt_of_le, pow-suc}
use native.Mathlib.Numerals.{add-one}
use native.Mathlib.Omega.{arith}
use lib.ListN.{length, get_or, take, drop, set, length-append}
use lib.Seq.{take-suc, take-suc-set, get_or-take, drop-cons, take-take, take-nil}
use lib.Pow.{pow_mono}
use lib.Dec.{lit<}
use Rattle.sizes.specs.Sizes.{inputs, outputs, frames}
use Rattle.circuit.specs.Lists.{grown, packed}
use Rattle.circuit.specs.Circuit.{gates, lefts_at, rights_at, all_inputs, all_outputs, gate_signal, output_signal, input_values, literal_value, gate_value, signal_values, output_word}
use Rattle.circuit.specs.Limits.{most_signals}
use Rattle.circuit.specs.WellFormed.{CircuitHeaded, HeadOf, LegalGates}
use Rattle.circuit.specs.declared.Head.{Head}
use Rattle.circuit.proofs.Literals.{operand_before}

-- ---- `grown`: an array that is filled from the front

module _ {A : Type 0} (start : List A) (next : List A → ℕ → A) where
  pub length_grown : (k : ℕ) → length (grown start next k) ≡ length start + k
  unfolding grown
  length_grown zero = omega arith
  length_grown (suc k) = simp length-append (omega (arith, length_grown k))

  -- the first i elements of v are what is grown in k steps, and the next one is stored
  pub fill_grown : (v : List A) (i k : ℕ) (x : A) → i < length v → take i v ≡ grown start next k → x ≡ next (grown start next k) k
      → (j k' : ℕ) → j ≡ i + 1 → k' ≡ k + 1 → take j (set v i x) ≡ grown start next k'
  unfolding grown
  fill_grown v i k x h e q j k' ej ek =
      rw (ej, ek, add-one i, add-one k, take-suc-set v i x h) (ap₂ (λ (l : List A) (a : A). l ++ (a ∷ [])) e q)

-- what is held of the signals in an array v: at first that of the constant and the inputs, and at last that of all
module _ {A : Type 0} where
  pub signals_none : (f : ℕ → ℕ → List A) (next : List A → ℕ → A) (b : List ℕ) (v : List A) (n count base : ℕ) → n ≡ inputs b → count ≡ all_inputs b → base ≡ 1 + all_inputs b
      → take (1 + count) v ≡ f n count → take (base + 0) v ≡ grown (f (inputs b) (all_inputs b)) next 0
  unfolding grown
  signals_none f next b v n count base en ec eb h =
      let i : base + 0 ≡ 1 + count = omega arith in
      rw (i, h, en, ec)

  pub signals_all : (f : ℕ → List A) (b : List ℕ) (v : List A) (base g : ℕ) → base ≡ 1 + all_inputs b → g ≡ gates b → take (base + g) v ≡ f g
      → take (gate_signal b (gates b)) v ≡ f (gates b)
  unfolding gate_signal
  signals_all f b v base g eb eg h = rw (← eb, ← eg) h

-- there is room for every signal
pub signals_fit : (b : List ℕ) → CircuitHeaded b → gate_signal b (gates b) ≤ most_signals
unfolding gate_signal
signals_fit b h = omega arith

-- ---- words of bits

packed_lt : (l : List Bool) → packed l < 2 ^ length l
unfolding packed
packed_lt [] = lit< tt
packed_lt (true ∷ l) = rw (pow-suc 2 (length l)) (omega (arith, packed_lt l))
packed_lt (false ∷ l) = rw (pow-suc 2 (length l)) (omega (arith, packed_lt l))

pub packed_below : (l : List Bool) (k : ℕ) → length l ≤ k → packed l < 2 ^ k
packed_below l k h = lt_of_lt_of_le (packed_lt l) (pow_mono h)

-- one more digit, in front
pub packed_more : (v : List Bool) (i i' c c' w d : ℕ) → i < length v → i' ≡ i + 1 → c' ≡ c + 1
    → w ≡ packed (take c (drop i' v)) → d ≡ cond (get_or v i false) 1 0 → 2 * w + d ≡ packed (take c' (drop i v))
unfolding packed
packed_more v i i' c c' w d h ei ec ew ed =
    rw (ec, add-one c, drop-cons v i false h)
    (let q : w ≡ packed (take c (drop (suc i) v)) = rw (ei, add-one i) at ew in omega arith)

-- ---- values

literal_take : (v : List Bool) (n l : ℕ) → l / 2 < n → literal_value (take n v) l ≡ literal_value v l
unfolding literal_value
literal_take v n l h = rw (get_or-take n v (l / 2) false h)

-- a list in which the inputs stand on a sequence, and each of the first k gates has the value that its literals give, has the values of these signals
pub values_grow : (b words : List ℕ) (v : List Bool) → LegalGates b → gate_signal b (gates b) ≤ length v → take (1 + all_inputs b) v ≡ input_values words (inputs b) (all_inputs b)
    → (k : ℕ) → k ≤ gates b → ((g : ℕ) → g < k → get_or v (gate_signal b g) false ≡ gate_value b v g) → take (gate_signal b k) v ≡ signal_values b words k
unfolding signal_values grown gate_value gate_signal
values_grow b words v L room I zero h e = rw (add-zero (1 + all_inputs b)) I
values_grow b words v L room I (suc k) h e =
    let n = 1 + all_inputs b + k in
    let next : 1 + all_inputs b + suc k ≡ suc n = omega arith in
    let before = values_grow b words v L room I k (omega arith) (λ g l. e g (omega arith)) in
    ap (λ i. take i v) next ∙ take-suc v n false (omega arith)
    ∙ ap₂ (λ (s : List Bool) (x : Bool). s ++ (x ∷ [])) before
    (e k (omega arith)
    ∙ sym (ap₂ ◌&&◌ (literal_take v n _ (operand_before b (lefts_at b) k n (L.left k h) refl)) (literal_take v n _ (operand_before b (rights_at b) k n (L.right k h) refl)))
    ∙ ap (λ s. gate_value b s k) before)

-- ---- output words

module _ {A : Type 0} where
  -- a part of the first n elements is that part of the whole
  window : (v : List A) (n at m : ℕ) → at + m ≤ n → take m (drop at (take n v)) ≡ take m (drop at v)
  window v n zero m h = take-take m n v (omega arith)
  window [] n (suc at) m h = rw (take-nil n) refl
  window (x ∷ v) zero (suc at) m h = absurd (omega arith)
  window (x ∷ v) (suc n) (suc at) m h = window v n at m (omega arith)

module _ (b : List ℕ) where
  pub output_at_lem : (base g total q : ℕ) → base ≡ 1 + all_inputs b → g ≡ gates b → total ≡ all_outputs b → base + (g - total) + q ≡ output_signal b q
  unfolding output_signal gate_signal
  output_at_lem base g total q eb eg et = omega arith

  pub output_in : (q : ℕ) → all_outputs b ≤ gates b → q < all_outputs b → output_signal b q < gate_signal b (gates b)
  unfolding output_signal gate_signal
  output_in q h l = omega arith

  pub output_room : (t : ℕ) → all_outputs b ≤ gates b → t < frames b → output_signal b (outputs b * t) + outputs b ≤ gate_signal b (gates b)
  unfolding output_signal gate_signal all_outputs
  output_room t h l = omega (arith, mul-suc (outputs b) t, mul-le-mul_left (outputs b) l)

  word_is : (words : List ℕ) (v : List Bool) (m at t : ℕ) → take (gate_signal b (gates b)) v ≡ signal_values b words (gates b) → m ≡ outputs b
      → at ≡ output_signal b (outputs b * t) → at + m ≤ gate_signal b (gates b) → packed (take m (drop at v)) ≡ output_word b words t
  unfolding output_word
  word_is words v m at t e em ea h = rw (← e, ← ea, ← em, window v (gate_signal b (gates b)) at m h)

-- the signal of the first output of frame t, from 0, as the code has it
abbrev pub first_output : Head → (t : ℕ) → ℕ
first_output head t = head.base + (head.gates - head.total) + head.outputs * t

module _ (b : List ℕ) (head : Head) (H : CircuitHeaded b) (O : HeadOf b head) where
  first_is : (t : ℕ) → first_output head t ≡ output_signal b (outputs b * t)
  first_is t = rw O.outputs_is (output_at_lem b head.base head.gates head.total (outputs b * t) O.base_is O.gates_is O.total_is)

  -- the outputs of a frame are signals
  are_signals : (t : ℕ) → t < frames b → first_output head t + head.outputs ≤ gate_signal b (gates b)
  are_signals t h = omega (arith, first_is t, O.outputs_is, output_room b t H.outputs_to h)

  -- the output word of frame t, where v begins with the values of all signals
  pub frame_word : (words : List ℕ) (v : List Bool) (t : ℕ) → t < frames b → take (gate_signal b (gates b)) v ≡ signal_values b words (gates b)
      → packed (take head.outputs (drop (first_output head t) v)) ≡ output_word b words t
  frame_word words v t h e = word_is b words v head.outputs (first_output head t) t e O.outputs_is (first_is t) (are_signals t h)
