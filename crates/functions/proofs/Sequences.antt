-- Sequences of words as lists of input bits.
use mathlib.Core.Path.{◌≡◌, refl, sym, ap, ap₂, ◌∙◌, subst}
use mathlib.Core.Bool.{Bool, false}
use mathlib.Core.List.{List, [], ◌∷◌, ◌++◌, append-nil, append_assoc}
use Prim.Native.Nat.{ℕ, zero, suc, ◌+◌, ◌*◌, ◌/◌, ◌%◌, ◌^◌, ◌<◌}
use native.Mathlib.Nat.{mul-zero, mul-suc, div-eq_of_lt, mod-eq_of_lt, add-div_left, add-mod_left}
use native.Mathlib.Numerals.{one-add, add-one}
use native.Mathlib.Omega.{arith}
use lib.ListN.{length, get_or, take, drop, replicate, length-append, length-drop, take-append-drop, replicate-append-replicate}
use lib.Seq.{length-take-le}
use Rattle.layered.specs.States.{Words, none, more}
use Rattle.layered.specs.Histories.{history_words}
use Rattle.circuit.specs.Lists.{grown, listed, bit}
use Rattle.circuit.proofs.Bits.{bit_zero, bit_suc}
use Rattle.circuit.proofs.Lists.{listed_at, listed_cong, listed_add}
use Rattle.diagrams.specs.Frames.{word_bits, history_bits}
use Rattle.diagrams.proofs.Frames.{word_length, word_of}

-- the bits of the words c, n to a word
unfoldable pub bits_of : (n : ℕ) → List ℕ → List Bool
bits_of n [] = []
bits_of n (w ∷ c) = word_bits n w ++ bits_of n c

-- ---- as the circuit reads them

word_listed : (n w : ℕ) → listed [] (bit w) n ≡ word_bits n w
unfolding grown word_bits
word_listed zero w = refl
word_listed (suc n) w =
    ap (listed [] (bit w)) (sym (one-add n)) ∙ listed_add (bit w) 1 n
    ∙ ap₂ (λ (v : Bool) (l : List Bool). v ∷ l) (bit_zero w)
    (listed_cong _ _ n (λ j _. ap (bit w) (one-add j) ∙ bit_suc w j) ∙ word_listed n (w / 2))

pub words_listed : (n : ℕ) → 0 < n → (c : List ℕ) (k : ℕ) → length c ≡ k → listed [] (λ i. bit (get_or c (i / n) 0) (i % n)) (n * k) ≡ bits_of n c
unfolding grown bits_of
words_listed n p [] zero e = ap (listed [] _) (mul-zero n)
words_listed n p [] (suc k) e = absurd (omega arith)
words_listed n p (w ∷ c) zero e = absurd (omega arith)
words_listed n p (w ∷ c) (suc k) e =
    let f : ℕ → Bool = λ i. bit (get_or (w ∷ c) (i / n) 0) (i % n) in
    let size : n * suc k ≡ n + n * k = omega (arith, mul-suc n k) in
    ap (listed [] f) size ∙ listed_add f n (n * k)
    ∙ ap₂ (λ (l r : List Bool). l ++ r)
    (listed_cong f (bit w) n (λ i l. ap₂ (λ q r. bit (get_or (w ∷ c) q 0) r) (div-eq_of_lt l) (mod-eq_of_lt l)) ∙ word_listed n w)
    (listed_cong _ _ (n * k) (λ j _. ap₂ (λ q r. bit (get_or (w ∷ c) q 0) r) (add-div_left j p ∙ add-one (j / n)) (add-mod_left n j)) ∙ words_listed n p c k (omega arith))

-- how many there are, and each
pub bits_length : (n : ℕ) (c : List ℕ) → length (bits_of n c) ≡ n * length c
unfolding bits_of
bits_length n [] = sym (mul-zero n)
bits_length n (w ∷ c) = length-append (word_bits n w) (bits_of n c) ∙ omega (arith, word_length n w, bits_length n c, mul-suc n (length c))

pub bits_at : (n : ℕ) → 0 < n → (c : List ℕ) (i : ℕ) → i < n * length c → get_or (bits_of n c) i false ≡ bit (get_or c (i / n) 0) (i % n)
bits_at n p c i h = ap (λ l. get_or l i false) (sym (words_listed n p c (length c) refl)) ∙ listed_at _ false (n * length c) i h

-- ---- parts, zeros and histories

module _ (n : ℕ) where
  pub bits_append : (c d : List ℕ) → bits_of n (c ++ d) ≡ bits_of n c ++ bits_of n d
  unfolding bits_of
  bits_append [] d = refl
  bits_append (w ∷ c) d = ap (λ l. word_bits n w ++ l) (bits_append c d) ∙ sym (append_assoc (word_bits n w) (bits_of n c) (bits_of n d))

  pub bits_history : (t h : ℕ) → bits_of n (history_words (2 ^ n) t h) ≡ history_bits n t h
  unfolding bits_of history_words history_bits
  bits_history zero h = refl
  bits_history (suc t) h = bits_append (history_words (2 ^ n) t (h / 2 ^ n)) _ ∙ ap₂ (λ (l r : List Bool). l ++ r) (bits_history t (h / 2 ^ n)) (append-nil (word_bits n (h % 2 ^ n)))

zero_word : (n : ℕ) → word_bits n 0 ≡ replicate n false
unfolding word_bits
zero_word zero = refl
zero_word (suc n) = ap (λ l. false ∷ l) (zero_word n)

pub bits_zeros : (n k : ℕ) → bits_of n (replicate k 0) ≡ replicate (n * k) false
unfolding bits_of
bits_zeros n zero = ap (λ k. replicate k false) (sym (mul-zero n))
bits_zeros n (suc k) =
    let size : n + n * k ≡ n * suc k = omega (arith, mul-suc n k) in
    ap₂ (λ (l r : List Bool). l ++ r) (zero_word n) (bits_zeros n k) ∙ replicate-append-replicate n (n * k) false ∙ ap (λ k. replicate k false) size

-- ---- each list of n * k bits is that of k words

pub words_of : (n k : ℕ) (vs : List Bool) → length vs ≡ n * k → (c : List ℕ) × Words (2 ^ n) k c × (bits_of n c ≡ vs)
unfolding bits_of
words_of n zero [] e = ([], none, refl)
words_of n zero (v ∷ vs) e = absurd (omega (arith, mul-zero n))
words_of n (suc k) vs e = go (word_of (take n vs)) (words_of n k (drop n vs) (omega (arith, length-drop n vs, mul-suc n k)))
  where
    long : length (take n vs) ≡ n
    long = length-take-le n vs (omega (arith, mul-suc n k))

    go : (w : ℕ) × (w < 2 ^ length (take n vs)) × (word_bits (length (take n vs)) w ≡ take n vs) → (c : List ℕ) × Words (2 ^ n) k c × (bits_of n c ≡ drop n vs)
        → (c : List ℕ) × Words (2 ^ n) (suc k) c × (bits_of n c ≡ vs)
    go (w, l, q) (c, W, r) =
        (w ∷ c, more (subst (λ i. w < 2 ^ i) long l) W, ap₂ (λ (l r : List Bool). l ++ r) (subst (λ i. word_bits i w ≡ take n vs) long q) r ∙ take-append-drop n vs)
