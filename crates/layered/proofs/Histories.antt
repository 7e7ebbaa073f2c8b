-- Lists of words against history numbers: each history of t words has its number below K ^ t, and outputs go on from there.
use mathlib.Core.Path.{◌≡◌, refl, sym, ap, ap₂, ◌∙◌, subst}
use mathlib.Core.List.{List, [], ◌∷◌, ◌++◌, append-nil, append_assoc}
use Prim.Native.Nat.{ℕ, zero, suc, ◌+◌, ◌*◌, ◌/◌, ◌%◌, ◌^◌, ◌<◌}
use native.Mathlib.Nat.{le_refl, mod-lt, add-zero, mul-one, zero-mul, add-mul, mul_comm, mul_assoc, pow-zero, pow-suc, div-one, div-div-eq-div-mul}
use native.Mathlib.Numerals.{add-one}
use native.Mathlib.Omega.{arith}
use lib.Arith.{digits_div, digits_mod}
use lib.ListN.{length, get_or, take, drop, replicate, length-append, get_or-append, replicate-append-replicate}
use lib.Seq.{get_or_at, take_at}
use Rattle.layered.specs.States.{Words, none, more, outputs}
use Rattle.layered.specs.Histories.{history_words, history_number}
use Rattle.layered.proofs.States.{by_words, digit_below, empty_below}
use Rattle.layered.proofs.Feeding.{words_length, words_append}

-- ---- numbers

pub numbered_append : (K h : ℕ) (c d : List ℕ) → history_number K h (c ++ d) ≡ history_number K (history_number K h c) d
unfolding history_number
numbered_append K h [] d = refl
numbered_append K h (w ∷ c) d = numbered_append K (h * K + w) c d

numbered_below : {K k : ℕ} {c : List ℕ} (t h : ℕ) → h < K ^ t → Words K k c → history_number K h c < K ^ (t + k)
unfolding history_number
numbered_below {K} t h l none = subst (λ r. h < K ^ r) (omega arith) l
numbered_below {K} t h l (more {k = k} {w = w} {c = c} b W) =
    let p : suc t + k ≡ t + suc k = omega arith in
    subst (λ r. history_number K (h * K + w) c < K ^ r) p (numbered_below (suc t) (h * K + w) (digit_below t l b) W)

-- of a whole history
pub history_below : {K k : ℕ} {c : List ℕ} → Words K k c → history_number K 0 c < K ^ k
history_below {K} {k} {c} W = subst (λ r. history_number K 0 c < K ^ r) (omega arith) (numbered_below 0 0 (empty_below K) W)

-- ---- words

-- the words of a history with one word more
pub history_more : (K t h w : ℕ) → w < K → history_words K (suc t) (h * K + w) ≡ history_words K t h ++ (w ∷ [])
unfolding history_words
history_more K t h w l = ap₂ (λ q r. history_words K t q ++ (r ∷ [])) (digits_div h l) (digits_mod h l)

-- each number below K ^ t is the number of its words
pub number_words : (K t h : ℕ) → h < K ^ t → Words K t (history_words K t h) × (history_number K 0 (history_words K t h) ≡ h)
unfolding history_number history_words
number_words K t h l = by_words (λ k g. Words K k (history_words K k g) × (history_number K 0 (history_words K k g) ≡ g)) (none, refl) one t h (le_refl t) l
  where
    one : (k g w : ℕ) → k < t → g < K ^ k → w < K → Words K k (history_words K k g) × (history_number K 0 (history_words K k g) ≡ g)
        → Words K (suc k) (history_words K (suc k) (g * K + w)) × (history_number K 0 (history_words K (suc k) (g * K + w)) ≡ g * K + w)
    one k g w b l m (W, e) =
        let c : List ℕ = history_words K k g in
        rw (digits_div g m, digits_mod g m) (
          subst (λ r. Words K r (c ++ (w ∷ []))) (omega arith) (words_append W (more m none)),
          numbered_append K 0 c (w ∷ []) ∙ ap (λ i. i * K + w) e,
        )

-- the words of any number are words, also of one that is no history's
pub history-words : {K : ℕ} → 0 < K → (t h : ℕ) → Words K t (history_words K t h)
unfolding history_words
history-words p zero h = none
history-words {K} p (suc t) h = subst (λ r. Words K r (history_words K t (h / K) ++ (h % K ∷ []))) (omega arith) (words_append (history-words p t (h / K)) (more (mod-lt h p) none))

-- the history h of t words, and then k words more
words_follow : {K k : ℕ} {c : List ℕ} (t h : ℕ) → Words K k c → history_words K (t + k) (history_number K h c) ≡ history_words K t h ++ c
unfolding history_number
words_follow {K} t h none = ap (λ r. history_words K r h) (add-zero t) ∙ sym (append-nil (history_words K t h))
words_follow {K} t h (more {k = k} {w = w} {c = c} l W) =
    let p : t + suc k ≡ suc t + k = omega arith in
    ap (λ r. history_words K r (history_number K (h * K + w) c)) p
    ∙ words_follow (suc t) (h * K + w) W
    ∙ ap (λ s. s ++ c) (history_more K t h w l)
    ∙ append_assoc (history_words K t h) (w ∷ []) c

-- words are those of their number
pub words_number : {K k : ℕ} {c : List ℕ} → Words K k c → history_words K k (history_number K 0 c) ≡ c
unfolding history_words
words_number {K} {k} {c} W = let p : k ≡ 0 + k = omega arith in ap (λ r. history_words K r (history_number K 0 c)) p ∙ words_follow 0 0 W

-- a number goes on from what stands before it
number_after : {K k : ℕ} {c : List ℕ} (h : ℕ) → Words K k c → history_number K h c ≡ h * K ^ k + history_number K 0 c
unfolding history_number
number_after {K} h none = omega (arith, mul-one h, ap (λ x. h * x) (pow-zero K))
number_after {K} h (more {k = k} {w = w} {c = c} l W) =
    let more : h * K * K ^ k ≡ h * K ^ suc k = mul_assoc h K (K ^ k) ∙ ap (λ x. h * x) (mul_comm K (K ^ k) ∙ sym (pow-suc K k)) in
    let first : 0 * K + w ≡ w = omega (arith, zero-mul K) in
    omega (arith, number_after (h * K + w) W, add-mul (h * K) w (K ^ k), more, number_after (0 * K + w) W, ap (λ x. x * K ^ k) first)

-- the words of a history, by its first word
pub history_first : (K k w i : ℕ) → w < K → i < K ^ k → history_words K (suc k) (w * K ^ k + i) ≡ w ∷ history_words K k i
unfolding history_number
history_first K k w i l h =
    let (W, e) = number_words K k i h in
    let first : 0 * K + w ≡ w = omega (arith, zero-mul K) in
    let number : history_number K (0 * K + w) (history_words K k i) ≡ w * K ^ k + i = omega (arith, number_after (0 * K + w) W, ap (λ x. x * K ^ k) first, e) in
    ap (history_words K (suc k)) (sym number) ∙ words_number (more l W)

module _ (K : ℕ) where
  pub history_length : (t h : ℕ) → length (history_words K t h) ≡ t
  unfolding history_words
  history_length zero h = refl
  history_length (suc t) h = length-append (history_words K t (h / K)) _ ∙ add-one _ ∙ ap suc (history_length t (h / K))

  -- a history without its last word, and then without d more
  shorter : (h d : ℕ) → h / K / K ^ d ≡ h / K ^ suc d
  shorter h d = div-div-eq-div-mul h K (K ^ d) ∙ ap (λ x. h / x) (mul_comm K (K ^ d) ∙ sym (pow-suc K d))

  -- word f, with d words after it
  pub history_word : (d t h f : ℕ) → t ≡ suc (f + d) → get_or (history_words K t h) f 0 ≡ h / K ^ d % K
  unfolding history_words
  history_word zero t h f e =
      let e' : t ≡ suc f = omega arith in
      rw (e', pow-zero K, div-one h) (get_or_at (history_words K f (h / K)) (h % K) [] 0 f (history_length f (h / K)))
  history_word (suc d) t h f e =
      let e' : t ≡ suc (suc (f + d)) = omega arith in
      rw e'
      (get_or-append (history_words K (suc (f + d)) (h / K)) _ 0 f (omega (arith, history_length (suc (f + d)) (h / K)))
      ∙ history_word d (suc (f + d)) (h / K) f refl
      ∙ ap (λ x. x % K) (shorter h d))

  -- d zero words more
  pub history_zeros : 0 < K → (t h d : ℕ) → history_words K (t + d) (h * K ^ d) ≡ history_words K t h ++ replicate d 0
  history_zeros p t h zero = rw (add-zero t, pow-zero K, mul-one h) (sym (append-nil (history_words K t h)))
  history_zeros p t h (suc d) =
      let more : h * K ^ suc d ≡ h * K ^ d * K + 0 = ap (λ k. h * k) (pow-suc K d) ∙ sym (mul_assoc h (K ^ d) K) ∙ sym (add-zero (h * K ^ d * K)) in
      let zeros : ◌≡◌ {A = List ℕ} (replicate d 0 ++ (0 ∷ [])) (replicate (suc d) 0) = replicate-append-replicate d 1 0 ∙ ap (λ k. replicate k 0) (add-one d) in
      ap₂ (history_words K) (omega arith) more
      ∙ history_more K (t + d) (h * K ^ d) 0 p
      ∙ ap (λ s. s ++ (0 ∷ [])) (history_zeros p t h d)
      ∙ append_assoc (history_words K t h) (replicate d 0) (0 ∷ [])
      ∙ ap (λ s. history_words K t h ++ s) zeros

  -- the words of a longer history: those of its first t words, and d words after them
  history_split : (t d x : ℕ) → history_words K (t + d) x ≡ history_words K t (x / K ^ d) ++ history_words K d x
  unfolding history_words
  history_split t zero x = rw (add-zero t, pow-zero K, div-one x) (sym (append-nil (history_words K t x)))
  history_split t (suc d) x =
      let p : t + suc d ≡ suc (t + d) = omega arith in
      ap (λ r. history_words K r x) p
      ∙ ap (λ s. s ++ (x % K ∷ [])) (history_split t d (x / K))
      ∙ append_assoc (history_words K t (x / K / K ^ d)) (history_words K d (x / K)) (x % K ∷ [])
      ∙ ap (λ y. history_words K t y ++ history_words K (suc d) x) (shorter x d)

  -- its first t words
  pub history_front : (t d x : ℕ) → take t (history_words K (t + d) x) ≡ history_words K t (x / K ^ d)
  history_front t d x =
      ap (take t) (history_split t d x) ∙ take_at (history_words K t (x / K ^ d)) (history_words K d x) t (history_length t (x / K ^ d))

-- ---- outputs

-- what follows a history's outputs
outputs_after : (K : ℕ) (y : ℕ → ℕ → ℕ) (t h : ℕ) (c e : List ℕ) → drop (length c) (outputs K y t h (c ++ e)) ≡ outputs K y (t + length c) (history_number K h c) e
unfolding outputs history_number
outputs_after K y t h [] e = ap (λ k. outputs K y k h e) (omega arith)
outputs_after K y t h (w ∷ c) e =
    let p : suc t + length c ≡ t + suc (length c) = omega arith in
    outputs_after K y (suc t) (h * K + w) c e ∙ ap (λ k. outputs K y k (history_number K (h * K + w) c) e) p

-- after a whole history of k words
pub outputs_then : (K : ℕ) (y : ℕ → ℕ → ℕ) {k : ℕ} {c : List ℕ} (e : List ℕ) → Words K k c → drop k (outputs K y 0 0 (c ++ e)) ≡ outputs K y k (history_number K 0 c) e
outputs_then K y {k} {c} e W =
    let p : 0 + length c ≡ k = omega (arith, words_length W) in
    ap (λ i. drop i (outputs K y 0 0 (c ++ e))) (sym (words_length W)) ∙ outputs_after K y 0 0 c e ∙ ap (λ i. outputs K y i (history_number K 0 c) e) p
