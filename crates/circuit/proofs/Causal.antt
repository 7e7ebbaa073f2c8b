-- An accepted circuit's outputs are its response's. Assumes nothing.
use mathlib.Core.Path.{◌≡◌, refl, sym, ap, ap₂, ◌∙◌, subst}
use mathlib.Core.List.{List, [], ◌∷◌, ◌++◌, append_assoc}
use Prim.Native.Nat.{ℕ, zero, suc, ◌+◌, ◌*◌, ◌-◌, ◌/◌, ◌^◌, ◌<◌}
use native.Mathlib.Nat.{mul_comm, mul-suc, mul-le-mul_left}
use native.Mathlib.Omega.{arith}
use lib.Arith.{digits_div, digits_mod}
use lib.ListN.{length, take, replicate, length-append}
use lib.Seq.{take_at}
use lib.Pow.{pow_pos}
use Rattle.sizes.specs.Sizes.{inputs, outputs, frames}
use Rattle.layered.specs.States.{Words, none, more, outputs as outputs_of}
use Rattle.layered.specs.Histories.{history_words}
use Rattle.layered.proofs.States.{some_words}
use Rattle.layered.proofs.Feeding.{words_whole}
use Rattle.layered.proofs.Histories.{history_more, history-words}
use Rattle.circuit.specs.Lists.{grown, listed, bit}
use Rattle.circuit.specs.Circuit.{all_outputs, frame_of, output_word, output_words, output_bit}
use Rattle.circuit.specs.Theorems.{response, Causal, AcceptedCausal}
use Rattle.circuit.proofs.Bits.{equal_bits}
use Rattle.circuit.proofs.Unconnected.{word_below, word_clear}
use Rattle.circuit.specs.WellFormed.{Accepted}
use Rattle.circuit.proofs.Accepted.{accepted}
use Rattle.circuit.proofs.Ahead.{none_depends}

-- ---- an output word depends on no later word

module _ (b : List ℕ) (A : Accepted b) where
  pub word_agrees : (c d : List ℕ) (t : ℕ) → t < frames b → Words (2 ^ inputs b) (frames b) c → Words (2 ^ inputs b) (frames b) d → take (suc t) c ≡ take (suc t) d
      → output_word b c t ≡ output_word b d t
  unfolding output_bit frame_of all_outputs
  word_agrees c d t h W U e = equal_bits (outputs b) (output_word b c t) (output_word b d t) (word_below b c t) (word_below b d t) at
    where
      at : (j : ℕ) → j < outputs b → bit (output_word b c t) j ≡ bit (output_word b d t) j
      at j l =
          let m : ℕ = outputs b in
          let q : ℕ = t * m + j in
          let frame : q / m ≡ t = digits_div t l in
          let inside : q < m * frames b = omega (arith, mul_comm t m, mul-suc m t, mul-le-mul_left m h) in
          rw (frame, digits_mod t l) at (none_depends b A.form.head q inside (A.causal q inside) c d W U (ap (λ f. take (suc f) c) frame ∙ e ∙ ap (λ f. take (suc f) d) (sym frame)))

-- ---- sequences

-- f t, f (t + 1), .., k of them
up_from : (f : ℕ → ℕ) (t k : ℕ) → List ℕ
up_from f t zero = []
up_from f t (suc k) = f t ∷ up_from f (suc t) k

up_from_more : (f : ℕ → ℕ) (t k : ℕ) → up_from f t (suc k) ≡ up_from f t k ++ (f (t + k) ∷ [])
unfolding up_from
up_from_more f t zero = ap (λ s. f s ∷ []) (omega arith)
up_from_more f t (suc k) =
    let p : suc t + k ≡ t + suc k = omega arith in
    ap (λ l. f t ∷ l) (up_from_more f (suc t) k ∙ ap (λ s. up_from f (suc t) k ++ (f s ∷ [])) p)

listed_up : (f : ℕ → ℕ) (k : ℕ) → listed [] f k ≡ up_from f 0 k
unfolding grown up_from
listed_up f zero = refl
listed_up f (suc k) =
    let p : k ≡ 0 + k = omega arith in
    ap₂ (λ l s. l ++ (f s ∷ [])) (listed_up f k) p ∙ sym (up_from_more f 0 k)

module _ (b : List ℕ) (A : Accepted b) where
  abbrev K : ℕ
  K = 2 ^ inputs b

  -- the response to the history x, whose words are g, is the output word on g whatever follows
  now_follows : (g s : List ℕ) (t x : ℕ) → t < frames b → history_words K (suc t) x ≡ g → length g ≡ suc t → Words K (frames b - suc t) s → response b (suc t) x ≡ output_word b (g ++ s) t
  unfolding response
  now_follows g s t x h e l W =
      let z : List ℕ = replicate (frames b - suc t) 0 in
      let i : suc t - 1 ≡ t = omega arith in
      let G : Words K (suc t) g = subst (Words K (suc t)) e (history-words (pow_pos (inputs b)) (suc t) x) in
      ap₂ (λ c t. output_word b (c ++ z) t) e i
      ∙ word_agrees b A (g ++ z) (g ++ s) t h (words_whole h G (some_words (frames b - suc t) (pow_pos (inputs b)))) (words_whole h G W) (take_at g z (suc t) l ∙ sym (take_at g s (suc t) l))

  -- after the words p of the history h, the words s give what is left of the outputs on both
  rest_follows : (p s : List ℕ) (k t h : ℕ) → length p ≡ t → t + k ≡ frames b → history_words K t h ≡ p → Words K k s
      → outputs_of K (response b) t h s ≡ up_from (output_word b (p ++ s)) t k
  unfolding outputs_of up_from
  rest_follows p [] zero t h lp e q none = refl
  rest_follows p [] (suc k) t h lp e q x8 = elim x8 [ ]
  rest_follows p (w ∷ s) zero t h lp e q x6 = elim x6 [ ]
  rest_follows p (w ∷ s) (suc k) t h lp e q (more l W) =
      let g : List ℕ = p ++ (w ∷ []) in
      let whole : g ++ s ≡ p ++ (w ∷ s) = append_assoc p (w ∷ []) s in
      let hist : history_words K (suc t) (h * K + w) ≡ g = history_more K t h w l ∙ ap (λ x. x ++ (w ∷ [])) q in
      let lg : length g ≡ suc t = length-append p (w ∷ []) ∙ omega arith in
      let left : k ≡ frames b - suc t = omega arith in
      let tail = rest_follows g s k (suc t) (h * K + w) lg (omega arith) hist W in
      ap₂ ◌∷◌ (now_follows g s t _ (omega arith) hist lg (subst (λ r. Words K r s) left W) ∙ ap (λ x. output_word b x t) whole) (tail ∙ ap (λ x. up_from (output_word b x) (suc t) k) whole)

  follows : (c : List ℕ) → Words K (frames b) c → output_words b c ≡ outputs_of K (response b) 0 0 c
  unfolding output_words history_words
  follows c W = listed_up (output_word b c) (frames b) ∙ sym (rest_follows [] c (frames b) 0 0 refl (omega arith) refl W)

-- what acceptance tells makes it causal
pub causal_of : (b : List ℕ) → Accepted b → Causal b
unfolding response
causal_of b A = record { follows = follows b A; below = λ t h. word_below b _ _; clear = λ t h l. let i : suc t - 1 ≡ t = omega arith in rw i (word_clear b A.form.head _ t l) }

pub causal : (b : List ℕ) → AcceptedCausal b
unfolding AcceptedCausal
causal b p e = causal_of b (accepted b p e)
