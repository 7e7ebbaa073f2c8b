-- Lists of words, and machines that are fed them.
use mathlib.Core.Path.{◌≡◌, refl, sym, ap, ◌∙◌, subst}
use mathlib.Core.List.{List, [], ◌∷◌, ◌++◌}
use Prim.Native.Nat.{ℕ, zero, suc, ◌+◌, ◌-◌, ◌≤◌, ◌<◌}
use native.Mathlib.Omega.{arith}
use lib.Bits.{bit_and}
use lib.ListN.{length, get_or, drop}
use Rattle.layered.specs.States.{Words, none, more}
use Rattle.layered.specs.Machines.{Machine, Legal, feed, reached, masked}

-- ---- words

pub words_length : {K k : ℕ} {c : List ℕ} → Words K k c → length c ≡ k
words_length none = refl
words_length (more l W) = ap suc (words_length W)

-- each is below K
pub words_at : {K k : ℕ} {c : List ℕ} → Words K k c → (t : ℕ) → t < k → get_or c t 0 < K
words_at none t h = absurd (omega arith)
words_at (more l W) zero h = l
words_at (more l W) (suc t) h = words_at W t (omega arith)

pub words_append : {K j k : ℕ} {c d : List ℕ} → Words K j c → Words K k d → Words K (j + k) (c ++ d)
words_append {K} {k = k} {d = d} none U = subst (λ r. Words K r d) (omega arith) U
words_append {K} {k = k} {d = d} (more {k = i} {w = w} {c = c} l W) U = subst (λ r. Words K r (w ∷ (c ++ d))) (omega arith) (more l (words_append W U))

-- a history of k words and the rest of T
pub words_whole : {K k T : ℕ} {c e : List ℕ} → k ≤ T → Words K k c → Words K (T - k) e → Words K T (c ++ e)
words_whole {K} {k} {T} {c} {e} b W U = let p : k + (T - k) ≡ T = omega arith in subst (λ r. Words K r (c ++ e)) p (words_append W U)

-- k words, each below K, are a sequence
pub sequence : (K k : ℕ) (c : List ℕ) → length c ≡ k → ((t : ℕ) → t < k → get_or c t 0 < K) → Words K k c
sequence K zero [] l f = none
sequence K zero (w ∷ c) l f = absurd (omega arith)
sequence K (suc k) [] l f = absurd (omega arith)
sequence K (suc k) (w ∷ c) l f = more (f 0 (omega arith)) (sequence K k c (omega arith) (λ t h. f (suc t) (omega arith)))

-- ---- a machine fed a history and then more words

module _ (M : Machine) where
  -- each word yields one output
  pub feed_length : (t s : ℕ) (c : List ℕ) → length (feed M t s c) ≡ length c
  unfolding feed
  feed_length t s [] = refl
  feed_length t s (w ∷ c) = ap suc (feed_length (suc t) (M.next t s w) c)

  pub reached_append : (t s : ℕ) (c e : List ℕ) → reached M t s (c ++ e) ≡ reached M (t + length c) (reached M t s c) e
  unfolding reached
  reached_append t s [] e = ap (λ k. reached M k s e) (omega arith)
  reached_append t s (w ∷ c) e =
      let p : suc t + length c ≡ t + suc (length c) = omega arith in
      reached_append (suc t) (M.next t s w) c e ∙ ap (λ k. reached M k (reached M (suc t) (M.next t s w) c) e) p

  feed_after : (t s : ℕ) (c e : List ℕ) → drop (length c) (feed M t s (c ++ e)) ≡ feed M (t + length c) (reached M t s c) e
  unfolding reached feed
  feed_after t s [] e = ap (λ k. feed M k s e) (omega arith)
  feed_after t s (w ∷ c) e =
      let p : suc t + length c ≡ t + suc (length c) = omega arith in
      feed_after (suc t) (M.next t s w) c e ∙ ap (λ k. feed M k (reached M (suc t) (M.next t s w) c) e) p

  -- after a whole history of k words
  pub feed_then : {K k : ℕ} {c : List ℕ} (s : ℕ) (e : List ℕ) → Words K k c → drop k (feed M 0 s (c ++ e)) ≡ feed M k (reached M 0 s c) e
  feed_then {k = k} {c = c} s e W =
      let p : 0 + length c ≡ k = omega (arith, words_length W) in
      ap (λ i. drop i (feed M 0 s (c ++ e))) (sym (words_length W)) ∙ feed_after 0 s c e ∙ ap (λ i. feed M i (reached M 0 s c) e) p

  -- within the layer
  pub reached_below : {K m T r : ℕ} {c : List ℕ} → Legal K m T M → (t s : ℕ) → t + r ≤ T → s < M.states t → Words K r c → reached M t s c < M.states (t + r)
  unfolding reached
  reached_below L t s b l none = subst (λ k. s < M.states k) (omega arith) l
  reached_below L t s b l (more {k = r} {w = w} {c = c} k W) =
      let p : suc t + r ≡ t + suc r = omega arith in
      subst (λ k. reached M (suc t) (M.next t s w) c < M.states k) p (reached_below L (suc t) _ (omega arith) (L.next_is t s w (omega arith) l k) W)

-- what a masked machine gives in each frame
pub masked_word : (C : ℕ → ℕ) (M : Machine) (t s : ℕ) (c : List ℕ) (k : ℕ) → k < length c → get_or (feed (masked C M) t s c) k 0 ≡ bit_and (get_or (feed M t s c) k 0) (C (t + k))
unfolding feed
masked_word C M t s [] k h = absurd (omega arith)
masked_word C M t s (w ∷ c) zero h = ap (λ i. bit_and (M.out t s w) (C i)) (omega arith)
masked_word C M t s (w ∷ c) (suc k) h =
    let p : suc t + k ≡ t + suc k = omega arith in
    masked_word C M (suc t) (M.next t s w) c k (omega arith) ∙ ap (λ i. bit_and (get_or (feed M (suc t) (M.next t s w) c) k 0) (C i)) p
