-- A response's folded machine, fed a history: it comes to the history's state, so its states are told apart, reached and ordered as the
-- histories are.
use mathlib.Core.Path.{◌≡◌, sym, ap, ◌∙◌}
use mathlib.Core.Logic.{◌↔◌}
use mathlib.Core.List.{List, ◌++◌}
use Prim.Native.Nat.{ℕ, suc, ◌+◌, ◌*◌, ◌-◌, ◌^◌, ◌≤◌, ◌<◌}
use native.Mathlib.Decide.{dec_lt}
use native.Mathlib.Omega.{arith}
use lib.ListN.{drop}
use Rattle.layered.specs.States.{Words, none, more, outputs, Equivalent, count, number, history}
use Rattle.layered.specs.Machines.{folded}
use Rattle.layered.proofs.States.{digit_below, empty_below, number_decides, number_below, number_order, history_is, history_least, equivalent_step}
use Rattle.layered.proofs.Machines.{number_first}
use Rattle.layered.specs.Histories.{history_words, history_number}
use Rattle.layered.specs.Machines.{reached}
use Rattle.layered.proofs.Histories.{history_below, number_words, outputs_then}
use Rattle.layered.proofs.Feeding.{words_whole}

module _ (K T : ℕ) (y : ℕ → ℕ → ℕ) where
  -- from the state of a history it comes to the state of what follows
  reaches : {r : ℕ} {c : List ℕ} (t h : ℕ) → t + r ≤ T → h < K ^ t → Words K r c → reached (folded K T y) t (number K T y t h) c ≡ number K T y (t + r) (history_number K h c)
  unfolding reached history_number
  reaches t h e l none = ap (λ i. number K T y i h) (omega arith)
  reaches t h e l (more {k = r} {w = w} {c = c} k W) =
      let g : ℕ = history K T y t (number K T y t h) in
      let s = equivalent_step K T y t g h w (omega arith) k ((number_decides K T y t g h).0 (history_is K T y t _ (number_below K T y t h l)).1) in
      let p : suc t + r ≡ t + suc r = omega arith in
      ap (λ q. reached (folded K T y) (suc t) q c) ((number_decides K T y (suc t) _ _).1 s.1)
      ∙ reaches (suc t) (h * K + w) (omega arith) (digit_below t l k) W
      ∙ ap (λ i. number K T y i (history_number K (h * K + w) c)) p

  -- from the start
  pub comes_to : {k : ℕ} {c : List ℕ} → k ≤ T → Words K k c → reached (folded K T y) 0 0 c ≡ number K T y k (history_number K 0 c)
  comes_to {k} {c} b W =
      ap (λ q. reached (folded K T y) 0 q c) (sym (number_first K T y))
      ∙ reaches 0 0 (omega arith) (empty_below K) W
      ∙ ap (λ i. number K T y i (history_number K 0 c)) (omega arith)

  -- two histories are equivalent exactly when no continuation tells them apart by the outputs `given`, which are the response's
  pub no_telling : (given : List ℕ → List ℕ) → ((c : List ℕ) → Words K T c → given c ≡ outputs K y 0 0 c) → {k : ℕ} {c d : List ℕ} → k ≤ T → Words K k c → Words K k d
      → Equivalent K T y k (history_number K 0 c) (history_number K 0 d) ↔ ((e : List ℕ) → Words K (T - k) e → drop k (given (c ++ e)) ≡ drop k (given (d ++ e)))
  unfolding Equivalent
  no_telling given O {k} h W U = ((λ E e X. after W X ∙ E e X ∙ sym (after U X)), (λ S e X. sym (after W X) ∙ S e X ∙ after U X))
    where
      after : {c e : List ℕ} → Words K k c → Words K (T - k) e → drop k (given (c ++ e)) ≡ outputs K y k (history_number K 0 c) e
      after {c} {e} W X = ap (drop k) (O (c ++ e) (words_whole h W X)) ∙ outputs_then K y e W

  -- a history that is the smallest of those that come to its state is the smallest of its class
  pub smallest_class : (k h : ℕ) → h < K ^ k → ((d : List ℕ) → Words K k d → number K T y k (history_number K 0 d) ≡ number K T y k h → h ≤ history_number K 0 d)
      → (g : ℕ) → Equivalent K T y k g h → h ≤ g
  smallest_class k h l S g E = go (dec_lt g (K ^ k))
    where
      go : Dec (g < K ^ k) → h ≤ g
      go (yes b) =
          let (W, e) = number_words K k g b in
          omega (arith, S (history_words K k g) W (ap (number K T y k) e ∙ (number_decides K T y k g h).1 E), e)
      go (no n) = omega arith

  -- the smallest history that has the number s is the smallest of its class
  history_smallest : (k s : ℕ) → s < count K T y k → (g : ℕ) → Equivalent K T y k g (history K T y k s) → history K T y k s ≤ g
  history_smallest k s l =
      let i = history_is K T y k s l in
      smallest_class k (history K T y k s) i.0 (λ d W q. history_least K T y k s (history_number K 0 d) (history_below W) (q ∙ i.1))

  -- a larger state has a larger smallest history
  pub history_climbs : (k s r : ℕ) → s < r → r < count K T y k → history K T y k s < history K T y k r
  history_climbs k s r l b =
      let m : s < count K T y k = omega arith in
      let i = history_is K T y k s m in
      let j = history_is K T y k r b in
      let n : ¬ (history K T y k r < history K T y k s) = λ x. omega (arith, i.1, j.1, number_order K T y k _ _ x (history_smallest k s m)) in
      let e : ¬ (history K T y k r ≡ history K T y k s) = λ x. omega (arith, i.1, j.1, ap (number K T y k) x) in
      omega arith
