-- `distinguish::store_words` meets its contract. The invariant: with the words that are left, what is stored is the list.
-- Assumes nothing.
use mathlib.Core.Path.{◌≡◌, refl, sym, ap, ◌∙◌}
use mathlib.Core.List.{List, [], ◌∷◌, ◌++◌, append_assoc}
use Prim.Native.Nat.{ℕ, zero, suc, ◌-◌, ◌/◌, ◌%◌, ◌<◌}
use native.Mathlib.Omega.{arith}
use lib.ListN.{length, drop, set}
use Rattle.layered.specs.Histories.{history_words}
use Rattle.distinguish.proofs.store_words.Goals as goal

-- what is behind a place, once it is stored
drop-set : (v : List ℕ) (k x : ℕ) → k < length v → drop k (set v k x) ≡ x ∷ drop (suc k) v
drop-set [] k x h = absurd (omega arith)
drop-set (y ∷ v) zero x h = refl
drop-set (y ∷ v) (suc k) x h = drop-set v k x (omega arith)

-- the last word that is left is stored
store-last : (K k h : ℕ) (v whole : List ℕ) → k < length v → history_words K (suc k) h ++ drop (suc k) v ≡ whole → history_words K k (h / K) ++ drop k (set v k (h % K)) ≡ whole
unfolding history_words
store-last K k h v whole l e = ap (λ d. history_words K k (h / K) ++ d) (drop-set v k (h % K) l) ∙ sym (append_assoc (history_words K k (h / K)) (h % K ∷ []) (drop (suc k) v)) ∙ e

pub loop-left-preserved : goal.loop-left-preserved
loop-left-preserved c =
    let e : suc (c.loop-left.left - 1) ≡ c.loop-left.left = omega arith in
    store-last c.args.words (c.loop-left.left - 1) c.loop-left.number c.loop-left.res _ (omega arith)
    (ap (λ k. history_words c.args.words k c.loop-left.number ++ drop k c.loop-left.res) e ∙ c.loop-left.invariant)

pub returns : goal.returns
unfolding history_words
returns c =
    let e : c.loop-left.left ≡ 0 = omega arith in
    sym (ap (λ k. history_words c.args.words k c.loop-left.number ++ drop k c.loop-left.res) e) ∙ c.loop-left.invariant
