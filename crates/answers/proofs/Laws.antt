-- Laws of `filled` and `answer_after`: what is stored stands in front, and too short an `answer` is left as it was. Assumes nothing.
use mathlib.Core.Path.{◌≡◌, sym, ap, ap₂, ◌∙◌}
use mathlib.Core.List.{List, [], ◌∷◌, ◌++◌}
use Prim.Native.Nat.{ℕ, ◌+◌, ◌≤◌, ◌<◌}
use native.Mathlib.Nat.{zero-add}
use native.Mathlib.Omega.{arith}
use lib.ListN.{length, take, drop}
use lib.Seq.{take_all, drop-drop, sets, sets-eq, paste}
use borrow.Author.Tests.{lt-ltb}
use Rattle.answers.specs.Answer.{filled, answer_after}

-- numbers stored one behind the other
pub fills : (numbers answer : List ℕ) → length numbers ≤ length answer → sets answer 0 numbers ≡ filled numbers answer
fills numbers answer h = sets-eq numbers answer 0 (omega arith) ∙ rw zero-add

-- number and place, and then others behind them
pub fills_behind : (n p k : ℕ) (numbers answer answer₁ now : List ℕ) → length numbers ≡ k → answer₁ ≡ filled (n ∷ p ∷ []) answer → now ≡ paste answer₁ 2 numbers k
    → now ≡ filled (n ∷ p ∷ numbers) answer
fills_behind n p k numbers answer answer₁ now e q h =
    let d : drop (2 + k) answer₁ ≡ drop (2 + k) answer = sym (drop-drop k 2 answer₁) ∙ ap (λ (l : List ℕ). drop k (drop 2 l)) q ∙ drop-drop k 2 answer in
    let t : take 2 answer₁ ≡ n ∷ p ∷ [] = ap (take 2) q in
    let i : 2 + k ≡ length (n ∷ p ∷ numbers) = omega arith in
    h
    ∙ ap₂ (λ (f r : List ℕ). (f ++ take k numbers) ++ r) t (d ∙ ap (λ (j : ℕ). drop j answer) i)
    ∙ ap (λ (l : List ℕ). n ∷ p ∷ (l ++ drop (length (n ∷ p ∷ numbers)) answer)) (take_all k numbers (omega arith))

pub answer_kept : (numbers answer : List ℕ) → length answer < length numbers → answer ≡ answer_after numbers answer
unfolding answer_after
answer_kept numbers answer h = rw (lt-ltb _ _ h)
