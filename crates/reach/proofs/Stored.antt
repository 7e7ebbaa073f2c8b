-- Numbers of a function stored one behind the other, and zeros stored byte by byte. Assumes nothing.
use mathlib.Core.Path.{◌≡◌, refl, sym, ap, ap₂, ◌∙◌}
use mathlib.Core.List.{List, [], ◌∷◌, ◌++◌}
use Prim.Native.Nat.{ℕ, zero, suc, ◌+◌, ◌*◌, ◌≤◌, ◌<◌}
use native.Mathlib.Numerals.{add-one}
use native.Mathlib.Omega.{arith}
use borrow.Rule.Slice.PartMut.{put_mid}
use lib.ListN.{length, get_or, drop, take}
use lib.Seq.{drop-drop}
use Rattle.words.specs.Words.{all_bytes, stored}
use Rattle.words.proofs.Laws.{all_bytes_append, stored_behind}
use Rattle.layered.specs.Search.{join, tabulate}
use Rattle.layered.proofs.Lists.{tabulate_length, tabulate_add, tabulated}

-- one more behind the first n of them
pub tabulated_more : (k : ℕ) (b r : List ℕ) (i n : ℕ) (f : ℕ → ℕ) (j : ℕ) → r ≡ stored k b i (tabulate n f) → j ≡ i + k * n → i + k * n ≤ length b
    → stored k r j (f n ∷ []) ≡ stored k b i (tabulate (n + 1) f)
unfolding tabulate join
tabulated_more k b r i n f j e ej room =
    let p : i + k * length (tabulate n f) ≡ i + k * n = ap (λ m. i + k * m) (tabulate_length n f) in
    stored_behind k b r i (tabulate n f) (f n ∷ []) j e (ej ∙ sym p) (omega arith) ∙ ap (λ m. stored k b i (tabulate m f)) (sym (add-one n))

-- the bytes of zeros are zeros
zero_bytes : (n : ℕ) → all_bytes 4 (tabulate n (λ _. 0)) ≡ tabulate (4 * n) (λ _. 0)
unfolding tabulate join all_bytes
zero_bytes zero = refl
zero_bytes (suc n) =
    let e : 4 * n + 4 ≡ 4 * suc n = omega arith in
    all_bytes_append 4 (tabulate n (λ _. 0)) (0 ∷ [])
    ∙ ap (λ l. l ++ (0 ∷ 0 ∷ 0 ∷ 0 ∷ [])) (zero_bytes n)
    ∙ sym (tabulate_add (4 * n) 4 (λ _. 0))
    ∙ ap (λ k. tabulate k (λ _. 0)) e

-- a part of k bytes that holds zeros alone is n numbers of 0
pub zeros_stored : (v z : List ℕ) (a n k : ℕ) → k ≡ 4 * n → length z ≡ k → ((i : ℕ) → i < k → get_or z i 0 ≡ 0) → put_mid a k v z ≡ stored 4 v a (tabulate n (λ _. 0))
unfolding stored
zeros_stored v z a n k e l f =
    let i : k ≡ 4 * length (tabulate n (λ _. 0)) = omega (arith, tabulate_length n (λ _. 0)) in
    let is : z ≡ all_bytes 4 (tabulate n (λ _. 0)) = tabulated k (λ _. 0) z l f ∙ ap (λ k. tabulate k (λ _. 0)) e ∙ sym (zero_bytes n) in
    ap₂ (λ z d. take a v ++ (z ++ d)) is (drop-drop k a v ∙ ap (λ k. drop (a + k) v) i)
