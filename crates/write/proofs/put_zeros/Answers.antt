-- `write::put_zeros` meets its contract: zero bytes are the bytes of zeros.
-- Assumes nothing.
use mathlib.Core.Path.{◌≡◌, refl, sym, ap, ap₂, ◌∙◌}
use mathlib.Core.List.{List, ◌∷◌, ◌++◌}
use Prim.Native.Nat.{ℕ, zero, suc, ◌+◌, ◌*◌, ◌-◌}
use native.Mathlib.Omega.{arith}
use borrow.Rule.Slice.PartMut.{put_mid}
use lib.ListN.{length, replicate, take, drop, length-replicate}
use Rattle.std.proofs.lemmas.Grind.{common_steps}
use Rattle.std.proofs.lemmas.List.{drop-drop}
use Rattle.words.specs.Words.{all_bytes, bytes_of, stored}
use Rattle.write.proofs.put_zeros.Goals as goal

zero_bytes : (n : ℕ) → all_bytes 2 (replicate n 0) ≡ replicate (2 * n) 0
unfolding all_bytes bytes_of
zero_bytes zero = refl
zero_bytes (suc n) = let e : 2 * suc n ≡ suc (suc (2 * n)) = omega arith in rw e (ap (λ (l : List ℕ). 0 ∷ 0 ∷ l) (zero_bytes n))

zeros_stored : (b r : List ℕ) (at n k : ℕ) → k ≡ 2 * n → r ≡ replicate k 0 → put_mid at k b r ≡ stored 2 b at (replicate n 0)
unfolding stored
zeros_stored b r at n k e f =
    let l : k ≡ 2 * length {A = ℕ} (replicate n 0) = omega (arith, length-replicate {A = ℕ} n 0) in
    ap₂ (λ (x y : List ℕ). take at b ++ (x ++ y)) (f ∙ ap (λ (k : ℕ). replicate k 0) e ∙ sym (zero_bytes n)) (drop-drop k at b ∙ ap (λ (m : ℕ). drop (at + m) b) l)

pub returns : goal.returns
returns c =
    let e : c.fill.new.self ≡ replicate (length c.fill.new.self) 0 = grind (arith, common_steps) in
    let l : length c.fill.new.self ≡ c.args.at + 2 * c.args.count - c.args.at = grind (arith, common_steps) in
    zeros_stored c.args.res.now c.fill.new.self c.args.at c.args.count _ (omega arith) (e ∙ ap (λ (k : ℕ). replicate k 0) l)
