-- Numbers as tables of next states, in dictionary order.
use mathlib.Core.Path.{◌≡◌, refl, sym, ap, ap₂, ◌∙◌, subst}
use Prim.Native.Nat.{ℕ, zero, suc, ◌+◌, ◌*◌, ◌-◌, ◌/◌, ◌%◌, ◌^◌, ◌≤◌, ◌<◌}
use native.Mathlib.Nat.{le_refl, mod-lt, pow-zero, pow-suc, pow-succ', one-le-pow, div-one, div-div-eq-div-mul, div-add-mod', div-eq_of_lt, div-lt_iff_lt-mul, le-div_iff_mul-le}
use native.Mathlib.Omega.{arith}
use lib.Arith.{digits_lt, digits_div, digits_mod}
use Rattle.merged.specs.Merged.{Same, Before, digit_of}
use Rattle.merged.specs.Demands.{pack_to, skipped}
use Rattle.merged.specs.Theorems.{InOrder}

module _ (k : ℕ) (pos : 0 < k) where
  pub pow_some : (r : ℕ) → 0 < k ^ r
  pow_some r = one-le-pow r k pos

  -- a power is one factor, and the rest
  div-pow : (c r : ℕ) → c / k ^ suc r ≡ c / k ^ r / k
  div-pow c r = ap (λ d. c / d) (pow-suc k r) ∙ sym (div-div-eq-div-mul c (k ^ r) k)

  div_pow' : (c r : ℕ) → c / k ^ suc r ≡ c / k / k ^ r
  div_pow' c r = ap (λ d. c / d) (pow-succ' k r) ∙ sym (div-div-eq-div-mul c k (k ^ r))

  div_pows : (c r s : ℕ) → c / k ^ r / k ^ s ≡ c / k ^ (s + r)
  div_pows c r zero = let i : r ≡ 0 + r = omega arith in ap (λ d. c / k ^ r / d) (pow-zero k) ∙ div-one _ ∙ ap (λ i. c / k ^ i) i
  div_pows c r (suc s) = let i : suc (s + r) ≡ suc s + r = omega arith in div-pow (c / k ^ r) s ∙ ap (λ d. d / k) (div_pows c r s) ∙ sym (div-pow c (s + r)) ∙ ap (λ i. c / k ^ i) i

  module _ (f : ℕ → ℕ) where
    pack_small : (p : ℕ) → ((e : ℕ) → e < p → f e < k) → pack_to k f p < k ^ p
    unfolding pack_to
    pack_small zero b = rw pow-zero (le_refl 1)
    pack_small (suc p) b = rw pow-suc (digits_lt (pack_small p (λ e l. b e (omega arith))) (b p (le_refl _)))

    -- the number of a prefix stands above the others' digits
    pack_prefix : (d p : ℕ) → ((e : ℕ) → e < d + p → f e < k) → pack_to k f (d + p) / k ^ d ≡ pack_to k f p
    unfolding pack_to
    pack_prefix zero p b = let i : 0 + p ≡ p = omega arith in ap (λ r. pack_to k f (0 + p) / r) (pow-zero k) ∙ div-one _ ∙ ap (pack_to k f) i
    pack_prefix (suc d) p b =
        let i : suc d + p ≡ suc (d + p) = omega arith in
        ap (λ i. pack_to k f i / k ^ suc d) i
        ∙ div_pow' (pack_to k f (suc (d + p))) d
        ∙ ap (λ x. x / k ^ d) (digits_div (pack_to k f (d + p)) (b (d + p) (omega arith)))
        ∙ pack_prefix d p (λ e l. b e (omega arith))

    prefix_of : (L p : ℕ) → p ≤ L → ((e : ℕ) → e < L → f e < k) → pack_to k f L / k ^ (L - p) ≡ pack_to k f p
    prefix_of L p l b =
        let i : L ≡ (L - p) + p = omega arith in
        ap (λ i. pack_to k f i / k ^ (L - p)) i ∙ pack_prefix (L - p) p (λ e h. b e (omega arith))

  pub pack_same : (f g : ℕ → ℕ) (p : ℕ) → ((j : ℕ) → j < p → f j ≡ g j) → pack_to k f p ≡ pack_to k g p
  unfolding pack_to
  pack_same f g zero s = refl
  pack_same f g (suc p) s = ap₂ (λ a b. a * k + b) (pack_same f g p (λ j l. s j (omega arith))) (s p (le_refl _))

  packed_digit : (f : ℕ → ℕ) (L : ℕ) → ((e : ℕ) → e < L → f e < k) → (e : ℕ) → e < L → digit_of k L (pack_to k f L) e ≡ f e
  unfolding digit_of pack_to
  packed_digit f L b e l = ap (λ x. x % k) (prefix_of f L (suc e) l b) ∙ digits_mod (pack_to k f e) (b e l)

  -- digits give the number back
  pub digits_pack : (L c p : ℕ) → c < k ^ L → p ≤ L → pack_to k (digit_of k L c) p ≡ c / k ^ (L - p)
  unfolding digit_of pack_to
  digits_pack L c zero l h = sym (div-eq_of_lt (subst (λ i. c < k ^ i) (omega arith) l))
  digits_pack L c (suc p) l h =
      let x = c / k ^ (L - suc p) in
      let i : L - p ≡ suc (L - suc p) = omega arith in
      let e : pack_to k (digit_of k L c) p ≡ x / k = digits_pack L c p l (omega arith) ∙ ap (λ i. c / k ^ i) i ∙ div-pow c (L - suc p) in
      ap (λ q. q * k + x % k) e ∙ div-add-mod' x k

  pub number_back : (L c : ℕ) → c < k ^ L → pack_to k (digit_of k L c) L ≡ c
  number_back L c l =
      let z : L - L ≡ 0 = omega arith in
      digits_pack L c L l (le_refl L) ∙ ap (λ i. c / k ^ i) z ∙ ap (λ d. c / d) (pow-zero k) ∙ div-one c

  in_order : (f g : ℕ → ℕ) (L : ℕ) → ((e : ℕ) → e < L → f e < k) → ((e : ℕ) → e < L → g e < k) → Before L f g → pack_to k f L < pack_to k g L
  unfolding pack_to
  in_order f g L bf bg B =
      let i = B.place in
      let P = k ^ (L - suc i) in
      let ef : pack_to k f L / P ≡ pack_to k f i * k + f i = prefix_of f L (suc i) B.inside bf in
      let eg : pack_to k g L / P ≡ pack_to k g i * k + g i = prefix_of g L (suc i) B.inside bg in
      let same : pack_to k f i * k ≡ pack_to k g i * k = ap (λ x. x * k) (pack_same f g i B.same) in
      let less : pack_to k f L / P < pack_to k g L / P = omega (arith, ef, eg, same, B.less) in
      let up : pack_to k f L < pack_to k g L / P * P = (div-lt_iff_lt-mul (pow_some (L - suc i))).0 less in
      omega (arith, up, div-add-mod' (pack_to k g L) P)

  -- numbers up to the one skipped to have the same digits in front
  stays : (L c d p : ℕ) → p ≤ L → c ≤ d → d < skipped k L c p → Same p (digit_of k L c) (digit_of k L d)
  unfolding skipped Same digit_of
  stays L c d p l a b e h =
      let P = k ^ (L - p) in
      let up : d / P < c / P + 1 = (div-lt_iff_lt-mul (pow_some (L - p))).1 b in
      let low : c / P ≤ d / P = (le-div_iff_mul-le (pow_some (L - p))).1 (omega (arith, div-add-mod' c P)) in
      let q : c / P ≡ d / P = omega arith in
      let i : L - suc e ≡ (p - suc e) + (L - p) = omega arith in
      let at : (x : ℕ) → x / k ^ (L - suc e) ≡ x / P / k ^ (p - suc e) = λ x. ap (λ i. x / k ^ i) i ∙ sym (div_pows x (L - p) (p - suc e)) in
      ap (λ x. x % k) (at c ∙ ap (λ x. x / k ^ (p - suc e)) q ∙ sym (at d))

  goes_on : (L c p : ℕ) → c < skipped k L c p
  unfolding skipped
  goes_on L c p = (div-lt_iff_lt-mul (pow_some (L - p))).0 (omega arith)

pub in_order_all : InOrder
unfolding InOrder Same digit_of
in_order_all k L pos = record {
  digits_below = λ c e. mod-lt _ pos;
  pack_below = λ f b. pack_small k pos f L b;
  digits_packed = λ f b. packed_digit k pos f L b;
  ordered = λ f g bf bg B. in_order k pos f g L bf bg B;
  skips = λ c d p l a b. stays k pos L c d p l a b;
  ahead = λ c p. goes_on k pos L c p;
}
