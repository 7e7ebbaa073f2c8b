-- Which words separate two states: by the first of them, by the numbers of lists, and by how many they are. Assumes nothing.
use mathlib.Core.Path.{◌≡◌, refl, sym, ap, ap₂, ◌∙◌}
use mathlib.Core.Bool.{Bool, true, false, not}
use mathlib.Core.List.{List, [], ◌∷◌}
use Prim.Native.Nat.{ℕ, suc, ◌+◌, ◌-◌, ◌*◌, ◌^◌, ◌≤◌, ◌<◌}
use native.Mathlib.Nat.{le_refl, pow-zero, pow-suc, mul_comm, zero-mul, add-mul, mod-eq_of_lt}
use native.Mathlib.Omega.{arith}
use native.Mathlib.Decide.{dec_lt}
use lib.Arith.{digits_lt}
use lib.Dec.{eqb}
use lib.ListN.{length, get_or}
use borrow.Author.Tests.{eq-eqb, lt-ltb, le-ltb}
use Rattle.layered.specs.Search.{least}
use Rattle.layered.specs.Histories.{history_words}
use Rattle.layered.specs.Machines.{Machine, feed}
use Rattle.layered.proofs.Search.{least_le, least_is, least_tells, least_cong}
use Rattle.layered.proofs.Histories.{history_first, history_length}
use Rattle.distinguish.specs.Distinguish.{last_output, separates, first_list, separable, fewest, shortest}

module _ (M : Machine) where
  -- ---- by the first word

  -- from equal states nothing differs
  pub separates_same : (t s : ℕ) (c : List ℕ) → separates M t s s c ≡ false
  unfolding separates
  separates_same t s c = ap not (eq-eqb (last_output M t s c) _ refl)

  pub separates_one : (t r s w : ℕ) → separates M t r s (w ∷ []) ≡ not (eqb (M.out t r w) (M.out t s w))
  unfolding separates last_output feed
  separates_one t r s w = refl

  last_more : (t s w : ℕ) (c : List ℕ) → 1 ≤ length c → last_output M t s (w ∷ c) ≡ last_output M (suc t) (M.next t s w) c
  unfolding last_output feed
  last_more t s w c h =
      let e : suc (length c) - 1 ≡ suc (length c - 1) = omega arith in
      ap (λ (k : ℕ). get_or (feed M t s (w ∷ c)) k 0) e

  pub separates_more : (t r s w : ℕ) (c : List ℕ) → 1 ≤ length c → separates M t r s (w ∷ c) ≡ separates M (suc t) (M.next t r w) (M.next t s w) c
  unfolding separates
  separates_more t r s w c h = ap₂ (λ x y. not (eqb x y)) (last_more t r w c h) (last_more t s w c h)

  module _ (K : ℕ) where
    -- ---- by the numbers of lists

    pub first_to : (t r s k : ℕ) → first_list K M t r s k ≤ K ^ k
    unfolding first_list
    first_to t r s k = least_le (K ^ k) (λ h. separates M t r s (history_words K k h))

    -- no list separates equal states
    pub first-same : (t s k : ℕ) → first_list K M t s s k ≡ K ^ k
    unfolding first_list
    first-same t s k = least_is (K ^ k) (K ^ k) _ (le_refl _) (λ h l. separates_same t s (history_words K k h)) (λ l. absurd (omega arith))

    -- lists of one word
    pub first_one : (t r s : ℕ) → first_list K M t r s 1 ≡ least K (λ w. not (eqb (M.out t r w) (M.out t s w)))
    unfolding first_list history_words
    first_one t r s =
        let one : K ^ 1 ≡ K = pow-suc K 0 ∙ ap (λ x. x * K) (pow-zero K) ∙ omega arith in
        ap (λ n. least n (λ h. separates M t r s (history_words K 1 h))) one
        ∙ least_cong K _ _ (λ w l. ap (λ v. separates M t r s (v ∷ [])) (mod-eq_of_lt l) ∙ separates_one t r s w)

    -- lists of more words: those that begin with the same word stand together
    module _ (t r s k : ℕ) (some : 1 ≤ k) where
      abbrev test : ℕ → Bool
      test h = separates M t r s (history_words K (suc k) h)

      -- the first list of what follows the word w
      abbrev then : ℕ → ℕ
      then w = first_list K M (suc t) (M.next t r w) (M.next t s w) k

      test_is : (w i : ℕ) → w < K → i < K ^ k → test (w * K ^ k + i) ≡ separates M (suc t) (M.next t r w) (M.next t s w) (history_words K k i)
      test_is w i l h =
          ap (separates M t r s) (history_first K k w i l h)
          ∙ separates_more t r s w (history_words K k i) (omega (arith, history_length K k i))

      -- no list before that with the number `to` separates them
      abbrev pub NoneTo : ℕ → Type 0
      NoneTo to = (h : ℕ) → h < to → test h ≡ false

      pub none_yet : NoneTo (0 * K ^ k)
      none_yet h l = absurd (omega (arith, zero-mul (K ^ k)))

      -- up to what a further word begins
      none_with : (w n : ℕ) → w < K → n ≡ then w → NoneTo (w * K ^ k) → n ≤ K ^ k → NoneTo (w * K ^ k + n)
      unfolding first_list
      none_with w n l e f b h g = go (dec_lt h (w * K ^ k))
        where
          go : Dec (h < w * K ^ k) → test h ≡ false
          go (yes y) = f h y
          go (no y) =
              let i : h ≡ w * K ^ k + (h - w * K ^ k) = omega arith in
              let j : h - w * K ^ k < then w = omega arith in
              ap test i
              ∙ test_is w (h - w * K ^ k) l (omega arith)
              ∙ (least_tells (K ^ k) (λ i. separates M (suc t) (M.next t r w) (M.next t s w) (history_words K k i))).0 (h - w * K ^ k) j

      pub none_more : (w n : ℕ) → w < K → n ≡ then w → K ^ k ≤ n → NoneTo (w * K ^ k) → NoneTo ((w + 1) * K ^ k)
      none_more w n l e b f h g =
          let b' : n ≤ K ^ k = omega (arith, first_to (suc t) (M.next t r w) (M.next t s w) k) in
          none_with w n l e f b' h (omega (arith, add-mul w 1 (K ^ k), zero-mul (K ^ k)))

      pub found_with : (w n : ℕ) → w < K → n ≡ then w → n < K ^ k → NoneTo (w * K ^ k) → w * K ^ k + n ≡ first_list K M t r s (suc k)
      unfolding first_list
      found_with w n l e b f =
          sym (least_is (K ^ suc k) (w * K ^ k + n) test
          (let d : w * K ^ k + n < K * K ^ k = digits_lt l b in omega (arith, d, pow-suc K k, mul_comm K (K ^ k)))
          (none_with w n l e f (omega arith))
          (λ _. test_is w n l b ∙ ap (λ j. separates M (suc t) (M.next t r w) (M.next t s w) (history_words K k j)) e
          ∙ (least_tells (K ^ k) (λ i. separates M (suc t) (M.next t r w) (M.next t s w) (history_words K k i))).1 (omega arith)))

      pub found_none : NoneTo (K * K ^ k) → K * K ^ k ≡ first_list K M t r s (suc k)
      unfolding first_list
      found_none f =
          let e : K * K ^ k ≡ K ^ suc k = mul_comm K (K ^ k) ∙ sym (pow-suc K k) in
          e ∙ sym (least_is (K ^ suc k) (K ^ suc k) test (le_refl _) (λ h l. f h (omega arith)) (λ l. absurd (omega arith)))

    -- ---- by how many they are

    module _ (t r s : ℕ) where
      -- no list of 1 to k words separates them
      abbrev pub NoneOf : ℕ → Type 0
      NoneOf k = (i : ℕ) → i < k → separable K M t r s (suc i) ≡ false

      pub none_longer : (k n : ℕ) → n ≡ first_list K M t r s (suc k) → K ^ suc k ≤ n → NoneOf k → NoneOf (k + 1)
      unfolding separable
      none_longer k n e b f i l = go (dec_lt i k)
        where
          go : Dec (i < k) → separable K M t r s (suc i) ≡ false
          go (yes y) = f i y
          go (no y) = let q : i ≡ k = omega arith in rw q (le-ltb (first_list K M t r s (suc k)) (K ^ suc k) (omega arith))

      fewest_is : (k left : ℕ) → k < left → separable K M t r s (suc k) ≡ true → NoneOf k → fewest K M t r s left ≡ k
      unfolding fewest
      fewest_is k left l e f = least_is left k (λ i. separable K M t r s (suc i)) (omega arith) f (λ _. e)

      pub shortest_here : (k left n : ℕ) → k < left → n ≡ first_list K M t r s (suc k) → n < K ^ suc k → NoneOf k → history_words K (suc k) n ≡ shortest K M t r s left
      unfolding shortest separable
      shortest_here k left n l e b f =
          let q = fewest_is k left l (lt-ltb (first_list K M t r s (suc k)) (K ^ suc k) (omega arith)) f in
          rw (q, lt-ltb k left l) (ap (history_words K (suc k)) e)

      pub shortest_none : (left : ℕ) → NoneOf left → [] ≡ shortest K M t r s left
      unfolding shortest fewest
      shortest_none left f =
          let q : fewest K M t r s left ≡ left = least_is left left (λ i. separable K M t r s (suc i)) (le_refl left) f (λ l. absurd (omega arith)) in
          rw (q, le-ltb left left (le_refl left))
