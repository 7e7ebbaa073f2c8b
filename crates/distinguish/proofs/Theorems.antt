-- The statements of specs/Theorems. Assumes nothing.
use mathlib.Core.Path.{◌≡◌, refl, sym, ap, ap₂, ◌∙◌, subst, subst⁻¹}
use mathlib.Core.Logic.{◌⊎◌, inl, inr, ⊎_elim, ◌↔◌}
use mathlib.Core.Bool.{true, false, not, true≢false}
use mathlib.Core.List.{List, [], ◌∷◌, ◌++◌}
use Prim.Native.Nat.{ℕ, zero, suc, ◌+◌, ◌-◌, ◌^◌, ◌≤◌, ◌<◌}
use native.Mathlib.Decide.{dec_lt}
use native.Mathlib.Omega.{arith}
use lib.Bits.{bit_and}
use lib.Dec.{ltb, eqb}
use lib.ListN.{length, get_or, drop}
use lib.Pow.{pow_pos}
use borrow.Author.Tests.{eq-eqb, eqb-true, ltb-true, ltb-false, lt-ltb, le-ltb, not-false}
use Rattle.verdict.specs.Judgements.{answer}
use Rattle.verdict.specs.declared.Figures.{Figures}
use Rattle.verdict.proofs.Laws.{both_accept, passed}
use Rattle.sizes.specs.Sizes.{inputs, outputs, frames}
use Rattle.layered.specs.States.{Words, none, more}
use Rattle.layered.specs.Histories.{history_words, history_number}
use Rattle.layered.specs.Machines.{Machine, feed, Gives, masked}
use Rattle.layered.proofs.Search.{least_tells}
use Rattle.layered.proofs.Feeding.{words_length, words_whole, feed_then}
use Rattle.layered.proofs.Histories.{history_below, number_words, history-words, words_number}
use Rattle.table.specs.Table.{states, connected, machine, strays, bad_output, checked}
use Rattle.table.specs.Sound.{Sound}
use Rattle.table.proofs.Accepted.{sound}
use Rattle.positions.specs.Positions.{place_checked}
use Rattle.positions.proofs.Positions.{place_in}
use Rattle.folded.specs.Theorems.{state_of, Folding, Foldings}
use Rattle.folded.proofs.Theorems.{foldings}
use Rattle.distinguish.specs.Distinguish.{last_output, separates, first_list, separable, fewest, shortest, distinguishing, pair_checked, room_checked, distinguish_checked}
use Rattle.distinguish.specs.Theorems.{Distinguishing, Distinguishes, FoldedDistinguishes}
use Rattle.distinguish.proofs.Separating.{separates_one, separates_more}

-- a list without length
no_words : (c : List ℕ) → length c ≡ 0 → c ≡ []
no_words [] e = refl
no_words (w ∷ c) e = absurd (omega arith)

-- ---- which lists separate, and what all continuations give

module _ (M : Machine) (K : ℕ) where
  -- no list of 1 to k words separates r and s
  abbrev NoneSeparates : (t r s k : ℕ) → Type 0
  NoneSeparates t r s k = (j : ℕ) (c : List ℕ) → Words K j c → 1 ≤ j → j ≤ k → separates M t r s c ≡ false

  -- every k words give both states the same outputs
  abbrev Alike : (t r s k : ℕ) → Type 0
  Alike t r s k = (c : List ℕ) → Words K k c → feed M t r c ≡ feed M t s c

  out_equal : (t r s w : ℕ) → separates M t r s (w ∷ []) ≡ false → M.out t r w ≡ M.out t s w
  out_equal t r s w e = eqb-true _ _ (not-false _ (sym (separates_one M t r s w) ∙ e))

  none_alike : (t r s k : ℕ) → NoneSeparates t r s k → Alike t r s k
  unfolding feed
  none_alike t r s zero f c none = refl
  none_alike t r s (suc k) f c (more {w = w} {c = d} l W) =
      ap₂ {C = List ℕ} (λ x xs. x ∷ xs)
      (out_equal t r s w (f 1 (w ∷ []) (more l none) (omega arith) (omega arith)))
      (none_alike (suc t) (M.next t r w) (M.next t s w) k
      (λ j e E a b. sym (separates_more M t r s w e (omega (arith, words_length E))) ∙ f (suc j) (w ∷ e) (more l E) (omega arith) (omega arith))
      d W)

  alike_none : 0 < K → (t r s k : ℕ) → Alike t r s k → NoneSeparates t r s k
  unfolding feed
  alike_none p t r s k f j c none a b = absurd (omega arith)
  alike_none p t r s zero f j c (more l W) a b = absurd (omega arith)
  alike_none p t r s (suc k) f j c (more {w = w} {c = []} l none) a b =
      let e = f (w ∷ history_words K k 0) (more l (history-words p k 0)) in
      separates_one M t r s w ∙ ap not (eq-eqb _ _ (ap (λ xs. get_or xs 0 0) e))
  alike_none p t r s (suc k) f j c (more {w = w} {c = v ∷ d} l W) a b =
      separates_more M t r s w (v ∷ d) (omega arith)
      ∙ alike_none p (suc t) (M.next t r w) (M.next t s w) k (λ e E. ap (drop 1) (f (w ∷ e) (more l E))) _ (v ∷ d) W (omega (arith, words_length W)) (omega arith)

  -- ---- what is found

  module _ (t r s : ℕ) where
    -- a list before the first that separates does not
    before_first : (k : ℕ) (c : List ℕ) → Words K k c → history_number K 0 c < first_list K M t r s k → separates M t r s c ≡ false
    unfolding first_list
    before_first k c W l = ap (separates M t r s) (sym (words_number W)) ∙ (least_tells (K ^ k) (λ h. separates M t r s (history_words K k h))).0 (history_number K 0 c) l

    -- where none of k words does, each does not
    none_of : (k : ℕ) (c : List ℕ) → Words K k c → separable K M t r s k ≡ false → separates M t r s c ≡ false
    unfolding separable
    none_of k c W e = before_first k c W (omega (arith, history_below W, ltb-false (first_list K M t r s k) (K ^ k) e))

    -- there is one: what it is, and what it does
    record Found (left : ℕ) (found : List ℕ) : Type 0 where
      count : ℕ
      words_in : suc count ≤ left
      words_are : Words K (suc count) found
      number_is : history_number K 0 found ≡ first_list K M t r s (suc count)
      does : separates M t r s found ≡ true
      fewer_not : (i : ℕ) → i < count → separable K M t r s (suc i) ≡ false

    -- there is none
    record Missing (left : ℕ) (found : List ℕ) : Type 0 where
      empty : found ≡ []
      none_is : (i : ℕ) → i < left → separable K M t r s (suc i) ≡ false

    found_or_missing : (left : ℕ) → Found left (shortest K M t r s left) ⊎ Missing left (shortest K M t r s left)
    unfolding shortest fewest first_list separable
    found_or_missing left = go (dec_lt f left)
      where
        f : ℕ
        f = fewest K M t r s left

        go : Dec (f < left) → Found left (shortest K M t r s left) ⊎ Missing left (shortest K M t r s left)
        go (yes l) =
            let q = least_tells left (λ i. separable K M t r s (suc i)) in
            let n : first_list K M t r s (suc f) < K ^ suc f = ltb-true _ _ (q.1 l) in
            let (W, e) = number_words K (suc f) (first_list K M t r s (suc f)) n in
            inl (rw (lt-ltb f left l) (record {
              count = f;
              words_in = l;
              words_are = W;
              number_is = e;
              does = (least_tells (K ^ suc f) (λ h. separates M t r s (history_words K (suc f) h))).1 n;
              fewer_not = q.0;
            }))
        go (no l) =
            inr (rw (le-ltb f left (omega arith)) (record {
              empty = refl;
              none_is = λ i h. (least_tells left (λ i. separable K M t r s (suc i))).0 i (omega arith);
            }))

    -- ---- none exactly when every continuation gives the same outputs

    none_to : (left : ℕ) → ((i : ℕ) → i < left → separable K M t r s (suc i) ≡ false) → NoneSeparates t r s left
    none_to left f j c W a b =
        let e : suc (j - 1) ≡ j = omega arith in
        none_of j c W (subst (λ k. separable K M t r s k ≡ false) e (f (j - 1) (omega arith)))

    none_exactly : 0 < K → (left : ℕ) → (shortest K M t r s left ≡ []) ↔ Alike t r s left
    none_exactly p left = ((λ e. there e (found_or_missing left)), (λ a. back a (found_or_missing left)))
      where
        there : shortest K M t r s left ≡ [] → Found left (shortest K M t r s left) ⊎ Missing left (shortest K M t r s left) → Alike t r s left
        there e (inl F) = absurd (omega (arith, words_length F.words_are, ap length e))
        there e (inr N) = none_alike t r s left (none_to left N.none_is)

        back : Alike t r s left → Found left (shortest K M t r s left) ⊎ Missing left (shortest K M t r s left) → shortest K M t r s left ≡ []
        back a (inl F) = absurd (true≢false (sym F.does ∙ alike_none p t r s left a (suc F.count) _ F.words_are (omega arith) F.words_in))
        back a (inr N) = N.empty

-- ---- connected outputs

-- outputs of a legal table have no other bits
module _ (b : List ℕ) (Z : Sound b) where
  masked_out : (t s w : ℕ) → t < frames b → s < states b t → w < 2 ^ inputs b → bit_and ((machine b).out t s w) (connected b t) ≡ (machine b).out t s w
  unfolding bad_output strays
  masked_out t s w h k l = eqb-true _ _ (not-false _ (Z.outputs_connected t s w h k l))

  masked_feed : (t s : ℕ) {k : ℕ} {c : List ℕ} → t + k ≤ frames b → s < states b t → Words (2 ^ inputs b) k c → feed (masked (connected b) (machine b)) t s c ≡ feed (machine b) t s c
  unfolding feed
  masked_feed t s h l none = refl
  masked_feed t s h l (more {k = k} {w = w} {c = c} m W) =
      ap₂ {C = List ℕ} (λ x xs. x ∷ xs)
      (masked_out t s w (omega arith) l m)
      (masked_feed (suc t) ((machine b).next t s w) (omega arith) (Z.legal.next_is t s w (omega arith) l m) W)

-- ---- of an accepted table

module _ (b : List ℕ) (Z : Sound b) (t r s : ℕ) (h : t ≤ frames b) (k : r < states b t) (l : s < states b t) where
  abbrev K : ℕ
  K = 2 ^ inputs b

  -- the words that are found
  abbrev found : List ℕ
  found = distinguishing b t r s

  by_connected : (j : ℕ) (c : List ℕ) → Words K j c → j ≤ frames b - t → separates (masked (connected b) (machine b)) t r s c ≡ separates (machine b) t r s c
  unfolding separates last_output
  by_connected j c W m =
      ap₂ (λ x y. not (eqb (get_or x (length c - 1) 0) (get_or y (length c - 1) 0))) (masked_feed b Z t r (omega arith) k W) (masked_feed b Z t s (omega arith) l W)

  some_found : Found (machine b) K t r s (frames b - t) found → Distinguishing b t r s
  unfolding distinguishing
  some_found F =
      let n = words_length F.words_are in
      record {
        are_words = subst (λ n. Words K n found) (sym n) F.words_are;
        at_most = omega (arith, n, F.words_in);
        separating = λ _. F.does;
        none_shorter = λ j c W a m. none_to (machine b) K t r s F.count F.fewer_not j c W a (omega (arith, n));
        none_before = λ c W m. before_first (machine b) K t r s (suc F.count) c (subst (λ n. Words K n c) n W) (omega (arith, F.number_is));
        none_exactly = none_exactly (machine b) K t r s (pow_pos (inputs b)) (frames b - t);
        by_connected = by_connected;
      }

  none_found : Missing (machine b) K t r s (frames b - t) found → Distinguishing b t r s
  unfolding distinguishing history_number
  none_found N =
      let n : length found ≡ 0 = ap length N.empty in
      record {
        are_words = subst⁻¹ (λ c. Words K (length c) c) N.empty none;
        at_most = omega (arith, n);
        separating = λ m. absurd (omega (arith, n));
        none_shorter = λ j c W a m. absurd (omega (arith, n));
        none_before = λ c W m. absurd (omega (arith, ap (history_number K 0) N.empty));
        none_exactly = none_exactly (machine b) K t r s (pow_pos (inputs b)) (frames b - t);
        by_connected = by_connected;
      }

  pub distinguishing_is : Distinguishing b t r s
  unfolding distinguishing
  distinguishing_is = ⊎_elim some_found none_found (found_or_missing (machine b) K t r s (frames b - t))

-- ---- of a call that is accepted

-- two states of a layer
pub pair_in : (b : List ℕ) (t r s p : ℕ) → pair_checked b t r s ≡ answer 0 p → (t ≤ frames b) × (r < states b t) × (s < states b t)
unfolding pair_checked
pair_in b t r s p e =
    let (_, f, g) = both_accept (place_checked b t r) (place_checked b t s) p e in
    let i = place_in b t r _ f in
    (i.0, i.1, (place_in b t s _ g).1)

pub distinguishes : (b : List ℕ) (t r s room : ℕ) → Distinguishes b t r s room
unfolding Distinguishes distinguish_checked room_checked
distinguishes b t r s room p e =
    let (q, legal, rest) = both_accept (checked b) _ p e in
    let (u, pair, roomy) = both_accept (pair_checked b t r s) _ p rest in
    let (h, k, l) = pair_in b t r s u pair in
    let (f, g) = passed (ltb room (frames b - t)) 7 (frames b - t) (answer 0 (length (distinguishing b t r s))) p refl roomy in
    (h, k, l, ltb-false room (frames b - t) f, sym (ap (λ (f : Figures). f.place) g), distinguishing_is b (sound b q legal) t r s h k l)

-- ---- of a folded table

module _ (b d : List ℕ) (m T : ℕ) (F : Folding (2 ^ inputs b) m T d b) (same : frames b ≡ T) (t r s : ℕ) (h : t ≤ frames b) (k : r < states b t)
    (l : s < states b t) where
  -- states from which every continuation gives the same outputs are the same
  alike_same : Alike (machine b) (2 ^ inputs b) t r s (frames b - t) → r ≡ s
  unfolding Gives state_of
  alike_same a =
      let i : t ≤ T = omega arith in
      let (c, W, e) = F.every_state t r i k in
      let (g, Y, f) = F.every_state t s i l in
      sym e
      ∙ (F.apart t c g i W Y).1 (λ u U.
      ap (drop t) (sym (F.gives (c ++ u) (words_whole i W U)))
      ∙ feed_then (machine b) 0 u W
      ∙ ap (λ x. feed (machine b) t x u) e
      ∙ a u (subst (λ n. Words (2 ^ inputs b) (n - t) u) (sym same) U)
      ∙ sym (ap (λ x. feed (machine b) t x u) f)
      ∙ sym (feed_then (machine b) 0 u Y)
      ∙ ap (drop t) (F.gives (g ++ u) (words_whole i Y U)))
      ∙ f

  two_apart : ¬ (r ≡ s) → (1 ≤ length (distinguishing b t r s)) × (length (distinguishing b t r s) ≤ frames b - t)
  two_apart n =
      let D = distinguishing_is b (sound b 0 F.legal) t r s h k l in
      let some : ¬ (length (distinguishing b t r s) ≡ 0) = λ z. n (alike_same (D.none_exactly.0 (no_words _ z))) in
      (omega arith, D.at_most)

pub folded_distinguishes : (b : List ℕ) (t r s : ℕ) → FoldedDistinguishes b t r s
unfolding FoldedDistinguishes Foldings
folded_distinguishes b t r s d before room nodes p e q h k l n =
    let F = subst (Folding (2 ^ inputs d) (outputs d) (frames d) d) (sym q) (foldings d before room nodes p e).0 in
    two_apart b d (outputs d) (frames d) (subst (λ n. Folding (2 ^ n) (outputs d) (frames d) d b) (sym F.same_inputs) F) F.same_frames t r s h k l n
