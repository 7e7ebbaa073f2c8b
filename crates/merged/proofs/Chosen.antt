-- The first machine by its number is the one that is chosen, there is only one, and a search in order finds it.
use mathlib.Core.Path.{◌≡◌, refl, sym, ap, ap₂, ◌∙◌, subst}
use mathlib.Core.Bool.{Bool, true, false, false≢true}
use mathlib.Core.Logic.{◌⊎◌, inl, inr, ⊎_elim}
use mathlib.Core.List.{List, ◌∷◌}
use Prim.Native.Nat.{ℕ, zero, suc, ◌+◌, ◌*◌, ◌-◌, ◌/◌, ◌%◌, ◌^◌, ◌≤◌, ◌<◌}
use native.Mathlib.Nat.{le_refl, add-mul, one-mul, mul-le-mul_right, div-add-mod', div-lt_iff_lt-mul}
use native.Mathlib.Omega.{arith}
use lib.Bits.{bit_and}
use lib.Dec.{ltb, T as Yes}
use lib.Pow.{pow_pos}
use borrow.Author.Tests.{ltb-true, lt-ltb}
use Rattle.layered.specs.Search.{least}
use Rattle.layered.specs.States.{Words, none, more}
use Rattle.layered.specs.Machines.{Machine, feed, masked}
use Rattle.layered.proofs.Search.{below_or, below_suc, iff_eq, least_finds, least_tells, least_is, least_cong}
use Rattle.merged.specs.Merged.{Target, Merged, Proper, entries_of, layers_of, seen, Matches, matches, Same, Before, Smaller, digit_of, output_choices, machine_count, numbered, first_match, matched, most_merged, fewest_states, first_machine}
use Rattle.merged.specs.Demands.{Contradicted, Ones, pack_to}
use Rattle.merged.specs.Theorems.{Chosen, NoneMatches, Tested, FirstChosen, NoneExactly, Only, Alike, SameMachine, InOrder, FirstFound, NoneFound}
use Rattle.merged.proofs.Demands.{refutes, ones_match, ones_least}
use Rattle.merged.proofs.Numbers.{in_order_all, number_back, pack_same}
use Rattle.merged.proofs.Matching.{tested, matches_same, proper_same, choices_some, numbered_proper, nexts_back, outs_back, number_of, nexts_below, outs_below, outs_packed, number_in, number_matches}

-- ---- the first by number

module _ (B : Target) where
  -- a machine that matches is numbered no lower than the first of its state count, and so there is one
  module _ (k : ℕ) (H : Merged) (P : Proper B H) (e : H.states ≡ k) (pos : 0 < k) (M : Matches B H) where
    pub first_below : first_match B k ≤ number_of B k pos H P e
    unfolding first_match
    first_below =
        (least_finds (machine_count B k) (number_of B k pos H P e) (λ x. matches B (numbered B k x))
        (let l = number_in B k pos H P e in omega arith) (subst Yes (sym (number_matches B k pos H P e M)) tt)).1

    pub is_matched : matched B k ≡ true
    unfolding matched
    is_matched = lt-ltb (first_match B k) (machine_count B k) (let l = number_in B k pos H P e in let f = first_below in omega arith)

  -- no machine of fewer states than the fewest matches
  pub none_fewer : (H : Merged) → Proper B H → Matches B H → H.states < fewest_states B → ⊥
  unfolding fewest_states
  none_fewer H P M l =
      let i = H.states - 1 in
      let e : H.states ≡ suc i = omega (arith, P.some) in
      false≢true (sym ((least_tells most_merged (λ i. matched B (suc i))).0 i (omega (arith, P.some))) ∙ is_matched (suc i) H P e (omega arith) M)

  module _ (few : fewest_states B ≤ most_merged) where
    k_some : 0 < fewest_states B
    unfolding fewest_states
    k_some = omega arith

    found_matched : first_match B (fewest_states B) < machine_count B (fewest_states B)
    unfolding fewest_states matched
    found_matched = ltb-true _ _ ((least_tells most_merged (λ i. matched B (suc i))).1 (omega arith))

    first_matches : Matches B (first_machine B)
    unfolding first_match Tested
    first_matches = (tested B (first_machine B)).0 ((least_tells (machine_count B (fewest_states B)) (λ x. matches B (numbered B (fewest_states B) x))).1 found_matched)

    -- a machine that comes before it has a smaller number
    module _ (H : Merged) (P : Proper B H) (e : H.states ≡ fewest_states B) where
      abbrev k : ℕ
      k = fewest_states B

      abbrev L : ℕ
      L = entries_of B k

      abbrev x : ℕ
      x = first_match B k

      sooner : Before L H.next (first_machine B).next → number_of B k k_some H P e < x
      unfolding InOrder number_of
      sooner b =
          let O = output_choices B k in
          let l = (in_order_all k L k_some).ordered H.next (first_machine B).next (nexts_below B k k_some H P e) (λ i l. (in_order_all k L k_some).digits_below _ i) b in
          let m : (pack_to k H.next L + 1) * O ≤ x / O * O = mul-le-mul_right O (omega (arith, l, nexts_back B k k_some x found_matched)) in
          let o = outs_packed B k k_some H P e in
          omega (arith, m, o, add-mul (pack_to k H.next L) 1 O, one-mul O, div-add-mod' x O)

      lower : Same L H.next (first_machine B).next → Before L H.out (first_machine B).out → number_of B k k_some H P e < x
      unfolding InOrder number_of Same
      lower s b =
          let O = output_choices B k in
          let l = (in_order_all (2 ^ B.m) L (pow_pos B.m)).ordered H.out (first_machine B).out (outs_below B k k_some H P e) (λ i l. (in_order_all (2 ^ B.m) L (pow_pos B.m)).digits_below _ i) b in
          let q : pack_to k H.next L ≡ x / O = pack_same k k_some H.next (first_machine B).next L s ∙ nexts_back B k k_some x found_matched in
          omega (arith, ap (λ c. c * O) q, l, outs_back B k k_some x, div-add-mod' x O)

    pub first_chosen : Chosen B (first_machine B)
    unfolding Smaller
    first_chosen = record {
      proper = numbered_proper B (fewest_states B) k_some _;
      few = few;
      matching = first_matches;
      fewest = λ H P M. let n : ¬ (H.states < fewest_states B) = none_fewer H P M in omega arith;
      first = λ H P M e S.
          let f = first_below (fewest_states B) H P e k_some M in
          ⊎_elim
          (λ b. omega (arith, f, sooner H P e (subst (λ n. Before (entries_of B n) H.next (first_machine B).next) e b)))
          (λ s. omega (arith, f, lower H P e (subst (λ n. Same (entries_of B n) H.next (first_machine B).next) e s.0) (subst (λ n. Before (entries_of B n) H.out (first_machine B).out) e s.1)))
          S;
    }

pub first_is_chosen : FirstChosen
unfolding FirstChosen
first_is_chosen B few = first_chosen B few

pub none_exactly : NoneExactly
unfolding NoneExactly NoneMatches
none_exactly B = (
  (λ l H P f M. none_fewer B H P M (omega arith)),
  λ N. let n : ¬ (fewest_states B ≤ most_merged) = λ few. let C = first_chosen B few in N (first_machine B) C.proper few C.matching in omega arith,
)

-- ---- only one

order : (a b : ℕ) → (a < b) ⊎ ((b < a) ⊎ (a ≡ b))
order zero zero = inr (inr refl)
order zero (suc b) = inl (omega arith)
order (suc a) zero = inr (inl (omega arith))
order (suc a) (suc b) = ⊎_elim (λ l. inl (omega arith)) (⊎_elim (λ l. inr (inl (omega arith))) (λ e. inr (inr (ap suc e)))) (order a b)

longer : {n : ℕ} {f g : ℕ → ℕ} → Before n f g → Before (suc n) f g
longer B = record { place = B.place; inside = omega (arith, B.inside); same = B.same; less = B.less }

compare : (n : ℕ) (f g : ℕ → ℕ) → Before n f g ⊎ (Before n g f ⊎ Same n f g)
unfolding Same
compare zero f g = inr (inr (λ j l. absurd (omega arith)))
compare (suc n) f g = ⊎_elim (λ B. inl (longer B)) (⊎_elim (λ B. inr (inl (longer B))) (λ s. last s (order (f n) (g n)))) (compare n f g)
  where
    last : ((j : ℕ) → j < n → f j ≡ g j) → (f n < g n) ⊎ ((g n < f n) ⊎ (f n ≡ g n)) → Before (suc n) f g ⊎ (Before (suc n) g f ⊎ ((j : ℕ) → j < suc n → f j ≡ g j))
    last s (inl l) = inl (record { place = n; inside = le_refl _; same = s; less = l })
    last s (inr (inl l)) = inr (inl (record { place = n; inside = le_refl _; same = λ j h. sym (s j h); less = l }))
    last s (inr (inr e)) = inr (inr (below_suc {P = λ j. f j ≡ g j} s e))

pub only : Only
unfolding Only Smaller Same
only B G H S R = (k, nexts, outs)
  where
    k : G.states ≡ H.states
    k = let a = S.fewest H R.proper R.matching in let b = R.fewest G S.proper S.matching in omega arith

    L : ℕ
    L = entries_of B G.states

    same_L : entries_of B H.states ≡ entries_of B G.states
    same_L = ap (entries_of B) (sym k)

    not_G : Before L G.next H.next ⊎ (((j : ℕ) → j < L → G.next j ≡ H.next j) × Before L G.out H.out) → ⊥
    not_G X = R.first G S.proper S.matching k X

    not_H : Before L H.next G.next ⊎ (((j : ℕ) → j < L → H.next j ≡ G.next j) × Before L H.out G.out) → ⊥
    not_H X = S.first H R.proper R.matching (sym k) (subst (λ n. Before n H.next G.next ⊎ (((j : ℕ) → j < n → H.next j ≡ G.next j) × Before n H.out G.out)) (sym same_L) X)

    nexts : (j : ℕ) → j < L → G.next j ≡ H.next j
    nexts = ⊎_elim (λ b. absurd (not_G (inl b))) (⊎_elim (λ b. absurd (not_H (inl b))) (λ s. s)) (compare L G.next H.next)

    outs : (j : ℕ) → j < L → G.out j ≡ H.out j
    outs = ⊎_elim (λ b. absurd (not_G (inr (nexts, b)))) (⊎_elim (λ b. absurd (not_H (inr ((λ j l. sym (nexts j l)), b)))) (λ s. s)) (compare L G.out H.out)

-- a machine with the same entries is chosen too
before_same : {n : ℕ} {f g h : ℕ → ℕ} → Same n g h → Before n f g → Before n f h
unfolding Same
before_same S b = record { place = b.place; inside = b.inside; same = λ j l. b.same j l ∙ S j (omega (arith, b.inside)); less = omega (arith, b.less, S b.place b.inside) }

pub chosen_same : (B : Target) (G H : Merged) → H.states ≡ G.states → Same (entries_of B H.states) H.next G.next → Same (entries_of B H.states) H.out G.out → Chosen B G → Chosen B H
unfolding Smaller Same
chosen_same B G H k N O C = record {
  proper = proper_same B G H C.proper (sym k) nexts outs;
  few = subst (λ n. n ≤ most_merged) (sym k) C.few;
  matching = matches_same B G H C.proper (sym k) nexts outs C.matching;
  fewest = λ F P M. subst (λ n. n ≤ F.states) (sym k) (C.fewest F P M);
  first = λ F P M e S. C.first F P M (e ∙ k) (⊎_elim (λ b. inl (before_same (at e N) b)) (λ s. inr ((λ j l. s.0 j l ∙ at e N j l), before_same (at e O) s.1)) S);
}
  where
    nexts : (j : ℕ) → j < entries_of B G.states → G.next j ≡ H.next j
    nexts j l = sym (N j (subst (λ n. j < entries_of B n) (sym k) l))

    outs : (j : ℕ) → j < entries_of B G.states → G.out j ≡ H.out j
    outs j l = sym (O j (subst (λ n. j < entries_of B n) (sym k) l))

    at : {n : ℕ} {f g : ℕ → ℕ} → n ≡ H.states → ((j : ℕ) → j < entries_of B H.states → f j ≡ g j) → (j : ℕ) → j < entries_of B n → f j ≡ g j
    at e S j l = S j (subst (λ n. j < entries_of B n) e l)

-- ---- targets alike

module _ (B C : Target) (A : Alike B C) where
  -- what a machine gives in the bits that count
  seen_same : (M : Machine) (t s r : ℕ) (c : List ℕ) → t + r ≤ B.T → Words B.K r c → feed (masked B.connected M) t s c ≡ feed (masked C.connected M) t s c
  unfolding feed
  seen_same M t s r c l none = refl
  seen_same M t s (suc r) (w ∷ c) l (more b W) =
      ap₂ ◌∷◌ (ap (bit_and (M.out t s w)) (A.same_connected t (omega arith))) (seen_same M (suc t) (M.next t s w) r c (omega arith) W)

  layers_same : (G : Merged) (c : List ℕ) → Words B.K B.T c → seen B (layers_of B.K G) c ≡ seen C (layers_of C.K G) c
  unfolding seen
  layers_same G c W = seen_same (layers_of B.K G) 0 0 B.T c (omega arith) W ∙ ap (λ K. feed (masked C.connected (layers_of K G)) 0 0 c) A.same_words

  matches_alike : (G : Merged) → matches B G ≡ matches C G
  unfolding Tested Matches
  matches_alike G =
      iff_eq _ _
      (λ y. subst Yes (sym ((tested C G).1 (λ c W.
      let W' = subst (λ K. Words K B.T c) (sym A.same_words) (subst (λ T. Words C.K T c) (sym A.same_frames) W) in
      sym (layers_same G c W') ∙ (tested B G).0 (holds _ y) c W' ∙ A.same_seen c W'))) tt)
      (λ y. subst Yes (sym ((tested B G).1 (λ c W.
      let W' = subst (λ T. Words C.K T c) A.same_frames (subst (λ K. Words K B.T c) A.same_words W) in
      layers_same G c W ∙ (tested C G).0 (holds _ y) c W' ∙ sym (A.same_seen c W)))) tt)
    where
      holds : (b : Bool) → Yes b → b ≡ true
      holds true y = refl
      holds false y = absurd y

  numbered_same : (k x : ℕ) → numbered B k x ≡ numbered C k x
  unfolding entries_of output_choices
  numbered_same k x =
      ap₂ (λ K m. record { states = k; next = digit_of k (k * K) (x / (2 ^ m) ^ (k * K)); out = digit_of (2 ^ m) (k * K) (x % (2 ^ m) ^ (k * K)) }) A.same_words A.same_bits

  count_same : (k : ℕ) → machine_count B k ≡ machine_count C k
  unfolding entries_of output_choices machine_count
  count_same k = ap₂ (λ K m. k ^ (k * K) * (2 ^ m) ^ (k * K)) A.same_words A.same_bits

  pub match_same : (k : ℕ) → first_match B k ≡ first_match C k
  unfolding first_match
  match_same k =
      least_cong (machine_count B k) _ _ (λ x l. matches_alike (numbered B k x) ∙ ap (matches C) (numbered_same k x))
      ∙ ap (λ n. least n (λ x. matches C (numbered C k x))) (count_same k)

  pub fewest_same : fewest_states B ≡ fewest_states C
  unfolding fewest_states matched
  fewest_same = ap suc (least_cong most_merged _ _ (λ i l. ap₂ ltb (match_same (suc i)) (count_same (suc i))))

  pub machine_same : first_machine B ≡ first_machine C
  machine_same =
      numbered_same (fewest_states B) (first_match B (fewest_states B))
      ∙ ap (numbered C (fewest_states B)) (match_same (fewest_states B)) ∙ ap (λ k. numbered C k (first_match C k)) fewest_same

pub same_machine : SameMachine
unfolding SameMachine
same_machine B C A = (fewest_same B C A, machine_same B C A)

-- ---- a search in order

pack_mono : (k : ℕ) (f g : ℕ → ℕ) (p : ℕ) → ((e : ℕ) → e < p → f e ≤ g e) → pack_to k f p ≤ pack_to k g p
unfolding pack_to
pack_mono k f g zero l = le_refl 0
pack_mono k f g (suc p) l = let a = mul-le-mul_right k (pack_mono k f g p (λ e h. l e (omega arith))) in let b = l p (le_refl _) in omega arith

module _ (B : Target) (k : ℕ) (pos : 0 < k) where
  abbrev E : ℕ
  E = entries_of B k

  -- a number whose next states are refuted does not match
  refuted : (y : ℕ) → Contradicted B (digit_of k E (y / output_choices B k)) E → matches B (numbered B k y) ≡ false
  unfolding Tested Same
  refuted y R = go (matches B (numbered B k y)) refl
    where
      go : (b : Bool) → matches B (numbered B k y) ≡ b → b ≡ false
      go false q = refl
      go true q = absurd (refutes B _ E R (numbered B k y) (λ j l. refl) ((tested B (numbered B k y)).0 q))

  pub all_refuted : ((d : ℕ) → d < k ^ E → Contradicted B (digit_of k E d) E) → first_match B k ≡ machine_count B k
  unfolding first_match machine_count
  all_refuted R =
      least_is (machine_count B k) (machine_count B k) (λ x. matches B (numbered B k x)) (le_refl _)
      (λ y l. refuted y (R _ ((div-lt_iff_lt-mul (choices_some B k pos)).1 l))) (λ l. absurd (omega arith))

  module _ (masks : (t : ℕ) → t < B.T → B.connected t < 2 ^ B.m) (c : ℕ) (ones : ℕ → ℕ) (inside : c < k ^ E)
      (before : (d : ℕ) → d < c → Contradicted B (digit_of k E d) E) (O : Ones B (digit_of k E c) E ones) (free : Contradicted B (digit_of k E c) E → ⊥) where
    abbrev G : Merged
    G = record { states = k; next = digit_of k E c; out = ones }

    P : Proper B G
    unfolding InOrder
    P = record { some = pos; next_is = λ e l. (in_order_all k E pos).digits_below c e; out_is = O.small }

    abbrev number : ℕ
    number = c * output_choices B k + pack_to (2 ^ B.m) ones E

    is_number : number_of B k pos G P refl ≡ number
    unfolding number_of
    is_number = ap (λ d. d * output_choices B k + pack_to (2 ^ B.m) ones E) (number_back k pos E c inside)

    -- a smaller number has smaller next states, or the same and smaller outputs
    none_before : (y : ℕ) → y < number → matches B (numbered B k y) ≡ false
    unfolding Same Tested
    none_before y l = ⊎_elim (λ d. refuted y (before _ d)) (λ d. go (matches B (numbered B k y)) refl (same d)) (below_or (y / output_choices B k) c)
      where
        packed : pack_to (2 ^ B.m) ones E < output_choices B k
        packed = outs_packed B k pos G P refl

        same : c ≤ y / output_choices B k → y / output_choices B k ≡ c
        same d =
            let up : y / output_choices B k < c + 1 = (div-lt_iff_lt-mul (choices_some B k pos)).1 (omega (arith, packed, add-mul c 1 (output_choices B k), one-mul (output_choices B k))) in
            omega arith

        at_least : Matches B (numbered B k y) → y / output_choices B k ≡ c → pack_to (2 ^ B.m) ones E ≤ pack_to (2 ^ B.m) (numbered B k y).out E
        at_least M e = pack_mono (2 ^ B.m) ones _ E (ones_least B (digit_of k E c) ones E O (numbered B k y) (λ j l. ap (λ d. digit_of k E d j) (sym e)) M)

        go : (b : Bool) → matches B (numbered B k y) ≡ b → y / output_choices B k ≡ c → b ≡ false
        go false q e = refl
        go true q e = absurd (omega (arith, at_least ((tested B (numbered B k y)).0 q) e, outs_back B k pos y, ap (λ d. d * output_choices B k) e, div-add-mod' y (output_choices B k)))

    pub found_first : first_match B k ≡ number
    unfolding first_match
    found_first =
        least_is (machine_count B k) number (λ x. matches B (numbered B k x)) (let l = number_in B k pos G P refl in omega (arith, is_number)) none_before
        (λ l. subst (λ y. matches B (numbered B k y) ≡ true) is_number (number_matches B k pos G P refl (ones_match B masks G P O free)))

pub first_found : FirstFound
unfolding FirstFound
first_found B masks k c ones pos inside before O free = found_first B k pos masks c ones inside before O free

pub none_found : NoneFound
unfolding NoneFound
none_found B k pos R = all_refuted B k pos R
