-- The numbers of the histories so far: what one entry adds, what a state that no history reaches leaves, what a whole layer and all layers come
-- to, and what stands there at the start. Assumes nothing.
use mathlib.Core.Path.{◌≡◌, refl, sym, ap, ap₂, ◌∙◌, subst}
use mathlib.Core.Bool.{Bool, true, false, ◌&&◌, ◌||◌, and-false, or-false, or-true}
use mathlib.Core.Logic.{⊎_elim}
use mathlib.Core.List.{List, ◌++◌}
use Prim.Native.Nat.{ℕ, zero, suc, ◌+◌, ◌*◌, ◌/◌, ◌%◌, ◌^◌, ◌≤◌, ◌<◌, zero-le}
use native.Mathlib.Nat.{le_refl, le_of_eq, eq-or-lt_of_le, mod-lt, suc-mul, mul-le-mul_right, pow-zero, pow-suc}
use native.Mathlib.Decide.{ℕ_discrete, dec_lt}
use native.Mathlib.Omega.{arith}
use lib.Arith.{lt-one, digits_lt}
use lib.Dec.{T as Yes, ltb, eqb}
use lib.ListN.{length, get_or, set, length-append, get_or-append}
use lib.Seq.{get_or-append-add, set-append_left}
use borrow.Author.Tests.{lt-ltb, le-ltb, eq-eqb, ne_eqb, eqb-true, eqb-false}
use Rattle.layered.specs.Search.{tally, tabulate, total}
use Rattle.layered.specs.Histories.{history_words}
use Rattle.layered.specs.Machines.{Machine, Legal, reached}
use Rattle.layered.proofs.Search.{tally_cong, tally_either, tally_zero, tally_nowhere}
use Rattle.layered.proofs.Lists.{tabulate_length, tabulate_add, join_tabulate, tally_digit, set_append_right}
use Rattle.paths.specs.Paths.{leads_to, leads, histories, smallest_of, smallest, of_states}
use Rattle.paths.specs.Progress.{last_entry, followed, leads_so_far, histories_so_far, smallest_so_far, numbers_so_far, smaller}
use Rattle.paths.proofs.Smallest.{smallest_none, smallest_below, smallest_cong, smallest_digit, smallest_either}
use Rattle.paths.proofs.Arrays.{states_length, states_at, states_cong, states_set, states_in}
use Rattle.paths.proofs.Leading.{leads_on, front_below, last_below, last_tells, last_is}

-- ---- tests

-- one number more is below the next bound
below_next : (x e : ℕ) → ¬ (x ≡ e) → ltb x (e + 1) ≡ ltb x e
below_next x e n = go (dec_lt x e)
  where
    go : Dec (x < e) → ltb x (e + 1) ≡ ltb x e
    go (yes l) = lt-ltb x (e + 1) (omega arith) ∙ sym (lt-ltb x e l)
    go (no l) = le-ltb x (e + 1) (omega arith) ∙ sym (le-ltb x e (omega arith))

-- a number of another block is below its start where it is below its end
same_block : (K a v s : ℕ) → v < K → ¬ (a ≡ s) → ltb (a * K + v) (s * K) ≡ ltb (a * K + v) (suc s * K)
same_block K a v s l n = go (dec_lt a s)
  where
    go : Dec (a < s) → ltb (a * K + v) (s * K) ≡ ltb (a * K + v) (suc s * K)
    go (yes k) = let d = digits_lt k l in lt-ltb (a * K + v) (s * K) d ∙ sym (lt-ltb (a * K + v) (suc s * K) (omega (arith, suc-mul s K)))
    go (no k) =
        let d : suc s * K ≤ a * K = mul-le-mul_right K (omega arith) in
        le-ltb (a * K + v) (s * K) (omega (arith, suc-mul s K)) ∙ sym (le-ltb (a * K + v) (suc s * K) (omega arith))

not_both : (a b : Bool) → (a ≡ true → b ≡ true → ⊥) → (a && b) ≡ false
not_both true true f = absurd (f refl refl)
not_both true false f = refl
not_both false b f = refl

-- ---- which histories were followed

module _ (K : ℕ) (M : Machine) where
  -- of the layer that is followed, those whose last entry was
  here : (t e h : ℕ) → followed K M t e (suc t) h ≡ ltb (last_entry K M t h) e
  unfolding followed
  here t e h = rw (le-ltb t t (le_refl t), eq-eqb t t refl)

  -- of layers up to it, all
  earlier : (t e l h : ℕ) → l ≤ t → followed K M t e l h ≡ true
  unfolding followed
  earlier t e zero h b = refl
  earlier t e (suc l) h b = rw (lt-ltb l t b)

  -- of layers after the next, none
  later : (t e l h : ℕ) → t < l → followed K M t e (suc l) h ≡ false
  unfolding followed
  later t e l h b = rw (le-ltb l t (omega arith), ne_eqb l t (λ q. omega arith))

  -- and of the next none before its first entry
  not_begun : (t l h : ℕ) → t ≤ l → followed K M t 0 (suc l) h ≡ false
  not_begun t l h b = ⊎_elim (λ q. subst (λ l. followed K M t 0 (suc l) h ≡ false) q (here t 0 h ∙ le-ltb (last_entry K M t h) 0 (omega arith))) (later t 0 l h) (eq-or-lt_of_le b)

  -- of other layers as many as before
  elsewhere : (t e f l h : ℕ) → ¬ (l ≡ suc t) → followed K M t e l h ≡ followed K M t f l h
  unfolding followed
  elsewhere t e f zero h n = refl
  elsewhere t e f (suc l) h n = rw (ne_eqb l t (λ q. n (ap suc q)))

  -- the numbers by the tests
  same_histories : (t e u f l s : ℕ) → ((h : ℕ) → h < K ^ l → leads_so_far K M t e l s h ≡ leads_so_far K M u f l s h) → histories_so_far K M t e l s ≡ histories_so_far K M u f l s
  unfolding histories_so_far
  same_histories t e u f l s q = tally_cong (K ^ l) q

  same_smallest : (t e u f l s : ℕ) → ((h : ℕ) → h < K ^ l → leads_so_far K M t e l s h ≡ leads_so_far K M u f l s h) → smallest_so_far K M t e l s ≡ smallest_so_far K M u f l s
  unfolding smallest_so_far
  same_smallest t e u f l s q = smallest_cong (K ^ l) _ _ q

  -- once all entries of a layer before t were followed, its numbers are the whole ones
  pub whole_histories : (t e l s : ℕ) → l ≤ t → histories_so_far K M t e l s ≡ histories K M l s
  unfolding histories_so_far leads_so_far histories
  whole_histories t e l s b = tally_cong (K ^ l) (λ h k. ap (λ a. a && leads K M l s h) (earlier t e l h b))

  pub whole_smallest : (t e l s : ℕ) → l ≤ t → smallest_so_far K M t e l s ≡ smallest K M l s
  unfolding smallest_so_far leads_so_far smallest
  whole_smallest t e l s b = smallest_cong (K ^ l) _ _ (λ h k. ap (λ a. a && leads K M l s h) (earlier t e l h b))

  -- ---- one entry

  module _ (t s w : ℕ) (lw : w < K) where
    abbrev e₀ : ℕ
    e₀ = s * K + w

    abbrev x₀ : ℕ
    x₀ = M.next t s w

    -- a history whose last entry it is leads to its next state
    arrives : (h : ℕ) → last_entry K M t h ≡ e₀ → leads_to K M (suc t) h ≡ x₀
    arrives h q = let r = last_tells K M t h s w lw q in leads_on K M t h ∙ ap₂ (M.next t) r.0 r.1

    -- the histories that it adds
    new : ℕ → Bool
    new h = leads K M t s (h / K) && eqb w (h % K)

    new_is : (h : ℕ) → last_entry K M t h ≡ e₀ → new h ≡ true
    unfolding new leads
    new_is h q = let r = last_tells K M t h s w lw q in rw (eq-eqb _ s r.0, eq-eqb w (h % K) (sym r.1))

    not_new : (h : ℕ) → ¬ (last_entry K M t h ≡ e₀) → new h ≡ false
    unfolding new leads
    not_new h n = not_both _ _ (λ a b. n (last_is K M t h s w (eqb-true _ s a) (sym (eqb-true w (h % K) b))))

    -- others' tests stay
    stays : (r h : ℕ) → ¬ (r ≡ x₀) → leads_so_far K M t (e₀ + 1) (suc t) r h ≡ leads_so_far K M t e₀ (suc t) r h
    unfolding leads_so_far leads
    stays r h n = rw (here t (e₀ + 1) h, here t e₀ h) (go (ℕ_discrete (last_entry K M t h) e₀))
      where
        go : Dec (last_entry K M t h ≡ e₀) → (ltb (last_entry K M t h) (e₀ + 1) && eqb (leads_to K M (suc t) h) r) ≡ (ltb (last_entry K M t h) e₀ && eqb (leads_to K M (suc t) h) r)
        go (yes q) =
            let z : eqb (leads_to K M (suc t) h) r ≡ false = ne_eqb _ r (λ f. n (sym f ∙ arrives h q)) in
            rw (z, and-false, and-false)
        go (no q) = rw (below_next (last_entry K M t h) e₀ q)

    pub unchanged : (l r h : ℕ) → (l ≡ suc t → r ≡ x₀ → ⊥) → leads_so_far K M t (e₀ + 1) l r h ≡ leads_so_far K M t e₀ l r h
    unfolding leads_so_far
    unchanged l r h n = go (ℕ_discrete l (suc t))
      where
        go : Dec (l ≡ suc t) → leads_so_far K M t (e₀ + 1) l r h ≡ leads_so_far K M t e₀ l r h
        go (yes q) = subst (λ l. leads_so_far K M t (e₀ + 1) l r h ≡ leads_so_far K M t e₀ l r h) (sym q) (stays r h (n q))
        go (no q) = ap (λ a. a && leads K M l r h) (elsewhere t (e₀ + 1) e₀ l h q)

    -- the next state's gains the new ones
    gains : (h : ℕ) → leads_so_far K M t (e₀ + 1) (suc t) x₀ h ≡ (leads_so_far K M t e₀ (suc t) x₀ h || new h)
    unfolding leads_so_far leads
    gains h = rw (here t (e₀ + 1) h, here t e₀ h) (go (ℕ_discrete (last_entry K M t h) e₀))
      where
        go : Dec (last_entry K M t h ≡ e₀) → (ltb (last_entry K M t h) (e₀ + 1) && eqb (leads_to K M (suc t) h) x₀) ≡ ((ltb (last_entry K M t h) e₀ && eqb (leads_to K M (suc t) h) x₀) || new h)
        go (yes q) = rw (new_is h q, or-true, lt-ltb (last_entry K M t h) (e₀ + 1) (omega arith), eq-eqb _ x₀ (arrives h q))
        go (no q) = rw (not_new h q, or-false, below_next (last_entry K M t h) e₀ q)

    apart : (h : ℕ) → Yes (leads_so_far K M t e₀ (suc t) x₀ h) → Yes (new h) → ⊥
    unfolding leads_so_far
    apart h a b = go (ℕ_discrete (last_entry K M t h) e₀)
      where
        none : last_entry K M t h ≡ e₀ → (followed K M t e₀ (suc t) h && leads K M (suc t) x₀ h) ≡ false
        none q = rw (here t e₀ h, le-ltb (last_entry K M t h) e₀ (omega arith))

        go : Dec (last_entry K M t h ≡ e₀) → ⊥
        go (yes q) = subst Yes (none q) a
        go (no q) = subst Yes (not_new h q) b

    pub histories_more : histories_so_far K M t (e₀ + 1) (suc t) x₀ ≡ histories_so_far K M t e₀ (suc t) x₀ + histories K M t s
    unfolding histories_so_far histories new
    histories_more =
        tally_cong (K ^ suc t) (λ h l. gains h)
        ∙ tally_either (K ^ suc t) (leads_so_far K M t e₀ (suc t) x₀) new (λ h l. apart h)
        ∙ ap (λ n. tally (K ^ suc t) (leads_so_far K M t e₀ (suc t) x₀) + n) (ap (λ n. tally n new) (pow-suc K t) ∙ tally_digit (K ^ t) K w (leads K M t s) lw)

    pub smallest_more : 0 < histories K M t s → smallest_so_far K M t (e₀ + 1) (suc t) x₀ ≡ smaller (histories_so_far K M t e₀ (suc t) x₀) (smallest_so_far K M t e₀ (suc t) x₀) (smallest K M t s * K + w)
    unfolding histories_so_far smallest_so_far histories smallest new
    smallest_more p =
        let n : tally (K ^ suc t) new ≡ tally (K ^ t) (leads K M t s) = ap (λ n. tally n new) (pow-suc K t) ∙ tally_digit (K ^ t) K w (leads K M t s) lw in
        smallest_cong (K ^ suc t) _ (λ h. leads_so_far K M t e₀ (suc t) x₀ h || new h) (λ h l. gains h)
        ∙ smallest_either (K ^ suc t) (leads_so_far K M t e₀ (suc t) x₀) new (omega arith)
        ∙ ap (smaller (tally (K ^ suc t) (leads_so_far K M t e₀ (suc t) x₀)) (smallest_of (K ^ suc t) (leads_so_far K M t e₀ (suc t) x₀)))
        (ap (λ n. smallest_of n new) (pow-suc K t) ∙ smallest_digit (K ^ t) K w (leads K M t s) lw p)

-- ---- both arrays

module _ (K T : ℕ) (M : Machine) where
  -- how many numbers there are
  pub numbers_length : (t e : ℕ) → length (numbers_so_far K T M t e) ≡ total (suc T) M.states + total (suc T) M.states
  unfolding numbers_so_far
  numbers_length t e =
      length-append (of_states T M.states (histories_so_far K M t e)) (of_states T M.states (smallest_so_far K M t e))
      ∙ ap₂ ◌+◌ (states_length T M.states (histories_so_far K M t e)) (states_length T M.states (smallest_so_far K M t e))

  -- those of a state
  module _ (t e l s : ℕ) (b : l ≤ T) (k : s < M.states l) where
    pub histories_read : get_or (numbers_so_far K T M t e) (total l M.states + s) 0 ≡ histories_so_far K M t e l s
    unfolding numbers_so_far
    histories_read =
        get_or-append (of_states T M.states (histories_so_far K M t e)) (of_states T M.states (smallest_so_far K M t e)) 0 (total l M.states + s)
        (omega (arith, states_length T M.states (histories_so_far K M t e), states_in T M.states (histories_so_far K M t e) l s b k))
        ∙ states_at T M.states (histories_so_far K M t e) l s b k

    pub smallest_read : get_or (numbers_so_far K T M t e) (total (suc T) M.states + (total l M.states + s)) 0 ≡ smallest_so_far K M t e l s
    unfolding numbers_so_far
    smallest_read =
        ap (λ n. get_or (numbers_so_far K T M t e) (n + (total l M.states + s)) 0) (sym (states_length T M.states (histories_so_far K M t e)))
        ∙ get_or-append-add (of_states T M.states (histories_so_far K M t e)) (of_states T M.states (smallest_so_far K M t e)) _ 0
        ∙ states_at T M.states (smallest_so_far K M t e) l s b k

  -- the same histories followed, the same numbers
  same_numbers : (t e u f : ℕ) → ((l h : ℕ) → l ≤ T → h < K ^ l → followed K M t e l h ≡ followed K M u f l h) → numbers_so_far K T M t e ≡ numbers_so_far K T M u f
  unfolding numbers_so_far leads_so_far
  same_numbers t e u f q =
      ap₂ ◌++◌
      (states_cong T M.states _ _ (λ l s b k. same_histories K M t e u f l s (λ h j. ap (λ a. a && leads K M l s h) (q l h b j))))
      (states_cong T M.states _ _ (λ l s b k. same_smallest K M t e u f l s (λ h j. ap (λ a. a && leads K M l s h) (q l h b j))))

  -- one number of the first array and one of the second are replaced
  replace : (A B : List ℕ) (n i x y : ℕ) → length A ≡ n → i < n → set A i x ++ set B i y ≡ set (set (A ++ B) (n + i) y) i x
  replace A B n i x y e l =
      sym
      (ap (λ n. set (set (A ++ B) (n + i) y) i x) (sym e)
      ∙ ap (λ v. set v i x) (set_append_right A B i y)
      ∙ set-append_left A (set B i y) i x (omega arith))

  -- an entry of a state that histories lead to
  pub entry_followed : (t s w : ℕ) → suc t ≤ T → w < K → M.next t s w < M.states (suc t) → 0 < histories K M t s
      → let e = s * K + w in
      let x = M.next t s w in
      numbers_so_far K T M t (e + 1)
      ≡ set
      (set (numbers_so_far K T M t e) (total (suc T) M.states + (total (suc t) M.states + x))
      (smaller (histories_so_far K M t e (suc t) x) (smallest_so_far K M t e (suc t) x) (smallest K M t s * K + w)))
      (total (suc t) M.states + x)
      (histories_so_far K M t e (suc t) x + histories K M t s)
  unfolding numbers_so_far
  entry_followed t s w b l k p =
      let e = s * K + w in
      let x = M.next t s w in
      let f = histories_so_far K M t e in
      let g = smallest_so_far K M t e in
      ap₂ ◌++◌
      (states_set T M.states f (histories_so_far K M t (e + 1)) (suc t) x b k (λ u r c j n. same_histories K M t (e + 1) t e u r (λ h i. unchanged K M t s w l u r h n))
      ∙ ap (set (of_states T M.states f) (total (suc t) M.states + x)) (histories_more K M t s w l))
      (states_set T M.states g (smallest_so_far K M t (e + 1)) (suc t) x b k (λ u r c j n. same_smallest K M t (e + 1) t e u r (λ h i. unchanged K M t s w l u r h n))
      ∙ ap (set (of_states T M.states g) (total (suc t) M.states + x)) (smallest_more K M t s w l p))
      ∙ replace (of_states T M.states f) (of_states T M.states g) _ _ _ _ (states_length T M.states f) (states_in T M.states f (suc t) x b k)

  module _ {m : ℕ} (L : Legal K m T M) (P : 0 < K) where
    -- the entries of a state that no history leads to add nothing
    pub state_skipped : (t s : ℕ) → t ≤ T → histories K M t s ≡ 0 → numbers_so_far K T M t (s * K) ≡ numbers_so_far K T M t (suc s * K)
    unfolding histories leads last_entry
    state_skipped t s b z = same_numbers t (s * K) t (suc s * K) (λ l h c k. go l h k (ℕ_discrete l (suc t)))
      where
        no_entry : (h : ℕ) → h < K ^ suc t → ¬ (leads_to K M t (h / K) ≡ s)
        no_entry h k q = eqb-false _ s (tally_zero (K ^ t) (λ h. eqb (leads_to K M t h) s) z (h / K) (front_below K M P t h k)) q

        go : (l h : ℕ) → h < K ^ l → Dec (l ≡ suc t) → followed K M t (s * K) l h ≡ followed K M t (suc s * K) l h
        go l h k (yes q) =
            subst (λ l. followed K M t (s * K) l h ≡ followed K M t (suc s * K) l h) (sym q)
            (here K M t (s * K) h ∙ same_block K _ (h % K) s (mod-lt h P) (no_entry h (subst (λ l. h < K ^ l) q k)) ∙ sym (here K M t (suc s * K) h))
        go l h k (no q) = elsewhere K M t (s * K) (suc s * K) l h q

    -- all entries of a layer: the next one is begun
    pub layer_followed : (t : ℕ) → t ≤ T → numbers_so_far K T M t (M.states t * K) ≡ numbers_so_far K T M (suc t) 0
    layer_followed t b = same_numbers t (M.states t * K) (suc t) 0 go
      where
        go : (l h : ℕ) → l ≤ T → h < K ^ l → followed K M t (M.states t * K) l h ≡ followed K M (suc t) 0 l h
        go zero h c k = earlier K M t (M.states t * K) 0 h zero-le ∙ sym (earlier K M (suc t) 0 0 h zero-le)
        go (suc l) h c k = at (dec_lt t l) (ℕ_discrete l t)
          where
            at : Dec (t < l) → Dec (l ≡ t) → followed K M t (M.states t * K) (suc l) h ≡ followed K M (suc t) 0 (suc l) h
            at (yes q) d = later K M t (M.states t * K) l h q ∙ sym (not_begun K M (suc t) l h q)
            at (no q) (yes r) =
                subst (λ l. followed K M t (M.states t * K) (suc l) h ≡ followed K M (suc t) 0 (suc l) h) (sym r)
                (here K M t (M.states t * K) h
                ∙ lt-ltb _ _ (last_below K M L P t h b (subst (λ l. h < K ^ suc l) r k))
                ∙ sym (earlier K M (suc t) 0 (suc t) h (le_refl _)))
            at (no q) (no r) = earlier K M t (M.states t * K) (suc l) h (omega arith) ∙ sym (earlier K M (suc t) 0 (suc l) h (omega arith))

  -- all layers: the numbers are the whole ones
  pub all_followed : numbers_so_far K T M T 0 ≡ of_states T M.states (histories K M) ++ of_states T M.states (smallest K M)
  unfolding numbers_so_far
  all_followed =
      ap₂ ◌++◌ (states_cong T M.states _ _ (λ l s b k. whole_histories K M T 0 l s b)) (states_cong T M.states _ _ (λ l s b k. whole_smallest K M T 0 l s b))

  -- at the start: one history leads to the start, and all other numbers are zero
  module _ (one : M.states 0 ≡ 1) (start : M.start ≡ 0) where
    first_histories : (s : ℕ) → s ≡ 0 → histories_so_far K M 0 0 0 s ≡ 1
    unfolding histories_so_far leads_so_far followed leads leads_to history_words reached tally
    first_histories s e = rw (e, pow-zero K, start)

    no_histories : (l s : ℕ) → histories_so_far K M 0 0 (suc l) s ≡ 0
    unfolding histories_so_far leads_so_far
    no_histories l s = tally_nowhere (K ^ suc l) _ (λ h k. ap (λ a. a && leads K M (suc l) s h) (not_begun K M 0 l h zero-le))

    no_smallest : (l s : ℕ) → smallest_so_far K M 0 0 l s ≡ 0
    unfolding smallest_so_far histories_so_far
    no_smallest zero s = lt-one (smallest_below (K ^ 0) 1 _ (le_refl 1) (le_of_eq (pow-zero K)))
    no_smallest (suc l) s = smallest_none (K ^ suc l) _ (no_histories l s)

    zeros : List ℕ
    zeros = of_states T M.states (λ t s. 0)

    zeros_are : zeros ≡ tabulate (total (suc T) M.states) (λ i. 0)
    unfolding zeros of_states
    zeros_are = join_tabulate (suc T) M.states (λ i. 0)

    pub none_followed : let n = total (suc T) M.states in numbers_so_far K T M 0 0 ≡ set (tabulate (n + n) (λ i. 0)) 0 1
    unfolding numbers_so_far zeros total
    none_followed =
        let n = total (suc T) M.states in
        let f = histories_so_far K M 0 0 in
        let k : 0 < M.states 0 = omega arith in
        let z : total 0 M.states + 0 ≡ 0 = omega arith in
        ap₂ ◌++◌
        (states_set T M.states (λ t s. 0) f 0 0 zero-le k other ∙ ap₂ (set zeros) z (first_histories 0 refl) ∙ ap (λ l. set l 0 1) zeros_are)
        (states_cong T M.states _ _ (λ l s b k. no_smallest l s) ∙ zeros_are)
        ∙ sym (set-append_left (tabulate n (λ i. 0)) (tabulate n (λ i. 0)) 0 1 (omega (arith, tabulate_length n (λ i. 0), states_in T M.states f 0 0 zero-le k)))
        ∙ ap (λ l. set l 0 1) (sym (tabulate_add n n (λ i. 0)))
      where
        other : (l r : ℕ) → l ≤ T → r < M.states l → (l ≡ 0 → r ≡ 0 → ⊥) → histories_so_far K M 0 0 l r ≡ 0
        other zero r b k n = absurd (n refl (omega arith))
        other (suc l) r b k n = no_histories l r
