-- The lists of places: what the searches find in them, as the definition judges both joined, and what is stored of them. Assumes nothing.
use mathlib.Core.Path.{◌≡◌, refl, sym, ap, subst, ◌∙◌}
use mathlib.Core.Bool.{Bool, true, false, not, cond, or-true}
use mathlib.Core.List.{List, [], ◌∷◌}
use mathlib.Core.Logic.{⊎_elim}
use Prim.Native.Nat.{ℕ, zero, suc, ◌+◌, ◌*◌, ◌-◌, ◌≤◌, ◌<◌}
use native.Mathlib.Omega.{arith}
use lib.Dec.{ltb, leb, eqb}
use lib.ListN.{length, get_or, take, get_or-append, length-take}
use lib.Seq.{get_or-append-add, get_or-take}
use borrow.Author.Tests.{lt-ltb, le-ltb, ltb-true, ltb-false, eq-eqb, ne_eqb, not-true, not-false}
use Rattle.verdict.specs.Judgements.{answer, refuse_first}
use Rattle.verdict.proofs.Laws.{first_is, finds_none}
use Rattle.layered.specs.Search.{least, every}
use Rattle.layered.proofs.Search.{below_or, every_each, every_fails, every_cong, least_le, least_tells, least_is}
use Rattle.std.specs.Prelude.{Some, None}
use Rattle.std.specs.List.{list_any}
use Rattle.circuit.specs.Found.{found}
use Rattle.circuit.proofs.Found.{is_found, none_is}
use Rattle.circuit.specs.Circuit.{all_inputs, all_outputs}
use Rattle.spreading.specs.Spread.{is_outside, is_repeated, is_taken, lists_checked}

-- whether a test holds of one of the elements
none_of : (f : ℕ → Bool) (xs : List ℕ) → ((i : ℕ) → i < length xs → f (get_or xs i 0) ≡ false) → list_any f xs ≡ false
none_of f [] h = refl
none_of f (x ∷ xs) h = rw (h 0 (omega arith), none_of f xs (λ i l. h (suc i) (omega arith)))

one_of : (f : ℕ → Bool) (xs : List ℕ) (i : ℕ) → i < length xs → f (get_or xs i 0) ≡ true → list_any f xs ≡ true
one_of f [] i l e = absurd (omega arith)
one_of f (x ∷ xs) zero l e = rw e
one_of f (x ∷ xs) (suc i) l e = rw (one_of f xs i (omega arith) e) (or-true (f x))

any_is : (f : ℕ → Bool) (xs : List ℕ) → list_any f xs ≡ not (every (length xs) (λ i. not (f (get_or xs i 0))))
any_is f xs = go (every (length xs) (λ i. not (f (get_or xs i 0)))) refl
  where
    go : (t : Bool) → every (length xs) (λ i. not (f (get_or xs i 0))) ≡ t → list_any f xs ≡ not t
    go true e = none_of f xs (λ i l. not-true (f (get_or xs i 0)) (every_each _ (length xs) e i l))
    go false e = let (i, l, z) = every_fails (length xs) _ e in one_of f xs i l (not-false (f (get_or xs i 0)) z)

-- an item that is among those before it
pub repeated_is : (list : List ℕ) (k : ℕ) → k < length list → list_any (λ y. eqb y (get_or list k 0)) (take k list) ≡ is_repeated list k
unfolding is_repeated
repeated_is list k h =
    let l : length (take k list) ≡ k = length-take k list ∙ omega arith in
    any_is (λ y. eqb y (get_or list k 0)) (take k list)
    ∙ rw l (ap not (every_cong k _ _ (λ i m. ap (λ y. not (eqb y (get_or list k 0))) (get_or-take k list i 0 m))))

-- ---- two lists, joined

-- the index of the first found in either
abbrev pub joined_at : (a : ℕ) (p : ℕ → Bool) (c : ℕ) (q : ℕ → Bool) → ℕ
joined_at a p c q = cond (ltb (least a p) a) (least a p) (a + least c q)

-- what is found in the first, in the second, or in neither
module _ (a : ℕ) (p : ℕ → Bool) (c : ℕ) (q : ℕ → Bool) where
  joined_first : (k : ℕ) → Some k ≡ found a (least a p) → (joined_at a p c q ≡ k) × (k < a)
  joined_first k e =
      let f = is_found a (least a p) k e in
      (rw (lt-ltb (least a p) a f.1) (sym f.0), omega (arith, f))

  joined_second : None ≡ found a (least a p) → (k : ℕ) → Some k ≡ found c (least c q) → (joined_at a p c q ≡ a + k) × (k < c)
  joined_second n k e =
      let f = is_found c (least c q) k e in
      (rw (le-ltb (least a p) a (none_is a _ n)) (ap (λ k. a + k) (sym f.0)), omega (arith, f))

  joined_none : None ≡ found a (least a p) → None ≡ found c (least c q) → a + c ≤ joined_at a p c q
  joined_none n m = let k = none_is c _ m in rw (le-ltb (least a p) a (none_is a _ n)) (omega (arith, k))

module _ (test : ℕ → Bool) (a : ℕ) (p : ℕ → Bool) (c : ℕ) (q : ℕ → Bool) (first : (k : ℕ) → k < a → test k ≡ p k) (second : (k : ℕ) → k < c → test (a + k) ≡ q k) where
  joined_least : least (a + c) test ≡ joined_at a p c q
  joined_least = ⊎_elim
      (λ (h : least a p < a).
      rw (lt-ltb (least a p) a h)
      (least_is (a + c) (least a p) test (omega arith) (λ i l. first i (omega arith) ∙ (least_tells a p).0 i l) (λ _. first (least a p) h ∙ (least_tells a p).1 h)))
      (λ (h : a ≤ least a p).
      rw (le-ltb (least a p) a h)
      (least_is (a + c) (a + least c q) test (omega (arith, least_le c q)) (below h) (λ l. second (least c q) (omega arith) ∙ (least_tells c q).1 (omega arith))))
      (below_or (least a p) a)
    where
      below : a ≤ least a p → (i : ℕ) → i < a + least c q → test i ≡ false
      below h i l = ⊎_elim
          (λ (s : i < a). first i s ∙ (least_tells a p).0 i (omega arith))
          (λ (s : a ≤ i).
          let e : a + (i - a) ≡ i = omega arith in
          subst (λ i. test i ≡ false) e (second (i - a) (omega (arith, least_le c q)) ∙ (least_tells c q).0 (i - a) (omega arith)))
          (below_or i a)

  -- so it is judged
  pub joined_judged : (number : ℕ) → refuse_first test number (λ k. k) (answer 0 0) 0 (a + c) ≡ cond (ltb (joined_at a p c q) (a + c)) (answer number (joined_at a p c q)) (answer 0 0)
  joined_judged number = subst (λ k. refuse_first test number (λ k. k) (answer 0 0) 0 (a + c) ≡ cond (ltb k (a + c)) (answer number k) (answer 0 0)) joined_least (go (ltb (least (a + c) test) (a + c)) refl)
    where
      go : (t : Bool) → ltb (least (a + c) test) (a + c) ≡ t → refuse_first test number (λ k. k) (answer 0 0) 0 (a + c) ≡ cond t (answer number (least (a + c) test)) (answer 0 0)
      go true e = first_is test number (λ k. k) (answer 0 0) (least (a + c) test) (a + c) (ltb-true (least (a + c) test) (a + c) e) (least_tells (a + c) test).0 ((least_tells (a + c) test).1 (ltb-true (least (a + c) test) (a + c) e))
      go false e = finds_none test number (λ k. k) (answer 0 0) 0 (a + c) (λ j lo hi. (least_tells (a + c) test).0 j (omega (arith, ltb-false (least (a + c) test) (a + c) e)))

module _ (c : List ℕ) (n m T : ℕ) (ins outs : List ℕ) where
  abbrev a : ℕ
  a = length ins

  abbrev d : ℕ
  d = length outs

  abbrev pub outside_at : ℕ
  outside_at = joined_at a (λ k. leb (n * T) (get_or ins k 0)) d (λ k. leb (m * T) (get_or outs k 0))

  abbrev pub taken_at : ℕ
  taken_at = joined_at a (is_repeated ins) d (is_repeated outs)

  outside_judged : refuse_first (is_outside n m T ins outs) 19 (λ k. k) (answer 0 0) 0 (a + d) ≡ cond (ltb outside_at (a + d)) (answer 19 outside_at) (answer 0 0)
  unfolding is_outside
  outside_judged = joined_judged (is_outside n m T ins outs) a _ d _
      (λ k h. rw (lt-ltb k a h, get_or-append ins outs 0 k h))
      (λ k h. rw (le-ltb (a + k) a (omega arith), get_or-append-add ins outs k 0)) 19

  taken_judged : refuse_first (is_taken ins outs) 20 (λ k. k) (answer 0 0) 0 (a + d) ≡ cond (ltb taken_at (a + d)) (answer 20 taken_at) (answer 0 0)
  unfolding is_taken
  taken_judged = joined_judged (is_taken ins outs) a (is_repeated ins) d (is_repeated outs)
      (λ k h. rw (lt-ltb k a h))
      (λ k h. let e : a + k - a ≡ k = omega arith in rw (le-ltb (a + k) a (omega arith), e)) 20

  -- each outcome of the lists
  pub inputs_wrong : (a ≡ all_inputs c → ⊥) → answer 12 a ≡ lists_checked c n m T ins outs
  unfolding lists_checked
  inputs_wrong z = rw (ne_eqb a (all_inputs c) z)

  module _ (i : a ≡ all_inputs c) where
    pub outputs_wrong : (d ≡ all_outputs c → ⊥) → answer 12 d ≡ lists_checked c n m T ins outs
    unfolding lists_checked
    outputs_wrong z = rw (eq-eqb a (all_inputs c) i, ne_eqb d (all_outputs c) z)

    module _ (o : d ≡ all_outputs c) where
      outside_told : outside_at < a + d → answer 19 outside_at ≡ lists_checked c n m T ins outs
      unfolding lists_checked
      outside_told h = rw (eq-eqb a (all_inputs c) i, eq-eqb d (all_outputs c) o, outside_judged, lt-ltb outside_at (a + d) h)

      -- an item of either list is outside its range
      pub input_outside : (k : ℕ) → Some k ≡ found a (least a (λ k. leb (n * T) (get_or ins k 0))) → answer 19 k ≡ lists_checked c n m T ins outs
      input_outside k e =
          let f = joined_first a _ d (λ k. leb (m * T) (get_or outs k 0)) k e in
          ap (answer 19) (sym f.0) ∙ outside_told (omega (arith, f))

      module _ (I : None ≡ found a (least a (λ k. leb (n * T) (get_or ins k 0)))) where
        pub output_outside : (k : ℕ) → Some k ≡ found d (least d (λ k. leb (m * T) (get_or outs k 0))) → answer 19 (a + k) ≡ lists_checked c n m T ins outs
        output_outside k e =
            let f = joined_second a _ d _ I k e in
            ap (answer 19) (sym f.0) ∙ outside_told (omega (arith, f))

        module _ (O : None ≡ found d (least d (λ k. leb (m * T) (get_or outs k 0)))) where
          taken_told : cond (ltb taken_at (a + d)) (answer 20 taken_at) (answer 0 0) ≡ lists_checked c n m T ins outs
          unfolding lists_checked
          taken_told = rw (eq-eqb a (all_inputs c) i, eq-eqb d (all_outputs c) o, outside_judged, le-ltb outside_at (a + d) (joined_none a _ d _ I O), taken_judged)

          taken_here : taken_at < a + d → answer 20 taken_at ≡ lists_checked c n m T ins outs
          taken_here l = simp (lt-ltb taken_at (a + d) l) at taken_told

          -- an item of either list is the same as an earlier one
          pub input_taken : (k : ℕ) → Some k ≡ found a (least a (is_repeated ins)) → answer 20 k ≡ lists_checked c n m T ins outs
          input_taken k e =
              let f = joined_first a _ d (is_repeated outs) k e in
              ap (answer 20) (sym f.0) ∙ taken_here (omega (arith, f))

          module _ (J : None ≡ found a (least a (is_repeated ins))) where
            pub output_taken : (k : ℕ) → Some k ≡ found d (least d (is_repeated outs)) → answer 20 (a + k) ≡ lists_checked c n m T ins outs
            output_taken k e =
                let f = joined_second a _ d _ J k e in
                ap (answer 20) (sym f.0) ∙ taken_here (omega (arith, f))

            pub none_taken : None ≡ found d (least d (is_repeated outs)) → answer 0 0 ≡ lists_checked c n m T ins outs
            none_taken e = simp (le-ltb taken_at (a + d) (joined_none a _ d _ J e)) at taken_told
