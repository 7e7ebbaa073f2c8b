-- Number 4 among the numbers of the check: the two statements about it of specs/Theorems. Assumes nothing.
use mathlib.Core.Path.{◌≡◌, refl, sym, ap, ap₂, ◌∙◌, subst}
use mathlib.Core.Bool.{Bool, true, false, not, beq, cond}
use mathlib.Core.Logic.{⊎_elim}
use mathlib.Core.List.{List}
use Prim.Native.Nat.{ℕ, ◌*◌, ◌/◌, ◌%◌, ◌^◌, ◌<◌}
use native.Mathlib.Nat.{eq-or-lt_of_le}
use native.Mathlib.Omega.{arith}
use lib.Dec.{ltb, eqb, lit<}
use lib.ListN.{length, get_or}
use lib.Pow.{pow_pos}
use borrow.Author.Tests.{eqb-true, eqb-false}
use Rattle.verdict.specs.Judgements.{answer, and_then, refuse_first}
use Rattle.verdict.specs.declared.Figures.{Figures}
use Rattle.verdict.proofs.Laws.{both_accept, none_found, finds_none, first_is, first_cong, under_refuse, under_then, under_first}
use Rattle.sizes.specs.Limits.{most_inputs, most_outputs, most_frames, most_bits}
use Rattle.sizes.specs.Sizes.{inputs, outputs, frames, outside, sizes_checked}
use Rattle.layered.specs.Search.{every, least}
use Rattle.layered.specs.States.{Words}
use Rattle.layered.specs.Histories.{history_words}
use Rattle.layered.proofs.Search.{every_cong, least_le, least_tells}
use Rattle.layered.proofs.Histories.{history-words}
use Rattle.circuit.specs.Limits.{circuit_head, most_gates}
use Rattle.circuit.specs.Lists.{bit, block_start}
use Rattle.circuit.specs.Circuit.{gates, lefts_at, rights_at, circuit_length, all_inputs, all_outputs, head_checked, literals_checked, form_within, form_checked, output_word, output_words, output_bit, output_on, later_inputs, as_first, looks_ahead, look_ahead_checked, checked}
use Rattle.circuit.specs.Theorems.{DependsOnLater, FirstAhead, JudgedAlike}
use Rattle.circuit.proofs.Lists.{listed_at}
use Rattle.circuit.specs.WellFormed.{Formed}
use Rattle.circuit.proofs.Accepted.{formed}
use Rattle.circuit.proofs.Ahead.{output_parts, ahead_depends, none_depends}

-- ---- the numbers that the check can answer

pub sizes_number : (most n m T : ℕ) → (sizes_checked most n m T).number < 4
unfolding sizes_checked
sizes_number most n m T =
    under_refuse 4 (outside 1 most n) 2 0 _ (lit< tt)
    (under_refuse 4 (outside 1 most_outputs m) 2 2 _ (lit< tt)
    (under_refuse 4 (outside 1 most_frames T) 2 4 _ (lit< tt)
    (under_refuse 4 (ltb most_bits (n * T)) 2 4 _ (lit< tt) (lit< tt))))

head_number : (most long : ℕ) (b : List ℕ) → (head_checked most long b).number < 4
unfolding head_checked
head_number most long b =
    under_refuse 4 (ltb (length b) circuit_head) 1 (length b) _ (lit< tt)
    (under_then 4 (sizes_checked most (inputs b) (outputs b) (frames b)) _ (sizes_number most _ _ _)
    (under_refuse 4 (ltb long (frames b)) 2 4 _ (lit< tt)
    (under_refuse 4 (outside (all_outputs b) most_gates (gates b)) 2 6 _ (lit< tt)
    (under_refuse 4 (not (eqb (length b) (circuit_length b))) 1 (length b) _ (lit< tt) (lit< tt)))))

literals_number : (b : List ℕ) (start : ℕ) → (literals_checked b start).number < 4
unfolding literals_checked
literals_number b start = under_first 4 _ 3 _ (answer 0 0) 0 (gates b) (lit< tt) (lit< tt)

pub within_number : (most long : ℕ) (b : List ℕ) → (form_within most long b).number < 4
unfolding form_within
within_number most long b =
    under_then 4 (head_checked most long b) _ (head_number most long b)
    (under_then 4 (literals_checked b (lefts_at b)) (literals_checked b (rights_at b)) (literals_number b (lefts_at b)) (literals_number b (rights_at b)))

form_number : (b : List ℕ) → (form_checked b).number < 4
unfolding form_checked
form_number b = within_number most_inputs most_frames b

-- it is 4 at most
pub checked_number : (b : List ℕ) → (checked b).number < 5
unfolding checked look_ahead_checked
checked_number b =
    under_then 5 (form_checked b) (look_ahead_checked b) (omega (arith, form_number b)) (under_first 5 _ 4 _ (answer 0 0) 0 (all_outputs b) (lit< tt) (lit< tt))

-- ---- the first output that looks ahead

-- the place of the form's acceptance
within_place : (most long : ℕ) (b : List ℕ) (p : ℕ) → form_within most long b ≡ answer 0 p → form_within most long b ≡ answer 0 0
unfolding form_within literals_checked
within_place most long b p e =
    let h = both_accept (head_checked most long b) _ p e in
    let l = both_accept (literals_checked b (lefts_at b)) (literals_checked b (rights_at b)) p h.2 in
    e ∙ sym (none_found _ 3 _ (answer 0 0) p 0 (gates b) refl l.2).1

form_place : (b : List ℕ) (p : ℕ) → form_checked b ≡ answer 0 p → form_checked b ≡ answer 0 0
unfolding form_checked
form_place b p e = within_place most_inputs most_frames b p e

-- where the check answers 4, the form is accepted, and 4 is the answer of the look-ahead
four : (f g : Figures) (q : ℕ) → f.number < 4 → and_then f g ≡ answer 4 q → (f ≡ answer 0 f.place) × (g ≡ answer 4 q)
four f g q l e = go (eqb f.number 0) refl e
  where
    go : (t : Bool) → eqb f.number 0 ≡ t → cond t g f ≡ answer 4 q → (f ≡ answer 0 f.place) × (g ≡ answer 4 q)
    go true z h = (ap (λ n. answer n f.place) (eqb-true _ 0 z), h)
    go false z h = absurd (omega (arith, ap (λ (f : Figures). f.number) h))

module _ (b : List ℕ) (F : Formed b) where
  -- the look-ahead answers 4 at q exactly when q is the first that looks ahead
  first_ahead : (q : ℕ) → look_ahead_checked b ≡ answer 4 q → (q < all_outputs b) × (looks_ahead b q ≡ true) × ((r : ℕ) → r < q → looks_ahead b r ≡ false)
  unfolding look_ahead_checked
  first_ahead q e = ⊎_elim none one (eq-or-lt_of_le (least_le (all_outputs b) (looks_ahead b)))
    where
      r : ℕ
      r = least (all_outputs b) (looks_ahead b)

      tells : ((i : ℕ) → i < r → looks_ahead b i ≡ false) × (r < all_outputs b → looks_ahead b r ≡ true)
      tells = least_tells (all_outputs b) (looks_ahead b)

      none : r ≡ all_outputs b → (q < all_outputs b) × (looks_ahead b q ≡ true) × ((r : ℕ) → r < q → looks_ahead b r ≡ false)
      none z =
          let n = finds_none (looks_ahead b) 4 (λ q. q) (answer 0 0) 0 (all_outputs b) (λ j lo hi. tells.0 j (omega arith)) in
          absurd (eqb-false 0 4 refl (ap (λ (f : Figures). f.number) (sym n ∙ e)))

      one : r < all_outputs b → (q < all_outputs b) × (looks_ahead b q ≡ true) × ((r : ℕ) → r < q → looks_ahead b r ≡ false)
      one l =
          let n = first_is (looks_ahead b) 4 (λ q. q) (answer 0 0) r (all_outputs b) l tells.0 (tells.1 l) in
          let z : r ≡ q = ap (λ (f : Figures). f.place) (sym n ∙ e) in
          subst (λ q. (q < all_outputs b) × (looks_ahead b q ≡ true) × ((i : ℕ) → i < q → looks_ahead b i ≡ false)) z (l, tells.1 l, tells.0)

  -- an output that two sequences show looks ahead, and no other does
  shown : (q : ℕ) → q < all_outputs b → DependsOnLater b q → looks_ahead b q ≡ true
  unfolding DependsOnLater
  shown q h (c, d, W, U, s, n) = go (looks_ahead b q) refl
    where
      go : (t : Bool) → looks_ahead b q ≡ t → t ≡ true
      go true e = refl
      go false e = absurd (n (none_depends b F.head q h e c d W U s))

  not_shown : (q : ℕ) → q < all_outputs b → ¬ DependsOnLater b q → looks_ahead b q ≡ false
  not_shown q h n = go (looks_ahead b q) refl
    where
      go : (t : Bool) → looks_ahead b q ≡ t → t ≡ false
      go true e = absurd (n (ahead_depends b F.head q h e))
      go false e = refl

pub first_ahead_shown : (b : List ℕ) → FirstAhead b
unfolding FirstAhead checked look_ahead_checked DependsOnLater
first_ahead_shown b q = (there, back)
  where
    there : checked b ≡ answer 4 q → (form_checked b ≡ answer 0 0) × (q < all_outputs b) × DependsOnLater b q × ((r : ℕ) → r < q → ¬ DependsOnLater b r)
    there e =
        let (f, g) = four (form_checked b) (look_ahead_checked b) q (form_number b) e in
        let F = formed b (form_checked b).place f in
        let (h, a, n) = first_ahead b F q g in
        (form_place b (form_checked b).place f, h, ahead_depends b F.head q h a, λ r l (c, d, W, U, s, k). k (none_depends b F.head r (omega arith) (n r l) c d W U s))

    back : (form_checked b ≡ answer 0 0) × (q < all_outputs b) × DependsOnLater b q × ((r : ℕ) → r < q → ¬ DependsOnLater b r) → checked b ≡ answer 4 q
    back (e, h, a, n) =
        let F = formed b 0 e in
        rw e (first_is (looks_ahead b) 4 (λ q. q) (answer 0 0) q (all_outputs b) h (λ r l. not_shown b F r (omega arith) (n r l)) (shown b F q h a))

-- ---- equal outputs

module _
    (b d : List ℕ) (F : Formed b) (i : inputs d ≡ inputs b) (o : outputs d ≡ outputs b) (f : frames d ≡ frames b)
    (same : (c : List ℕ) → Words (2 ^ inputs b) (frames b) c → output_words b c ≡ output_words d c)
  where
    word_same : (c : List ℕ) (t : ℕ) → Words (2 ^ inputs b) (frames b) c → t < frames b → output_word b c t ≡ output_word d c t
    unfolding output_words
    word_same c t W h =
        sym (listed_at (output_word b c) 0 (frames b) t h)
        ∙ ap (λ l. get_or l t 0) (same c W)
        ∙ listed_at (output_word d c) 0 (frames d) t (omega arith)

    on_same : (q x : ℕ) → q < all_outputs b → output_on b q x ≡ output_on d q x
    unfolding output_on output_bit
    on_same q x h =
        ap (λ w. bit w (q % outputs b)) (word_same (history_words (2 ^ inputs b) (frames b) x) (q / outputs b) (history-words (pow_pos (inputs b)) (frames b) x) (output_parts b F.head q h).0)
        ∙ rw (i, o, f) refl

    ahead_same : (q : ℕ) → q < all_outputs b → looks_ahead b q ≡ looks_ahead d q
    unfolding looks_ahead as_first later_inputs all_inputs
    ahead_same q h =
        let later : later_inputs b q ≡ later_inputs d q = rw (i, o, f) refl in
        ap not
        (every_cong (2 ^ all_inputs b) (as_first b q) (as_first d q) (λ x l. ap₂ beq (on_same q x h) (on_same q _ h ∙ ap (λ k. output_on d q (block_start k x)) later))
        ∙ ap (λ k. every (2 ^ k) (as_first d q)) (rw (i, f) refl))

pub judged_alike : (b : List ℕ) → JudgedAlike b
unfolding JudgedAlike checked look_ahead_checked all_outputs
judged_alike b d eb ed i o f same =
    rw (eb, ed)
    (first_cong (looks_ahead b) (looks_ahead d) 4 (λ q. q) (answer 0 0) 0 (all_outputs b) (λ q lo hi. ahead_same b d (formed b 0 eb) i o f same q (omega arith))
    ∙ ap (refuse_first (looks_ahead d) 4 (λ q. q) (answer 0 0) 0) (rw (o, f) refl))
