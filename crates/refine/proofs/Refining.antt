-- Laws of the scratch while candidates are numbered. Assumes nothing.
use mathlib.Core.Path.{◌≡◌, refl, sym, ap, ◌∙◌, fun_ext}
use mathlib.Core.Bool.{Bool}
use mathlib.Core.Logic.{◌⊎◌, inl, inr, ⊎_elim}
use mathlib.Core.List.{List}
use Prim.Native.Nat.{ℕ, ◌+◌, ◌*◌, ◌≤◌, ◌<◌}
use native.Mathlib.Nat.{le_refl, eq-or-lt_of_le, suc-mul, mul-le-mul_right}
use native.Mathlib.Numerals.{add-one}
use native.Mathlib.Omega.{arith}
use lib.Dec.{T, ltb, lt→ltb, ltb→lt}
use lib.ListN.{length, get_or, set, length-set}
use lib.Seq.{get_or-set_same, get_or-set_other}
use borrow.Author.Tests.{lt-ltb, le-ltb}
use Rattle.layered.specs.Search.{tally}
use Rattle.layered.proofs.Search.{case, below_suc}
use Rattle.diagrams.specs.Numbering.{first_same, number_same, count_same}
use Rattle.refine.specs.Rows.{number_in, part_in, same_row, Placed, Outside, Refined}
use Rattle.refine.specs.Buckets.{hash_to, old_in, test_in, hash_in}
use Rattle.refine.specs.declared.Rows.{Rows}
use Rattle.diagrams.proofs.Numbering.{first_le}
use Rattle.refine.proofs.Numbers.{new_number, later_count, later_number}
use Rattle.refine.proofs.Same.{row_parts, parts_row, same_on}

before_or_not : (d c : ℕ) → (d < c) ⊎ (c ≤ d)
before_or_not d c = ⊎_elim (λ t. inl (ltb→lt d c t)) (λ f. inr (let n : ¬ (d < c) = λ l. f (lt→ltb d c l) in omega arith)) (case (ltb d c))

-- while c is numbered, the numbers so far up to c are in the copy, and later ones in their place
pub old_copied : (s : List ℕ) (rows : Rows) (c d : ℕ) → d ≤ c → old_in s rows c d ≡ get_or s (rows.copy + d) 0
unfolding old_in
old_copied s rows c d l = rw (le-ltb c d l)

old_later : (s : List ℕ) (rows : Rows) (c d : ℕ) → c < d → old_in s rows c d ≡ number_in s rows d
unfolding old_in
old_later s rows c d l = rw (lt-ltb c d l)

pub hashed : (s w : List ℕ) (rows : Rows) (c h : ℕ) → h ≡ hash_to (get_or s (rows.copy + c) 0) (part_in w rows c) rows.parts → h ≡ hash_in s w rows c c
hashed s w rows c h e = e ∙ ap (λ x. hash_to x (part_in w rows c) rows.parts) (sym (old_copied s rows c c (le_refl c)))

-- the row of a candidate lies in work
pub row_fits : (s w : List ℕ) (rows : Rows) (d : ℕ) → Placed s w rows → d < rows.count → rows.ids + d * rows.parts + rows.parts ≤ length w
row_fits s w rows d P l = omega (arith, mul-le-mul_right rows.parts l, suc-mul d rows.parts, P.rows_in)

-- ---- an earlier candidate g is compared with c

module _ (s w : List ℕ) (rows : Rows) (g c : ℕ) (l : g ≤ c) where
  pub numbers_differ : (get_or s (rows.copy + g) 0 ≡ get_or s (rows.copy + c) 0 → ⊥) → T (test_in s w rows c g c) → ⊥
  numbers_differ n t = n (sym (old_copied s rows c g l) ∙ (row_parts (old_in s rows c) w rows g c t).0 ∙ old_copied s rows c c (le_refl c))

  pub parts_differ : (i : ℕ) → i < rows.parts → (part_in w rows g i ≡ part_in w rows c i → ⊥) → T (test_in s w rows c g c) → ⊥
  parts_differ i b n t = n ((row_parts (old_in s rows c) w rows g c t).1 i b)

  pub all_same : get_or s (rows.copy + g) 0 ≡ get_or s (rows.copy + c) 0 → ((i : ℕ) → i < rows.parts → part_in w rows g i ≡ part_in w rows c i) → T (test_in s w rows c g c)
  all_same e f = parts_row (old_in s rows c) w rows g c (old_copied s rows c g l ∙ e ∙ sym (old_copied s rows c c (le_refl c))) f

-- ---- a turn of the loop that numbers

-- s₀ became s: the candidates below c have their new numbers, of which there are `fresh`, and their numbers so far are in the copy
pub record Numbered (s₀ s w : List ℕ) (rows : Rows) (c fresh : ℕ) : Type 0 where
  pub copied : (d : ℕ) → d < c → get_or s (rows.copy + d) 0 ≡ number_in s₀ rows d
  pub numbered : (d : ℕ) → d < c → number_in s rows d ≡ number_same (same_row (number_in s₀ rows) w rows) d
  pub counted : fresh ≡ count_same (same_row (number_in s₀ rows) w rows) c
  pub kept : (j : ℕ) → Outside rows.copy c j → Outside rows.numbers c j → get_or s j 0 ≡ get_or s₀ j 0
  pub long : length s ≡ length s₀

pub numbered_none : (s w : List ℕ) (rows : Rows) → Numbered s s w rows 0 0
unfolding count_same tally
numbered_none s w rows = record {
  copied = λ d l. absurd (omega arith);
  numbered = λ d l. absurd (omega arith);
  counted = refl;
  kept = λ j _ _. refl;
  long = refl;
}

pub numbered_all : (s₀ s w : List ℕ) (rows : Rows) (c fresh : ℕ) → c ≡ rows.count → Numbered s₀ s w rows c fresh → Refined s₀ s w rows fresh
numbered_all s₀ s w rows c fresh e N = record {
  numbered = λ d l. N.numbered d (omega arith);
  counted = N.counted ∙ ap (count_same (same_row (number_in s₀ rows) w rows)) e;
  kept = λ j o p. N.kept j (λ l. omega (arith, o l)) (λ l. omega (arith, p l));
  long = N.long;
}

-- where candidates lie depends on the length alone
pub placed_same : (s r w : List ℕ) (rows : Rows) → length r ≡ length s → Placed s w rows → Placed r w rows
placed_same s r w rows e P = record { copy_before = P.copy_before; numbers_in = omega arith; rows_in = P.rows_in; few = P.few }

module _ (s₀ s w : List ℕ) (rows : Rows) (c fresh : ℕ) (P : Placed s₀ w rows) (b : c < rows.count) (N : Numbered s₀ s w rows c fresh) where
  -- the test by the numbers at the start
  test : ℕ → ℕ → Bool
  test = same_row (number_in s₀ rows) w rows

  -- the scratch with the number so far of c in the copy
  copied : List ℕ
  copied = set s (rows.copy + c) (number_in s rows c)

  pub copied_long : length (set s (rows.copy + c) (number_in s rows c)) ≡ length s₀
  copied_long = length-set s (rows.copy + c) (number_in s rows c) ∙ N.long

  -- it has the numbers that were at the start
  old_at : (d : ℕ) → old_in copied rows c d ≡ number_in s₀ rows d
  unfolding copied
  old_at d = go (before_or_not d c)
    where
      x : ℕ
      x = number_in s rows c

      go : (d < c) ⊎ (c ≤ d) → old_in copied rows c d ≡ number_in s₀ rows d
      go (inl l) = old_copied copied rows c d (omega arith) ∙ get_or-set_other s (rows.copy + c) (rows.copy + d) x 0 (λ e. omega arith) ∙ N.copied d l
      go (inr l) = ⊎_elim
          (λ (e : c ≡ d). old_copied copied rows c d (omega arith) ∙ ap (λ d. get_or copied (rows.copy + d) 0) (sym e)
          ∙ get_or-set_same s (rows.copy + c) x 0 (omega (arith, N.long))
          ∙ N.kept (rows.numbers + c) (λ _. omega arith) (λ _. omega arith) ∙ ap (number_in s₀ rows) e)
          (λ (k : c < d). old_later copied rows c d k ∙ get_or-set_other s (rows.copy + c) (rows.numbers + d) x 0 (λ e. omega arith)
          ∙ N.kept (rows.numbers + d) (λ _. omega arith) (λ _. omega arith))
          (eq-or-lt_of_le l)

  -- whatever is made of the numbers so far is as at the start
  pub kept {ℓ} : {A : Type ℓ} (f : (ℕ → ℕ) → A) → f (old_in (set s (rows.copy + c) (number_in s rows c)) rows c) ≡ f (number_in s₀ rows)
  unfolding copied
  kept f = ap f (fun_ext old_at)

  -- one number more
  numbered_more : (number next : ℕ) → number ≡ number_same test c → next ≡ count_same test (c + 1)
      → Numbered s₀ (set copied (rows.numbers + c) number) w rows (c + 1) next
  unfolding copied test
  numbered_more number next e n = record {
    copied = λ d l. get_or-set_other copied (rows.numbers + c) (rows.copy + d) number 0 (λ e. omega arith) ∙ sym (old_copied copied rows c d (omega arith)) ∙ old_at d;
    numbered = rw (add-one c) (below_suc
        (λ d l. get_or-set_other copied (rows.numbers + c) (rows.numbers + d) number 0 (λ e. omega arith)
        ∙ get_or-set_other s (rows.copy + c) (rows.numbers + d) (number_in s rows c) 0 (λ e. omega arith) ∙ N.numbered d l)
        (get_or-set_same copied (rows.numbers + c) number 0 (omega (arith, copied_long)) ∙ e));
    counted = n;
    kept = λ j o p. get_or-set_other copied (rows.numbers + c) j number 0 (λ e. omega (arith, p (omega arith)))
        ∙ get_or-set_other s (rows.copy + c) j (number_in s rows c) 0 (λ e. omega (arith, o (omega arith)))
        ∙ N.kept j (λ l. omega (arith, o l)) (λ l. omega (arith, p l));
    long = length-set copied (rows.numbers + c) number ∙ copied_long;
  }

  -- g is the first that is the same as c
  module _ (g number : ℕ) (e : g ≡ first_same (same_row (number_in s₀ rows) w rows) c) where
    pub turn_later : number ≡ get_or (set s (rows.copy + c) (number_in s rows c)) (rows.numbers + g) 0 → g < c
        → Numbered s₀ (set (set s (rows.copy + c) (number_in s rows c)) (rows.numbers + c) number) w rows (c + 1) fresh
    unfolding copied test
    turn_later q l =
        let r : number ≡ number_same test g = q ∙ get_or-set_other s (rows.copy + c) (rows.numbers + g) (number_in s rows c) 0 (λ e. omega arith) ∙ N.numbered g l in
        numbered_more number fresh
        (r ∙ ap (number_same test) e ∙ sym (later_number test (same_on (number_in s₀ rows) w rows) c))
        (N.counted ∙ sym (later_count test c (omega arith)))

    pub turn_new : number ≡ fresh → c ≤ g → Numbered s₀ (set (set s (rows.copy + c) (number_in s rows c)) (rows.numbers + c) number) w rows (c + 1) (fresh + 1)
    unfolding copied test
    turn_new q l =
        let f : first_same test c ≡ c = omega (arith, first_le test c) in
        let n = new_number test c f in
        numbered_more number (fresh + 1) (q ∙ N.counted ∙ sym n.0) (ap (λ k. k + 1) N.counted ∙ sym n.1)
