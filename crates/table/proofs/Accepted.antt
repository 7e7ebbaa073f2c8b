-- What acceptance tells of a table. Assumes nothing.
use mathlib.Core.Path.{◌≡◌, refl, sym, ap, ◌∙◌}
use mathlib.Core.Bool.{Bool, true, false, not, ◌||◌, or-true, cond}
use mathlib.Core.List.{List}
use Prim.Native.Nat.{ℕ, zero, suc, ◌+◌, ◌*◌, ◌/◌, ◌^◌, ◌≤◌, ◌<◌, zero-le}
use native.Mathlib.Omega.{arith}
use lib.Arith.{digits_lt}
use lib.Bits.{bit_and, and_le_r}
use lib.Dec.{ltb, leb, eqb, lit≤}
use lib.ListN.{length, take, drop, length-take, length-drop}
use borrow.Author.Tests.{leb-false, eqb-true, eq-eqb, not-false}
use Rattle.sizes.specs.Limits.{most_inputs}
use Rattle.table.specs.Limits.{end_states, most_states, sizes_length}
use Rattle.words.specs.Words.{word_at}
use Rattle.verdict.specs.Judgements.{answer, first_refusal}
use Rattle.verdict.specs.declared.Figures.{Figures}
use Rattle.verdict.proofs.Laws.{both_accept, passed, none_found, row_accepts}
use Rattle.sizes.specs.Sizes.{inputs, outputs, frames, outside, sizes_checked}
use Rattle.sizes.proofs.Laws.{inside, sized}
use Rattle.table.specs.Table.{count_at, states, connected_at, connected, head_length, entries_below, entry_count, outputs_at, nexts_at, table_length, entry_at, layer_part, machine, counts_checked, connected_checked, head_checked, strays, bad_output, bad_next, part_checked, array_checked, entries_checked, checked}
use Rattle.table.specs.Sound.{TableHeaded, Sound}
use Rattle.table.specs.Theorems.{LegalTable}
use Rattle.table.proofs.Offsets.{part_word, layer_in, arrays_stand}

-- ---- the head

-- each count is within its limits
module _ (b : List ℕ) (p : ℕ) (e : counts_checked b ≡ answer 0 p) where
  counted : (t : ℕ) → t ≤ frames b → (1 ≤ states b t) × (states b t ≤ cond (eqb t 0 || eqb t (frames b)) end_states most_states)
  unfolding counts_checked
  counted t h =
      inside 1 _ (states b t)
      ((none_found (λ t. outside 1 (cond (eqb t 0 || eqb t (frames b)) end_states most_states) (states b t)) 2 count_at (answer 0 0) p 0 (suc (frames b)) refl e).0 t zero-le (omega arith))

-- each frame's connected outputs are among the m
connected_below : (b : List ℕ) (p : ℕ) → connected_checked b ≡ answer 0 p → (t : ℕ) → t < frames b → connected b t < 2 ^ outputs b
unfolding connected_checked
connected_below b p e t h =
    leb-false (2 ^ outputs b) _
    ((none_found (λ t. leb (2 ^ outputs b) (connected b t)) 2 (connected_at (frames b)) (answer 0 0) p 0 (frames b) refl e).0 t zero-le (omega arith))

-- the limits of a count are at most 32,768, and 1 for layer T
either_most : (s : Bool) → cond s end_states most_states ≤ most_states
either_most true = lit≤ tt
either_most false = lit≤ tt

last_most : (s t : Bool) → t ≡ true → cond (s || t) end_states most_states ≤ 1
last_most s t e = rw (e, or-true) (lit≤ tt)

-- a head that is accepted
pub headed : (b : List ℕ) (p : ℕ) → head_checked b ≡ answer 0 p → TableHeaded b
unfolding head_checked
headed b p e =
    let e₁ = passed (ltb (length b) sizes_length) 1 (length b) _ p refl e in
    let e₂ = both_accept (sizes_checked most_inputs (inputs b) (outputs b) (frames b)) _ p e₁.1 in
    let e₃ = passed (ltb (length b) (head_length (frames b))) 1 (length b) _ p refl e₂.2 in
    let e₄ = both_accept (counts_checked b) _ p e₃.1 in
    let e₅ = both_accept (connected_checked b) _ p e₄.2 in
    let e₆ = passed (not (eqb (length b) (table_length b))) 1 (length b) _ p refl e₅.2 in
    let count = counted b e₄.0 e₄.1 in
    let most = last_most (eqb (frames b) 0) (eqb (frames b) (frames b)) (eq-eqb (frames b) (frames b) refl) in
    record {
      sized = sized most_inputs (inputs b) (outputs b) (frames b) e₂.0 e₂.1;
      one_first = omega (arith, count 0 zero-le);
      one_last = omega (arith, count (frames b) (omega arith), most);
      states_from = λ t h. (count t h).0;
      states_to = λ t h. omega (arith, (count t h).1, either_most (eqb t 0 || eqb t (frames b)));
      connected_to = connected_below b e₅.0 e₅.1;
      whole = eqb-true (length b) (table_length b) (not-false _ e₆.0);
    }

-- ---- the entries

-- no word of a part that is accepted is bad
part_good : (bad : ℕ → Bool) (at : ℕ) (part : List ℕ) (p : ℕ) → part_checked bad at part ≡ answer 0 p → (i : ℕ) → i < length part / 2 → bad (word_at part (2 * i)) ≡ false
unfolding part_checked
part_good bad at part p e i h =
    (none_found (λ i. bad (word_at part (2 * i))) 5 (λ i. at + 2 * i) (answer 0 0) p 0 (length part / 2) refl e).0 i zero-le (omega arith)

-- so none of the k words of b that a part holds is
words_good : (bad : ℕ → Bool) (at : ℕ) (b : List ℕ) (start k p : ℕ) → start + 2 * k ≤ length b → part_checked bad at (take (2 * k) (drop start b)) ≡ answer 0 p
    → (i : ℕ) → i < k → bad (word_at b (start + 2 * i)) ≡ false
words_good bad at b start k p l e i h =
    let n : length (take (2 * k) (drop start b)) ≡ 2 * k = simp (length-take, length-drop) (omega arith) in
    let r : 2 * i + 2 ≤ 2 * k = omega arith in
    rw (part_word b start (2 * k) (2 * i) r) at (part_good bad at _ p e i (omega arith))

-- so no entry of an array is
array_good : (b : List ℕ) (start : ℕ) (bad : (t x : ℕ) → Bool) (p : ℕ) → start + 2 * entry_count b ≤ length b → array_checked b start bad ≡ answer 0 p
    → (t s w : ℕ) → t < frames b → s < states b t → w < 2 ^ inputs b → bad t (word_at b (entry_at b start t s w)) ≡ false
unfolding array_checked entry_at layer_part
array_good b start bad p room e t s w ht hs hw =
    let a = row_accepts (λ t. part_checked (bad t) (start + 2 * entries_below b t) (layer_part b start t)) p 0 (frames b) e t zero-le (omega arith) in
    let q : start + 2 * (entries_below b t + (s * 2 ^ inputs b + w)) ≡ start + 2 * entries_below b t + 2 * (s * 2 ^ inputs b + w) = omega arith in
    rw q
    (words_good (bad t) _ b (start + 2 * entries_below b t) (states b t * 2 ^ inputs b) a.0 (omega (arith, layer_in b t ht)) a.1
    (s * 2 ^ inputs b + w)
    (digits_lt hs hw))

-- a number without stray bits is no larger
pub stray_free : (c x : ℕ) → strays c x ≡ false → x ≤ c
unfolding strays
stray_free c x e = omega (arith, eqb-true (bit_and x c) x (not-false _ e), and_le_r x c)

-- so the outputs of the machine are connected ones, and below 2^m, and the next states are below the counts
module _ (b : List ℕ) (p : ℕ) (h : TableHeaded b) where
  outputs_good : array_checked b (outputs_at b) (bad_output b) ≡ answer 0 p → (t s w : ℕ) → t < frames b → s < states b t → w < 2 ^ inputs b → bad_output b t ((machine b).out t s w) ≡ false
  outputs_good = array_good b (outputs_at b) (bad_output b) p (omega (arith, arrays_stand b, h.whole))

  outputs_below : array_checked b (outputs_at b) (bad_output b) ≡ answer 0 p → (t s w : ℕ) → t < frames b → s < states b t → w < 2 ^ inputs b → (machine b).out t s w < 2 ^ outputs b
  unfolding bad_output
  outputs_below e t s w ht hs hw = omega (arith, stray_free (connected b t) ((machine b).out t s w) (outputs_good e t s w ht hs hw), h.connected_to t ht)

  nexts_below : array_checked b (nexts_at b) (bad_next b) ≡ answer 0 p → (t s w : ℕ) → t < frames b → s < states b t → w < 2 ^ inputs b → (machine b).next t s w < states b (suc t)
  unfolding bad_next
  nexts_below e t s w ht hs hw = leb-false (states b (suc t)) _ (array_good b (nexts_at b) (bad_next b) p (omega (arith, arrays_stand b, h.whole)) e t s w ht hs hw)

-- ---- the table

-- its head is accepted
pub head_accepts : (b : List ℕ) (p : ℕ) → checked b ≡ answer 0 p → (q : ℕ) × (head_checked b ≡ answer 0 q)
unfolding checked
head_accepts b p e = let s = both_accept (head_checked b) _ p e in (s.0, s.1)

-- a row of judgements that accepts has place 0
row_place : (f : ℕ → Figures) (p k c : ℕ) → first_refusal f k c ≡ answer 0 p → p ≡ 0
unfolding first_refusal
row_place f p k zero e = sym (ap (λ (f : Figures). f.place) e)
row_place f p k (suc c) e = row_place f p (suc k) c (both_accept (f k) (first_refusal f (suc k) c) p e).2

-- the theorem
pub legal_table : (b : List ℕ) → LegalTable b
unfolding LegalTable checked entries_checked array_checked
legal_table b p e =
    let e₁ = both_accept (head_checked b) _ p e in
    let e₂ = both_accept (array_checked b (outputs_at b) (bad_output b)) (array_checked b (nexts_at b) (bad_next b)) p e₁.2 in
    let h = headed b e₁.0 e₁.1 in (
      record {
        headed = h;
        legal = record {
          start_is = omega (arith, h.one_first);
          out_is = outputs_below b e₂.0 h e₂.1;
          next_is = nexts_below b p h e₂.2;
        };
        outputs_connected = outputs_good b e₂.0 h e₂.1;
      },
      row_place _ p 0 (frames b) e₂.2,
    )

-- sizes, counts, length and machine of an accepted table
pub sound : (b : List ℕ) (p : ℕ) → checked b ≡ answer 0 p → Sound b
unfolding LegalTable
sound b p e = (legal_table b p e).0

-- its place is 0
pub accepted_at : (b : List ℕ) (p : ℕ) → checked b ≡ answer 0 p → checked b ≡ answer 0 0
unfolding LegalTable
accepted_at b p e = e ∙ ap (answer 0) (legal_table b p e).1
