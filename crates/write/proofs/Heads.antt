-- Laws of the head of a table, and that head, outputs and next states are the table's words. Assumes nothing.
use mathlib.Core.Path.{◌≡◌, refl, sym, ap, ◌∙◌}
use mathlib.Core.List.{List, [], ◌∷◌, ◌++◌, append_assoc}
use mathlib.Core.Logic.{⊎_elim}
use Prim.Native.Nat.{ℕ, suc, ◌+◌, ◌*◌, ◌-◌, ◌^◌, ◌≤◌, ◌<◌}
use native.Mathlib.Nat.{eq-or-lt_of_le}
use native.Mathlib.Omega.{arith}
use lib.Pow.{pow_pos}
use lib.ListN.{length, take, get_or, length-append, length-take}
use lib.Seq.{get_or-take}
use Rattle.words.specs.Words.{stored}
use Rattle.words.proofs.Laws.{stored_behind}
use Rattle.sizes.specs.Sizes.{inputs, outputs, frames}
use Rattle.layered.specs.Search.{tabulate}
use Rattle.layered.specs.States.{count}
use Rattle.layered.specs.Machines.{table_words, folded}
use Rattle.layered.proofs.Lists.{tabulate_length, tabulated}
use Rattle.layered.proofs.States.{count_last}
use Rattle.circuit.specs.Circuit.{connected_outputs}
use Rattle.circuit.specs.Theorems.{response}
use Rattle.explore.specs.Explore.{CountsTo}
use Rattle.write.specs.Write.{head_words, output_words, next_words}

-- the counts of all layers are those of the layers below T, and the last
pub counts_all : (n m T : ℕ) (y : ℕ → ℕ → ℕ) (counts : List ℕ) → CountsTo n m T y counts (T - 1) → (u : ℕ) → u ≤ T → get_or counts u 0 ≡ count (2 ^ n) T y u
counts_all n m T y counts C u h =
    ⊎_elim
    (λ (e : u ≡ T). ap (λ u. get_or counts u 0) e ∙ C.last ∙ sym (count_last (2 ^ n) T y (pow_pos n)) ∙ ap (count (2 ^ n) T y) (sym e))
    (λ (l : u < T). C.known u (omega arith))
    (eq-or-lt_of_le h)

module _ (b : List ℕ) where
  -- the counts of the circuit's layers
  abbrev counted : ℕ → ℕ
  counted = count (2 ^ inputs b) (frames b) (response b)

  -- the counts and the connected outputs
  behind_sizes : length (tabulate (suc (frames b)) counted ++ tabulate (frames b) (connected_outputs b)) ≡ 1 + 2 * frames b
  behind_sizes =
      length-append (tabulate (suc (frames b)) counted) _
      ∙ omega (arith, tabulate_length (suc (frames b)) counted, tabulate_length (frames b) (connected_outputs b))

  pub head_words_lem : length (head_words b) ≡ 4 + 2 * frames b
  unfolding head_words
  head_words_lem = omega (arith, behind_sizes)

  -- the counts of layers 0 to T
  counts_taken : (counts : List ℕ) → CountsTo (inputs b) (outputs b) (frames b) (response b) counts (frames b - 1) → frames b ≤ 16 → take (frames b + 1) counts ≡ tabulate (suc (frames b)) counted
  counts_taken counts C h =
      tabulated (suc (frames b)) counted (take (frames b + 1) counts) (length-take (frames b + 1) counts ∙ omega (arith, C.places))
      (λ i k. get_or-take (frames b + 1) counts i 0 (omega arith) ∙ counts_all (inputs b) (outputs b) (frames b) (response b) counts C i (omega arith))

  pub head_stored : (r counts : List ℕ) → 8 + 4 * frames b ≤ length r → CountsTo (inputs b) (outputs b) (frames b) (response b) counts (frames b - 1) → frames b ≤ 16 → (r₁ r₂ r₃ : List ℕ) (layers at : ℕ) → layers ≡ frames b + 1
      → at ≡ 8 + 2 * frames b → r₁ ≡ stored 2 r 0 (inputs b ∷ outputs b ∷ frames b ∷ []) → r₂ ≡ stored 2 r₁ 6 (take layers counts)
      → r₃ ≡ stored 2 r₂ at (tabulate (frames b) (connected_outputs b)) → r₃ ≡ stored 2 r 0 (head_words b)
  unfolding head_words
  head_stored r counts room C h r₁ r₂ r₃ layers at el ea e₁ e₂ e₃ =
      let sizes : List ℕ = inputs b ∷ outputs b ∷ frames b ∷ [] in
      let two : r₂ ≡ stored 2 r 0 (sizes ++ tabulate (suc (frames b)) counted) =
      e₂
      ∙ ap (λ (k : ℕ). stored 2 r₁ 6 (take k counts)) el
      ∙ stored_behind 2 r r₁ 0 sizes _ 6 e₁ refl (omega arith)
      ∙ ap (λ (c : List ℕ). stored 2 r 0 (sizes ++ c)) (counts_taken counts C h) in
      e₃ ∙ stored_behind 2 r r₂ 0 (sizes ++ tabulate (suc (frames b)) counted) _ at two (omega (arith, tabulate_length (suc (frames b)) counted)) (omega (arith, tabulate_length (suc (frames b)) counted))

  -- ---- the whole table

  abbrev outputs_of : List ℕ
  outputs_of = output_words (2 ^ inputs b) (frames b) (response b) (frames b)

  abbrev nexts_of : List ℕ
  nexts_of = next_words (2 ^ inputs b) (frames b) (response b) (frames b)

  abbrev pub whole_table : List ℕ
  whole_table = table_words (inputs b) (outputs b) (2 ^ inputs b) (frames b) (connected_outputs b) (folded (2 ^ inputs b) (frames b) (response b))

  pub words_are : head_words b ++ (outputs_of ++ nexts_of) ≡ whole_table
  unfolding head_words table_words
  words_are = ap (λ (l : List ℕ). inputs b ∷ outputs b ∷ frames b ∷ l) (append_assoc (tabulate (suc (frames b)) counted) (tabulate (frames b) (connected_outputs b)) (outputs_of ++ nexts_of))

  pub table_length_lem : length whole_table ≡ 4 + 2 * frames b + (length outputs_of + length nexts_of)
  table_length_lem = ap length (sym words_are) ∙ length-append (head_words b) _ ∙ omega (arith, head_words_lem, length-append outputs_of nexts_of)

  -- there is room for both arrays
  pub outputs_room : (r : List ℕ) (at : ℕ) → 2 * length whole_table ≤ length r → at ≡ 8 + 4 * frames b → at + 2 * length outputs_of ≤ length r
  outputs_room r at room e = omega (arith, table_length_lem)

  pub nexts_room : (r : List ℕ) (at end : ℕ) → 2 * length whole_table ≤ length r → at ≡ 8 + 4 * frames b → end ≡ at + 2 * length outputs_of → end + 2 * length nexts_of ≤ length r
  nexts_room r at end room e f = omega (arith, table_length_lem)

  -- head, outputs and next states, stored one behind the other
  pub table_stored : (r r₁ r₂ r₃ : List ℕ) (at end : ℕ) → 2 * length whole_table ≤ length r → at ≡ 8 + 4 * frames b → end ≡ at + 2 * length outputs_of
      → r₁ ≡ stored 2 r 0 (head_words b) → r₂ ≡ stored 2 r₁ at outputs_of → r₃ ≡ stored 2 r₂ end nexts_of → r₃ ≡ stored 2 r 0 whole_table
  table_stored r r₁ r₂ r₃ at end room ea ee e₁ e₂ e₃ =
      let l : length (head_words b ++ outputs_of) ≡ 4 + 2 * frames b + length outputs_of = length-append (head_words b) _ ∙ omega (arith, head_words_lem) in
      let two : r₂ ≡ stored 2 r 0 (head_words b ++ outputs_of) = e₂ ∙ stored_behind 2 r r₁ 0 (head_words b) _ at e₁ (omega (arith, head_words_lem)) (omega (arith, head_words_lem, table_length_lem)) in
      e₃ ∙ stored_behind 2 r r₂ 0 (head_words b ++ outputs_of) _ end two (omega arith) (omega (arith, table_length_lem))
      ∙ ap (stored 2 r 0) (append_assoc (head_words b) outputs_of nexts_of ∙ words_are)
