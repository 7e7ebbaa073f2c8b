-- The table of a circuit as machine, words and bytes: it is within the limits, its words fit, and how many bytes there are.
use mathlib.Core.Path.{◌∙◌, ◌≡◌, refl, sym, ap}
use mathlib.Core.Logic.{⊎_elim}
use mathlib.Core.List.{List, ◌++◌}
use Prim.Native.Nat.{ℕ, zero, suc, ◌+◌, ◌*◌, ◌^◌, ◌≤◌, ◌<◌}
use native.Mathlib.Nat.{add-mul, mul-le-mul_left, mul-le-mul_right, one-le-pow, pow-suc, eq-or-lt_of_le}
use native.Mathlib.Omega.{arith}
use lib.Bits.{bit_and}
use lib.Pow.{pow_pos}
use lib.ListN.{length, drop}
use Rattle.words.specs.Words.{word_bytes, all_bytes, stored}
use Rattle.words.proofs.Laws.{all_bytes_length, stored_front}
use Rattle.sizes.specs.Sizes.{inputs, outputs, frames}
use Rattle.sizes.specs.Sized.{Sized}
use Rattle.layered.specs.States.{count}
use Rattle.layered.specs.Machines.{Machine, table_words, folded}
use Rattle.layered.specs.Search.{total}
use Rattle.layered.proofs.Lists.{Below}
use Rattle.layered.proofs.States.{number_below, count_at_most, count_first, count_last}
use Rattle.layered.proofs.Machines.{legal}
use Rattle.layered.proofs.Rows.{rows}
use Rattle.circuit.specs.Circuit.{connected_outputs}
use Rattle.circuit.specs.Theorems.{response, Causal}
use Rattle.circuit.proofs.Unconnected.{connected_below}
use Rattle.folded.specs.Folded.{folded_bytes}
use Rattle.folded.proofs.Checked.{Writable}
use Rattle.folded.proofs.Written.{table_bytes, bytes_length, bytes_below}

-- ---- of a response

pub folded_writable : (n m T : ℕ) (C : ℕ → ℕ) (y : ℕ → ℕ → ℕ) → Sized 8 n m T → ((t h : ℕ) → y t h < 2 ^ m) → ((t : ℕ) → t < T → C t < 2 ^ m)
    → ((t h : ℕ) → t < T → bit_and (y (suc t) h) (C t) ≡ y (suc t) h) → Writable n m T C (folded (2 ^ n) T y)
folded_writable n m T C y Z B D E = record {
  sizes = Z;
  is_legal = legal (2 ^ n) m T y B;
  connected_to = D;
  outputs_connected = λ t s w l h k. E t _ l;
  counts_from = λ t h. omega (arith, number_below (2 ^ n) T y t 0 (one-le-pow t (2 ^ n) (pow_pos n)));
  counts_to_lem = λ t h. ⊎_elim (λ e. omega (arith, ap (count (2 ^ n) T y) e, last)) (λ l. (rows (2 ^ n) T y).in_word n t refl Z.bits_to l) (eq-or-lt_of_le h);
  one_first = count_first (2 ^ n) T y;
  one_last = last;
}
  where
    last : count (2 ^ n) T y T ≡ 1
    last = count_last (2 ^ n) T y (pow_pos n)

-- ---- of a circuit

-- as a machine, and its words
abbrev pub folded_machine : List ℕ → Machine
folded_machine b = folded (2 ^ inputs b) (frames b) (response b)

abbrev pub folded_words : List ℕ → List ℕ
folded_words b = table_words (inputs b) (outputs b) (2 ^ inputs b) (frames b) (connected_outputs b) (folded_machine b)

-- it is within the limits, and its words fit
pub table_writable : (b : List ℕ) → Causal b → Sized 8 (inputs b) (outputs b) (frames b) → Writable (inputs b) (outputs b) (frames b) (connected_outputs b) (folded_machine b)
table_writable b C Z = folded_writable (inputs b) (outputs b) (frames b) (connected_outputs b) (response b) Z C.below (λ t l. connected_below b t) C.clear

-- its bytes are bytes
pub folded_below : (b : List ℕ) → Below 256 (folded_bytes b)
unfolding folded_bytes word_bytes
folded_below b = bytes_below 2 (folded_words b)

-- 8 + 4·T + 4·E of them
pub folded_length : (b : List ℕ) → length (folded_bytes b) ≡ 8 + 4 * frames b + 4 * (total (frames b) (folded_machine b).states * 2 ^ inputs b)
unfolding folded_bytes table_bytes
folded_length b = bytes_length (inputs b) (outputs b) (frames b) (connected_outputs b) (folded_machine b)

-- the layers below t have at most twice as many entries as there are histories of t words
pub entries_most : (K T : ℕ) (y : ℕ → ℕ → ℕ) → 2 ≤ K → (t : ℕ) → total t (count K T y) * K ≤ 2 * K ^ t
unfolding total
entries_most K T y h zero = omega arith
entries_most K T y h (suc t) =
    omega (
      arith,
      add-mul (total t (count K T y)) (count K T y t) K,
      entries_most K T y h t,
      mul-le-mul_right K (count_at_most K T y t),
      mul-le-mul_left (K ^ t) h,
      pow-suc K t,
    )

-- written word by word to the front of a result
pub folded_written : (b result : List ℕ) → stored 2 result 0 (folded_words b) ≡ folded_bytes b ++ drop (length (folded_bytes b)) result
unfolding folded_bytes word_bytes
folded_written b result = stored_front 2 result (folded_words b) ∙ ap (λ n. all_bytes 2 (folded_words b) ++ drop n result) (sym (all_bytes_length 2 (folded_words b)))
