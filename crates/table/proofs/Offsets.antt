-- Where things stand in a table: the head, the entries below a layer, and the layout as the code holds it. Assumes nothing.
use mathlib.Core.Path.{◌≡◌, refl, ap, ◌∙◌}
use mathlib.Core.Logic.{⊎_elim}
use mathlib.Core.List.{List}
use Prim.Native.Nat.{ℕ, zero, suc, ◌+◌, ◌*◌, ◌^◌, ◌≤◌, ◌<◌}
use native.Mathlib.Nat.{mul-le-mul, le_trans, le_of_lt, eq-or-lt_of_le, zero-mul, add-mul}
use native.Mathlib.Omega.{arith}
use lib.Dec.{lit≤}
use lib.Pow.{pow_mono}
use lib.ListN.{length, take, drop}
use Rattle.words.specs.Words.{word_at}
use Rattle.words.proofs.Laws.{number_take, number_drop}
use Rattle.sizes.specs.Sizes.{inputs, frames}
use Rattle.layered.specs.Search.{total}
use Rattle.table.specs.Table.{count_at, states, connected_at, head_length, states_below, entries_below, entry_count, outputs_at, nexts_at, table_length}
use Rattle.table.specs.Sound.{TableHeaded, layout_of}
use Rattle.table.specs.declared.Layout.{Layout}

-- where the connected outputs of the frame from layer t stand
pub connected-at : (T t : ℕ) → connected_at T t ≡ 8 + 2 * T + 2 * t
unfolding connected_at count_at
connected-at T t = omega arith

-- the length of the head
pub head_length_lem : (T : ℕ) → head_length T ≡ 8 + 4 * T
unfolding head_length
head_length_lem T = omega (arith, connected-at T T)

-- a word of a part of b that has k bytes
pub part_word : (b : List ℕ) (start k i : ℕ) → i + 2 ≤ k → word_at (take k (drop start b)) i ≡ word_at b (start + i)
unfolding word_at
part_word b start k i h = number_take 2 k (drop start b) i h ∙ number_drop 2 start b i

-- the entries of a layer are few, whatever its count is
pub row_small : (S K : ℕ) → S < 65536 → K ≤ 256 → S * K ≤ 16777216
row_small S K hs hk = le_trans (mul-le-mul (le_of_lt hs) hk) (lit≤ tt)

module _ (b : List ℕ) where
  -- below the first layer there are no entries
  pub below_first : entries_below b 0 ≡ 0
  unfolding entries_below states_below total
  below_first = zero-mul (2 ^ inputs b)

  -- layer t's entries follow those below it
  pub below_next : (t : ℕ) → entries_below b (suc t) ≡ entries_below b t + states b t * 2 ^ inputs b
  unfolding entries_below states_below total
  below_next t = add-mul (total t (states b)) (states b t) (2 ^ inputs b)

  -- so more layers have more
  below_mono : (t u : ℕ) → t ≤ u → entries_below b t ≤ entries_below b u
  below_mono t zero h = let e : t ≡ 0 = omega arith in rw e (omega arith)
  below_mono t (suc u) h = ⊎_elim (λ e. rw e (omega arith)) (λ l. omega (arith, below_mono t u (omega arith), below_next u)) (eq-or-lt_of_le h)

  -- a layer's entries are among all
  pub layer_in : (t : ℕ) → t < frames b → entries_below b t + states b t * 2 ^ inputs b ≤ entry_count b
  unfolding entry_count
  layer_in t h = omega (arith, below_next t, below_mono (suc t) (frames b) h)

-- the words of a frame are at most 256
pub words_most : (n : ℕ) → n ≤ 8 → 2 ^ n ≤ 256
words_most n h = pow_mono {j = 8} h

-- the arrays follow the head and each other
pub arrays_stand : (b : List ℕ) → (outputs_at b ≡ 8 + 4 * frames b) × (nexts_at b ≡ outputs_at b + 2 * entry_count b) × (table_length b ≡ nexts_at b + 2 * entry_count b)
unfolding outputs_at nexts_at table_length
arrays_stand b = (head_length_lem (frames b), refl, refl)

-- a layout that was read: its fields, and what bounds them
pub record Laid (b : List ℕ) (l : Layout) : Type 0 where
  pub words_is : l.words ≡ 2 ^ inputs b
  pub frames_is : l.frames ≡ frames b
  pub outputs_is : l.outputs ≡ outputs_at b
  pub nexts_is : l.nexts ≡ nexts_at b
  pub words_to : l.words ≤ 256
  pub frames_to : l.frames ≤ 16
  pub outputs-at : l.outputs ≡ 8 + 4 * l.frames
  pub nexts-at : l.nexts ≡ l.outputs + 2 * entry_count b
  pub end_at : length b ≡ l.nexts + 2 * entry_count b

-- of a table whose head is accepted
pub laid : (b : List ℕ) (l : Layout) → TableHeaded b → l ≡ layout_of b → Laid b l
laid b l h e =
    let a = arrays_stand b in
    let f : l.frames ≡ frames b = ap (λ (l : Layout). l.frames) e in
    let w : l.words ≡ 2 ^ inputs b = ap (λ (l : Layout). l.words) e in
    let o : l.outputs ≡ outputs_at b = ap (λ (l : Layout). l.outputs) e in
    let n : l.nexts ≡ nexts_at b = ap (λ (l : Layout). l.nexts) e in
    record {
      words_is = w;
      frames_is = f;
      outputs_is = o;
      nexts_is = n;
      words_to = omega (arith, words_most (inputs b) h.sized.inputs_to);
      frames_to = omega (arith, h.sized);
      outputs-at = omega arith;
      nexts-at = omega arith;
      end_at = omega (arith, h.whole);
    }
