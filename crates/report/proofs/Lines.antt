-- Laws of lines. Assumes nothing.
use mathlib.Core.Path.{◌≡◌, ◌∙◌}
use mathlib.Core.List.{List}
use Prim.Native.Nat.{ℕ, suc, ◌+◌, ◌*◌, ◌^◌, ◌≤◌, ◌<◌}
use Prim.Native.Char.{code}
use native.Mathlib.Numerals.{add-one}
use native.Mathlib.Omega.{arith}
use lib.ListN.{length, length-append}
use Rattle.sizes.specs.Limits.{most_frames}
use Rattle.sizes.specs.Sizes.{frames}
use Rattle.table.specs.Limits.{most_states}
use Rattle.table.specs.Table.{states, states_below}
use Rattle.table.specs.Sound.{TableHeaded}
use Rattle.table.proofs.Offsets.{arrays_stand}
use Rattle.report.specs.Report.{ascii, decimal, field, pair_line, layer_lines, total_line, table_lines, line_room, Appended}
use Rattle.report.proofs.Decimal.{digits_most}
use Rattle.report.proofs.Appending.{append_then}

-- ---- their length

pub field_length : (n mark : ℕ) → length (field n mark) ≡ length (decimal n) + 1
unfolding field
field_length n mark = simp length-append

pub pair_length : (a b : ℕ) → length (pair_line a b) ≡ length (field a (code " ")) + length (field b (code "\n"))
unfolding pair_line
pair_length a b = simp length-append

pub total_length : (n : ℕ) → length (total_line n) ≡ 6 + length (field n (code "\n"))
unfolding total_line ascii
total_length n = simp length-append

-- a number below 10^(k + 1), and the byte that ends it
pub field_most : (k n mark : ℕ) → n < 10 ^ suc k → length (field n mark) ≤ k + 2
field_most k n mark h = omega (arith, field_length n mark, digits_most k n h)

-- the line of a layer
pub layer_most : (t s : ℕ) → t ≤ most_frames → s ≤ most_states → length (pair_line t s) ≤ line_room
layer_most t s h l = omega (arith, pair_length t s, field_most 1 t (code " ") (omega arith), field_most 4 s (code "\n") (omega arith))

-- ---- one after another

-- the line of layer t behind those of the layers below it
pub append_layer : {b c d : List ℕ} {at i j : ℕ} (table : List ℕ) (t s : ℕ) → s ≡ states table t
    → Appended b at (layer_lines table t) c i → Appended c i (pair_line t s) d j → Appended b at (layer_lines table (t + 1)) d j
unfolding layer_lines
append_layer table t s e p q = rw add-one (append_then p (rw e at q))

-- the lines of a table
pub table_lines_lem : {b c d e : List ℕ} {i j k : ℕ} (table : List ℕ) (count total : ℕ) → count ≡ frames table + 1 → total ≡ states_below table count
    → Appended b 0 (ascii "layer states\n") c i → Appended c i (layer_lines table count) d j → Appended d j (total_line total) e k
    → Appended b 0 (table_lines table) e k
unfolding table_lines
table_lines_lem table count total e f p q r =
    let n : count ≡ suc (frames table) = e ∙ add-one (frames table) in
    append_then p (append_then (rw n at q) (rw (f, n) at r))

-- ---- the layers of a table whose head passes

module _ (b : List ℕ) (H : TableHeaded b) (t : ℕ) (h : t ≤ frames b) where
  -- a layer is one of few, its count stands in the table, and is small
  pub layer_in : (t ≤ most_frames) × (7 + 2 * t < length b) × (states b t ≤ most_states)
  layer_in = (omega (arith, H.sized), omega (arith, H.whole, arrays_stand b), H.states_to t h)
