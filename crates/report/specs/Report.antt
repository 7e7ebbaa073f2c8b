-- The lines that the folding program prints after a fold, in ASCII: those of the table, or that of the refusal (document 01, "Figures to hold").
use Rattle.std.specs.Prelude.{ℕ, zero, suc, ◌+◌, ◌/◌, ◌%◌, ◌≤◌, ◌≡◌, cond, List, [], ◌∷◌, ◌++◌, ltb, length}
use Prim.Native.Char.{code}
use Prim.Native.String.{String}
use Prim.Native.String as text
use Rattle.std.proofs.lemmas.List.Edits.{sets}
use Rattle.sizes.specs.Sizes.{frames}
use Rattle.table.specs.Table.{states, states_below}

-- ---- text and numbers

-- the bytes of an ASCII text
unfoldable pub ascii : String → List ℕ
ascii text.[] = []
ascii (text.◌∷◌ c s) = code c ∷ ascii s

-- the decimal digits of n, at most the last k, without leading zeros: those of n / 10, where n has more than one, and then the last
unfoldable pub digits : (k n : ℕ) → List ℕ
digits zero n = []
digits (suc k) n =
    let front = digits k (n / 10) in
    cond (ltb n 10) [] front ++ ((48 + n % 10) ∷ [])

-- a number in decimal: it has no more than n + 1 digits
unfoldable pub decimal : ℕ → List ℕ
decimal n = digits (suc n) n

-- a number and the byte that ends it
unfoldable pub field : (n mark : ℕ) → List ℕ
field n mark = decimal n ++ (mark ∷ [])

-- ---- lines

-- a line of two numbers
unfoldable pub pair_line : (a b : ℕ) → List ℕ
pair_line a b = field a (code " ") ++ field b (code "\n")

-- for each layer below t of a table, a line of the layer and its count of states
unfoldable pub layer_lines : (table : List ℕ) (t : ℕ) → List ℕ
layer_lines b zero = []
layer_lines b (suc t) = layer_lines b t ++ pair_line t (states b t)

-- the last line of a table
unfoldable pub total_line : (total : ℕ) → List ℕ
total_line total = ascii "total " ++ field total (code "\n")

-- the lines of a table: its layers are 0 to T
unfoldable pub table_lines : (table : List ℕ) → List ℕ
table_lines b = ascii "layer states\n" ++ (layer_lines b (suc (frames b)) ++ total_line (states_below b (suc (frames b))))

-- the line of a refusal
unfoldable pub refusal_line : (number place : ℕ) → List ℕ
refusal_line number place = ascii "refused " ++ pair_line number place

-- the most bytes that the line of a layer has
abbrev pub line_room : ℕ
line_room = 9

-- the length of a buffer into which the lines of every table and of every refusal fit
abbrev pub lines_room : ℕ
lines_room = 256

-- ---- how the code makes them

-- `after` is the buffer b with the bytes xs stored from index `at` on; `end` is the index behind them, and all are within b
pub record Appended (b : List ℕ) (at : ℕ) (xs after : List ℕ) (end : ℕ) : Type 0 where
  pub stored : after ≡ sets b at xs
  pub ends : end ≡ at + length xs
  pub within : end ≤ length b
