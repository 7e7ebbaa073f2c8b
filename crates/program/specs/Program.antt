-- What the folding program prints for the bytes b that it reads (document 01, "Figures to hold").
use Rattle.std.specs.Prelude.{ℕ, cond, List, eqb}
use Rattle.folded.specs.Folded.{folded_bytes, fold_checked}
use Rattle.report.specs.Report.{table_lines, refusal_line}

-- the scratch numbers, the records and the result bytes that it lends
abbrev pub scratch_lent : ℕ
scratch_lent = 8192

abbrev pub nodes_lent : ℕ
nodes_lent = 16384

abbrev pub result_lent : ℕ
result_lent = 24576

-- the lines of the table where folding accepts, else that of the refusal
unfoldable pub program_lines : List ℕ → List ℕ
program_lines b =
    let f = fold_checked b scratch_lent nodes_lent result_lent in
    cond (eqb f.number 0) (table_lines (folded_bytes b)) (refusal_line f.number f.place)
