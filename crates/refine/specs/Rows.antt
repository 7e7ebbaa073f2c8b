-- Candidates numbered by their numbers so far and their rows.
use Rattle.std.specs.Prelude.{◌≡◌, Bool, ◌&&◌, List, ℕ, ◌+◌, ◌*◌, ◌≤◌, ◌<◌, eqb, length, get_or}
use Rattle.layered.specs.Search.{every}
use Rattle.diagrams.specs.Numbering.{number_same, count_same}
use Rattle.refine.specs.Limits.{link_count}
use Rattle.refine.specs.declared.Rows.{Rows}

-- the number of candidate c, as it stands in scratch s
abbrev pub number_in : List ℕ → Rows → (c : ℕ) → ℕ
number_in s rows c = get_or s (rows.numbers + c) 0

-- part i of c's row, as it stands in work w
abbrev pub part_in : List ℕ → Rows → (c i : ℕ) → ℕ
part_in w rows c i = get_or w (rows.ids + c * rows.parts + i) 0

-- whether d and c have the same number so far, and equal rows
unfoldable pub same_row : (before : ℕ → ℕ) → List ℕ → Rows → (d c : ℕ) → Bool
same_row before w rows d c = eqb (before d) (before c) && every rows.parts (λ i. eqb (part_in w rows d i) (part_in w rows c i))

-- where the candidates may lie
pub record Placed (s w : List ℕ) (rows : Rows) : Type 0 where
  pub copy_before : rows.copy + rows.count ≤ rows.numbers
  pub numbers_in : rows.numbers + rows.count ≤ length s
  pub rows_in : rows.ids + rows.count * rows.parts ≤ length w
  pub few : rows.count ≤ link_count

-- the place j is none of the n places from `at` on
abbrev pub Outside : (at n j : ℕ) → Type 0
Outside at n j = at ≤ j → at + n ≤ j

-- s became r: the candidates have their new numbers, of which there are k, and only their numbers and the copy have changed
pub record Refined (s r w : List ℕ) (rows : Rows) (k : ℕ) : Type 0 where
  pub numbered : (c : ℕ) → c < rows.count → number_in r rows c ≡ number_same (same_row (number_in s rows) w rows) c
  pub counted : k ≡ count_same (same_row (number_in s rows) w rows) rows.count
  pub kept : (j : ℕ) → Outside rows.copy rows.count j → Outside rows.numbers rows.count j → get_or r j 0 ≡ get_or s j 0
  pub long : length r ≡ length s
