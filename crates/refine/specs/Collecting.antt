-- A path for each number: that of the first candidate with the number. Candidate c is the state c / fan, followed by the word c % fan.
use Rattle.std.specs.Prelude.{◌≡◌, Bool, List, ℕ, ◌+◌, ◌*◌, ◌/◌, ◌%◌, ◌^◌, ◌≤◌, ◌<◌, T, length, get_or}
use Rattle.diagrams.specs.Numbering.{is_new, number_same, count_same}
use Rattle.refine.specs.Rows.{number_in, Outside}
use Rattle.refine.specs.declared.Rows.{Rows}

-- the path of candidate c, where those of the states stand in s from `from` on
abbrev pub path_in : List ℕ → (from fan bits : ℕ) → (c : ℕ) → ℕ
path_in s from fan bits c = get_or s (from + c / fan) 0 + c % fan * 2 ^ bits

-- the candidates are all words after some states, whose paths lie apart from the copy; each path fits 16 bits
pub record Collectable (s : List ℕ) (rows : Rows) (from fan bits : ℕ) : Type 0 where
  pub copy_before : rows.copy + rows.count ≤ rows.numbers
  pub numbers_in : rows.numbers + rows.count ≤ length s
  pub paths_in : from + rows.count / fan ≤ length s
  pub apart : (i : ℕ) → i < rows.count / fan → Outside rows.copy rows.count (from + i)
  pub words : 0 < fan
  pub whole : rows.count / fan * fan ≡ rows.count
  pub shift : bits < 64
  pub short : (c : ℕ) → c < rows.count → path_in s from fan bits c < 65536

-- the numbers in s are those by the test `same`, which is transitive
pub record NumberedBy (same : ℕ → ℕ → Bool) (s : List ℕ) (rows : Rows) : Type 0 where
  pub on : (b d c : ℕ) → T (same b d) → T (same d c) → T (same b c)
  pub number : (c : ℕ) → c < rows.count → number_in s rows c ≡ number_same same c

-- s became r, where the new ones of the first c candidates, of which there are `fresh`, have their paths in the copy, by their numbers
pub record Collecting (s r : List ℕ) (rows : Rows) (from fan bits c fresh : ℕ) : Type 0 where
  pub few : fresh ≤ c
  pub counted : (same : ℕ → ℕ → Bool) → NumberedBy same s rows → fresh ≡ count_same same c
  pub paths : (same : ℕ → ℕ → Bool) → NumberedBy same s rows → (d : ℕ) → d < c → T (is_new same d)
      → get_or r (rows.copy + number_same same d) 0 ≡ path_in s from fan bits d
  pub kept : (j : ℕ) → Outside rows.copy rows.count j → get_or r j 0 ≡ get_or s j 0
  pub long : length r ≡ length s

-- the same of all candidates
pub record Collected (s r : List ℕ) (rows : Rows) (from fan bits : ℕ) : Type 0 where
  pub paths : (same : ℕ → ℕ → Bool) → NumberedBy same s rows → (c : ℕ) → c < rows.count → T (is_new same c)
      → get_or r (rows.copy + number_same same c) 0 ≡ path_in s from fan bits c
  pub kept : (j : ℕ) → Outside rows.copy rows.count j → get_or r j 0 ≡ get_or s j 0
  pub long : length r ≡ length s
