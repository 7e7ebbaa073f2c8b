-- The sizes that circuits and tables begin with, their judgement, and that of the words that are fed to either.
use Rattle.std.specs.Prelude.{ℕ, ◌*◌, ◌^◌, Bool, not, ◌||◌, List, ltb, leb, eqb, length, get_or}
use Rattle.words.specs.Words.{word_at}
use Rattle.sizes.specs.Limits.{most_outputs, most_frames, most_bits}
use Rattle.verdict.specs.Judgements.{answer, refuse, refuse_first, and_then}
use Rattle.verdict.specs.declared.Figures.{Figures}

-- n, m and T of document 01
unfoldable pub inputs : List ℕ → ℕ
unfolding word_at
inputs b = word_at b 0

unfoldable pub outputs : List ℕ → ℕ
unfolding word_at
outputs b = word_at b 2

unfoldable pub frames : List ℕ → ℕ
unfolding word_at
frames b = word_at b 4

-- a size is to be from low to high
unfoldable pub outside : (low high x : ℕ) → Bool
outside low high x = ltb x low || ltb high x

-- 2, of n, m and T; `most` is the largest n
unfoldable pub sizes_checked : (most n m T : ℕ) → Figures
unfolding outside
sizes_checked most n m T =
    refuse (outside 1 most n) 2 0
    (refuse (outside 1 most_outputs m) 2 2
    (refuse (outside 1 most_frames T) 2 4
    (refuse (ltb most_bits (n * T)) 2 4
    (answer 0 0))))

-- 9: the first word of 2^n or more
unfoldable pub words_checked : (n : ℕ) → List ℕ → Figures
unfolding refuse_first
words_checked n words = refuse_first (λ t. leb (2 ^ n) (get_or words t 0)) 9 (λ t. t) (answer 0 0) 0 (length words)

-- 12, 9, 7, of a list that is to have T words, and a result with room for so many words
unfoldable pub sequence_checked : (n T : ℕ) (words : List ℕ) (room : ℕ) → Figures
unfolding words_checked
sequence_checked n T words room =
    refuse (not (eqb (length words) T)) 12 (length words)
    (and_then (words_checked n words)
    (refuse (ltb room T) 7 T
    (answer 0 T)))
