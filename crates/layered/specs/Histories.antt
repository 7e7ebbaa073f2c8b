-- Histories as lists of words: the number of a history has its first word highest, in base K.
use Rattle.std.specs.Prelude.{List, [], ◌∷◌, ◌++◌, ℕ, zero, suc, ◌+◌, ◌*◌, ◌/◌, ◌%◌}

-- the words of the history h of t words
unfoldable pub history_words : (K t h : ℕ) → List ℕ
history_words K zero h = []
history_words K (suc t) h = history_words K t (h / K) ++ (h % K ∷ [])

-- the number of the history h followed by the words c
unfoldable pub history_number : (K h : ℕ) → List ℕ → ℕ
history_number K h [] = h
history_number K h (w ∷ c) = history_number K (h * K + w) c
