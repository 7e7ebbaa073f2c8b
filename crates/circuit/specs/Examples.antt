-- Small circuits of document 01 ("Figures to hold"), as words: n, m, T, G, the left literals, the right literals.
use Rattle.std.specs.Prelude.{ℕ, List, [], ◌∷◌}

-- Parity: n = m = 1, T = 2, y1 = x1, y2 = x1 xor x2
unfoldable pub parity : List ℕ
parity = 1 ∷ 1 ∷ 2 ∷ 5 ∷ 2 ∷ 3 ∷ 7 ∷ 2 ∷ 11 ∷ 5 ∷ 4 ∷ 9 ∷ 1 ∷ 1 ∷ []

-- n = m = T = 1, y = x
unfoldable pub identity : List ℕ
identity = 1 ∷ 1 ∷ 1 ∷ 1 ∷ 2 ∷ 1 ∷ []

-- n = m = 1, T = 2, all outputs false
unfoldable pub silent : List ℕ
silent = 1 ∷ 1 ∷ 2 ∷ 2 ∷ 0 ∷ 0 ∷ 0 ∷ 0 ∷ []

-- n = m = 1, T = 3, y1 = y2 = 0, y3 = x1
unfoldable pub delayed : List ℕ
delayed = 1 ∷ 1 ∷ 3 ∷ 3 ∷ 0 ∷ 0 ∷ 2 ∷ 0 ∷ 0 ∷ 1 ∷ []
