-- Lists that are made one element at a time, words as bits, and blocks of numbers.
use Rattle.std.specs.Prelude.{ℕ, zero, suc, ◌+◌, ◌*◌, ◌/◌, ◌%◌, ◌^◌, List, [], ◌∷◌, ◌++◌, Bool, cond, eqb}

-- `start`, and then k elements, each given by `next` from the list before it and its own number
unfoldable pub grown : {A : Type 0} → List A → (List A → ℕ → A) → ℕ → List A
grown start next zero = start
grown start next (suc k) = grown start next k ++ (next (grown start next k) k ∷ [])

-- `start`, and then f 0, f 1, .., f (k - 1)
abbrev pub listed : {A : Type 0} → List A → (ℕ → A) → ℕ → List A
listed start f k = grown start (λ _ i. f i) k

-- bit j of a word, and the word of a list of bits, lowest first
unfoldable pub bit : (w j : ℕ) → Bool
bit w j = eqb (w / 2 ^ j % 2) 1

unfoldable pub packed : List Bool → ℕ
packed [] = 0
packed (v ∷ vs) = cond v 1 0 + 2 * packed vs

-- numbers in blocks of 2 ^ bits: the first of the block of x
unfoldable pub block_start : (bits x : ℕ) → ℕ
block_start bits x = x / 2 ^ bits * 2 ^ bits
