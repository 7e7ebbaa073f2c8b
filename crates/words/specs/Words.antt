-- Numbers in byte lists, low byte first, stated once over the width in bytes. Document 01's file words are of width 2.
use Rattle.std.specs.Prelude.{◌≡◌, List, [], ◌∷◌, ◌++◌, ℕ, zero, suc, ◌+◌, ◌*◌, ◌/◌, ◌%◌, ◌^◌, ◌<◌, length, get_or, take, drop}

-- the number whose `width` bytes stand in b from byte offset i on
unfoldable pub number_at : (width : ℕ) → List ℕ → ℕ → ℕ
number_at zero b i = 0
number_at (suc k) b i = get_or b i 0 + 256 * number_at k b (suc i)

-- the lowest `width` bytes of x
unfoldable pub bytes_of : (width : ℕ) → ℕ → List ℕ
bytes_of zero x = []
bytes_of (suc k) x = x % 256 ∷ bytes_of k (x / 256)

-- the bytes of all numbers of a list, one after the other
unfoldable pub all_bytes : (width : ℕ) → List ℕ → List ℕ
unfolding bytes_of
all_bytes width [] = []
all_bytes width (x ∷ xs) = bytes_of width x ++ all_bytes width xs

-- each number of the list fits in `width` bytes
pub data Fit (width : ℕ) : List ℕ → Type 0 where
  none : Fit width []
  more : {x : ℕ} {xs : List ℕ} → x < 256 ^ width → Fit width xs → Fit width (x ∷ xs)

-- the buffer b after the numbers xs were stored from byte offset i on; the rest is as before
unfoldable pub stored : (width : ℕ) (b : List ℕ) (i : ℕ) (xs : List ℕ) → List ℕ
unfolding all_bytes
stored width b i xs = take i b ++ (all_bytes width xs ++ drop (i + width * length xs) b)

-- the numbers xs stand in b from byte offset i on: storing them there changes nothing
unfoldable pub Held : (width : ℕ) (b : List ℕ) (i : ℕ) (xs : List ℕ) → Type 0
unfolding stored
Held width b i xs = stored width b i xs ≡ b

-- the 16-bit word at byte offset i, and the bytes of 16-bit words
unfoldable pub word_at : List ℕ → ℕ → ℕ
unfolding number_at
word_at b i = number_at 2 b i

unfoldable pub word_bytes : List ℕ → List ℕ
unfolding all_bytes
word_bytes ws = all_bytes 2 ws
