-- Laws of numbers in byte lists, over the width. Assumes nothing.
use mathlib.Core.Path.{◌≡◌, refl, sym, ap, ap₂, ◌∙◌}
use mathlib.Core.List.{List, [], ◌∷◌, ◌++◌, append_assoc, append-nil}
use Prim.Native.Nat.{ℕ, zero, suc, ◌+◌, ◌*◌, ◌/◌, ◌%◌, ◌^◌, ◌≤◌, ◌<◌}
use native.Mathlib.Nat.{zero-add, add-zero, suc-add, mul-zero, mul-suc, mul_comm, mul_assoc, pow-zero, pow-suc, div-one, div-div-eq-div-mul, div-lt_iff_lt-mul, div-add-mod', mul-add}
use native.Mathlib.Numerals.{add-one}
use native.Mathlib.Omega.{arith}
use lib.Arith.{lt-one}
use lib.Dec.{lit<}
use lib.Pow.{field, mod-mod-pow}
use lib.ListN.{length, get_or, take, drop, set, length-append, length-take, length-drop, take-append-drop}
use lib.Seq.{set_comm, sets, length-sets, sets-eq, get_or-drop, get_or-take, get_or-append-add, drop-drop, drop-append-add, take_at, take-suc, drop_at, split_at, set_split}
use Rattle.words.specs.Words.{number_at, bytes_of, all_bytes, Fit, none, more, stored, Held, word_at, word_bytes}

-- ---- one number

bytes_of_length : (k x : ℕ) → length (bytes_of k x) ≡ k
unfolding bytes_of
bytes_of_length zero x = refl
bytes_of_length (suc k) x = ap suc (bytes_of_length k (x / 256))

-- a word is its two bytes
pub word_is : (b : List ℕ) (i : ℕ) → word_at b i ≡ get_or b i 0 + 256 * get_or b (i + 1) 0
unfolding word_at number_at
word_is b i = rw (add-one i) (omega arith)

-- only the bytes themselves count: those of another list, elsewhere
number_cong : (k : ℕ) (a b : List ℕ) (i j : ℕ) → ((d : ℕ) → d < k → get_or a (i + d) 0 ≡ get_or b (j + d) 0) → number_at k a i ≡ number_at k b j
unfolding number_at
number_cong zero a b i j e = refl
number_cong (suc k) a b i j e =
    ap₂ (λ x y. x + 256 * y)
    (ap (λ n. get_or a n 0) (omega arith) ∙ e 0 (omega arith) ∙ ap (λ n. get_or b n 0) (omega arith))
    (number_cong k a b (suc i) (suc j) (λ d h.
    let p : suc i + d ≡ i + suc d = omega arith in
    let q : j + suc d ≡ suc j + d = omega arith in
    ap (λ n. get_or a n 0) p ∙ e (suc d) (omega arith) ∙ ap (λ n. get_or b n 0) q))

-- in a part that starts at n
pub number_drop : (k n : ℕ) (b : List ℕ) (i : ℕ) → number_at k (drop n b) i ≡ number_at k b (n + i)
number_drop k n b i =
    number_cong k (drop n b) b i (n + i) (λ d h.
    let p : n + (i + d) ≡ n + i + d = omega arith in
    get_or-drop n b (i + d) 0 ∙ ap (λ m. get_or b m 0) p)

-- in the first n bytes
pub number_take : (k n : ℕ) (b : List ℕ) (i : ℕ) → i + k ≤ n → number_at k (take n b) i ≡ number_at k b i
number_take k n b i l = number_cong k (take n b) b i i (λ d h. get_or-take n b (i + d) 0 (omega arith))

-- after the bytes p
pub number_after : (k : ℕ) (p b : List ℕ) (i : ℕ) → number_at k (p ++ b) (length p + i) ≡ number_at k b i
number_after k p b i =
    number_cong k (p ++ b) b (length p + i) i (λ d h.
    let q : length p + i + d ≡ length p + (i + d) = omega arith in
    ap (λ m. get_or (p ++ b) m 0) q ∙ get_or-append-add p b (i + d) 0)

-- a number that fits is read back from its bytes
number_back : (k x : ℕ) (r : List ℕ) → x < 256 ^ k → number_at k (bytes_of k x ++ r) 0 ≡ x
unfolding number_at bytes_of
number_back zero x r l = sym (lt-one (rw pow-zero at l))
number_back (suc k) x r l =
    let q : x / 256 < 256 ^ k = (div-lt_iff_lt-mul (lit< tt)).1 (rw pow-suc at l) in
    let e : number_at k (x % 256 ∷ (bytes_of k (x / 256) ++ r)) 1 ≡ number_at k (bytes_of k (x / 256) ++ r) 0 =
    number_cong k _ (bytes_of k (x / 256) ++ r) 1 0 (λ d h.
    let p : 1 + d ≡ suc (0 + d) = omega arith in
    ap (λ m. get_or (x % 256 ∷ (bytes_of k (x / 256) ++ r)) m 0) p) in
    omega (arith, e, number_back k (x / 256) r q, div-add-mod' x 256)

-- ---- lists of numbers

pub all_bytes_length : (k : ℕ) (xs : List ℕ) → length (all_bytes k xs) ≡ k * length xs
unfolding all_bytes
all_bytes_length k [] = sym (mul-zero k)
all_bytes_length k (x ∷ xs) =
    length-append (bytes_of k x) (all_bytes k xs)
    ∙ omega (arith, bytes_of_length k x, all_bytes_length k xs, mul-suc k (length xs))

pub all_bytes_append : (k : ℕ) (xs ys : List ℕ) → all_bytes k (xs ++ ys) ≡ all_bytes k xs ++ all_bytes k ys
unfolding all_bytes
all_bytes_append k [] ys = refl
all_bytes_append k (x ∷ xs) ys = ap (λ l. bytes_of k x ++ l) (all_bytes_append k xs ys) ∙ sym (append_assoc (bytes_of k x) (all_bytes k xs) (all_bytes k ys))

-- number i of a list that fits is read back from the bytes, whatever follows them
pub read_back : (k : ℕ) (xs r : List ℕ) (i : ℕ) → Fit k xs → i < length xs → number_at k (all_bytes k xs ++ r) (k * i) ≡ get_or xs i 0
unfolding all_bytes
read_back k [] r i _ h = elim h [ ]
read_back k (x ∷ xs) r zero (more l F) h = rw (mul-zero k, append_assoc) (number_back k x (all_bytes k xs ++ r) l)
read_back k (x ∷ xs) r (suc i) (more l F) h =
    let p : k * suc i ≡ length (bytes_of k x) + k * i = omega (arith, mul-suc k i, bytes_of_length k x) in
    rw (p, append_assoc)
    (number_after k (bytes_of k x) (all_bytes k xs ++ r) (k * i) ∙ read_back k xs r i F (omega arith))

-- so is word i of words that fit
pub word_back : (ws : List ℕ) (i : ℕ) → Fit 2 ws → i < length ws → word_at (word_bytes ws) (2 * i) ≡ get_or ws i 0
unfolding word_at word_bytes
word_back ws i F h = ap (λ b. number_at 2 b (2 * i)) (sym (append-nil (all_bytes 2 ws))) ∙ read_back 2 ws [] i F h

-- the same bytes are the same numbers, where all fit
pub bytes_injective : (k : ℕ) (xs ys : List ℕ) → 0 < k → Fit k xs → Fit k ys → all_bytes k xs ≡ all_bytes k ys → xs ≡ ys
unfolding all_bytes
bytes_injective k [] [] p none none e = refl
bytes_injective k [] (y ∷ ys) p none (more m G) e = absurd (omega (arith, ap length e, length-append (bytes_of k y) (all_bytes k ys), bytes_of_length k y))
bytes_injective k (x ∷ xs) [] p (more l F) none e = absurd (omega (arith, ap length e, length-append (bytes_of k x) (all_bytes k xs), bytes_of_length k x))
bytes_injective k (x ∷ xs) (y ∷ ys) p (more l F) (more m G) e =
    let heads : bytes_of k x ≡ bytes_of k y = sym (take_at _ _ k (bytes_of_length k x)) ∙ ap (take k) e ∙ take_at _ _ k (bytes_of_length k y) in
    let tails : all_bytes k xs ≡ all_bytes k ys = sym (drop_at (bytes_of k x) _ k (bytes_of_length k x)) ∙ ap (drop k) e ∙ drop_at (bytes_of k y) _ k (bytes_of_length k y) in
    let q : x ≡ y = sym (number_back k x [] l) ∙ ap (λ b. number_at k (b ++ []) 0) heads ∙ number_back k y [] m in
    ap₂ ◌∷◌ q (bytes_injective k xs ys p F G tails)

-- ---- which numbers fit

pub fit_append : {k : ℕ} {xs ys : List ℕ} → Fit k xs → Fit k ys → Fit k (xs ++ ys)
fit_append none G = G
fit_append (more l F) G = more l (fit_append F G)

pub fit_at : {k : ℕ} (xs : List ℕ) → ((i : ℕ) → i < length xs → get_or xs i 0 < 256 ^ k) → Fit k xs
fit_at [] f = none
fit_at (x ∷ xs) f = more (f 0 (omega arith)) (fit_at xs (λ i h. f (suc i) (omega arith)))

-- ---- storing in a buffer

-- one number: its bytes, one after the other
pub stored_one : (k : ℕ) (b : List ℕ) (i x : ℕ) → i + k ≤ length b → sets b i (bytes_of k x) ≡ stored k b i (x ∷ [])
unfolding stored all_bytes
stored_one k b i x h =
    let l : length (bytes_of k x) ≡ k = bytes_of_length k x in
    let e : i + length (bytes_of k x) ≡ i + k * 1 = omega arith in
    sets-eq (bytes_of k x) b i (omega arith)
    ∙ append_assoc (take i b) (bytes_of k x) (drop (i + length (bytes_of k x)) b)
    ∙ ap₂ (λ (v : List ℕ) (n : ℕ). take i b ++ (v ++ drop n b)) (sym (append-nil (bytes_of k x))) e

pub stored_none : (k : ℕ) (b : List ℕ) (i : ℕ) → stored k b i [] ≡ b
unfolding stored all_bytes
stored_none k b i =
    let e : i + k * 0 ≡ i = omega (arith, mul-zero k) in
    rw e (take-append-drop i b)

pub stored_length : (k : ℕ) (b : List ℕ) (i : ℕ) (xs : List ℕ) → i + k * length xs ≤ length b → length (stored k b i xs) ≡ length b
unfolding stored
stored_length k b i xs h = rw (length-append, length-append, length-take, length-drop, all_bytes_length) (omega arith)

-- at the front: the bytes, and then the rest as before
pub stored_front : (k : ℕ) (b xs : List ℕ) → stored k b 0 xs ≡ all_bytes k xs ++ drop (k * length xs) b
unfolding stored
stored_front k b xs = let e : 0 + k * length xs ≡ k * length xs = omega arith in rw e

-- behind the bytes p
pub stored_after : (k : ℕ) (p b : List ℕ) (i : ℕ) (xs : List ℕ) → length p ≡ i → stored k (p ++ b) i xs ≡ p ++ (all_bytes k xs ++ drop (k * length xs) b)
unfolding stored
stored_after k p b i xs e =
    let q : i + k * length xs ≡ length p + k * length xs = omega arith in
    ap₂ (λ (x y : List ℕ). x ++ (all_bytes k xs ++ y)) (take_at p b i e) (ap (λ (n : ℕ). drop n (p ++ b)) q ∙ drop-append-add p b (k * length xs))

-- more numbers behind those that were stored
pub stored_more : (k : ℕ) (b : List ℕ) (i : ℕ) (xs ys : List ℕ) (j : ℕ) → j ≡ i + k * length xs → i + k * length xs ≤ length b
    → stored k (stored k b i xs) j ys ≡ stored k b i (xs ++ ys)
unfolding stored
stored_more k b i xs ys j e h =
    let f : List ℕ = take i b in
    let a : List ℕ = all_bytes k xs in
    let n : ℕ = k * length xs in
    let whole : f ++ (a ++ drop (i + n) b) ≡ (f ++ a) ++ drop (i + n) b = sym (append_assoc f a (drop (i + n) b)) in
    let l : length (f ++ a) ≡ j = rw (length-append, length-take, all_bytes_length) (omega arith) in
    let m : k * length ys + n ≡ k * length (xs ++ ys) = rw length-append (omega (arith, mul-add k (length xs) (length ys))) in
    let front : take j (f ++ (a ++ drop (i + n) b)) ≡ f ++ a = ap (take j) whole ∙ take_at (f ++ a) (drop (i + n) b) j l in
    let p : j + k * length ys ≡ length (f ++ a) + k * length ys = omega arith in
    let q : i + n + k * length ys ≡ i + k * length (xs ++ ys) = omega arith in
    let rest : drop (j + k * length ys) (f ++ (a ++ drop (i + n) b)) ≡ drop (i + k * length (xs ++ ys)) b =
    ap₂ drop p whole ∙ drop-append-add (f ++ a) (drop (i + n) b) (k * length ys) ∙ drop-drop (k * length ys) (i + n) b ∙ ap (λ (n : ℕ). drop n b) q in
    ap₂ (λ (x y : List ℕ). x ++ (all_bytes k ys ++ y)) front rest
    ∙ append_assoc f a (all_bytes k ys ++ drop (i + k * length (xs ++ ys)) b)
    ∙ ap (λ (x : List ℕ). f ++ x) (sym (append_assoc a (all_bytes k ys) (drop (i + k * length (xs ++ ys)) b)) ∙ ap (λ (x : List ℕ). x ++ drop (i + k * length (xs ++ ys)) b) (sym (all_bytes_append k xs ys)))

-- the same of the buffer r, which is b with xs stored
pub stored_behind : (k : ℕ) (b r : List ℕ) (i : ℕ) (xs ys : List ℕ) (j : ℕ) → r ≡ stored k b i xs → j ≡ i + k * length xs → i + k * length xs ≤ length b
    → stored k r j ys ≡ stored k b i (xs ++ ys)
stored_behind k b r i xs ys j er ej room = ap (λ (b : List ℕ). stored k b j ys) er ∙ stored_more k b i xs ys j ej room

-- one number more of the list xs, of which the first n are stored
pub taken_more : (k : ℕ) (b r : List ℕ) (i n : ℕ) (xs : List ℕ) (j : ℕ) → r ≡ stored k b i (take n xs) → j ≡ i + k * n → i + k * n ≤ length b → n < length xs
    → stored k r j (get_or xs n 0 ∷ []) ≡ stored k b i (take (n + 1) xs)
taken_more k b r i n xs j er ej room h =
    let l : length (take n xs) ≡ n = length-take n xs ∙ omega arith in
    stored_behind k b r i (take n xs) (get_or xs n 0 ∷ []) j er (rw l ej) (rw l room)
    ∙ ap (stored k b i) (sym (take-suc xs n 0 h) ∙ ap (λ (n : ℕ). take n xs) (sym (add-one n)))

-- numbers stored over as many others
pub stored_over : (k : ℕ) (b : List ℕ) (i : ℕ) (xs ys : List ℕ) → length ys ≡ length xs → i ≤ length b → stored k (stored k b i xs) i ys ≡ stored k b i ys
unfolding stored
stored_over k b i xs ys e h =
    let a : List ℕ = all_bytes k xs in
    let n : ℕ = i + k * length xs in
    let f : length (take i b) ≡ i = length-take i b ∙ omega arith in
    let l : length (take i b ++ a) ≡ n = rw (length-append, all_bytes_length) (omega arith) in
    let front : take i (take i b ++ (a ++ drop n b)) ≡ take i b = take_at (take i b) (a ++ drop n b) i f in
    let p : i + k * length ys ≡ n = ap (λ m. i + k * m) e in
    let rest : drop (i + k * length ys) (take i b ++ (a ++ drop n b)) ≡ drop (i + k * length ys) b =
    ap₂ drop p (sym (append_assoc (take i b) a (drop n b))) ∙ drop_at (take i b ++ a) (drop n b) n l ∙ ap (λ m. drop m b) (sym p) in
    ap₂ (λ (x y : List ℕ). x ++ (all_bytes k ys ++ y)) front rest

-- ---- two stores that do not meet, in either order

module _ {A : Type 0} where
  sets_set : (l : List A) (i : ℕ) (vs : List A) (j : ℕ) (a : A) → i + length vs ≤ j → set (sets l i vs) j a ≡ sets (set l j a) i vs
  sets_set l i [] j a h = refl
  sets_set l i (v ∷ vs) j a h =
      sets_set (set l i v) (suc i) vs j a (omega arith) ∙ ap (λ (l : List A). sets l (suc i) vs) (set_comm l i j v a (λ e. absurd (omega arith)))

  sets_comm : (l : List A) (i : ℕ) (vs : List A) (j : ℕ) (ws : List A) → i + length vs ≤ j → sets (sets l i vs) j ws ≡ sets (sets l j ws) i vs
  sets_comm l i vs j [] h = refl
  sets_comm l i vs j (w ∷ ws) h =
      ap (λ (l : List A). sets l (suc j) ws) (sets_set l i vs j w h) ∙ sets_comm (set l j w) i vs (suc j) ws (omega arith)

stored_sets : (k : ℕ) (b : List ℕ) (i : ℕ) (xs : List ℕ) → i + k * length xs ≤ length b → stored k b i xs ≡ sets b i (all_bytes k xs)
unfolding stored
stored_sets k b i xs h =
    let n : length (all_bytes k xs) ≡ k * length xs = all_bytes_length k xs in
    sym
    (sets-eq (all_bytes k xs) b i (omega arith)
    ∙ append_assoc (take i b) (all_bytes k xs) _
    ∙ ap (λ (n : ℕ). take i b ++ (all_bytes k xs ++ drop (i + n) b)) n)

pub stored_comm : (k : ℕ) (b : List ℕ) (i : ℕ) (xs : List ℕ) (j : ℕ) (ys : List ℕ) → i + k * length xs ≤ j → j + k * length ys ≤ length b
    → stored k (stored k b i xs) j ys ≡ stored k (stored k b j ys) i xs
stored_comm k b i xs j ys h room =
    let p : length (stored k b i xs) ≡ length b = stored_length k b i xs (omega arith) in
    let q : length (stored k b j ys) ≡ length b = stored_length k b j ys room in
    stored_sets k (stored k b i xs) j ys (omega arith)
    ∙ ap (λ (l : List ℕ). sets l j (all_bytes k ys)) (stored_sets k b i xs (omega arith))
    ∙ sets_comm b i (all_bytes k xs) j (all_bytes k ys) (omega (arith, all_bytes_length k xs))
    ∙ ap (λ (l : List ℕ). sets l i (all_bytes k xs)) (sym (stored_sets k b j ys room))
    ∙ sym (stored_sets k (stored k b j ys) i xs (omega arith))

-- ---- numbers that stand in a buffer

-- those that were stored do
pub stored_held : (k : ℕ) (b : List ℕ) (i : ℕ) (xs : List ℕ) → i ≤ length b → Held k (stored k b i xs) i xs
unfolding Held
stored_held k b i xs h = stored_over k b i xs xs refl h

-- they are read back, where all fit
pub held_number : (k : ℕ) (b : List ℕ) (i : ℕ) (xs : List ℕ) (j : ℕ) → Held k b i xs → Fit k xs → i ≤ length b → j < length xs → number_at k b (i + k * j) ≡ get_or xs j 0
unfolding Held stored
held_number k b i xs j H F h l =
    let r : List ℕ = all_bytes k xs ++ drop (i + k * length xs) b in
    let p : i + k * j ≡ length (take i b) + k * j = omega (arith, length-take i b) in
    ap₂ (number_at k) (sym H) p ∙ number_after k (take i b) r (k * j) ∙ read_back k xs _ j F l

-- one of them is replaced
pub stored_set : (k : ℕ) (b : List ℕ) (i : ℕ) (xs : List ℕ) (j x : ℕ) → i + k * length xs ≤ length b → j < length xs
    → stored k (stored k b i xs) (i + k * j) (x ∷ []) ≡ stored k b i (set xs j x)
stored_set k b i xs j x room l =
    let p : List ℕ = take j xs in
    let y : List ℕ = get_or xs j 0 ∷ [] in
    let z : List ℕ = x ∷ [] in
    let q : List ℕ = drop (suc j) xs in
    let at : ℕ = i + k * j in
    let lp : length p ≡ j = length-take j xs ∙ omega arith in
    let lq : suc j + length q ≡ length xs = omega (arith, length-drop (suc j) xs) in
    let whole : k * length xs ≡ k * j + (k + k * length q) = ap (λ n. k * n) (sym lq) ∙ omega (arith, mul-add k (suc j) (length q), mul-suc k j) in
    let ep : at ≡ i + k * length p = ap (λ n. i + k * n) (sym lp) in
    let one : (v : ℕ) → at + k ≡ i + k * length (p ++ (v ∷ [])) = λ v.
    let e : length (p ++ (v ∷ [])) ≡ suc j = length-append p (v ∷ []) ∙ omega arith in
    omega (arith, mul-suc k j, ap (λ n. k * n) e) in
    let parted : (v : ℕ) → stored k b i (p ++ (v ∷ q)) ≡ stored k (stored k (stored k b i p) at (v ∷ [])) (at + k) q = λ v.
    ap (stored k b i) (sym (append_assoc p (v ∷ []) q))
    ∙ sym (stored_behind k b (stored k (stored k b i p) at (v ∷ [])) i (p ++ (v ∷ [])) q (at + k) (stored_more k b i p (v ∷ []) at ep (omega arith)) (one v) (omega (arith, one v))) in
    let m : length (stored k b i p) ≡ length b = stored_length k b i p (omega arith) in
    let n : length (stored k (stored k b i p) at y) ≡ length b = stored_length k (stored k b i p) at y (omega arith) ∙ m in
    ap (λ v. stored k (stored k b i v) at z) (split_at xs j 0 l)
    ∙ ap (λ v. stored k v at z) (parted (get_or xs j 0))
    ∙ sym (stored_comm k (stored k (stored k b i p) at y) at z (at + k) q (omega arith) (omega arith))
    ∙ ap (λ v. stored k v (at + k) q) (stored_over k (stored k b i p) at y z refl (omega arith))
    ∙ sym (parted x)
    ∙ ap (stored k b i) (sym (set_split xs j x l))

-- ---- a number of width j + k as two: its lowest j bytes, and what is above them

-- a number without its lowest byte, and then without j more
shorter : (x j : ℕ) → x / 256 / 256 ^ j ≡ x / 256 ^ suc j
shorter x j = div-div-eq-div-mul x 256 (256 ^ j) ∙ ap (λ d. x / d) (mul_comm 256 (256 ^ j) ∙ sym (pow-suc 256 j))

bytes_of_join : (j k x : ℕ) → bytes_of (j + k) x ≡ bytes_of j x ++ bytes_of k (x / 256 ^ j)
unfolding bytes_of
bytes_of_join zero k x = rw (zero-add k, pow-zero 256, div-one x)
bytes_of_join (suc j) k x = rw (suc-add j k) (ap (λ l. x % 256 ∷ l) (bytes_of_join j k (x / 256) ∙ ap (λ q. bytes_of j (x / 256) ++ bytes_of k q) (shorter x j)))

-- only these bytes are stored
bytes_of_low : (x : ℕ) → bytes_of 2 (x % 65536) ≡ bytes_of 2 x
unfolding bytes_of
bytes_of_low x =
    let q : x % 65536 / 256 % 256 ≡ x / 256 % 256 = ap (λ y. y % 256) (field x 8 8) ∙ mod-mod-pow (x / 256) 0 8 in
    ap₂ (λ a b. a ∷ b ∷ []) (mod-mod-pow x 8 8) q

pub number_join : (j k : ℕ) (b : List ℕ) (i : ℕ) → number_at (j + k) b i ≡ number_at j b i + 256 ^ j * number_at k b (i + j)
unfolding number_at
number_join zero k b i = rw (zero-add k, pow-zero 256, add-zero i) (omega arith)
number_join (suc j) k b i =
    let x : ℕ = number_at k b (i + suc j) in
    let e : suc i + j ≡ i + suc j = omega arith in
    let m : 256 ^ suc j * x ≡ 256 * (256 ^ j * x) = ap (λ p. p * x) (pow-suc 256 j ∙ mul_comm (256 ^ j) 256) ∙ mul_assoc 256 (256 ^ j) x in
    rw (suc-add j k) (omega (arith, number_join j k b (suc i), ap (λ n. 256 ^ j * number_at k b n) e, m))

sets_append : {A : Type 0} (l : List A) (i : ℕ) (us vs : List A) → sets (sets l i us) (i + length us) vs ≡ sets l i (us ++ vs)
sets_append l i [] vs = ap (λ n. sets l n vs) (omega arith)
sets_append l i (u ∷ us) vs = ap (λ n. sets (sets (set l i u) (suc i) us) n vs) (omega arith) ∙ sets_append (set l i u) (suc i) us vs

pub stored_join : (j k : ℕ) (b : List ℕ) (i x : ℕ) → i + (j + k) ≤ length b → stored k (stored j b i (x ∷ [])) (i + j) (x / 256 ^ j ∷ []) ≡ stored (j + k) b i (x ∷ [])
stored_join j k b i x h =
    let q : ℕ = x / 256 ^ j in
    let l : length (sets b i (bytes_of j x)) ≡ length b = length-sets b i (bytes_of j x) in
    let e : i + j ≡ i + length (bytes_of j x) = omega (arith, bytes_of_length j x) in
    ap (λ v. stored k v (i + j) (q ∷ [])) (sym (stored_one j b i x (omega arith)))
    ∙ sym (stored_one k (sets b i (bytes_of j x)) (i + j) q (omega arith))
    ∙ ap (λ n. sets (sets b i (bytes_of j x)) n (bytes_of k q)) e
    ∙ sets_append b i (bytes_of j x) (bytes_of k q)
    ∙ ap (sets b i) (sym (bytes_of_join j k x))
    ∙ stored_one (j + k) b i x h

-- of a 16-bit word the lowest two bytes are stored
pub stored_low : (b : List ℕ) (i x : ℕ) → stored 2 b i (x % 65536 ∷ []) ≡ stored 2 b i (x ∷ [])
unfolding stored all_bytes
stored_low b i x = ap (λ l. take i b ++ ((l ++ []) ++ drop (i + 2 * 1) b)) (bytes_of_low x)
