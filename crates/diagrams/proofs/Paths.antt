-- Laws of paths: the inputs that a history gives as one number, and where they lead in a diagram.
use mathlib.Core.Path.{◌≡◌, refl, sym, ap, ap₂, ◌∙◌, subst}
use mathlib.Core.Bool.{Bool, true, false, cond}
use mathlib.Core.Logic.{⊎_elim}
use mathlib.Core.List.{List, [], ◌∷◌, ◌++◌}
use Prim.Native.Nat.{ℕ, zero, suc, ◌+◌, ◌*◌, ◌-◌, ◌/◌, ◌%◌, ◌^◌, ◌≤◌, ◌<◌}
use native.Mathlib.Nat.{le_refl, mod-lt, pow-zero, pow-suc, mul-zero, mul-one, mul-suc, mul_comm, mul_assoc, div-one, div-div-eq-div-mul}
use native.Mathlib.Omega.{arith}
use lib.Arith.{digits_lt, digits_div, digits_mod}
use lib.Pow.{pow_pos, pow-add}
use lib.Dec.{eqb}
use lib.ListN.{length, get_or, take, drop, take-append-drop}
use lib.Seq.{length-take-le, drop-cons}
use Rattle.diagrams.specs.Diagrams.{Nodes, branch, follow, Reduced}
use Rattle.diagrams.specs.Frames.{word_bits, history_bits}
use Rattle.diagrams.specs.Paths.{path_of}
use Rattle.diagrams.proofs.Growth.{decide}
use Rattle.diagrams.proofs.Laws.{branch_at, branch_past, branch_below}
use Rattle.diagrams.proofs.Frames.{word_length}

-- ---- bits of a number

-- input i is bit i
pub word_bit : (k w i : ℕ) → i < k → get_or (word_bits k w) i false ≡ eqb (w / 2 ^ i % 2) 1
unfolding word_bits
word_bit zero w i l = absurd (omega arith)
word_bit (suc k) w zero l = ap (λ x. eqb (x % 2) 1) (sym (ap (λ x. w / x) (pow-zero 2) ∙ div-one w))
word_bit (suc k) w (suc i) l =
    word_bit k (w / 2) i (omega arith) ∙ ap (λ x. eqb (x % 2) 1) (div-div-eq-div-mul w 2 (2 ^ i) ∙ ap (λ x. w / x) (mul_comm 2 (2 ^ i) ∙ sym (pow-suc 2 i)))

-- low bits, then high ones
pub word_split : (j k p w : ℕ) → p < 2 ^ j → word_bits (j + k) (p + w * 2 ^ j) ≡ word_bits j p ++ word_bits k w
unfolding word_bits
word_split zero k p w l =
    let a : 0 + k ≡ k = omega arith in
    let b : p + w * 2 ^ 0 ≡ w = omega (arith, pow-zero 2, ap (λ x. w * x) (pow-zero 2), mul-one w) in
    ap₂ word_bits a b
word_split (suc j) k p w l =
    let x = p + w * 2 ^ suc j in
    let q : w * 2 ^ suc j ≡ w * 2 ^ j * 2 = ap (λ x. w * x) (pow-suc 2 j) ∙ sym (mul_assoc w (2 ^ j) 2) in
    let a : suc j + k ≡ suc (j + k) = omega arith in
    let b : x % 2 ≡ p % 2 = omega (arith, q) in
    let c : x / 2 ≡ p / 2 + w * 2 ^ j = omega (arith, q) in
    let h : p / 2 < 2 ^ j = omega (arith, pow-suc 2 j) in
    ap (λ k. word_bits k x) a ∙ ap₂ (λ r q. eqb r 1 ∷ word_bits (j + k) q) b c ∙ ap (λ v. eqb (p % 2) 1 ∷ v) (word_split j k (p / 2) w h)

-- one bit more
word_more : (i w v : ℕ) → w < 2 ^ i → word_bits (suc i) (w + v * 2 ^ i) ≡ word_bits i w ++ word_bits 1 v
word_more i w v l = let e : suc i ≡ i + 1 = omega arith in ap (λ k. word_bits k (w + v * 2 ^ i)) e ∙ word_split i 1 w v l

-- ---- paths

pub path_below : (n t h : ℕ) → path_of n t h < 2 ^ (n * t)
unfolding path_of
path_below n zero h = pow_pos (n * 0)
path_below n (suc t) h =
    let e : 2 ^ (n * suc t) ≡ 2 ^ n * 2 ^ (n * t) = ap (λ x. 2 ^ x) (mul-suc n t) ∙ pow-add 2 (n * t) n ∙ mul_comm (2 ^ (n * t)) (2 ^ n) in
    omega (arith, e, digits_lt {c = 2 ^ (n * t)} (mod-lt h (pow_pos n)) (path_below n t (h / 2 ^ n)))

pub path_next : (n t h w : ℕ) → w < 2 ^ n → path_of n (suc t) (h * 2 ^ n + w) ≡ path_of n t h + w * 2 ^ (n * t)
unfolding path_of
path_next n t h w l = ap₂ (λ h w. path_of n t h + w * 2 ^ (n * t)) (digits_div h l) (digits_mod h l)

pub path_bits : (n t h : ℕ) → word_bits (n * t) (path_of n t h) ≡ history_bits n t h
unfolding path_of history_bits word_bits
path_bits n zero h = ap (λ k. word_bits k 0) (mul-zero n)
path_bits n (suc t) h =
    let p = path_of n t (h / 2 ^ n) in
    ap (λ k. word_bits k (p + h % 2 ^ n * 2 ^ (n * t))) (mul-suc n t) ∙ word_split (n * t) n p (h % 2 ^ n) (path_below n t (h / 2 ^ n))
    ∙ ap (λ v. v ++ word_bits n (h % 2 ^ n)) (path_bits n t (h / 2 ^ n))

-- ---- following

module _ (D : Nodes) where
  -- following goes on where it came to
  pub follow_append : (ps : List Bool) (l : ℕ) (vs : List Bool) (f : ℕ) → follow D l (ps ++ vs) f ≡ follow D (l + length ps) vs (follow D l ps f)
  unfolding follow
  follow_append [] l vs f = ap (λ k. follow D k vs f) (omega arith)
  follow_append (p ∷ ps) l vs f = follow_append ps (suc l) vs (branch D l p f) ∙ ap (λ k. follow D k vs (follow D (suc l) ps (branch D l p f))) (omega arith)

  -- nothing is tested above a node's level
  pub follow_past : (vs : List Bool) (l f : ℕ) → l + length vs ≤ D.level f → follow D l vs f ≡ f
  unfolding follow
  follow_past [] l f h = refl
  follow_past (v ∷ vs) l f h = ap (follow D (suc l) vs) (branch_past D l f v (λ e. omega arith)) ∙ follow_past vs (suc l) f (omega arith)

  pub follow_skip : (vs : List Bool) (l i f : ℕ) → i ≤ length vs → l + i ≤ D.level f → follow D l vs f ≡ follow D (l + i) (drop i vs) f
  follow_skip vs l i f b h =
      let long : length (take i vs) ≡ i = length-take-le i vs b in
      ap (λ vs. follow D l vs f) (sym (take-append-drop i vs)) ∙ follow_append (take i vs) l (drop i vs) f
      ∙ ap₂ (λ k f. follow D (l + k) (drop i vs) f) long (follow_past (take i vs) l f (omega arith))

  -- at its level one input is tested
  pub follow_jump : (vs : List Bool) (l i f : ℕ) → i < length vs → D.level f ≡ l + i
      → follow D l vs f ≡ follow D (l + suc i) (drop (suc i) vs) (branch D (l + i) (get_or vs i false) f)
  unfolding follow
  follow_jump vs l i f b e =
      let n : suc (l + i) ≡ l + suc i = omega arith in
      follow_skip vs l i f (omega arith) (omega arith) ∙ ap (λ us. follow D (l + i) us f) (drop-cons vs i false b)
      ∙ ap (λ k. follow D k (drop (suc i) vs) (branch D (l + i) (get_or vs i false) f)) n

  pub follow_top : (top p f : ℕ) → top < D.level f → follow D 1 (word_bits top p) f ≡ f
  follow_top top p f h = follow_past (word_bits top p) 1 f (omega (arith, word_length top p))

  -- the low bits of a path, then its high ones
  pub follow_split : (k j p w f : ℕ) → p < 2 ^ k → follow D 1 (word_bits (k + j) (p + w * 2 ^ k)) f ≡ follow D (suc k) (word_bits j w) (follow D 1 (word_bits k p) f)
  follow_split k j p w f l =
      let n : 1 + length (word_bits k p) ≡ suc k = omega (arith, word_length k p) in
      ap (λ vs. follow D 1 vs f) (word_split k j p w l) ∙ follow_append (word_bits k p) 1 (word_bits j w) f ∙ ap (λ l. follow D l (word_bits j w) (follow D 1 (word_bits k p) f)) n

  -- a path with a word more
  pub follow_next : (n t h w f : ℕ) → w < 2 ^ n
      → follow D 1 (word_bits (n * suc t) (path_of n (suc t) (h * 2 ^ n + w))) f ≡ follow D (suc (n * t)) (word_bits n w) (follow D 1 (word_bits (n * t) (path_of n t h)) f)
  follow_next n t h w f l = ap₂ (λ k p. follow D 1 (word_bits k p) f) (mul-suc n t) (path_next n t h w l) ∙ follow_split (n * t) n (path_of n t h) w f (path_below n t h)

  -- ---- one level more: a row of 2 ^ i ids becomes one of twice as many

  row_more : (l i w v f : ℕ) (b : Bool) → w < 2 ^ i → word_bits 1 v ≡ b ∷ [] → follow D l (word_bits (suc i) (w + v * 2 ^ i)) f ≡ branch D (l + i) b (follow D l (word_bits i w) f)
  unfolding follow
  row_more l i w v f b h e =
      ap (λ vs. follow D l vs f) (word_more i w v h ∙ ap (λ us. word_bits i w ++ us) e) ∙ follow_append (word_bits i w) l (b ∷ []) f
      ∙ ap (λ k. branch D (l + k) b (follow D l (word_bits i w) f)) (word_length i w)

  pub row_low : (l i w f : ℕ) → w < 2 ^ i → follow D l (word_bits (suc i) w) f ≡ branch D (l + i) false (follow D l (word_bits i w) f)
  unfolding word_bits
  row_low l i w f h = let e : w ≡ w + 0 * 2 ^ i = omega arith in ap (λ w. follow D l (word_bits (suc i) w) f) e ∙ row_more l i w 0 f false h refl

  pub row_high : (l i w f : ℕ) → w < 2 ^ i → follow D l (word_bits (suc i) (w + 2 ^ i)) f ≡ branch D (l + i) true (follow D l (word_bits i w) f)
  unfolding word_bits
  row_high l i w f h = let e : w + 2 ^ i ≡ w + 1 * 2 ^ i = omega arith in ap (λ w. follow D l (word_bits (suc i) w) f) e ∙ row_more l i w 1 f true h refl

module _ (N : ℕ) (D : Nodes) (red : Reduced N D) where
  -- a branch stands below its node
  pub step_down : (f : ℕ) (v : Bool) → 0 < D.level f → D.level f ≤ N → D.level f < D.level (cond v (D.high f) (D.low f))
  step_down f v h b = subst (λ g. D.level f < D.level g) (branch_at D (D.level f) f v refl) (branch_below N D red (D.level f) f v h b (le_refl _))

  -- from node to node: a node of a level up to top leads to the branch that its input chooses
  pub follow_step : (top p f : ℕ) → top ≤ N → 0 < D.level f → D.level f ≤ top
      → follow D 1 (word_bits top p) f ≡ follow D 1 (word_bits top p) (cond (eqb (p / 2 ^ (D.level f - 1) % 2) 1) (D.high f) (D.low f))
  follow_step top p f m h b =
      let vs : List Bool = word_bits top p in
      let i : ℕ = D.level f - 1 in
      let g : ℕ = cond (eqb (p / 2 ^ i % 2) 1) (D.high f) (D.low f) in
      let long : length vs ≡ top = word_length top p in
      let l : D.level f ≡ 1 + i = omega arith in
      let to : branch D (1 + i) (get_or vs i false) f ≡ g = branch_at D (1 + i) f (get_or vs i false) l ∙ ap (λ v. cond v (D.high f) (D.low f)) (word_bit top p i (omega arith)) in
      let down : D.level f < D.level g = step_down f (eqb (p / 2 ^ i % 2) 1) h (omega arith) in
      follow_jump D vs 1 i f (omega arith) l ∙ ap (follow D (1 + suc i) (drop (suc i) vs)) to ∙ sym (follow_skip D vs 1 (suc i) g (omega arith) (omega arith))

  -- what is followed stays a node
  pub follow_node : (vs : List Bool) (l f : ℕ) → length vs + l ≤ suc N → 0 < D.level f → 0 < D.level (follow D l vs f)
  unfolding follow
  follow_node [] l f m h = h
  follow_node (v ∷ vs) l f m h = follow_node vs (suc l) (branch D l v f) (omega arith) (⊎_elim at (λ n. rw (branch_past D l f v n) h) (decide (D.level f) l))
    where
      at : D.level f ≡ l → 0 < D.level (branch D l v f)
      at e = omega (arith, branch_below N D red l f v (omega arith) (omega arith) (omega arith))
