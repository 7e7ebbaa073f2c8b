-- Next states as they stand in the scratch: each layer's in one part, and those of the last frame nowhere. Assumes nothing.
use mathlib.Core.Path.{◌≡◌, refl, sym, ap, ap₂, ◌∙◌}
use mathlib.Core.List.{List, [], ◌∷◌, ◌++◌}
use Prim.Native.Nat.{ℕ, zero, suc, ◌+◌, ◌-◌, ◌*◌, ◌^◌, ◌≤◌, ◌<◌}
use native.Mathlib.Nat.{pow-zero, pow-suc, mul-le-mul, mul-le-mul_right, one-le-pow}
use native.Mathlib.Numerals.{add-one}
use native.Mathlib.Omega.{arith}
use lib.Arith.{digits_div, digits_mod}
use lib.Pow.{pow_pos}
use lib.ListN.{length, get_or, take, drop, replicate, length-take, length-drop, length-replicate, get_or-replicate}
use lib.Seq.{get_or-take, get_or-drop}
use Rattle.words.specs.Words.{stored}
use Rattle.words.proofs.Laws.{stored_behind}
use Rattle.layered.specs.Search.{join, tabulate, total}
use Rattle.layered.specs.States.{count, number, history}
use Rattle.layered.specs.Machines.{entries, folded}
use Rattle.layered.proofs.Lists.{join_cong, join_tabulate, tabulate_cong, tabulated, total_each, total_le, total_next}
use Rattle.layered.proofs.Entries.{entries_length}
use Rattle.layered.proofs.States.{count_at_most, count_last, number_decides, number_below, equivalent_last}
use Rattle.diagrams.specs.Forward.{candidate}
use Rattle.explore.specs.declared.Layout.{Layout}
use Rattle.explore.specs.Explore.{layer_at, Laid}
use Rattle.explore.proofs.Layers.{layer_next, layer_in, two_words, half_to, few_histories, words_few}
use Rattle.write.specs.Write.{next_words, NextsFit}

-- one more of the same
more_same : (x i : ℕ) → replicate i x ++ (x ∷ []) ≡ replicate (suc i) x
more_same x zero = refl
more_same x (suc i) = ap (λ (l : List ℕ). x ∷ l) (more_same x i)

pub one_more : (x i : ℕ) → replicate i x ++ (x ∷ []) ≡ replicate (i + 1) x
one_more x i = more_same x i ∙ ap (λ n. replicate n x) (sym (add-one i))

-- rows of K numbers as one list
rows_flat : (n K : ℕ) (f : ℕ → ℕ) → join n (λ i. tabulate K (λ j. f (i * K + j))) ≡ tabulate (n * K) f
rows_flat n K f =
    join_cong n _ _ (λ i _. tabulate_cong K _ _ (λ j _. ap (λ k. f (k + j)) (sym (total_each i K))))
    ∙ join_tabulate n (λ _. K) f ∙ ap (λ n. tabulate n f) (total_each n K)

-- layer 1 begins at 1
pub layer_one : (K : ℕ) → layer_at K 1 ≡ 1
unfolding layer_at
layer_one K = omega (arith, pow-zero K)

-- the next states of the first t layers, as they stand in the scratch
unfoldable pub nexts_in : Layout → (s counts : List ℕ) (t : ℕ) → List ℕ
unfolding join
nexts_in layout s counts t = join t (λ u. take (get_or counts u 0 * layout.fan) (drop (layout.half + layer_at layout.fan (suc u)) s))

pub nexts_none : (layout : Layout) (s counts : List ℕ) → nexts_in layout s counts 0 ≡ []
unfolding nexts_in
nexts_none layout s counts = refl

pub nexts_layer : (layout : Layout) (s counts : List ℕ) (t : ℕ)
    → nexts_in layout s counts (t + 1) ≡ nexts_in layout s counts t ++ take (get_or counts t 0 * layout.fan) (drop (layout.half + layer_at layout.fan (suc t)) s)
unfolding nexts_in
nexts_layer layout s counts t = rw (add-one t)

-- a part that is lent from `from` on
pub part_lent : (layout : Layout) (s : List ℕ) (t n from : ℕ) → from ≡ layer_at layout.fan (suc t)
    → take (layout.half + from + n - (layout.half + from)) (drop (layout.half + from) s) ≡ take n (drop (layout.half + layer_at layout.fan (suc t)) s)
part_lent layout s t n from e =
    let k : layout.half + from + n - (layout.half + from) ≡ n = omega arith in
    ap₂ (λ (k f : ℕ). take k (drop (layout.half + f) s)) k e

module _ (layout : Layout) (s counts r : List ℕ) (at : ℕ) (N : NextsFit layout s counts r at) where
  abbrev K : ℕ
  K = 2 ^ layout.bits

  abbrev T : ℕ
  T = layout.frames

  abbrev y : ℕ → ℕ → ℕ
  y = N.y

  abbrev L : Laid layout
  L = N.laid

  -- how many entries a layer has
  pub entries_are : (t : ℕ) → t < T → get_or counts t 0 * layout.fan ≡ count K T y t * K
  entries_are t h = ap₂ ◌*◌ (N.counted.known t (omega arith)) L.fan_is

  entries_few : (t : ℕ) → t < T → get_or counts t 0 * layout.fan ≤ layout.fan ^ suc t
  entries_few t h =
      let p : get_or counts t 0 ≤ layout.fan ^ t = omega (arith, N.counted.known t (omega arith), count_at_most K T y t, ap (λ (K : ℕ). K ^ t) L.fan_is) in
      omega (arith, pow-suc layout.fan t, mul-le-mul_right layout.fan p)

  pub entries_to : (t : ℕ) → t < T → get_or counts t 0 * layout.fan ≤ 2147483648
  entries_to t h =
      let p : get_or counts t 0 ≤ 32768 = omega (arith, N.counted.known t (omega arith), count_at_most K T y t, ap (λ (K : ℕ). K ^ t) L.fan_is, few_histories layout L t h) in
      mul-le-mul p (words_few layout L)

  -- a layer's next states stand in the second half
  pub part_in : (t : ℕ) → suc t < T → layout.half + layer_at layout.fan (suc t) + get_or counts t 0 * layout.fan ≤ length s
  part_in t h = omega (arith, entries_few t (omega arith), layer_in layout.fan (two_words layout L) (suc t) T h, L.half_is, N.scratch_room)

  pub from_to : (t : ℕ) → suc t < T → (layer_at layout.fan (suc t) ≤ 65536) × (layer_at layout.fan (suc t) * layout.fan + 1 ≤ 131072)
  unfolding layer_at
  from_to t h =
      let p = layer_in layout.fan (two_words layout L) (suc t) T h in
      (omega (arith, p, L.half_is, half_to layout L), omega (arith, p, L.half_is, half_to layout L, layer_next layout.fan (suc t)))

  -- the entries of a layer by its candidates
  layer_flat : (t : ℕ) → join (count K T y t) (λ k. tabulate K ((folded K T y).next t k)) ≡ tabulate (count K T y t * K) (λ c. number K T y (suc t) (candidate K T y t c))
  unfolding candidate
  layer_flat t =
      join_cong (count K T y t) _ _ (λ k _. tabulate_cong K _ _ (λ w l.
      ap₂ (λ a b. number K T y (suc t) (history K T y t a * K + b)) (sym (digits_div k l)) (sym (digits_mod k l))))
      ∙ rows_flat (count K T y t) K (λ c. number K T y (suc t) (candidate K T y t c))

  part_is : (t : ℕ) → suc t < T → take (get_or counts t 0 * layout.fan) (drop (layout.half + layer_at layout.fan (suc t)) s) ≡ join (count K T y t) (λ k. tabulate K ((folded K T y).next t k))
  part_is t h =
      let n : ℕ = get_or counts t 0 * layout.fan in
      let from : ℕ = layout.half + layer_at layout.fan (suc t) in
      let e : n ≡ count K T y t * K = entries_are t (omega arith) in
      let l : length (take n (drop from s)) ≡ n = length-take n (drop from s) ∙ omega (arith, length-drop from s, part_in t h) in
      tabulated (count K T y t * K) (λ c. number K T y (suc t) (candidate K T y t c)) (take n (drop from s)) (l ∙ e)
      (λ c k.
      let p : from + c ≡ layout.half + (layer_at K (suc t) + c) = omega (arith, ap (λ (K : ℕ). layer_at K (suc t)) L.fan_is) in
      get_or-take n (drop from s) c 0 (omega arith) ∙ get_or-drop from s c 0 ∙ ap (λ j. get_or s j 0) p ∙ N.explored.nexts t c (omega arith) k)
      ∙ sym (layer_flat t)

  pub nexts_are : (t : ℕ) → t < T → nexts_in layout s counts t ≡ next_words K T y t
  unfolding nexts_in entries
  nexts_are t h = join_cong t _ _ (λ u l. part_is u (omega arith))

  -- the last layer has one state
  zero_last : (h : ℕ) → number K T y T h ≡ 0
  zero_last h =
      (number_decides K T y T h 0).1 (equivalent_last K T y h 0)
      ∙ omega (arith, number_below K T y T 0 (one-le-pow T K (pow_pos layout.bits)), count_last K T y (pow_pos layout.bits))

  zeros_are : (t : ℕ) → suc t ≡ T → replicate (get_or counts t 0 * layout.fan) 0 ≡ join (count K T y t) (λ k. tabulate K ((folded K T y).next t k))
  zeros_are t e =
      let n : ℕ = get_or counts t 0 * layout.fan in
      tabulated (count K T y t * K) (λ c. number K T y (suc t) (candidate K T y t c)) (replicate n 0) (length-replicate n 0 ∙ entries_are t (omega arith))
      (λ c k. get_or-replicate n c 0 0 (omega (arith, entries_are t (omega arith))) ∙ sym (ap (λ u. number K T y u (candidate K T y t c)) e ∙ zero_last (candidate K T y t c)))
      ∙ sym (layer_flat t)

  next_more : (t : ℕ) → length (next_words K T y (suc t)) ≡ length (next_words K T y t) + count K T y t * K
  next_more t =
      entries_length K (suc t) (count K T y) (folded K T y).next ∙ ap (λ n. total n (λ u. count K T y u * K)) (sym (add-one t)) ∙ total_next (λ u. count K T y u * K) t
      ∙ ap (λ n. n + count K T y t * K) (sym (entries_length K t (count K T y) (folded K T y).next))

  next_most : (t : ℕ) → t ≤ T → length (next_words K T y t) ≤ length (next_words K T y T)
  next_most t h = omega (arith, entries_length K t (count K T y) (folded K T y).next, entries_length K T (count K T y) (folded K T y).next, total_le t T (λ u. count K T y u * K) h)

  -- there is room for the entries of layer t behind those before
  pub next_room : (t : ℕ) → t < T → at + 2 * length (nexts_in layout s counts t) + 2 * (get_or counts t 0 * layout.fan) ≤ length r
  next_room t h = omega (arith, N.room, next_most (suc t) h, next_more t, entries_are t h, ap length (nexts_are t h))

  -- the zeros of the last frame behind the rest
  pub nexts_whole : (t end : ℕ) (r₁ r₂ : List ℕ) → suc t ≡ T → end ≡ at + 2 * length (nexts_in layout s counts t) → r₁ ≡ stored 2 r at (nexts_in layout s counts t)
      → r₂ ≡ stored 2 r₁ end (replicate (get_or counts t 0 * layout.fan) 0) → r₂ ≡ stored 2 r at (next_words K T y T)
  unfolding entries join
  nexts_whole t end r₁ r₂ e ee e₁ e₂ =
      let h : t < T = omega arith in
      e₂ ∙ stored_behind 2 r r₁ at (nexts_in layout s counts t) _ end e₁ ee (omega (arith, next_room t h))
      ∙ ap₂ (λ (a b : List ℕ). stored 2 r at (a ++ b)) (nexts_are t h) (zeros_are t e)
      ∙ ap (λ (n : ℕ). stored 2 r at (entries K n (count K T y) (folded K T y).next)) e
