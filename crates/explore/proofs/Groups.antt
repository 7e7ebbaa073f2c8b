-- A group's end: the candidates' numbers by their rows are those by the outputs up to the group's end. Assumes nothing.
use mathlib.Core.Path.{◌≡◌, sym, ap, ap₂, ◌∙◌}
use mathlib.Core.Bool.{Bool, ◌&&◌, and-true, and_assoc}
use mathlib.Core.List.{List}
use Prim.Native.Nat.{ℕ, zero, suc, ◌+◌, ◌*◌, ◌-◌, ◌^◌, ◌≤◌, ◌<◌}
use native.Mathlib.Nat.{pow-suc, mul-le-mul_right}
use native.Mathlib.Omega.{arith}
use lib.Dec.{eqb}
use lib.ListN.{get_or}
use Rattle.layered.specs.Search.{every}
use Rattle.layered.proofs.Search.{every_cong}
use Rattle.diagrams.specs.Numbering.{number_same}
use Rattle.diagrams.proofs.Numbering.{number_cong, Equivalence, refined, equal_values, every_equivalence}
use Rattle.refine.specs.Rows.{number_in, part_in, same_row, Placed, Refined}
use Rattle.refine.specs.declared.Rows.{Rows}
use Rattle.explore.specs.Explore.{column_count, layer_at, Laid, Subject, lead_at, same_to, AtLayer, Numbered, Exploring, rows_of, Rowable}
use Rattle.explore.specs.declared.Layout.{Layout}
use Rattle.explore.specs.declared.Cursor.{Cursor}
use Rattle.explore.proofs.Layers.{layer_next, layer_in, two_words, half_to, few_histories, few_states}

every_split : (p : ℕ → Bool) (k j : ℕ) → every k p && every j (λ i. p (k + i)) ≡ every (k + j) p
unfolding every
every_split p k zero = let e : k ≡ k + 0 = omega arith in and-true (every k p) ∙ ap (λ n. every n p) e
every_split p k (suc j) =
    let e : suc (k + j) ≡ k + suc j = omega arith in
    sym (and_assoc (every k p) (every j (λ i. p (k + i))) (p (k + j))) ∙ ap (λ b. b && p (k + j)) (every_split p k j) ∙ ap (λ n. every n p) e

-- ---- a layer's sizes

module _ (layout : Layout) (g : Subject) (s ws : List ℕ) (c : Cursor) (A : AtLayer layout g s ws c) where
  L : Laid layout
  L = A.roomy.laid

  -- the next layer's place
  pub next_at : c.at * layout.fan + 1 ≡ layer_at layout.fan (suc c.layer)
  next_at = ap (λ (a : ℕ). a * layout.fan + 1) A.at_is ∙ sym (layer_next layout.fan c.layer)

  module _ (more : suc c.layer < layout.frames) where
    pub candidates_power : c.states * layout.fan ≤ layout.fan ^ suc c.layer
    candidates_power =
        let b : c.states ≤ layout.fan ^ c.layer = omega (arith, A.states_is, few_states layout L g c.layer) in
        omega (arith, mul-le-mul_right layout.fan b, pow-suc layout.fan c.layer)

    pub candidates_few : c.states * layout.fan ≤ column_count
    candidates_few = omega (arith, candidates_power, few_histories layout L (suc c.layer) more)

    pub candidates_in : layer_at layout.fan (suc c.layer) + layout.fan ^ suc c.layer < layout.half
    candidates_in = omega (arith, layer_in layout.fan (two_words layout L) (suc c.layer) layout.frames more, L.half_is)

    pub rowable : Rowable layout c
    rowable = record { next_in = omega (arith, next_at, candidates_in, candidates_power); half_to = half_to layout L }

-- ---- the group's end

module _ (layout : Layout) (g : Subject) (s ws : List ℕ) (c : Cursor) (more : suc c.layer < layout.frames) (E : Exploring layout g s ws c c.states) where
  A : AtLayer layout g s ws c
  A = E.layered

  rows : Rows
  rows = rows_of layout c

  -- how many outputs came before
  before : ℕ
  before = c.first - layout.outputs * suc c.layer

  pub placed : Placed s ws (rows_of layout c)
  placed = record {
    copy_before = omega (arith, (rowable layout g s ws c A more).next_in);
    numbers_in = omega (arith, (rowable layout g s ws c A more).next_in, A.roomy.room);
    rows_in = omega (arith, E.few, A.roomy.columns_room);
    few = candidates_few layout g s ws c A more;
  }

  number_is : (d : ℕ) → d < c.states * layout.fan → number_in s rows d ≡ number_same (same_to layout g c.layer before) d
  unfolding Numbered before rows
  number_is d l =
      let e : layout.half + (c.at * layout.fan + 1) + d ≡ layout.half + (layer_at layout.fan (suc c.layer) + d) = omega (arith, next_at layout g s ws c A) in
      ap (λ j. get_or s j 0) e ∙ E.numbered more d l

  alike : (i d b : ℕ) → Bool
  alike i d b = eqb (lead_at layout g c.layer d i) (lead_at layout g c.layer b i)

  equivalence : (k : ℕ) → Equivalence (c.states * layout.fan) (same_to layout g c.layer k)
  unfolding same_to alike
  equivalence k = every_equivalence (c.states * layout.fan) k alike (λ i _. equal_values (c.states * layout.fan) (λ d. lead_at layout g c.layer d i))

  -- the test by numbers and rows
  pub row_same : (d b : ℕ) → d < c.states * layout.fan → b < c.states * layout.fan
      → same_row (number_in s (rows_of layout c)) ws (rows_of layout c) d b ≡ same_to layout g c.layer (c.first - layout.outputs * suc c.layer + c.parts) d b
  unfolding same_row rows before same_to alike
  row_same d b k l =
      refined (c.states * layout.fan) (same_to layout g c.layer before) (equivalence before)
      (λ d b. every c.parts (λ i. eqb (part_in ws rows d i) (part_in ws rows b i))) (number_in s rows) number_is d b k l
      ∙ ap (λ t. same_to layout g c.layer before d b && t) (every_cong c.parts _ _ (λ i h. ap₂ eqb (E.traced d i k h) (E.traced b i l h)))
      ∙ every_split (λ i. alike i d b) before c.parts

  pub refined_numbers : (r : List ℕ) (k : ℕ) → Refined s r ws (rows_of layout c) k → (d : ℕ) → d < c.states * layout.fan
      → get_or r (layout.half + (layer_at layout.fan (suc c.layer) + d)) 0 ≡ number_same (same_to layout g c.layer (c.first - layout.outputs * suc c.layer + c.parts)) d
  refined_numbers r k R d l =
      let e : layout.half + (layer_at layout.fan (suc c.layer) + d) ≡ layout.half + (c.at * layout.fan + 1) + d = omega (arith, next_at layout g s ws c A) in
      ap (λ j. get_or r j 0) e ∙ R.numbered d l ∙ number_cong (c.states * layout.fan) _ _ (λ d b h l. row_same d b (omega arith) l) d l
