-- A layer's part of an array of a table. Assumes nothing.
use mathlib.Core.Path.{◌≡◌, ap, ap₂, ◌∙◌}
use mathlib.Core.List.{List}
use Prim.Native.Nat.{ℕ, ◌+◌, ◌*◌, ◌-◌, ◌/◌, ◌%◌, ◌^◌, ◌≤◌, ◌<◌}
use native.Mathlib.Nat.{div-add-mod'}
use native.Mathlib.Omega.{arith}
use lib.ListN.{length, take, drop, length-take, length-drop}
use Rattle.words.specs.Words.{word_at}
use Rattle.sizes.specs.Sizes.{inputs, frames}
use Rattle.table.specs.Table.{states, entries_below, entry_count, entry_at, layer_part}
use Rattle.table.specs.Sound.{TableHeaded}
use Rattle.table.proofs.Offsets.{arrays_stand, layer_in, part_word}

module _ (b : List ℕ) where
  -- the counts of all layers stand in the table
  pub count_in : TableHeaded b → (t : ℕ) → t ≤ frames b → 7 + 2 * t < length b
  count_in H t h = omega (arith, H.whole, arrays_stand b)

  module _ (start t : ℕ) where
    pub part_is : (from to : ℕ) → from ≡ start + 2 * entries_below b t → to ≡ from + 2 * (states b t * 2 ^ inputs b) → take (to - from) (drop from b) ≡ layer_part b start t
    unfolding layer_part
    part_is from to ef et =
        let k : to - from ≡ 2 * (states b t * 2 ^ inputs b) = omega arith in
        ap₂ (λ (k n : ℕ). take k (drop n b)) k ef

    -- it is within the table
    pub part_in : start + 2 * entry_count b ≤ length b → t < frames b → start + 2 * entries_below b t + 2 * (states b t * 2 ^ inputs b) ≤ length b
    part_in room h = omega (arith, layer_in b t h)

    pub part_length : start + 2 * entry_count b ≤ length b → t < frames b → length (layer_part b start t) ≡ 2 * (states b t * 2 ^ inputs b)
    unfolding layer_part
    part_length room h = simp (length-take, length-drop) (omega (arith, part_in room h))

    -- an entry of it
    pub part_entry : (e : ℕ) → e < states b t * 2 ^ inputs b → word_at (layer_part b start t) (2 * e) ≡ word_at b (entry_at b start t (e / 2 ^ inputs b) (e % 2 ^ inputs b))
    unfolding layer_part entry_at
    part_entry e l =
        let K : ℕ = 2 ^ inputs b in
        let from : ℕ = start + 2 * entries_below b t in
        let q : from + 2 * e ≡ start + 2 * (entries_below b t + (e / K * K + e % K)) = omega (arith, div-add-mod' e K) in
        part_word b from (2 * (states b t * K)) (2 * e) (omega arith) ∙ ap (word_at b) q
