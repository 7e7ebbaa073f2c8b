-- `ask::bytes_needed` meets its contract. The invariant: the sum of the counts of the layers so far.
-- Assumes nothing.
use mathlib.Core.Path.{◌≡◌, refl, ap, ap₂, ◌∙◌}
use mathlib.Core.List.{List}
use Prim.Native.Nat.{ℕ, ◌+◌, ◌*◌, ◌^◌, ◌≤◌, ◌<◌}
use native.Mathlib.Nat.{le-mul_of_pos_right}
use native.Mathlib.Omega.{arith}
use lib.ListN.{get_or, length}
use Rattle.sizes.specs.Sizes.{inputs, frames as frames_of}
use Rattle.layered.specs.Search.{total}
use Rattle.layered.proofs.Lists.{total_next}
use Rattle.layered.proofs.Rows.{power_fits}
use Rattle.circuit.specs.Theorems.{response}
use Rattle.circuit.specs.WellFormed.{WellFormed}
use Rattle.circuit.specs.declared.Head.{Head}
use Rattle.source.specs.Source.{sourced}
use Rattle.source.proofs.Sources.{well}
use Rattle.table.specs.Table.{head_length}
use Rattle.table.proofs.Offsets.{head_length_lem}
use Rattle.ask.specs.Plan.{Counted}
use Rattle.ask.proofs.Plans.{state_count, counts_are, two_words, bits_below}
use Rattle.folded.specs.Folded.{folded_bytes}
use Rattle.folded.proofs.Tables.{folded_length, entries_most}
use Rattle.ask.proofs.bytes_needed.Goals as goal

module _ (b : List ℕ) (h : Head) (W : WellFormed b h) where
  two : 2 ≤ 2 ^ inputs b
  two = two_words (inputs b) W.headed.sizes.inputs_from

  -- the layers up to t have few entries, and so few states
  entries-small : (t : ℕ) → t ≤ frames_of b → total t (state_count b) * 2 ^ inputs b ≤ 131072
  entries-small t l = omega (arith, entries_most (2 ^ inputs b) (frames_of b) (response b) two t, power_fits (inputs b) t (bits_below b W.headed t l))

  sum-small : (t : ℕ) → t ≤ frames_of b → total t (state_count b) ≤ 131072
  sum-small t l =
      let p : 0 < 2 ^ inputs b = omega (arith, two) in
      omega (arith, entries-small t l, le-mul_of_pos_right (total t (state_count b)) p)

  -- a layer more
  sum_more : (counts : List ℕ) → Counted b counts → (t states : ℕ) → t < frames_of b → states ≡ total t (state_count b) → states + get_or counts t 0 ≡ total (t + 1) (state_count b)
  sum_more counts C t states l e =
      omega (arith, e, counts_are b counts W.headed.sizes.frames_from C t (omega arith), total_next (state_count b) t)

  -- all states, times the fan
  product : (n states power : ℕ) → n ≡ inputs b → states ≡ total (frames_of b) (state_count b) → power ≡ 2 ^ n → states * power ≡ total (frames_of b) (state_count b) * 2 ^ inputs b
  product n states power e s p = ap₂ (λ (x y : ℕ). x * y) s (p ∙ ap (λ (n : ℕ). 2 ^ n) e)

  product_small : (n states power : ℕ) → n ≡ inputs b → states ≡ total (frames_of b) (state_count b) → power ≡ 2 ^ n → states * power ≤ 131072
  product_small n states power e s p = omega (arith, product n states power e s p, entries-small (frames_of b) (omega arith))

  -- the head's length
  head_is : (T r : ℕ) → T ≡ frames_of b → r ≡ head_length T → r ≡ 8 + 4 * frames_of b
  head_is T r e q = q ∙ ap head_length e ∙ head_length_lem _

  all_bytes : (n T states power r : ℕ) → n ≡ inputs b → T ≡ frames_of b → states ≡ total T (state_count b) → power ≡ 2 ^ n → r ≡ head_length T
      → r + 4 * (states * power) ≡ length (folded_bytes b)
  all_bytes n T states power r en eT s p q =
      let s' : states ≡ total (frames_of b) (state_count b) = s ∙ ap (λ (t : ℕ). total t (state_count b)) eT in
      omega (arith, product n states power en s' p, head_is T r eT q, folded_length b)

  all_small : (n T states power r : ℕ) → n ≡ inputs b → T ≡ frames_of b → states ≡ total T (state_count b) → power ≡ 2 ^ n → r ≡ head_length T
      → (states * power ≤ 131072) × (r ≤ 72)
  all_small n T states power r en eT s p q =
      let s' : states ≡ total (frames_of b) (state_count b) = s ∙ ap (λ (t : ℕ). total t (state_count b)) eT in
      (product_small n states power en s' p, omega (arith, head_is T r eT q, W.headed.sizes))

pub loop-t-init : goal.loop-t-init
unfolding total
loop-t-init c = refl

pub bounds-counts-t : goal.bounds-counts-t
bounds-counts-t c =
    let W = well _ _ c.requires.source_of in
    omega (arith, W.headed.sizes, W.head_is, c.requires.counted.places)

pub overflow_add-states : goal.overflow_add-states
overflow_add-states c =
    let W = well _ _ c.requires.source_of in
    let b : List ℕ = sourced c.args.source c.args.circuit.now in
    let l : c.loop-t.t < frames_of b = omega (arith, W.head_is) in
    let l' : c.loop-t.t + 1 ≤ frames_of b = omega (arith, l) in
    omega (arith, sum_more b _ W _ c.requires.counted c.loop-t.t c.loop-t.states l c.loop-t.invariant, sum-small b _ W (c.loop-t.t + 1) l')

pub loop-t-preserved : goal.loop-t-preserved
loop-t-preserved c =
    let W = well _ _ c.requires.source_of in
    let b : List ℕ = sourced c.args.source c.args.circuit.now in
    let l : c.loop-t.t < frames_of b = omega (arith, W.head_is) in
    sum_more b _ W _ c.requires.counted c.loop-t.t c.loop-t.states l c.loop-t.invariant

pub head_length-requires : goal.head_length-requires
head_length-requires c =
    let W = well _ _ c.requires.source_of in
    omega (arith, W.headed.sizes, W.head_is)

pub power-requires : goal.power-requires
power-requires c =
    let W = well _ _ c.requires.source_of in
    omega (arith, W.headed.sizes, W.head_is)

-- the fact of `all_small` at the loop's end, and that of `all_bytes`
pub overflow_mul-result : goal.overflow_mul-result
overflow_mul-result c =
    let W = well _ _ c.requires.source_of in
    let e : c.loop-t.t ≡ c.args.source.frames = omega arith in
    let s = c.loop-t.invariant ∙ ap (λ (t : ℕ). total t (state_count (sourced c.args.source c.args.circuit.now))) e in
    omega (arith, all_small _ _ W _ _ _ _ _ W.head_is.inputs_is W.head_is.frames_is s c.power.ensures c.head_length.ensures)

pub overflow_mul-result-2 : goal.overflow_mul-result-2
overflow_mul-result-2 c =
    let W = well _ _ c.requires.source_of in
    let e : c.loop-t.t ≡ c.args.source.frames = omega arith in
    let s = c.loop-t.invariant ∙ ap (λ (t : ℕ). total t (state_count (sourced c.args.source c.args.circuit.now))) e in
    omega (arith, all_small _ _ W _ _ _ _ _ W.head_is.inputs_is W.head_is.frames_is s c.power.ensures c.head_length.ensures)

pub overflow_add-result : goal.overflow_add-result
overflow_add-result c =
    let W = well _ _ c.requires.source_of in
    let e : c.loop-t.t ≡ c.args.source.frames = omega arith in
    let s = c.loop-t.invariant ∙ ap (λ (t : ℕ). total t (state_count (sourced c.args.source c.args.circuit.now))) e in
    omega (arith, all_small _ _ W _ _ _ _ _ W.head_is.inputs_is W.head_is.frames_is s c.power.ensures c.head_length.ensures)

pub returns : goal.returns
returns c =
    let W = well _ _ c.requires.source_of in
    let e : c.loop-t.t ≡ c.args.source.frames = omega arith in
    let s = c.loop-t.invariant ∙ ap (λ (t : ℕ). total t (state_count (sourced c.args.source c.args.circuit.now))) e in
    all_bytes _ _ W _ _ _ _ _ W.head_is.inputs_is W.head_is.frames_is s c.power.ensures c.head_length.ensures
