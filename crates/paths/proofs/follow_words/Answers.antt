-- `paths::follow_words` meets its contract. The invariant: the numbers are those with the entries of the words so far.
-- Assumes nothing.
use mathlib.Core.Path.{◌≡◌, sym, ap, ap₂, ◌∙◌}
use mathlib.Core.List.{List}
use Prim.Native.Nat.{ℕ, suc, ◌+◌, ◌*◌, ◌^◌, ◌≤◌, ◌<◌}
use native.Mathlib.Nat.{suc-mul}
use native.Mathlib.Omega.{arith}
use lib.ListN.{length}
use Rattle.words.specs.Words.{word_at, number_at, stored, Held}
use Rattle.words.proofs.Laws.{stored_length}
use Rattle.sizes.specs.Sizes.{inputs}
use Rattle.table.specs.Table.{nexts_at, entry_at, machine}
use Rattle.paths.specs.Paths.{histories, smallest}
use Rattle.paths.specs.Places.{reach_head, histories_at, gap}
use Rattle.paths.specs.Progress.{so_far, added}
use Rattle.paths.proofs.Places.{LayerIs, layer_is, state_at, next_at, next_inside}
use Rattle.paths.proofs.Numbers.{words_some, so_far_length, histories_in, sum_fits, entry_added, smallest_in}
use Rattle.paths.proofs.follow_words.Goals as goal
use Rattle.paths.proofs.follow_words.Goals.{Start}

-- what is known of the layer and of the words of the state
module _ (c : Start) where
  layer : LayerIs c.args.table.now c.args.layer.layer c.args.layer
  layer = layer_is c.args.table.now c.requires.following.sound.headed c.args.layer.layer c.args.layer c.requires.layer_bound.1

  next_place : (w : ℕ) → c.args.layer.nexts + 2 * (c.args.s * c.args.layer.words) + 2 * w ≡ entry_at c.args.table.now (nexts_at c.args.table.now) c.args.layer.layer c.args.s w
  next_place w = omega (arith, layer.nexts_is, ap (λ (k : ℕ). c.args.s * k) layer.words_is, next_at c.args.table.now c.args.layer.layer c.args.s w)

  next_there : (w : ℕ) → w < c.args.layer.words → c.args.layer.nexts + 2 * (c.args.s * c.args.layer.words) + 2 * w + 2 ≤ length c.args.table.now
  next_there w h = omega (arith, next_place w, next_inside c.args.table.now c.args.layer.layer c.args.s w c.requires.following.sound.headed c.requires.layer_bound.0 c.requires.layer_bound.2 (omega (arith, layer.words_is)))

  reached : 0 < histories (2 ^ inputs c.args.table.now) (machine c.args.table.now) c.args.layer.layer c.args.s
  reached = omega (arith, c.requires.count_nonzero)

  first_is : c.args.smallest * c.args.layer.words ≡ smallest (2 ^ inputs c.args.table.now) (machine c.args.table.now) c.args.layer.layer c.args.s * 2 ^ inputs c.args.table.now
  first_is = ap₂ (λ (h k : ℕ). h * k) c.requires.count_nonzero.2 layer.words_is

  first_small : (w : ℕ) → w < c.args.layer.words → c.args.smallest * c.args.layer.words + w < 65536
  first_small w h = omega (arith, first_is, smallest_in c.args.table.now c.requires.following.sound c.args.layer.layer c.args.s w c.requires.layer_bound.0 (omega (arith, layer.words_is)) reached)

  some_words : 0 < c.args.layer.words
  some_words = omega (arith, layer.words_is, words_some c.args.table.now c.requires.following.sound)

  -- the word w leads to the state `next`; the numbers with the entries of the words before w are in v
  module _ (w next : ℕ) (v : List ℕ) (h : w < c.args.layer.words) (read : next ≡ word_at c.args.table.now (c.args.layer.nexts + 2 * (c.args.s * c.args.layer.words) + 2 * w))
      (held : v ≡ stored 4 c.args.res.now (reach_head c.args.table.now) (so_far c.args.table.now c.args.layer.layer (c.args.s * 2 ^ inputs c.args.table.now + w))) where
    abbrev to : ℕ
    to = (machine c.args.table.now).next c.args.layer.layer c.args.s w

    word_is : w < 2 ^ inputs c.args.table.now
    word_is = omega (arith, layer.words_is)

    next_is : next ≡ to
    next_is = read ∙ ap (word_at c.args.table.now) (next_place w)

    at_is : c.args.layer.to + 4 * next ≡ histories_at c.args.table.now (suc c.args.layer.layer) to
    at_is = omega (arith, layer.to_is, next_is, state_at c.args.table.now (suc c.args.layer.layer) to)

    len : length v ≡ length c.args.res.now
    len =
        let e : ℕ = c.args.s * 2 ^ inputs c.args.table.now + w in
        ap length held ∙ stored_length 4 _ (reach_head c.args.table.now) (so_far c.args.table.now c.args.layer.layer e) (omega (arith, c.requires.following.room, so_far_length c.args.table.now c.requires.following.sound c.args.layer.layer e))

    room : (c.args.layer.to + 4 * next + c.args.layer.gap + 4 ≤ length c.args.res.now) × (4 ≤ c.args.layer.gap)
    room =
        let there = histories_in c.args.table.now c.requires.following.sound c.args.layer.layer (c.args.s * 2 ^ inputs c.args.table.now + w) c.args.res.now v c.requires.following.room held (suc c.args.layer.layer) to c.requires.layer_bound.0
        (c.requires.following.sound.legal.next_is c.args.layer.layer c.args.s w c.requires.layer_bound.0 c.requires.layer_bound.2 word_is) in
        (omega (arith, at_is, there, layer.gap_is), omega (arith, there, layer.gap_is))

    fits : number_at 4 v (c.args.layer.to + 4 * next) + c.args.count < 2 ^ 32
    fits =
        omega (arith, ap (number_at 4 v) at_is, c.requires.count_nonzero, sum_fits c.args.table.now c.requires.following.sound c.args.res.now v c.args.layer.layer c.args.s w c.requires.layer_bound.0 c.requires.layer_bound.2 word_is reached c.requires.following.room held)

    more : added v (c.args.layer.to + 4 * next) c.args.layer.gap c.args.count (c.args.smallest * c.args.layer.words + w)
        ≡ stored 4 c.args.res.now (reach_head c.args.table.now) (so_far c.args.table.now c.args.layer.layer (c.args.s * 2 ^ inputs c.args.table.now + (w + 1)))
    more =
        ap₂ (λ (i g : ℕ). added v i g c.args.count (c.args.smallest * c.args.layer.words + w)) at_is layer.gap_is
        ∙ ap₂ (added v (histories_at c.args.table.now (suc c.args.layer.layer) to) (gap c.args.table.now)) c.requires.count_nonzero.1 (ap (λ (x : ℕ). x + w) first_is)
        ∙ entry_added c.args.table.now c.requires.following.sound c.args.res.now v c.args.layer.layer c.args.s w c.requires.layer_bound.0 c.requires.layer_bound.2 word_is reached c.requires.following.room held

pub overflow_add-nexts : goal.overflow_add-nexts
overflow_add-nexts c =
    let at = (goal.at.overflow_add-nexts c).Start in
    omega (arith, next_there at 0 (some_words at))

pub overflow_mul-first : goal.overflow_mul-first
overflow_mul-first c =
    let at = (goal.at.overflow_mul-first c).Start in
    omega (arith, first_small at 0 (some_words at))

pub loop-w-init : goal.loop-w-init
unfolding Held
loop-w-init c =
    let e : c.args.s * (2 ^ inputs c.args.table.now) ≡ c.args.s * (2 ^ inputs c.args.table.now) + 0 = omega arith in
    (omega arith, sym c.requires.following.held ∙ ap (λ (e : ℕ). stored 4 c.args.res.now (reach_head c.args.table.now) (so_far c.args.table.now c.args.layer.layer e)) e)

pub overflow_add-nexts-in-loop-w : goal.overflow_add-nexts-in-loop-w
overflow_add-nexts-in-loop-w c = omega (arith, next_there (goal.at.overflow_add-nexts-in-loop-w c).Start _ c.loop-w-test.true)

pub read-next-requires : goal.read-next-requires
read-next-requires c = omega (arith, next_there (goal.at.read-next-requires c).Start _ c.loop-w-test.true)

pub overflow_add-layer : goal.overflow_add-layer
overflow_add-layer c =
    omega (arith, room (goal.at.overflow_add-layer c).Start c.loop-w.w _ _ c.loop-w-test.true c.read-next.ensures.0 c.loop-w.invariant.1)

pub overflow_add-first : goal.overflow_add-first
overflow_add-first c = omega (arith, first_small (goal.at.overflow_add-first c).Start c.loop-w.w c.loop-w-test.true)

pub add_histories-requires : goal.add_histories-requires
add_histories-requires c =
    let at = (goal.at.add_histories-requires c).Start in
    let r = room at c.loop-w.w _ _ c.loop-w-test.true c.read-next.ensures.0 c.loop-w.invariant.1 in
    let l = len at c.loop-w.w _ _ c.loop-w-test.true c.read-next.ensures.0 c.loop-w.invariant.1 in
    record {
      le_gap = (r.1, omega (arith, r, l));
      count_bound = (fits at c.loop-w.w _ _ c.loop-w-test.true c.read-next.ensures.0 c.loop-w.invariant.1, omega (arith, first_small at c.loop-w.w c.loop-w-test.true));
    }

pub loop-w-preserved : goal.loop-w-preserved
loop-w-preserved c =
    (omega arith, c.add_histories.ensures ∙ more (goal.at.loop-w-preserved c).Start c.loop-w.w _ _ c.loop-w-test.true c.read-next.ensures.0 c.loop-w.invariant.1)

pub returns : goal.returns
returns c =
    let l = layer (goal.at.returns c).Start in
    let e : c.args.s * (2 ^ inputs c.args.table.now) + c.loop-w.w ≡ suc c.args.s * (2 ^ inputs c.args.table.now) = omega (arith, suc-mul c.args.s (2 ^ inputs c.args.table.now), l.words_is) in
    c.loop-w.invariant.1 ∙ ap (λ (e : ℕ). stored 4 c.args.res.now (reach_head c.args.table.now) (so_far c.args.table.now c.args.layer.layer e)) e
