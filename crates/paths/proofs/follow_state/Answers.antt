-- `paths::follow_state` meets its contract: the numbers of a state whose layer was reached are the whole ones.
-- Assumes nothing.
use mathlib.Core.Path.{◌≡◌, sym, ap, ap₂, ◌∙◌}
use Prim.Native.Nat.{ℕ, ◌+◌, ◌*◌, ◌^◌, ◌≤◌}
use native.Mathlib.Nat.{le_refl}
use native.Mathlib.Omega.{arith}
use lib.ListN.{length}
use Rattle.words.specs.Words.{number_at, stored, Held}
use Rattle.sizes.specs.Sizes.{inputs, frames}
use Rattle.table.specs.Table.{machine}
use Rattle.paths.specs.Paths.{histories, smallest}
use Rattle.paths.specs.Places.{reach_head, histories_at}
use Rattle.paths.specs.Progress.{so_far}
use Rattle.paths.proofs.Places.{LayerIs, layer_is, state_at}
use Rattle.paths.proofs.Following.{whole_histories, whole_smallest}
use Rattle.paths.proofs.Numbers.{histories_there, smallest_there, histories_in, skipped}
use Rattle.paths.proofs.follow_state.Goals as goal
use Rattle.paths.proofs.follow_state.Goals.{Start}

module _ (c : Start) where
  layer : LayerIs c.args.table.now c.args.layer.layer c.args.layer
  layer = layer_is c.args.table.now c.requires.following.sound.headed c.args.layer.layer c.args.layer c.requires.layer_bound.1

  held : c.args.res.now ≡ stored 4 c.args.res.now (reach_head c.args.table.now) (so_far c.args.table.now c.args.layer.layer (c.args.s * 2 ^ inputs c.args.table.now))
  unfolding Held
  held = sym c.requires.following.held

  inner : c.args.layer.layer ≤ frames c.args.table.now
  inner = omega (arith, c.requires.layer_bound.0)

  -- where the state's count stands
  at_is : c.args.layer.from + 4 * c.args.s ≡ histories_at c.args.table.now c.args.layer.layer c.args.s
  at_is = omega (arith, layer.from_is, state_at c.args.table.now c.args.layer.layer c.args.s)

  -- there is room for it, and for its smallest history
  room : (c.args.layer.from + 4 * c.args.s + c.args.layer.gap + 4 ≤ length c.args.res.now) × (4 ≤ c.args.layer.gap)
  room =
      let there = histories_in c.args.table.now c.requires.following.sound c.args.layer.layer (c.args.s * 2 ^ inputs c.args.table.now) c.args.res.now c.args.res.now c.requires.following.room held c.args.layer.layer c.args.s inner c.requires.layer_bound.2 in
      (omega (arith, at_is, there, layer.gap_is), omega (arith, there, layer.gap_is))

  -- the numbers that are read
  count_there : number_at 4 c.args.res.now (c.args.layer.from + 4 * c.args.s) ≡ histories (2 ^ inputs c.args.table.now) (machine c.args.table.now) c.args.layer.layer c.args.s
  count_there =
      ap (number_at 4 c.args.res.now) at_is
      ∙ histories_there c.args.table.now c.requires.following.sound c.args.layer.layer (c.args.s * 2 ^ inputs c.args.table.now) c.args.res.now c.args.res.now c.requires.following.room held c.args.layer.layer c.args.s inner c.requires.layer_bound.2
      ∙ whole_histories (2 ^ inputs c.args.table.now) (machine c.args.table.now) c.args.layer.layer (c.args.s * 2 ^ inputs c.args.table.now) c.args.layer.layer c.args.s (le_refl _)

  smallest_here : number_at 4 c.args.res.now (c.args.layer.from + 4 * c.args.s + c.args.layer.gap) ≡ smallest (2 ^ inputs c.args.table.now) (machine c.args.table.now) c.args.layer.layer c.args.s
  smallest_here =
      ap₂ (λ (i g : ℕ). number_at 4 c.args.res.now (i + g)) at_is layer.gap_is
      ∙ smallest_there c.args.table.now c.requires.following.sound c.args.layer.layer (c.args.s * 2 ^ inputs c.args.table.now) c.args.res.now c.args.res.now c.requires.following.room held c.args.layer.layer c.args.s inner c.requires.layer_bound.2
      ∙ whole_smallest (2 ^ inputs c.args.table.now) (machine c.args.table.now) c.args.layer.layer (c.args.s * 2 ^ inputs c.args.table.now) c.args.layer.layer c.args.s (le_refl _)

pub overflow_add-at : goal.overflow_add-at
overflow_add-at c = let r = room (goal.at.overflow_add-at c).Start in omega arith

pub read32-count-requires : goal.read32-count-requires
read32-count-requires c = let r = room (goal.at.read32-count-requires c).Start in omega arith

pub overflow_add-at-2 : goal.overflow_add-at-2
overflow_add-at-2 c = let r = room (goal.at.overflow_add-at-2 c).Start in omega arith

pub read32-smallest-requires : goal.read32-smallest-requires
read32-smallest-requires c = let r = room (goal.at.read32-smallest-requires c).Start in omega arith

pub returns-then-count-eq0 : goal.returns-then-count-eq0
returns-then-count-eq0 c =
    let at = (goal.at.returns-then-count-eq0 c).Start in
    held at
    ∙ ap (stored 4 c.args.res.now (reach_head c.args.table.now))
    (skipped c.args.table.now c.requires.following.sound c.args.layer.layer c.args.s (inner at) (sym (count_there at) ∙ sym c.read32-count.ensures.0 ∙ c.if-count-eq0.true))

pub follow_words-requires : goal.follow_words-requires
follow_words-requires c =
    let at = (goal.at.follow_words-requires c).Start in
    record {
      layer_bound = c.requires.layer_bound;
      following = c.requires.following;
      count_nonzero = (omega (arith, c.if-count-eq0.false), c.read32-count.ensures.0 ∙ count_there at, c.read32-smallest.ensures.0 ∙ smallest_here at);
    }
