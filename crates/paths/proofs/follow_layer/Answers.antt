-- `paths::follow_layer` meets its contract. The invariant: the numbers are those with the entries of the states so far.
-- Assumes nothing.
use mathlib.Core.Path.{◌≡◌, sym, ap, ◌∙◌}
use Prim.Native.Nat.{ℕ, suc, ◌+◌, ◌*◌, ◌^◌}
use native.Mathlib.Nat.{zero-mul}
use native.Mathlib.Numerals.{add-one}
use native.Mathlib.Omega.{arith}
use Rattle.words.specs.Words.{stored, Held}
use Rattle.sizes.specs.Sizes.{inputs}
use Rattle.table.specs.Table.{states}
use Rattle.table.proofs.Parts.{count_in}
use Rattle.paths.specs.Places.{reach_head}
use Rattle.paths.specs.Progress.{so_far, Following}
use Rattle.paths.proofs.Numbers.{following, further, layer_done}
use Rattle.paths.proofs.follow_layer.Goals as goal

pub states_of-states-requires : goal.states_of-states-requires
states_of-states-requires c =
    count_in c.args.table.now c.requires.following.sound.headed c.args.layer.layer (omega (arith, c.requires.layer_bound.0))

pub loop-s-init : goal.loop-s-init
unfolding Held
loop-s-init c =
    (omega arith, sym c.requires.following.held ∙ ap (λ (e : ℕ). stored 4 c.args.res.now (reach_head c.args.table.now) (so_far c.args.table.now c.args.layer.layer e)) (sym (zero-mul (2 ^ inputs c.args.table.now))))

pub follow_state-requires : goal.follow_state-requires
follow_state-requires c =
    let now-following : Following c.args.table.now c.loop-s.res c.args.layer.layer (c.loop-s.s * (2 ^ inputs c.args.table.now)) =
    following c.args.table.now c.requires.following.sound c.args.res.now c.loop-s.res c.args.layer.layer (c.loop-s.s * (2 ^ inputs c.args.table.now)) c.requires.following.room c.loop-s.invariant.1
    in
    record {
      layer_bound = (c.requires.layer_bound.0, c.requires.layer_bound.1, omega (arith, c.loop-s-test.true, c.states_of-states.ensures.0));
      following = now-following;
    }

pub loop-s-preserved : goal.loop-s-preserved
loop-s-preserved c =
    let s : ℕ = c.loop-s.s in
    let e : suc s * (2 ^ inputs c.args.table.now) ≡ (s + 1) * (2 ^ inputs c.args.table.now) = ap (λ (n : ℕ). n * (2 ^ inputs c.args.table.now)) (sym (add-one s)) in (
      omega (arith, c.loop-s-test.true),
      further c.args.table.now c.requires.following.sound c.args.res.now c.loop-s.res _ c.args.layer.layer (s * (2 ^ inputs c.args.table.now)) c.args.layer.layer ((s + 1) * (2 ^ inputs c.args.table.now)) c.requires.following.room c.loop-s.invariant.1
          (c.follow_state.ensures ∙ ap (λ (e : ℕ). stored 4 c.loop-s.res (reach_head c.args.table.now) (so_far c.args.table.now c.args.layer.layer e)) e),
    )

pub returns : goal.returns
returns c =
    let e : c.loop-s.s ≡ states c.args.table.now c.args.layer.layer = omega (arith, c.loop-s.invariant.0, c.loop-s-test.false, c.states_of-states.ensures.0) in
    c.loop-s.invariant.1
    ∙ ap (λ (s : ℕ). stored 4 c.args.res.now (reach_head c.args.table.now) (so_far c.args.table.now c.args.layer.layer (s * (2 ^ inputs c.args.table.now)))) e
    ∙ ap (stored 4 c.args.res.now (reach_head c.args.table.now)) (layer_done c.args.table.now c.requires.following.sound c.args.layer.layer (omega (arith, c.requires.layer_bound.0)))
