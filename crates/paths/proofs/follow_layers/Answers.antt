-- `paths::follow_layers` meets its contract. The invariant: the numbers are those with the entries of the layers so far.
-- Assumes nothing.
use mathlib.Core.Path.{◌≡◌, sym, ap, ◌∙◌}
use mathlib.Core.List.{List}
use Prim.Native.Nat.{ℕ, suc, ◌+◌}
use native.Mathlib.Numerals.{add-one}
use native.Mathlib.Omega.{arith}
use Rattle.words.specs.Words.{stored, Held}
use Rattle.sizes.specs.Sizes.{frames}
use Rattle.table.specs.declared.Layout.{Layout}
use Rattle.paths.specs.Places.{reach_head}
use Rattle.paths.specs.Progress.{so_far, layer_of}
use Rattle.paths.specs.declared.Layer.{Layer}
use Rattle.paths.proofs.Numbers.{following, further}
use Rattle.paths.proofs.follow_layers.Goals as goal

pub loop-t-init : goal.loop-t-init
unfolding Held
loop-t-init c =
    (omega arith, sym c.requires.following.held)

pub follow_layer-requires : goal.follow_layer-requires
follow_layer-requires c =
    let frames_is : c.args.layout.frames ≡ frames c.args.table.now =
    ap (λ (l : Layout). l.frames) c.requires.layout_value
    in
    let layer_is : c.read-layer.result.layer ≡ c.loop-t.t =
    ap (λ (l : Layer). l.layer) c.read-layer.ensures
    in
    let v : List ℕ = c.args.res.now in
    let e = layer_is in record {
      layer_bound = (omega (arith, e, c.loop-t-test.true, frames_is), c.read-layer.ensures ∙ ap (layer_of c.args.table.now) (sym e));
      following = following c.args.table.now c.requires.following.sound v c.loop-t.res c.read-layer.result.layer 0 c.requires.following.room (c.loop-t.invariant.1 ∙ ap (λ (t : ℕ). stored 4 v (reach_head c.args.table.now) (so_far c.args.table.now t 0)) (sym e));
    }

pub loop-t-preserved : goal.loop-t-preserved
loop-t-preserved c =
    let layer_is : c.read-layer.result.layer ≡ c.loop-t.t =
    ap (λ (l : Layer). l.layer) c.read-layer.ensures
    in
    let e : suc c.read-layer.result.layer ≡ c.loop-t.t + 1 = ap suc layer_is ∙ sym (add-one c.loop-t.t) in (
      omega (arith, c.loop-t-test.true),
      further c.args.table.now c.requires.following.sound c.args.res.now c.loop-t.res _ c.loop-t.t 0 (c.loop-t.t + 1) 0 c.requires.following.room c.loop-t.invariant.1
          (c.follow_layer.ensures ∙ ap (λ (t : ℕ). stored 4 c.loop-t.res (reach_head c.args.table.now) (so_far c.args.table.now t 0)) e),
    )

pub returns : goal.returns
returns c =
    let frames_is : c.args.layout.frames ≡ frames c.args.table.now =
    ap (λ (l : Layout). l.frames) c.requires.layout_value
    in
    let e : c.loop-t.t ≡ frames c.args.table.now = omega (arith, c.loop-t.invariant.0, c.loop-t-test.false, frames_is) in
    c.loop-t.invariant.1 ∙ ap (λ (t : ℕ). stored 4 c.args.res.now (reach_head c.args.table.now) (so_far c.args.table.now t 0)) e
