-- `merge::layer_starts` meets its contract. The invariant: the starts of the layers before t stand, and `start` is that of layer t.
-- Assumes nothing.
use mathlib.Core.Path.{refl}
use Prim.Native.Nat.{◌+◌, ◌*◌, ◌≤◌, ◌<◌}
use native.Mathlib.Omega.{arith}
use lib.ListN.{length}
use Rattle.sizes.specs.Sizes.{frames}
use Rattle.table.proofs.Offsets.{Laid, laid}
use Rattle.table.proofs.Parts.{count_in}
use Rattle.merge.proofs.Starting.{begun_none, begun_next, layer_few}
use Rattle.merge.proofs.layer_starts.Goals as goal

pub loop-t-init : goal.loop-t-init
loop-t-init c =
    begun_none c.args.table.now _ _ refl (laid _ _ c.requires.0 c.requires.1).outputs_is

pub offset_bounds-starts-t : goal.offset_bounds-starts-t
offset_bounds-starts-t c =
    let stands : Laid c.args.table.now c.args.layout =
    laid _ _ c.requires.0 c.requires.1
    in
    let inside : c.loop-t.t < frames c.args.table.now =
    omega (arith, (stands).frames_is)
    in
    omega (arith, inside, c.requires.0.sized.frames_to)

pub bounds-starts-t : goal.bounds-starts-t
bounds-starts-t c =
    let stands : Laid c.args.table.now c.args.layout =
    laid _ _ c.requires.0 c.requires.1
    in
    let inside : c.loop-t.t < frames c.args.table.now =
    omega (arith, (stands).frames_is)
    in
    omega (arith, inside, c.requires.0.sized.frames_to)

pub states_of-requires : goal.states_of-requires
states_of-requires c =
    let stands : Laid c.args.table.now c.args.layout =
    laid _ _ c.requires.0 c.requires.1
    in
    let inside : c.loop-t.t < frames c.args.table.now =
    omega (arith, (stands).frames_is)
    in
    count_in _ c.requires.0 _ (omega (arith, inside))

pub overflow_mul-start : goal.overflow_mul-start
overflow_mul-start c =
    let stands : Laid c.args.table.now c.args.layout =
    laid _ _ c.requires.0 c.requires.1
    in
    let inside : c.loop-t.t < frames c.args.table.now =
    omega (arith, (stands).frames_is)
    in
    let few : c.loop-t.start + 2 * (c.states_of.result * c.args.layout.words) ≤ length c.args.table.now =
    layer_few _ _ c.requires.0 c.requires.1 c.loop-t.starts _ _ c.loop-t.invariant (inside) _ c.states_of.ensures.0
    in
    omega (arith, few)

pub overflow_mul-start-in-loop-t : goal.overflow_mul-start-in-loop-t
overflow_mul-start-in-loop-t c =
    let stands : Laid c.args.table.now c.args.layout =
    laid _ _ c.requires.0 c.requires.1
    in
    let inside : c.loop-t.t < frames c.args.table.now =
    omega (arith, (stands).frames_is)
    in
    let few : c.loop-t.start + 2 * (c.states_of.result * c.args.layout.words) ≤ length c.args.table.now =
    layer_few _ _ c.requires.0 c.requires.1 c.loop-t.starts _ _ c.loop-t.invariant (inside) _ c.states_of.ensures.0
    in
    omega (arith, few)

pub overflow_add-start : goal.overflow_add-start
overflow_add-start c =
    let stands : Laid c.args.table.now c.args.layout =
    laid _ _ c.requires.0 c.requires.1
    in
    let inside : c.loop-t.t < frames c.args.table.now =
    omega (arith, (stands).frames_is)
    in
    let few : c.loop-t.start + 2 * (c.states_of.result * c.args.layout.words) ≤ length c.args.table.now =
    layer_few _ _ c.requires.0 c.requires.1 c.loop-t.starts _ _ c.loop-t.invariant (inside) _ c.states_of.ensures.0
    in
    omega (arith, few)

pub overflow_step-t : goal.overflow_step-t
overflow_step-t c =
    let stands : Laid c.args.table.now c.args.layout =
    laid _ _ c.requires.0 c.requires.1
    in
    let inside : c.loop-t.t < frames c.args.table.now =
    omega (arith, (stands).frames_is)
    in
    omega (arith, inside, c.requires.0.sized.frames_to)

pub loop-t-preserved : goal.loop-t-preserved
loop-t-preserved c =
    let stands : Laid c.args.table.now c.args.layout =
    laid _ _ c.requires.0 c.requires.1
    in
    let inside : c.loop-t.t < frames c.args.table.now =
    omega (arith, (stands).frames_is)
    in
    begun_next _ _ c.requires.0 c.requires.1 _ _ _ c.loop-t.invariant (inside) _ c.states_of.ensures.0 _ refl

pub returns : goal.returns
returns c =
    let f = (laid _ _ c.requires.0 c.requires.1).frames_is in
    record { starts = record { long = omega (arith, c.loop-t.invariant.long, c.requires.0.sized.frames_to); are = λ t h. c.loop-t.invariant.are t (omega (arith, f)) } }
