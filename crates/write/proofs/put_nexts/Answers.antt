-- `write::put_nexts` meets its contract. The invariant: the next states of the layers so far are stored.
-- Assumes nothing.
use mathlib.Core.Path.{◌≡◌, sym, ap, ◌∙◌}
use Prim.Native.Nat.{ℕ, suc, ◌+◌, ◌*◌, ◌-◌, ◌≤◌, ◌<◌}
use native.Mathlib.Numerals.{add-one}
use native.Mathlib.Omega.{arith}
use lib.ListN.{replicate, length, get_or, take, drop, length-append, length-take, length-drop}
use Rattle.words.specs.Words.{stored}
use Rattle.words.proofs.Laws.{stored_none, stored_length, stored_behind}
use Rattle.explore.specs.Explore.{layer_at}
use Rattle.explore.proofs.Layers.{layer_next, half_to}
use Rattle.write.proofs.Nexts.{layer_one, nexts_in, nexts_none, nexts_layer, part_lent, part_in, from_to, next_room, nexts_whole}
use Rattle.write.proofs.put_nexts.Goals as goal

pub loop-t-init : goal.loop-t-init
loop-t-init c =
    let z = nexts_none c.args.layout c.args.scratch.now c.args.counts.now in
    (omega arith, sym (layer_one _), omega (arith, ap length z), sym (ap (stored 2 c.args.res.now c.args.at) z ∙ stored_none 2 _ _))

pub store_all-requires : goal.store_all-requires
store_all-requires c =
    let inside : c.loop-t.t < c.args.layout.frames = omega (arith, c.loop-t.invariant.0, c.requires.laid.frames_from) in
    let fits : c.args.at + 2 * length (nexts_in c.args.layout c.args.scratch.now c.args.counts.now c.loop-t.t) + 2 * (get_or c.args.counts.now c.loop-t.t 0 * c.args.layout.fan) ≤ length c.args.res.now = next_room _ _ _ _ _ c.requires c.loop-t.t inside in
    let len : length c.loop-t.res ≡ length c.args.res.now = ap length c.loop-t.invariant.3 ∙ stored_length 2 _ _ _ (omega (arith, fits)) in
    let more : suc c.loop-t.t < c.args.layout.frames = omega (arith, c.loop-t-test.true) in
    let part : c.args.layout.half + layer_at c.args.layout.fan (suc c.loop-t.t) + get_or c.args.counts.now c.loop-t.t 0 * c.args.layout.fan ≤ length c.args.scratch.now = part_in _ _ _ _ _ c.requires c.loop-t.t more in
    rw (length-take, length-drop) (omega (arith, fits, len, part, c.loop-t.invariant.1, c.loop-t.invariant.2))

pub loop-t-preserved : goal.loop-t-preserved
loop-t-preserved c =
    let inside : c.loop-t.t < c.args.layout.frames = omega (arith, c.loop-t.invariant.0, c.requires.laid.frames_from) in
    let fits : c.args.at + 2 * length (nexts_in c.args.layout c.args.scratch.now c.args.counts.now c.loop-t.t) + 2 * (get_or c.args.counts.now c.loop-t.t 0 * c.args.layout.fan) ≤ length c.args.res.now = next_room _ _ _ _ _ c.requires c.loop-t.t inside in
    let more : suc c.loop-t.t < c.args.layout.frames = omega (arith, c.loop-t-test.true) in
    let part : c.args.layout.half + layer_at c.args.layout.fan (suc c.loop-t.t) + get_or c.args.counts.now c.loop-t.t 0 * c.args.layout.fan ≤ length c.args.scratch.now = part_in _ _ _ _ _ c.requires c.loop-t.t more in
    let next_from : c.loop-t.from * c.args.layout.fan + 1 ≡ layer_at c.args.layout.fan (suc c.loop-t.t) * c.args.layout.fan + 1 = ap (λ (f : ℕ). f * c.args.layout.fan + 1) c.loop-t.invariant.1 in
    let t : ℕ = c.loop-t.t in
    let n : ℕ = get_or c.args.counts.now t 0 * c.args.layout.fan in
    let v = nexts_in c.args.layout c.args.scratch.now c.args.counts.now in
    let e = nexts_layer c.args.layout c.args.scratch.now c.args.counts.now t in
    let q = part_lent c.args.layout c.args.scratch.now t n c.loop-t.from c.loop-t.invariant.1 in
    let k : length (take n (drop (c.args.layout.half + layer_at c.args.layout.fan (suc t)) c.args.scratch.now)) ≡ n = length-take n _ ∙ omega (arith, part, length-drop (c.args.layout.half + layer_at c.args.layout.fan (suc t)) c.args.scratch.now) in (
      omega arith,
      next_from ∙ sym (layer_next c.args.layout.fan (suc t)) ∙ ap (λ (t : ℕ). layer_at c.args.layout.fan (suc t)) (sym (add-one t)),
      omega (arith, c.loop-t.invariant.2, ap length e ∙ length-append (v t) _, k),
      c.store_all.ensures ∙ ap (stored 2 c.loop-t.res c.loop-t.end) q
          ∙ stored_behind 2 c.args.res.now c.loop-t.res c.args.at (v t) _ c.loop-t.end c.loop-t.invariant.3 c.loop-t.invariant.2 (omega (arith, fits))
          ∙ ap (stored 2 c.args.res.now c.args.at) (sym e),
    )

pub put_zeros-requires : goal.put_zeros-requires
put_zeros-requires c =
    let inside : c.loop-t.t < c.args.layout.frames = omega (arith, c.loop-t.invariant.0, c.requires.laid.frames_from) in
    let fits : c.args.at + 2 * length (nexts_in c.args.layout c.args.scratch.now c.args.counts.now c.loop-t.t) + 2 * (get_or c.args.counts.now c.loop-t.t 0 * c.args.layout.fan) ≤ length c.args.res.now = next_room _ _ _ _ _ c.requires c.loop-t.t inside in
    let len : length c.loop-t.res ≡ length c.args.res.now = ap length c.loop-t.invariant.3 ∙ stored_length 2 _ _ _ (omega (arith, fits)) in
    let at_last : c.loop-t.t ≡ c.args.layout.frames - 1 =
    omega (arith, c.loop-t.invariant.0)
    in
    let q : get_or c.args.counts.now c.loop-t.t 0 ≡ get_or c.args.counts.now (c.args.layout.frames - 1) 0 = ap (λ (t : ℕ). get_or c.args.counts.now t 0) (at_last) in
    omega (arith, fits, len, c.loop-t.invariant.2, ap (λ (n : ℕ). n * c.args.layout.fan) q)

pub returns : goal.returns
returns c =
    let at_last : c.loop-t.t ≡ c.args.layout.frames - 1 =
    omega (arith, c.loop-t.invariant.0)
    in
    λ N.
    nexts_whole c.args.layout c.args.scratch.now c.args.counts.now c.args.res.now c.args.at N c.loop-t.t c.loop-t.end c.loop-t.res c.put_zeros.new.res
    (omega (arith, at_last, c.requires.laid.frames_from)) c.loop-t.invariant.2 c.loop-t.invariant.3
    (c.put_zeros.ensures ∙ ap (λ (t : ℕ). stored 2 c.loop-t.res c.loop-t.end (replicate (get_or c.args.counts.now t 0 * c.args.layout.fan) 0)) (sym (at_last)))

pub overflow_add-half : goal.overflow_add-half
overflow_add-half c =
    let more : suc c.loop-t.t < c.args.layout.frames = omega (arith, c.loop-t-test.true) in
    let from-few : (layer_at c.args.layout.fan (suc c.loop-t.t) ≤ 65536) × (layer_at c.args.layout.fan (suc c.loop-t.t) * c.args.layout.fan + 1 ≤ 131072) = from_to _ _ _ _ _ c.requires c.loop-t.t more in
    let half-few : c.args.layout.half ≤ 65536 = half_to _ c.requires.laid in
    omega (arith, from-few.0, half-few, c.loop-t.invariant.1)

pub offset_bounds-scratch-half : goal.offset_bounds-scratch-half
offset_bounds-scratch-half c =
    let more : suc c.loop-t.t < c.args.layout.frames = omega (arith, c.loop-t-test.true) in
    let from-few : (layer_at c.args.layout.fan (suc c.loop-t.t) ≤ 65536) × (layer_at c.args.layout.fan (suc c.loop-t.t) * c.args.layout.fan + 1 ≤ 131072) = from_to _ _ _ _ _ c.requires c.loop-t.t more in
    let half-few : c.args.layout.half ≤ 65536 = half_to _ c.requires.laid in
    omega (arith, from-few.0, half-few, c.loop-t.invariant.1)

pub slice_bounds-store_all-count : goal.slice_bounds-store_all-count
slice_bounds-store_all-count c =
    let more : suc c.loop-t.t < c.args.layout.frames = omega (arith, c.loop-t-test.true) in
    let part : c.args.layout.half + layer_at c.args.layout.fan (suc c.loop-t.t) + get_or c.args.counts.now c.loop-t.t 0 * c.args.layout.fan ≤ length c.args.scratch.now = part_in _ _ _ _ _ c.requires c.loop-t.t more in
    omega (arith, part, c.loop-t.invariant.1)

pub overflow_mul-from : goal.overflow_mul-from
overflow_mul-from c =
    let more : suc c.loop-t.t < c.args.layout.frames = omega (arith, c.loop-t-test.true) in
    let from-few : (layer_at c.args.layout.fan (suc c.loop-t.t) ≤ 65536) × (layer_at c.args.layout.fan (suc c.loop-t.t) * c.args.layout.fan + 1 ≤ 131072) = from_to _ _ _ _ _ c.requires c.loop-t.t more in
    let next_from : c.loop-t.from * c.args.layout.fan + 1 ≡ layer_at c.args.layout.fan (suc c.loop-t.t) * c.args.layout.fan + 1 = ap (λ (f : ℕ). f * c.args.layout.fan + 1) c.loop-t.invariant.1 in
    omega (arith, from-few.1, next_from)

pub overflow_add-from : goal.overflow_add-from
overflow_add-from c =
    let more : suc c.loop-t.t < c.args.layout.frames = omega (arith, c.loop-t-test.true) in
    let from-few : (layer_at c.args.layout.fan (suc c.loop-t.t) ≤ 65536) × (layer_at c.args.layout.fan (suc c.loop-t.t) * c.args.layout.fan + 1 ≤ 131072) = from_to _ _ _ _ _ c.requires c.loop-t.t more in
    let next_from : c.loop-t.from * c.args.layout.fan + 1 ≡ layer_at c.args.layout.fan (suc c.loop-t.t) * c.args.layout.fan + 1 = ap (λ (f : ℕ). f * c.args.layout.fan + 1) c.loop-t.invariant.1 in
    omega (arith, from-few.1, next_from)

pub overflow_add-end : goal.overflow_add-end
overflow_add-end c =
    let inside : c.loop-t.t < c.args.layout.frames = omega (arith, c.loop-t.invariant.0, c.requires.laid.frames_from) in
    let fits : c.args.at + 2 * length (nexts_in c.args.layout c.args.scratch.now c.args.counts.now c.loop-t.t) + 2 * (get_or c.args.counts.now c.loop-t.t 0 * c.args.layout.fan) ≤ length c.args.res.now = next_room _ _ _ _ _ c.requires c.loop-t.t inside in
    omega (arith, fits, c.loop-t.invariant.2, c.well_formed)

pub slice_bounds-store_all-start : goal.slice_bounds-store_all-start
slice_bounds-store_all-start c =
    let more : suc c.loop-t.t < c.args.layout.frames = omega (arith, c.loop-t-test.true) in
    let part : c.args.layout.half + layer_at c.args.layout.fan (suc c.loop-t.t) + get_or c.args.counts.now c.loop-t.t 0 * c.args.layout.fan ≤ length c.args.scratch.now = part_in _ _ _ _ _ c.requires c.loop-t.t more in
    omega (arith, part, c.loop-t.invariant.1)

pub overflow_add-half-in-loop-t : goal.overflow_add-half-in-loop-t
overflow_add-half-in-loop-t c =
    let more : suc c.loop-t.t < c.args.layout.frames = omega (arith, c.loop-t-test.true) in
    let from-few : (layer_at c.args.layout.fan (suc c.loop-t.t) ≤ 65536) × (layer_at c.args.layout.fan (suc c.loop-t.t) * c.args.layout.fan + 1 ≤ 131072) = from_to _ _ _ _ _ c.requires c.loop-t.t more in
    let half-few : c.args.layout.half ≤ 65536 = half_to _ c.requires.laid in
    omega (arith, from-few.0, half-few, c.loop-t.invariant.1)

pub overflow_add-half-in-loop-t-2 : goal.overflow_add-half-in-loop-t-2
overflow_add-half-in-loop-t-2 c =
    let more : suc c.loop-t.t < c.args.layout.frames = omega (arith, c.loop-t-test.true) in
    let part : c.args.layout.half + layer_at c.args.layout.fan (suc c.loop-t.t) + get_or c.args.counts.now c.loop-t.t 0 * c.args.layout.fan ≤ length c.args.scratch.now = part_in _ _ _ _ _ c.requires c.loop-t.t more in
    omega (arith, part, c.loop-t.invariant.1, c.well_formed)

pub slice_bounds-store_all-end : goal.slice_bounds-store_all-end
slice_bounds-store_all-end c =
    let more : suc c.loop-t.t < c.args.layout.frames = omega (arith, c.loop-t-test.true) in
    let part : c.args.layout.half + layer_at c.args.layout.fan (suc c.loop-t.t) + get_or c.args.counts.now c.loop-t.t 0 * c.args.layout.fan ≤ length c.args.scratch.now = part_in _ _ _ _ _ c.requires c.loop-t.t more in
    omega (arith, part, c.loop-t.invariant.1)
