-- `refine::row_hash` meets its contract. The invariant: `hash` is that of the parts so far.
-- Assumes nothing.
use mathlib.Core.Path.{◌≡◌, refl}
use Prim.Native.Nat.{◌+◌, ◌*◌, ◌<◌}
use native.Mathlib.Omega.{arith}
use lib.ListN.{get_or}
use Rattle.refine.specs.Limits.{bucket_count}
use Rattle.refine.specs.Buckets.{hash_to}
use Rattle.refine.proofs.Same.{hash_small, hash_more}
use Rattle.refine.proofs.Refining.{hashed}
use Rattle.refine.proofs.row_hash.Goals as goal

pub loop-i-init : goal.loop-i-init
unfolding hash_to
loop-i-init c =
    (omega arith, refl)

pub overflow_mul-hash : goal.overflow_mul-hash
overflow_mul-hash c =
    let small : c.loop-i.hash < bucket_count =
    hash_small _ _ c.loop-i.i c.loop-i.invariant.1
    in
    omega (arith, small)

pub overflow_add-hash-in-loop-i-2 : goal.overflow_add-hash-in-loop-i-2
overflow_add-hash-in-loop-i-2 c =
    let small : c.loop-i.hash < bucket_count =
    hash_small _ _ c.loop-i.i c.loop-i.invariant.1
    in
    let part_small : get_or c.args.work.now (c.args.rows.ids + c.args.c * c.args.rows.parts + c.loop-i.i) 0 < 4294967296 =
    omega (arith, c.type_inv.work (c.args.rows.ids + c.args.c * c.args.rows.parts + c.loop-i.i))
    in
    omega (arith, part_small, small)

pub loop-i-preserved : goal.loop-i-preserved
loop-i-preserved c =
    (omega arith, hash_more _ _ c.loop-i.i c.loop-i.hash c.loop-i.invariant.1)

pub returns : goal.returns
returns c =
    let e : c.loop-i.i ≡ c.args.rows.parts = omega arith in
    hashed c.args.scratch.now c.args.work.now c.args.rows c.args.c c.loop-i.hash (rw e at c.loop-i.invariant.1)
