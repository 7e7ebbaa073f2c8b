-- `refine::seek` meets its contract. The invariants: what is passed of the bucket is not the same as c; the parts of g's and c's rows so far are
-- equal.
-- Assumes nothing.
use Prim.Native.Nat.{◌-◌, ◌≤◌, ◌<◌}
use native.Mathlib.Nat.{le_refl}
use native.Mathlib.Omega.{arith}
use lib.ListN.{get_or}
use Rattle.refine.specs.Buckets.{test_in, hash_in}
use Rattle.refine.proofs.Buckets.{Hashed, walk_from, walk_ended, walk_falls, walk_on, walk_found}
use Rattle.refine.proofs.Same.{row_hashed}
use Rattle.refine.proofs.Refining.{numbers_differ, parts_differ, all_same}
use Rattle.refine.proofs.seek.Goals as goal

pub earlier-init : goal.earlier-init
earlier-init c =
    let hashed : Hashed (test_in c.args.scratch.now c.args.work.now c.args.rows c.args.c) (hash_in c.args.scratch.now c.args.work.now c.args.rows c.args.c) =
    row_hashed _ c.args.work.now c.args.rows
    in
    rw c.requires.start_value (walk_from _ _ (hashed) c.args.c c.args.c (le_refl _) (λ g l b. absurd (omega arith)))

pub earlier-smaller-then-scratch-copy : goal.earlier-smaller-then-scratch-copy
earlier-smaller-then-scratch-copy c =
    let hashed : Hashed (test_in c.args.scratch.now c.args.work.now c.args.rows c.args.c) (hash_in c.args.scratch.now c.args.work.now c.args.rows c.args.c) =
    row_hashed _ c.args.work.now c.args.rows
    in
    let falls : get_or c.args.links.now (c.earlier.rest - 1) 0 < c.earlier.rest =
    walk_falls _ _ (hashed) _ c.args.c _ c.requires.linked c.earlier.invariant c.earlier-test.true
    in
    falls

pub earlier-preserved-then-scratch-copy : goal.earlier-preserved-then-scratch-copy
earlier-preserved-then-scratch-copy c =
    let below : c.earlier.rest - 1 ≤ c.args.c =
    omega (arith, c.earlier.invariant.below)
    in
    let hashed : Hashed (test_in c.args.scratch.now c.args.work.now c.args.rows c.args.c) (hash_in c.args.scratch.now c.args.work.now c.args.rows c.args.c) =
    row_hashed _ c.args.work.now c.args.rows
    in
    walk_on _ _ (hashed) _ c.args.c _ c.requires.linked c.earlier.invariant c.earlier-test.true
    (numbers_differ c.args.scratch.now c.args.work.now c.args.rows (c.earlier.rest - 1) c.args.c (below) c.if-scratch-copy.true)

pub earlier-smaller : goal.earlier-smaller
earlier-smaller c =
    let hashed : Hashed (test_in c.args.scratch.now c.args.work.now c.args.rows c.args.c) (hash_in c.args.scratch.now c.args.work.now c.args.rows c.args.c) =
    row_hashed _ c.args.work.now c.args.rows
    in
    let falls : get_or c.args.links.now (c.earlier.rest - 1) 0 < c.earlier.rest =
    walk_falls _ _ (hashed) _ c.args.c _ c.requires.linked c.earlier.invariant c.earlier-test.true
    in
    falls

pub earlier-preserved : goal.earlier-preserved
earlier-preserved c =
    let below : c.earlier.rest - 1 ≤ c.args.c =
    omega (arith, c.earlier.invariant.below)
    in
    let hashed : Hashed (test_in c.args.scratch.now c.args.work.now c.args.rows c.args.c) (hash_in c.args.scratch.now c.args.work.now c.args.rows c.args.c) =
    row_hashed _ c.args.work.now c.args.rows
    in
    walk_on _ _ (hashed) _ c.args.c _ c.requires.linked c.earlier.invariant c.earlier-test.true
    (parts_differ c.args.scratch.now c.args.work.now c.args.rows (c.earlier.rest - 1) c.args.c (below) c.loop-i.i (omega arith) c.if-work-other.true)

pub returns-in-earlier : goal.returns-in-earlier
returns-in-earlier c =
    let below : c.earlier.rest - 1 ≤ c.args.c =
    omega (arith, c.earlier.invariant.below)
    in
    let hashed : Hashed (test_in c.args.scratch.now c.args.work.now c.args.rows c.args.c) (hash_in c.args.scratch.now c.args.work.now c.args.rows c.args.c) =
    row_hashed _ c.args.work.now c.args.rows
    in
    walk_found _ _ (hashed) _ c.args.c _ c.requires.linked c.earlier.invariant c.earlier-test.true
    (all_same c.args.scratch.now c.args.work.now c.args.rows (c.earlier.rest - 1) c.args.c (below) c.if-scratch-copy.false
    (λ i b. c.loop-i.invariant.1 i (omega arith)))

pub returns : goal.returns
returns c =
    let hashed : Hashed (test_in c.args.scratch.now c.args.work.now c.args.rows c.args.c) (hash_in c.args.scratch.now c.args.work.now c.args.rows c.args.c) =
    row_hashed _ c.args.work.now c.args.rows
    in
    walk_ended _ _ (hashed) c.args.c _ c.earlier.invariant (omega arith)
