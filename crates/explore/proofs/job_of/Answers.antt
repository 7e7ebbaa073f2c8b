use native.Mathlib.Omega.{arith}
use Rattle.explore.proofs.Jobs.{JobSafe, job_safe}
use Rattle.explore.proofs.job_of.Goals as goal

-- src/lib.rt:97:14
pub overflow_add-at : goal.overflow_add-at
overflow_add-at c =
    let safe : JobSafe c.args.layout c.args.scratch.now c.args.cursor =
    job_safe c.args.layout c.args.scratch.now c.args.cursor c.requires
    in
    omega (arith, safe)

-- src/lib.rt:101:15
pub offset_bounds-scratch-at : goal.offset_bounds-scratch-at
offset_bounds-scratch-at c =
    let safe : JobSafe c.args.layout c.args.scratch.now c.args.cursor =
    job_safe c.args.layout c.args.scratch.now c.args.cursor c.requires
    in
    omega (arith, safe)

-- src/lib.rt:101:15
pub bounds-scratch-at : goal.bounds-scratch-at
bounds-scratch-at c =
    let safe : JobSafe c.args.layout c.args.scratch.now c.args.cursor =
    job_safe c.args.layout c.args.scratch.now c.args.cursor c.requires
    in
    omega (arith, safe)

-- src/lib.rt:101:15
pub overflow_cast-result : goal.overflow_cast-result
overflow_cast-result c =
    let safe : JobSafe c.args.layout c.args.scratch.now c.args.cursor =
    job_safe c.args.layout c.args.scratch.now c.args.cursor c.requires
    in
    omega (arith, safe)

-- src/lib.rt:102:15
pub overflow_mul-result : goal.overflow_mul-result
overflow_mul-result c =
    let safe : JobSafe c.args.layout c.args.scratch.now c.args.cursor =
    job_safe c.args.layout c.args.scratch.now c.args.cursor c.requires
    in
    omega (arith, safe)

-- src/lib.rt:102:14
pub overflow_cast-result-2 : goal.overflow_cast-result-2
overflow_cast-result-2 c =
    let safe : JobSafe c.args.layout c.args.scratch.now c.args.cursor =
    job_safe c.args.layout c.args.scratch.now c.args.cursor c.requires
    in
    omega (arith, safe)

-- src/lib.rt:104:30
pub overflow_mul-result-2 : goal.overflow_mul-result-2
overflow_mul-result-2 c =
    let safe : JobSafe c.args.layout c.args.scratch.now c.args.cursor =
    job_safe c.args.layout c.args.scratch.now c.args.cursor c.requires
    in
    omega (arith, safe)

-- src/lib.rt:104:30
pub overflow_mul-result-3 : goal.overflow_mul-result-3
overflow_mul-result-3 c =
    let safe : JobSafe c.args.layout c.args.scratch.now c.args.cursor =
    job_safe c.args.layout c.args.scratch.now c.args.cursor c.requires
    in
    omega (arith, safe)

-- src/lib.rt:104:13
pub overflow_add-result-2 : goal.overflow_add-result-2
overflow_add-result-2 c =
    let safe : JobSafe c.args.layout c.args.scratch.now c.args.cursor =
    job_safe c.args.layout c.args.scratch.now c.args.cursor c.requires
    in
    omega (arith, safe)
