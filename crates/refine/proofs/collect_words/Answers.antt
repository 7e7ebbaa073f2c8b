-- `refine::collect_words` meets its contract. The invariant: the paths of the candidates so far are stored, and `next` is the next number.
-- Assumes nothing.
use mathlib.Core.Path.{◌≡◌, sym, ap, ◌∙◌}
use Prim.Native.Nat.{◌+◌, ◌*◌, ◌^◌, ◌<◌}
use native.Mathlib.Omega.{arith}
use lib.ListN.{get_or}
use Rattle.refine.proofs.Collecting.{collect_new, collect_old, word_in, word_short, word_path}
use Rattle.refine.proofs.collect_words.Goals as goal
use Rattle.refine.proofs.collect_words.Goals.{then-scratch-first, else-scratch-first}

pub overflow_add-scratch : goal.overflow_add-scratch
overflow_add-scratch c =
    let short : get_or c.args.scratch.now (c.args.from + c.args.state) 0 + c.loop-w.w * 2 ^ c.args.bits < 65536 =
    word_short c.args.scratch.now c.args.rows c.args.from c.args.fan c.args.bits c.args.state c.loop-w.w c.requires.collectable c.requires.state_bound (omega arith)
    in
    omega (arith, short)

pub overflow_cast-scratch-then-scratch-first : goal.overflow_cast-scratch-then-scratch-first
overflow_cast-scratch-then-scratch-first c =
    let short : get_or c.args.scratch.now (c.args.from + c.args.state) 0 + c.loop-w.w * 2 ^ c.args.bits < 65536 =
    word_short c.args.scratch.now c.args.rows c.args.from c.args.fan c.args.bits c.args.state c.loop-w.w c.requires.collectable c.requires.state_bound (omega arith)
    in
    omega (arith, short)

pub loop-w-preserved : goal.loop-w-preserved
loop-w-preserved c =
    let inside : c.args.state * c.args.fan + c.loop-w.w < c.args.rows.count =
    word_in c.args.scratch.now c.args.rows c.args.from c.args.fan c.args.bits c.args.state c.loop-w.w c.requires.collectable c.requires.state_bound (omega arith)
    in
    let k = c.args.state * c.args.fan in
    let e : k + (c.loop-w.w + 1) ≡ k + c.loop-w.w + 1 = omega arith in
    let n : c.args.rows.numbers + (k + c.loop-w.w) ≡ c.args.rows.numbers + k + c.loop-w.w = omega arith in
    let q = ap (λ j. get_or c.loop-w.scratch j 0) n in
    elim c.if-scratch-first.branch [
      | then-scratch-first t ↦
          let p = word_path c.args.scratch.now c.args.rows c.args.from c.args.fan c.args.bits c.args.state c.loop-w.w c.requires.collectable c.requires.state_bound (omega arith) in
          (omega arith, rw (t.scratch-is, t.next-is) (collect_new c.args.scratch.now c.loop-w.scratch c.args.rows c.args.from c.args.fan c.args.bits (k + c.loop-w.w) c.loop-w.next c.requires.collectable inside c.loop-w.invariant.1 (q ∙ t.if-scratch-first.true) _ _ p e))
      | else-scratch-first t ↦
          (omega arith, rw (t.scratch-is, t.next-is) (collect_old c.args.scratch.now c.loop-w.scratch c.args.rows c.args.from c.args.fan c.args.bits (k + c.loop-w.w) c.loop-w.next c.requires.collectable inside c.loop-w.invariant.1 _ (λ d. t.if-scratch-first.false (sym q ∙ d)) e))
    ]
