-- `table::entries::check_part` meets its contract. The invariant: what the definition says of all words is what it says of those from i on.
-- Assumes nothing.
use mathlib.Core.Path.{◌≡◌, sym, ap, ◌∙◌}
use Prim.Native.Nat.{◌+◌, ◌*◌, ◌-◌, ◌/◌}
use native.Mathlib.Omega.{arith}
use lib.ListN.{length}
use Rattle.words.specs.Words.{word_at}
use Rattle.verdict.specs.Judgements.{answer, refuse_first}
use Rattle.verdict.proofs.Laws.{first_here, first_later, first-none}
use Rattle.table.specs.Sound.{bad_by}
use Rattle.table.specs.Table.{part_checked}
use Rattle.table.proofs.entries.check_part.Goals as goal

pub loop-i-init : goal.loop-i-init
unfolding part_checked
loop-i-init c =
    let z : length c.args.part.now / 2 ≡ length c.args.part.now / 2 - 0 = omega arith in
    (omega arith, ap (refuse_first (λ i. bad_by c.args.bound (word_at c.args.part.now (2 * i))) 5 (λ i. c.args.at + 2 * i) (answer 0 0) 0) z)

pub returns-then-excludes : goal.returns-then-excludes
returns-then-excludes c =
    let judged : bad_by c.args.bound (word_at c.args.part.now (2 * c.loop-i.i)) ≡ c.excludes.result =
    sym (c.excludes.ensures ∙ ap (bad_by c.args.bound) c.read.ensures.0)
    in
    sym (c.loop-i.invariant.1 ∙ first_here _ _ _ _ _ _ (omega arith) (judged ∙ c.if-excludes.true))

pub loop-i-preserved : goal.loop-i-preserved
loop-i-preserved c =
    let judged : bad_by c.args.bound (word_at c.args.part.now (2 * c.loop-i.i)) ≡ c.excludes.result =
    sym (c.excludes.ensures ∙ ap (bad_by c.args.bound) c.read.ensures.0)
    in
    (omega arith, c.loop-i.invariant.1 ∙ first_later _ _ _ _ _ _ (omega arith) (judged ∙ c.if-excludes.false))

pub returns : goal.returns
returns c =
    sym (c.loop-i.invariant.1 ∙ first-none _ _ _ _ _ _ (omega arith))
