-- `distinguish::first_list` meets its contract: from equal states nothing differs, one word is sought in two rows, and of more words each first one is
-- tried with those that follow it.
-- Assumes nothing.
use mathlib.Core.Path.{◌≡◌, sym, ◌∙◌, subst}
use mathlib.Core.List.{List}
use Prim.Native.Nat.{ℕ, ◌+◌, ◌-◌, ◌^◌, ◌≤◌}
use native.Mathlib.Omega.{arith}
use Rattle.sizes.specs.Sizes.{inputs, frames}
use Rattle.table.specs.Sound.{Sound, layout_of}
use Rattle.table.specs.declared.Layout.{Layout}
use Rattle.distinguish.specs.Pairs.{PairOf}
use Rattle.distinguish.specs.declared.Pair.{Pair}
use Rattle.distinguish.proofs.Searching.{Seeking, laid_of, row_of_lem, all_few, same_answer, one_answer, NoneTo, fewer_is, number_few, found_answer, none_further, none_answer}
use Rattle.distinguish.proofs.+first_list.Goals as goal

-- what is known at the entry
known : (b : List ℕ) (l : Layout) (p : Pair) (count rest : ℕ) → Sound b × (l ≡ layout_of b) × PairOf b p
    → (1 ≤ count) × (p.layer + count ≤ frames b) × (rest ≡ (2 ^ inputs b) ^ (count - 1)) → Seeking b l p count rest
known b l p count rest S E = record { sound = S.0; layout_is = S.1; pair_is = S.2; some = E.0; within = E.1; rest_is = E.2 }

pub returns-then-pair : goal.returns-then-pair
returns-then-pair t c = same_answer (known _ _ _ _ _ c.requires.sound c.requires.le_count) c.if-pair.true

pub row-first-requires : goal.row-first-requires
row-first-requires t c =
    let k = known _ _ _ _ _ c.requires.sound c.requires.le_count in
    omega (arith, row_of_lem k _ k.pair_is.first_to, laid_of k)

pub row-second-requires : goal.row-second-requires
row-second-requires t c =
    let k = known _ _ _ _ _ c.requires.sound c.requires.le_count in
    omega (arith, row_of_lem k _ k.pair_is.second_to, laid_of k)

pub first_word-requires : goal.first_word-requires
first_word-requires t c =
    let k = known _ _ _ _ _ c.requires.sound c.requires.le_count in (
      omega (arith, c.row-first.ensures, row_of_lem k _ k.pair_is.first_to, laid_of k),
      omega (arith, c.row-second.ensures, row_of_lem k _ k.pair_is.second_to, laid_of k),
    )

pub returns-then-count-eq1 : goal.returns-then-count-eq1
returns-then-count-eq1 t c =
    one_answer (known _ _ _ _ _ c.requires.sound c.requires.le_count) _ _ _ c.if-count-eq1.true c.row-first.ensures c.row-second.ensures c.first_word.ensures

pub first_list-requires : goal.first_list-requires
first_list-requires t c =
    let k = known _ _ _ _ _ c.requires.sound c.requires.le_count in
    let more = c.if-count-eq1.false in (
      omega (arith, c.decreases, k.some),
      (
        (k.sound, k.layout_is, c.follow-next.ensures.pair),
        (omega (arith, k.some, more), omega (arith, k.some, k.within, c.follow-next.ensures.layer), fewer_is k more),
      ),
    )

pub overflow_mul-result : goal.overflow_mul-result
overflow_mul-result t c =
    let k = known _ _ _ _ _ c.requires.sound c.requires.le_count in
    let q = c.follow-next in
    omega (arith, number_few k c.if-count-eq1.false c.loop-w.w q.result c.loop-w-test.true q.ensures.layer q.ensures.first q.ensures.second c.in-Some.number c.in-Some.ensures, all_few k)

pub overflow_add-result : goal.overflow_add-result
overflow_add-result t c =
    let k = known _ _ _ _ _ c.requires.sound c.requires.le_count in
    let q = c.follow-next in
    omega (arith, number_few k c.if-count-eq1.false c.loop-w.w q.result c.loop-w-test.true q.ensures.layer q.ensures.first q.ensures.second c.in-Some.number c.in-Some.ensures, all_few k)

pub returns-in-Some : goal.returns-in-Some
returns-in-Some t c =
    let q = c.follow-next in
    found_answer (known _ _ _ _ _ c.requires.sound c.requires.le_count) c.if-count-eq1.false c.loop-w.w q.result c.loop-w-test.true q.ensures.layer q.ensures.first q.ensures.second
    c.in-Some.number c.in-Some.ensures c.loop-w.invariant.1

pub loop-w-preserved : goal.loop-w-preserved
loop-w-preserved t c =
    let q = c.follow-next in (
      omega arith,
      none_further (known _ _ _ _ _ c.requires.sound c.requires.le_count) c.if-count-eq1.false c.loop-w.w q.result c.loop-w-test.true q.ensures.layer q.ensures.first q.ensures.second (sym c.in_default.is ∙ c.first_list.ensures) c.loop-w.invariant.1,
    )

pub returns : goal.returns
returns t c =
    let k = known _ _ _ _ _ c.requires.sound c.requires.le_count in
    let e : c.loop-w.w ≡ c.args.layout.words = omega arith in
    none_answer k c.if-count-eq1.false (subst (NoneTo k) e c.loop-w.invariant.1)
