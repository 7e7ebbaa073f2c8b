-- `distinguish::shortest_list` meets its contract. The invariant: no list of 1 to k words separates the states, and there are `rest` of k words.
-- Assumes nothing.
use mathlib.Core.Path.{◌≡◌, refl, sym, ap, ap₂, ◌∙◌, subst}
use Prim.Native.Nat.{suc, ◌+◌, ◌-◌, ◌*◌, ◌^◌, ◌≤◌, ◌<◌}
use native.Mathlib.Nat.{pow-zero, pow-suc}
use native.Mathlib.Numerals.{add-one}
use native.Mathlib.Omega.{arith}
use Rattle.sizes.specs.Sizes.{inputs, frames}
use Rattle.layered.specs.Histories.{history_words}
use Rattle.table.specs.Table.{machine}
use Rattle.table.proofs.Offsets.{Laid, laid}
use Rattle.distinguish.specs.Distinguish.{distinguishing}
use Rattle.distinguish.proofs.Below.{below_some, below_none}
use Rattle.distinguish.proofs.Separating.{NoneOf, none_longer, shortest_here, shortest_none}
use Rattle.distinguish.proofs.Searching.{lists_few}
use Rattle.distinguish.proofs.shortest_list.Goals as goal

pub loop-k-init : goal.loop-k-init
loop-k-init c =
    (omega arith, sym (pow-zero _), (λ i h. absurd (omega arith)))

pub first_list-requires : goal.first_list-requires
first_list-requires c =
    let stands : Laid c.args.table.now c.args.layout =
    laid c.args.table.now c.args.layout c.requires.0.headed c.requires.1
    in
    let within : c.loop-k.k < frames c.args.table.now - c.args.pair.layer =
    omega (arith, stands)
    in
    let e : c.loop-k.k + 1 - 1 ≡ c.loop-k.k = omega arith in
    record {
      sound = c.requires;
      le_count = (omega arith, omega (arith, within, c.requires.2.layer_to), c.loop-k.invariant.1 ∙ ap (λ j. (2 ^ inputs c.args.table.now) ^ j) (sym e));
    }

pub overflow_mul-rest : goal.overflow_mul-rest
overflow_mul-rest c =
    let stands : Laid c.args.table.now c.args.layout =
    laid c.args.table.now c.args.layout c.requires.0.headed c.requires.1
    in
    let within : c.loop-k.k < frames c.args.table.now - c.args.pair.layer =
    omega (arith, stands)
    in
    let lists-are : c.loop-k.rest * c.args.layout.words ≡ (2 ^ inputs c.args.table.now) ^ suc c.loop-k.k =
    ap₂ ◌*◌ c.loop-k.invariant.1 stands.words_is ∙ sym (pow-suc (2 ^ inputs c.args.table.now) c.loop-k.k)
    in
    let few : (2 ^ inputs c.args.table.now) ^ suc c.loop-k.k ≤ 65536 = lists_few c.args.table.now c.requires.0 _ (omega (arith, within)) in
    omega (arith, lists-are, few)

pub returns-in-Some : goal.returns-in-Some
unfolding distinguishing
returns-in-Some c =
    let K = 2 ^ inputs c.args.table.now in
    let stands : Laid c.args.table.now c.args.layout =
    laid c.args.table.now c.args.layout c.requires.0.headed c.requires.1
    in
    let within : c.loop-k.k < frames c.args.table.now - c.args.pair.layer =
    omega (arith, stands)
    in
    let n = rw (add-one c.loop-k.k) at (below_some _ _ _ c.in-Some.ensures) in
    record {
      words = ap (λ j. history_words K j c.in-Some.number) (add-one c.loop-k.k)
          ∙ shortest_here (machine c.args.table.now) K c.args.pair.layer c.args.pair.first c.args.pair.second c.loop-k.k (frames c.args.table.now - c.args.pair.layer) c.in-Some.number within n.0
          (omega (arith, n)) c.loop-k.invariant.2;
      few = omega (arith, within);
    }

pub loop-k-preserved : goal.loop-k-preserved
loop-k-preserved c =
    let K = 2 ^ inputs c.args.table.now in
    let stands : Laid c.args.table.now c.args.layout =
    laid c.args.table.now c.args.layout c.requires.0.headed c.requires.1
    in
    let lists-are : c.loop-k.rest * c.args.layout.words ≡ K ^ suc c.loop-k.k =
    ap₂ ◌*◌ c.loop-k.invariant.1 stands.words_is ∙ sym (pow-suc K c.loop-k.k)
    in
    let n = rw (add-one c.loop-k.k) at (below_none _ _ (sym c.in_default.is ∙ c.first_list.ensures)) in (
      omega arith,
      lists-are ∙ ap (λ j. K ^ j) (sym (add-one c.loop-k.k)),
      none_longer (machine c.args.table.now) K c.args.pair.layer c.args.pair.first c.args.pair.second c.loop-k.k _ refl n c.loop-k.invariant.2,
    )

pub returns : goal.returns
unfolding distinguishing history_words
returns c =
    let stands : Laid c.args.table.now c.args.layout =
    laid c.args.table.now c.args.layout c.requires.0.headed c.requires.1
    in
    let e : c.loop-k.k ≡ frames c.args.table.now - c.args.pair.layer = omega (arith, stands) in record {
      words = shortest_none (machine c.args.table.now) (2 ^ inputs c.args.table.now) c.args.pair.layer c.args.pair.first c.args.pair.second (frames c.args.table.now - c.args.pair.layer)
          (subst (NoneOf (machine c.args.table.now) (2 ^ inputs c.args.table.now) c.args.pair.layer c.args.pair.first c.args.pair.second) e c.loop-k.invariant.2);
      few = omega arith;
    }
