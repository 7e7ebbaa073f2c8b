-- `write::nexts_from` meets its contract. The invariant: the sum of the counts of the layers so far.
-- Assumes nothing.
use mathlib.Core.Path.{◌≡◌, refl, ap, ap₂, ◌∙◌}
use mathlib.Core.List.{List}
use Prim.Native.Nat.{ℕ, ◌+◌, ◌*◌, ◌≤◌}
use native.Mathlib.Nat.{mul-le-mul}
use native.Mathlib.Omega.{arith}
use lib.ListN.{get_or}
use Rattle.layered.specs.Search.{total}
use Rattle.layered.proofs.Lists.{total_next}
use Rattle.table.specs.Table.{head_length}
use Rattle.table.proofs.Offsets.{head_length_lem}
use Rattle.explore.specs.declared.Layout.{Layout}
use Rattle.explore.specs.Explore.{Laid}
use Rattle.explore.proofs.Layers.{frames_to, words_few}
use Rattle.write.specs.Write.{nexts_from}
use Rattle.write.proofs.nexts_from.Goals as goal

-- the entries are few
entries_few : (layout : Layout) → Laid layout → (states t : ℕ) → t ≤ layout.frames → states ≤ 65535 * t → states * layout.fan ≤ 1048560 * 65536
entries_few layout L states t h k = let l : states ≤ 1048560 = omega (arith, h, k, frames_to layout L) in mul-le-mul l (words_few layout L)

-- all layers are summed
summed : (layout : Layout) (counts : List ℕ) (head states t : ℕ) → head ≡ head_length layout.frames → t ≡ layout.frames → states ≡ total t (λ u. get_or counts u 0) → head + 2 * (states * layout.fan) ≡ nexts_from layout counts
unfolding nexts_from
summed layout counts head states t e f g = ap₂ (λ (h s : ℕ). h + 2 * (s * layout.fan)) e (g ∙ ap (λ (t : ℕ). total t (λ u. get_or counts u 0)) f)

pub loop-t-init : goal.loop-t-init
unfolding total
loop-t-init c =
    (omega arith, refl, omega arith)

pub loop-t-preserved : goal.loop-t-preserved
loop-t-preserved c = (
  omega (arith, c.loop-t-test.true),
  omega (arith, c.loop-t.invariant.1, total_next (λ u. get_or c.args.counts.now u 0) c.loop-t.t),
  omega (arith, c.type_inv.counts c.loop-t.t, c.loop-t.invariant.2),
)

pub head_length-requires : goal.head_length-requires
head_length-requires c =
    let frames-few : c.args.layout.frames ≤ 16 =
    frames_to _ c.requires.0
    in
    frames-few

pub returns : goal.returns
returns c =
    summed _ _ _ _ c.loop-t.t c.head_length.ensures (omega (arith, c.loop-t.invariant.0)) c.loop-t.invariant.1

pub overflow_mul-result : goal.overflow_mul-result
overflow_mul-result c =
    omega (arith, entries_few _ c.requires.0 _ _ c.loop-t.invariant.0 c.loop-t.invariant.2)

pub overflow_mul-result-2 : goal.overflow_mul-result-2
overflow_mul-result-2 c =
    omega (arith, entries_few _ c.requires.0 _ _ c.loop-t.invariant.0 c.loop-t.invariant.2)

pub overflow_add-result : goal.overflow_add-result
overflow_add-result c =
    let frames-few : c.args.layout.frames ≤ 16 =
    frames_to _ c.requires.0
    in
    omega (arith, entries_few _ c.requires.0 _ _ c.loop-t.invariant.0 c.loop-t.invariant.2, c.head_length.ensures, head_length_lem c.args.layout.frames, frames-few)
