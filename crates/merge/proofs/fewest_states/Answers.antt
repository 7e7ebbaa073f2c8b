-- `merge::fewest_states` meets its contract. The invariant: no machine of k states or fewer matches.
-- Assumes nothing.
use mathlib.Core.Path.{◌≡◌, subst}
use Prim.Native.Nat.{◌+◌, ◌*◌, ◌≤◌}
use native.Mathlib.Omega.{arith}
use Rattle.table.proofs.Offsets.{laid}
use Rattle.trial.specs.Tried.{Held}
use Rattle.trial.proofs.Places.{few_entries}
use Rattle.merge.proofs.Finding.{sought_of, Fewer, held, fewer_none, fewer_more, found_fewest, none_fewest}
use Rattle.merge.proofs.fewest_states.Goals as goal
use Rattle.merge.proofs.fewest_states.Goals.{In-loop-k}

sought : (c : In-loop-k) → Held c.args.table.now c.args.starts.now (sought_of c.args.layout c.args.inputs (c.loop-k.k + 1))
sought c =
    held _ c.requires.sound.0 _ c.requires.sound.1 _ _ _ c.requires.inputs_value.0 c.requires.inputs_value.1 c.requires.inputs_value.2 (omega arith) (omega (arith, c.loop-k-test.true))

few : (c : In-loop-k) → (c.loop-k.k + 1) * c.args.layout.words ≤ 12
few c = few_entries _ _ _ (sought c)

pub loop-k-init : goal.loop-k-init
loop-k-init c = (omega arith, λ Z el. fewer_none _ Z _ el)

pub overflow_mul-entries : goal.overflow_mul-entries
overflow_mul-entries c = omega (arith, few (goal.at.overflow_mul-entries c).In-loop-k)

pub overflow_sub-sought : goal.overflow_sub-sought
overflow_sub-sought c = omega (arith, (laid _ _ c.requires.sound.0.headed c.requires.sound.1).nexts-at)

pub search-requires : goal.search-requires
search-requires c = sought (goal.at.search-requires c).In-loop-k

pub digits-nexts-requires : goal.digits-nexts-requires
digits-nexts-requires c = let t = (goal.at.digits-nexts-requires c).In-loop-k in (omega arith, (sought t).few_states, few t)

pub returns-in-Some : goal.returns-in-Some
returns-in-Some c =
    found_fewest _ c.requires.sound.0 _ c.requires.sound.1 _ _ (c.loop-k.invariant.1 c.requires.sound.0 c.requires.sound.1) c.search.ensures _ _ c.in-Some.is (omega (arith, c.loop-k-test.true))
    c.digits-nexts.ensures.digits c.digits-nexts.ensures.long

pub loop-k-preserved : goal.loop-k-preserved
loop-k-preserved c =
    ((sought (goal.at.loop-k-preserved c).In-loop-k).few_states, λ Z el. fewer_more _ Z _ el _ _ (c.loop-k.invariant.1 Z el) c.search.ensures c.in_default.is)

pub returns : goal.returns
returns c =
    none_fewest _ c.requires.sound.0 _ c.requires.sound.1 (subst (Fewer _ c.requires.sound.0 _ c.requires.sound.1) (omega arith) (c.loop-k.invariant.1 c.requires.sound.0 c.requires.sound.1))
