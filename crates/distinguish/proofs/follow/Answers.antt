-- `distinguish::follow` meets its contract: the two words that are read are the machine's next states.
-- Assumes nothing.
use Rattle.std.proofs.Common.{◌≡◌, refl, ap, ◌∙◌, ℕ, suc, ◌+◌, ◌*◌, ◌≤◌, ◌<◌, add-one, arith}
use Rattle.words.specs.Words.{word_at}
use Rattle.table.specs.Table.{states, entry_count, machine}
use Rattle.table.proofs.Offsets.{Laid}
use Rattle.distinguish.proofs.Entries as entries
use Rattle.distinguish.proofs.follow.Goals as goal
use Rattle.distinguish.proofs.follow.Goals.{Start}

-- both states' rows of entries are among all, and a word's entry is in its row
rows : (c : Start) → Laid c.args.table.now c.args.layout × (c.args.w < c.args.layout.words)
    × (c.args.pair.below + c.args.pair.first * c.args.layout.words + c.args.layout.words ≤ entry_count c.args.table.now)
    × (c.args.pair.below + c.args.pair.second * c.args.layout.words + c.args.layout.words ≤ entry_count c.args.table.now)
rows c =
    let S = c.requires.sound in
    let l = entries.stands _ _ _ S.0 S.1 S.2 c.requires.layer_bound.0 in
    let in_all = entries.row_in _ _ _ S.0 S.1 S.2 c.requires.layer_bound.0 in
    (l, omega (arith, c.requires.layer_bound.1, l.words_is), in_all _ S.2.first_to, in_all _ S.2.second_to)

-- the state that follows one of the two
next : (c : Start) (x at y : ℕ) → x < states c.args.table.now c.args.pair.layer → at ≡ c.args.layout.nexts + 2 * (c.args.pair.below + x * c.args.layout.words) → y ≡ word_at c.args.table.now (at + 2 * c.args.w)
    → (y ≡ (machine c.args.table.now).next c.args.pair.layer x c.args.w) × (y < states c.args.table.now (c.args.pair.layer + 1))
next c x at y h e f =
    let S = c.requires.sound in
    let L = c.requires.layer_bound in
    let q : y ≡ (machine c.args.table.now).next c.args.pair.layer x c.args.w =
    f ∙ ap (λ n. word_at c.args.table.now (n + 2 * c.args.w)) e ∙ entries.next_at _ _ _ S.0 S.1 S.2 L.0 x h c.args.w
    in
    let n : (machine c.args.table.now).next c.args.pair.layer x c.args.w < states c.args.table.now (suc c.args.pair.layer) = S.0.legal.next_is c.args.pair.layer x c.args.w L.0 h L.1 in
    (q, omega (arith, ap (states c.args.table.now) (add-one c.args.pair.layer)))

pub row-first-requires : goal.row-first-requires
row-first-requires c = let r = rows (goal.at.row-first-requires c).Start in omega arith

pub row-second-requires : goal.row-second-requires
row-second-requires c = let r = rows (goal.at.row-second-requires c).Start in omega arith

pub states_of-requires : goal.states_of-requires
states_of-requires c = let r = rows (goal.at.states_of-requires c).Start in omega arith

pub overflow_add-first : goal.overflow_add-first
overflow_add-first c = let r = rows (goal.at.overflow_add-first c).Start in omega arith

pub read-requires : goal.read-requires
read-requires c = let r = rows (goal.at.read-requires c).Start in omega arith

pub overflow_add-second : goal.overflow_add-second
overflow_add-second c = let r = rows (goal.at.overflow_add-second c).Start in omega arith

pub read-requires-2 : goal.read-requires-2
read-requires-2 c = let r = rows (goal.at.read-requires-2 c).Start in omega arith

pub returns : goal.returns
returns c =
    let at = (goal.at.returns c).Start in
    let S = c.requires.sound in
    let first = next at _ _ _ S.2.first_to c.row-first.ensures c.read.ensures.0 in
    let second = next at _ _ _ S.2.second_to c.row-second.ensures c.read-2.ensures.0 in
    record {
      pair = record {
        layer_to = omega (arith, c.requires.layer_bound);
        below_is = ap (λ n. c.args.pair.below + n * c.args.layout.words) c.states_of.ensures.0 ∙ entries.below_more _ _ _ S.0 S.1 S.2 c.requires.layer_bound.0;
        first_to = first.1;
        second_to = second.1;
      };
      layer = refl;
      first = first.0;
      second = second.0;
    }
