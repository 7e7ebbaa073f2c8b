-- `simulate::sequence_number` meets its contract. The invariant: the number so far is that of the words so far.
-- Assumes nothing.
use mathlib.Core.Path.{◌≡◌, refl, sym, ap, ap₂, ◌∙◌}
use Prim.Native.Nat.{◌+◌, ◌*◌, ◌^◌, ◌<◌}
use native.Mathlib.Omega.{arith}
use lib.ListN.{get_or, take}
use lib.Seq.{take_all}
use Rattle.layered.specs.Histories.{history_number}
use Rattle.simulate.proofs.Sequences.{number_below, number_more}
use Rattle.simulate.proofs.sequence_number.Goals.{In-loop-word}
use Rattle.simulate.proofs.sequence_number.Goals as goal

-- with the next word
next : (c : In-loop-word) → c.loop-word.number * c.power-base.result + get_or c.args.words.now c.loop-word.word-index 0
    ≡ history_number (2 ^ c.args.inputs) 0 (take (c.loop-word.word-index + 1) c.args.words.now)
next c =
    let w = get_or c.args.words.now c.loop-word.word-index 0 in
    ap₂ (λ x y. x * y + w) c.loop-word.invariant.2 c.loop-word.invariant.1 ∙ sym (number_more (2 ^ c.args.inputs) c.loop-word.word-index c.args.words.now (omega arith))

small : (c : In-loop-word) → c.loop-word.number * c.power-base.result + get_or c.args.words.now c.loop-word.word-index 0 < 65536
small c = omega (arith, next c, number_below c.args.inputs c.args.words.now c.requires.fed c.requires.inputs_le_most_bits.1 (c.loop-word.word-index + 1) (omega arith))

pub loop-word-init : goal.loop-word-init
unfolding history_number
loop-word-init c =
    (omega arith, c.power-base.ensures, refl)

pub overflow_mul-number : goal.overflow_mul-number
overflow_mul-number c = omega (arith, small (goal.at.overflow_mul-number c).In-loop-word)

pub overflow_add-number : goal.overflow_add-number
overflow_add-number c = omega (arith, small (goal.at.overflow_add-number c).In-loop-word)

pub loop-word-preserved : goal.loop-word-preserved
loop-word-preserved c =
    (omega arith, c.loop-word.invariant.1, next (goal.at.loop-word-preserved c).In-loop-word)

pub overflow_cast-result : goal.overflow_cast-result
overflow_cast-result c =
    omega (arith, c.loop-word.invariant.2, number_below c.args.inputs c.args.words.now c.requires.fed c.requires.inputs_le_most_bits.1 c.loop-word.word-index (omega arith))

pub returns : goal.returns
returns c =
    c.loop-word.invariant.2 ∙ ap (history_number (2 ^ c.args.inputs) 0) (take_all c.loop-word.word-index c.args.words.now (omega arith))
