-- `lanes::counting_lanes` meets its contract: a low bit goes by the table, a higher one is the same in all lanes.
-- Assumes nothing.
use mathlib.Core.Path.{refl, sym, ◌∙◌}
use mathlib.Core.List.{List, [], ◌∷◌}
use Prim.Native.Nat.{ℕ}
use Rattle.lanes.specs.Limits.{lane_count}
use Rattle.layered.specs.Search.{every}
use Rattle.circuit.specs.Lists.{bit}
use Rattle.circuit.proofs.Bits.{bit_none}
use Rattle.lanes.proofs.Bits.{bit_ones}
use Rattle.lanes.proofs.Laws.{Counts, counting_bit, near_low, near_high}
use Rattle.lanes.proofs.counting_lanes.Goals as goal

-- the table in the code; one computed test shows its rule
abbrev table : List ℕ
table = 2863311530 ∷ 3435973836 ∷ 4042322160 ∷ 4278255360 ∷ 4294901760 ∷ []

table-counts : Counts table
unfolding Counts every bit
table-counts = refl

pub returns-then-place-lt-BITS : goal.returns-then-place-lt-BITS
returns-then-place-lt-BITS c j h =
    counting_bit table table-counts c.args.place j c.if-place-lt-BITS.true h ∙ sym (near_low c.args.at j c.args.place c.requires.0 h c.if-place-lt-BITS.true)

pub returns-then-is_set : goal.returns-then-is_set
returns-then-is_set c j h =
    bit_ones lane_count j h
    ∙ sym (near_high c.args.at j c.args.place c.requires.0 h c.if-place-lt-BITS.false ∙ sym c.is_set.ensures ∙ c.if-is_set.true)

pub returns-else-is_set : goal.returns-else-is_set
returns-else-is_set c j h =
    bit_none j
    ∙ sym (near_high c.args.at j c.args.place c.requires.0 h c.if-place-lt-BITS.false ∙ sym c.is_set.ensures ∙ c.if-is_set.false)
