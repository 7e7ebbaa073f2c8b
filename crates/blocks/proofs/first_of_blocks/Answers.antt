-- `blocks::first_of_blocks` meets its contract.
-- Assumes nothing.
use mathlib.Core.Path.{◌≡◌, refl, sym, ◌∙◌}
use Prim.Native.Nat.{ℕ, ◌<◌}
use native.Mathlib.Omega.{arith}
use Rattle.lanes.specs.Limits.{lane_bits, lane_count}
use Rattle.circuit.specs.Lists.{block_start}
use Rattle.blocks.proofs.Blocks.{start_zero}
use Rattle.blocks.proofs.Holds.{holds-first, holds_on}
use Rattle.blocks.proofs.first_of_blocks.Goals as goal

pub returns-then-at-power-ne0 : goal.returns-then-at-power-ne0
returns-then-at-power-ne0 c v now before =
    holds_on c.args.bits c.power.ensures c.args.at v c.args.kept c.requires.1 c.if-at-power-ne0.true before

pub returns-then-bits-lt-BITS : goal.returns-then-bits-lt-BITS
returns-then-bits-lt-BITS c v now before =
    holds-first c.args.bits c.power.ensures c.args.at v c.args.lanes c.spread.result c.args.bits c.if-at-power-ne0.false (λ j h. refl) c.spread.ensures now

pub returns-else-bits-lt-BITS : goal.returns-else-bits-lt-BITS
returns-else-bits-lt-BITS c v now before =
    let first : (j : ℕ) → j < lane_count → block_start lane_bits j ≡ block_start c.args.bits j =
    λ j h. start_zero lane_bits j (omega arith) h ∙ sym (start_zero c.args.bits j (omega arith) h) in
    holds-first c.args.bits c.power.ensures c.args.at v c.args.lanes c.spread-else-bits-lt-BITS.result lane_bits c.if-at-power-ne0.false first c.spread-else-bits-lt-BITS.ensures now
