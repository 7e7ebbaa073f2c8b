-- `causal::own_bits` meets its contract: bit i is that of input i.
-- Assumes nothing.
use Rattle.std.proofs.Common.{rules, ◌≡◌, ◌<◌}
use Rattle.sizes.specs.Limits.{most_bits}
use Rattle.causal.specs.Played.{own_bit}
use Rattle.lanes.proofs.Made.{made_at}
use Rattle.causal.proofs.own_bits.Goals as goal

pub returns : goal.returns
returns c =
    record {
      as_many = c.from_fn.ensures.items.long;
      are = made_at _ _ _ 0 (λ i y. (y ≡ own_bit c.args.source i) × (y < most_bits)) (λ i y q k. (search rules, search rules)) _ c.from_fn.ensures.items;
    }
