-- `causal::shown_signals` meets its contract: signal q is the one that place q shows.
-- Assumes nothing.
use Rattle.std.proofs.Common.{rules, ◌≡◌, ◌<◌}
use Rattle.circuit.specs.Limits.{most_signals}
use Rattle.source.specs.Source.{shown_signal}
use Rattle.lanes.proofs.Made.{made_at}
use Rattle.causal.proofs.shown_signals.Goals as goal

pub returns : goal.returns
returns c =
    record {
      as_many = c.from_fn.ensures.items.long;
      are = made_at _ _ _ 0 (λ q y. (y ≡ shown_signal c.args.source q) × (y < most_signals)) (λ q y f k. (search rules, search rules)) _ c.from_fn.ensures.items;
    }
