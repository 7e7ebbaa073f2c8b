-- `source::stands` meets its contract: a gate, the constant or an input.
-- Assumes nothing.
use Prim.Native.Nat.{◌-◌, ◌<◌}
use native.Mathlib.Omega.{arith}
use lib.ListN.{get_or}
use Rattle.source.proofs.Standing.{stands_gate, stands_constant, stands_input}
use Rattle.source.proofs.stands.Goals as goal

pub returns-then-first-signal : goal.returns-then-first-signal
returns-then-first-signal c =
    (stands_gate _ _ _ _ c.requires.first_from c.requires.base_from c.if-first-signal.true, omega (arith, c.requires.low))

pub returns-then-signal-eq0 : goal.returns-then-signal-eq0
returns-then-signal-eq0 c =
    (stands_constant _ _ _ _ c.requires.first_from c.requires.base_from c.if-signal-eq0.true, omega arith)

pub returns : goal.returns
returns c =
    let low : get_or c.args.places.now (c.args.signal - 1) 0 < 16 =
    c.requires.places_to (c.args.signal - 1) (omega (arith, c.if-first-signal.false, c.if-signal-eq0.false))
    in
    (stands_input _ _ _ _ c.requires.first_from c.requires.base_from c.if-first-signal.false c.if-signal-eq0.false, omega (arith, low))
