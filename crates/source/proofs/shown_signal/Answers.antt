-- `source::shown_signal` meets its contract.
-- Assumes nothing.
use mathlib.Core.Path.{refl}
use native.Mathlib.Omega.{arith}
use Rattle.circuit.proofs.Found.{is_found, none_is}
use Rattle.source.proofs.Standing.{shown_none, shown_item}
use Rattle.source.proofs.shown_signal.Goals as goal

pub overflow_add-result-in-Some : goal.overflow_add-result-in-Some
overflow_add-result-in-Some c = omega (arith, is_found _ _ _ c.in-Some.ensures, c.requires.1, c.requires.2)

pub returns-in-Some : goal.returns-in-Some
returns-in-Some c =
    let f = is_found _ _ _ c.in-Some.ensures in
    (shown_item c.args.source c.args.q _ f.0 (omega (arith, f)), omega (arith, f, c.requires.1, c.requires.2))

pub returns-in-None : goal.returns-in-None
returns-in-None c = (shown_none c.args.source c.args.q _ refl (none_is _ _ c.in-None.ensures), omega arith)
