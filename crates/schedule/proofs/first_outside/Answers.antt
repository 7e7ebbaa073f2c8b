-- `schedule::first_outside` meets its contract.
-- Assumes nothing.
use Rattle.std.proofs.Common.{rules, tests, ◌≡◌, ◌∙◌}
use lib.Dec.{leb}
use Rattle.std.specs.List.{position}
use Rattle.std.proofs.lemmas.Iterator.{YieldsList-from_slice}
use Rattle.std.proofs.lemmas.Iterator.Search.{position_from_yields_List}
use Rattle.circuit.proofs.Found.{position_found}
use Rattle.schedule.proofs.first_outside.Goals as goal

pub returns : goal.returns
returns c =
    let p : c.position.result ≡ position (leb c.args.count) c.args.list.now =
    position_from_yields_List (leb c.args.count) _ _ c.position.result c.position.ensures.ran (YieldsList-from_slice _ c.iter.ensures.rest) (λ x b q k. search (rules, tests))
    in
    p ∙ position_found (leb c.args.count) 0 c.args.list.now
