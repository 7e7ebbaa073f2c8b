-- `source::item_at` meets its contract: the first output that names the place, or of a circuit as it stands the one with its number.
-- Assumes nothing.
use Rattle.std.proofs.Common.{rules, tests, ◌≡◌, ◌∙◌, ap, eqb, take, arith}
use Rattle.std.specs.List.{position}
use Rattle.std.proofs.lemmas.Iterator.{YieldsList-from_slice}
use Rattle.std.proofs.lemmas.Iterator.Search.{position_from_yields_List}
use Rattle.circuit.specs.Found.{found}
use Rattle.circuit.proofs.Found.{then_some_found}
use Rattle.source.proofs.Standing.{item_whole, item_position}
use Rattle.source.proofs.item_at.Goals as goal

pub returns-then-source : goal.returns-then-source
returns-then-source c = c.then_some.ensures ∙ then_some_found _ _ ∙ ap (found _) (item_whole c.args.source c.args.q c.if-source.true)

pub returns : goal.returns
returns c =
    let p : c.position.result ≡ position (λ x. eqb x c.args.q) (take c.args.source.own.total c.args.source.shown) =
    position_from_yields_List (λ x. eqb x c.args.q) _ _ c.position.result c.position.ensures.ran (YieldsList-from_slice _ c.iter.ensures.rest) (λ x b q k. search (rules, tests))
    in
    p ∙ item_position c.args.source c.args.q c.if-source.false (omega arith)
