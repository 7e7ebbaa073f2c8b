use mathlib.Core.Path.{refl, sym, subst}
use Prim.Native.Nat.{◌-◌, ◌<◌}
use native.Mathlib.Omega.{arith}
use lib.ListN.{length}
use Rattle.std.specs.Prelude.{Some}
use Rattle.diagrams.specs.Making.{Joined}
use Rattle.nodes.specs.Nodes.{SoughtId}
use Rattle.nodes.proofs.Seeking.{join_one}
use Rattle.records.specs.Records.{nodes_in}
use Rattle.records.proofs.Laws.{stored_added, stored_same}
use Rattle.records.proofs.join.Goals as goal

pub put_node-requires : goal.put_node-requires
put_node-requires c =
    let S : SoughtId c.args.room (nodes_in c.args.nodes.now) c.args.level c.args.low c.args.high (Some c.in_ok-id.id) = c.in_ok-id.ensures in
    let o = S.one_is c.in_ok-id.id refl in
    (o.0, omega (arith, o.1, c.requires))

-- the record is put where the search ended
pub returns-clause-is : goal.returns-clause-is
returns-clause-is c =
    let S : SoughtId c.args.room (nodes_in c.args.nodes.now) c.args.level c.args.low c.args.high (Some c.in_ok-id.id) = c.in_ok-id.ensures in
    let o = S.one_is c.in_ok-id.id refl in
    let k : c.in_ok-id.id - 2 < length c.args.nodes.now = omega (arith, o.0, o.1, c.requires) in
    subst (λ zs. Joined c.args.room (nodes_in c.args.nodes.now) (nodes_in zs) c.args.level c.args.low c.args.high c.in_ok-id.id) (sym c.put_node.ensures)
    (join_one c.args.room (nodes_in c.args.nodes.now) _ c.args.level c.args.low c.args.high c.if-high-eq-NONE.false c.if-low-high.false c.in_ok-id.id S
    (stored_same c.args.nodes.now c.in_ok-id.id _ o.0 k) (stored_added c.args.nodes.now c.in_ok-id.id _ o.0 k))
