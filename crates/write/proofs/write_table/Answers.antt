-- `write::write_table` meets its contract: head, outputs and next states are stored one behind the other, and are the table's words.
-- Assumes nothing.
use mathlib.Core.Path.{◌≡◌, ap, ◌∙◌}
use native.Mathlib.Omega.{arith}
use Rattle.sizes.specs.Sizes.{frames}
use Rattle.table.specs.Table.{head_length}
use Rattle.circuit.specs.WellFormed.{WellFormed}
use Rattle.source.specs.Source.{head_of, sourced}
use Rattle.source.proofs.Sources.{well}
use Rattle.write.specs.Write.{LayoutFor}
use Rattle.write.proofs.Tables.{layable, layout_is, head_room, writable, nexts_fit, written}
use Rattle.write.proofs.write_table.Goals as goal

pub put_head-requires : goal.put_head-requires
put_head-requires c = record {
  source_of = c.requires.0;
  counts_to = c.requires.1.known.counted;
  circuit_in_bounds = head_room (sourced c.args.source c.args.circuit.now) _ _ _ _ _ c.requires.1;
}

pub layout_of-layout-requires : goal.layout_of-layout-requires
layout_of-layout-requires c =
    let known : WellFormed (sourced c.args.source c.args.circuit.now) (head_of c.args.source) = well _ _ c.requires.0 in
    layable (sourced c.args.source c.args.circuit.now) c.requires.1.accepted (head_of c.args.source) known.head_is

pub put_outputs-requires : goal.put_outputs-requires
put_outputs-requires c =
    let known : WellFormed (sourced c.args.source c.args.circuit.now) (head_of c.args.source) = well _ _ c.requires.0 in
    let laid : LayoutFor (sourced c.args.source c.args.circuit.now) c.layout_of-layout.result = layout_is (sourced c.args.source c.args.circuit.now) c.requires.1.accepted (head_of c.args.source) known.head_is _ c.layout_of-layout.ensures in
    let at_is : c.head_length-at.result ≡ head_length (frames (sourced c.args.source c.args.circuit.now)) = c.head_length-at.ensures ∙ ap head_length known.head_is.frames_is in
    writable (sourced c.args.source c.args.circuit.now) _ _ _ _ _ c.requires.1 _ laid c.put_head.new.res _ c.put_head.auto.res at_is

pub nexts_from-nexts-requires : goal.nexts_from-nexts-requires
nexts_from-nexts-requires c =
    let known : WellFormed (sourced c.args.source c.args.circuit.now) (head_of c.args.source) = well _ _ c.requires.0 in
    let laid : LayoutFor (sourced c.args.source c.args.circuit.now) c.layout_of-layout.result = layout_is (sourced c.args.source c.args.circuit.now) c.requires.1.accepted (head_of c.args.source) known.head_is _ c.layout_of-layout.ensures in
    let fit = nexts_fit (sourced c.args.source c.args.circuit.now) _ _ _ _ _ c.requires.1 _ laid c.put_outputs.new.res (c.put_outputs.auto.res ∙ c.put_head.auto.res) in
    (fit.laid, omega (arith, fit.counted.places))

pub put_nexts-requires : goal.put_nexts-requires
put_nexts-requires c =
    let known : WellFormed (sourced c.args.source c.args.circuit.now) (head_of c.args.source) = well _ _ c.requires.0 in
    let laid : LayoutFor (sourced c.args.source c.args.circuit.now) c.layout_of-layout.result = layout_is (sourced c.args.source c.args.circuit.now) c.requires.1.accepted (head_of c.args.source) known.head_is _ c.layout_of-layout.ensures in
    rw c.nexts_from-nexts.ensures (nexts_fit (sourced c.args.source c.args.circuit.now) _ _ _ _ _ c.requires.1 _ laid c.put_outputs.new.res (c.put_outputs.auto.res ∙ c.put_head.auto.res))

pub returns : goal.returns
returns c =
    let known : WellFormed (sourced c.args.source c.args.circuit.now) (head_of c.args.source) = well _ _ c.requires.0 in
    let laid : LayoutFor (sourced c.args.source c.args.circuit.now) c.layout_of-layout.result = layout_is (sourced c.args.source c.args.circuit.now) c.requires.1.accepted (head_of c.args.source) known.head_is _ c.layout_of-layout.ensures in
    let at_is : c.head_length-at.result ≡ head_length (frames (sourced c.args.source c.args.circuit.now)) = c.head_length-at.ensures ∙ ap head_length known.head_is.frames_is in
    let put = rw c.nexts_from-nexts.ensures at c.put_nexts.ensures in
    written (sourced c.args.source c.args.circuit.now) _ _ _ _ _ c.requires.1 _ laid c.put_head.new.res c.put_outputs.new.res c.put_nexts.new.res c.put_outputs.new.work _ at_is c.put_head.auto.res (c.put_outputs.auto.res ∙ c.put_head.auto.res) c.put_head.ensures c.put_outputs.ensures put
