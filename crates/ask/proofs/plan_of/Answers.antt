-- `ask::plan_of` meets its contract.
-- Assumes nothing.
use Rattle.source.specs.Source.{sourced}
use Rattle.source.proofs.Sources.{well}
use Rattle.ask.proofs.Plans.{plan_is}
use Rattle.ask.proofs.plan_of.Goals as goal

pub bytes_needed-bytes-requires : goal.bytes_needed-bytes-requires
bytes_needed-bytes-requires c =
    record {
      source_of = c.requires.0;
      counted = c.requires.2;
    }

pub returns : goal.returns
returns c =
    let W = well _ _ c.requires.0 in
    plan_is (sourced c.args.source c.args.circuit.now) c.args.counts _ _ _ _ c.requires.1 W.headed.sizes.frames_from c.requires.2 W.head_is.inputs_is W.head_is.outputs_is W.head_is.frames_is c.bytes_needed-bytes.ensures
