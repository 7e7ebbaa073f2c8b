-- The contract of `proved`.
use Rattle.functions.proofs.Signals.{signals_family, few_nodes}
use Rattle.functions.proofs.Outputs.{outputs_respond, responses_read}
use Rattle.functions.proofs.proved.Goals as goal

pub returns : goal.returns
returns c =
    record {
      family = signals_family;
      respond = outputs_respond;
      read = responses_read;
      few = few_nodes;
    }
