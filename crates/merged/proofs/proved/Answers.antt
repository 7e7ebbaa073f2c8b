-- `merged::proved` meets its contract: the theorems.
-- Assumes nothing.
use Rattle.merged.proofs.Demands.{by_demands}
use Rattle.merged.proofs.Numbers.{in_order_all}
use Rattle.merged.proofs.Matching.{tested}
use Rattle.merged.proofs.Undecided.{undecided_zero}
use Rattle.merged.proofs.Chosen.{first_is_chosen, none_exactly, only, same_machine, first_found, none_found}
use Rattle.merged.proofs.proved.Goals as goal

pub returns : goal.returns
returns c =
    record {
      tested = tested;
      first = first_is_chosen;
      none = none_exactly;
      only = only;
      undecided = undecided_zero;
      alike = same_machine;
      demands = by_demands;
      order = in_order_all;
      found = first_found;
      unfound = none_found;
    }
