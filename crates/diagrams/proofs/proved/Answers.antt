-- The contract of `proved`.
use Rattle.diagrams.proofs.Canonical.{canonical}
use Rattle.diagrams.proofs.Counted.{counted}
use Rattle.diagrams.proofs.Cut.{cut}
use Rattle.diagrams.proofs.Frames.{states_by_cut}
use Rattle.diagrams.proofs.Forward.{in_forward_order}
use Rattle.diagrams.proofs.Classes.{states_by_classes, leads_tell}
use Rattle.diagrams.proofs.proved.Goals as goal

pub returns : goal.returns
returns c =
    record {
      canonical = canonical;
      counted = counted;
      cut = cut;
      states = states_by_cut;
      forward = in_forward_order;
      classes = states_by_classes;
      leads = leads_tell;
    }
