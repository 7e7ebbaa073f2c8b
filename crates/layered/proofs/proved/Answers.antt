-- The contract of `proved`: what proofs/Theorems proves. `Injects`, which no clause can state, is cited beside it.
use Rattle.layered.specs.Theorems.{Injects}
use Rattle.layered.proofs.Theorems.{theorems, rows, entry_stands, injects}
use Rattle.layered.proofs.proved.Goals as goal

pub returns : goal.returns
returns c =
    let cited : Injects = injects in
    record {
      theorems = theorems;
      rows = rows;
      entries = entry_stands;
    }
