-- `build::make` meets its contract: the node of an input is joined, the AND of a pair made.
-- Assumes nothing.
use mathlib.Core.Path.{refl}
use Rattle.build.specs.Build.{an_input, an_and}
use Rattle.build.proofs.make.Goals as goal

pub conjoin-requires : goal.conjoin-requires
conjoin-requires c =
    c.requires.pair _ c.in-And.is

pub returns-in-Input-clause-is : goal.returns-in-Input-clause-is
returns-in-Input-clause-is c =
    an_input _ c.in-Input.is c.join.ensures.is refl

pub returns-in-And-clause-is : goal.returns-in-And-clause-is
returns-in-And-clause-is c =
    an_and _ c.in-And.is c.conjoin.ensures.is
