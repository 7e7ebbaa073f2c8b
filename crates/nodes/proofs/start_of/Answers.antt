use mathlib.Core.Path.{refl}
use native.Mathlib.Nat.{mod-lt}
use native.Mathlib.Omega.{arith}
use Rattle.diagrams.specs.Making.{home}
use Rattle.nodes.proofs.Laws.{scaled_fits, scaled_small, scaled_more}
use Rattle.nodes.proofs.start_of.Goals as goal

-- src/lib.rt:135:6
pub overflow_mul-result : goal.overflow_mul-result
overflow_mul-result c =
    record { fits = scaled_fits _ c.args.room (mod-lt _ (omega arith)) (omega (arith, c.requires)) }

-- src/lib.rt:135:5
pub overflow_cast-result-2 : goal.overflow_cast-result-2
overflow_cast-result-2 c =
    record { fits = scaled_small _ c.args.room (mod-lt _ (omega arith)) (omega (arith, c.requires)) }

-- src/lib.rt:135:5
pub overflow_add-result : goal.overflow_add-result
overflow_add-result c =
    record { fits = scaled_more _ c.args.room (mod-lt _ (omega arith)) c.requires }

-- src/lib.rt:137:1
pub returns : goal.returns
unfolding home
returns c = λ _. refl
