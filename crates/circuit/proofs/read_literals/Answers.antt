-- `circuit::read_literals` meets its contract.
-- Assumes nothing.
use mathlib.Core.Path.{◌≡◌, ap, ◌∙◌}
use Prim.Native.Nat.{◌+◌, ◌*◌}
use native.Mathlib.Omega.{arith}
use Rattle.words.specs.Words.{word_at}
use Rattle.circuit.specs.Circuit.{gates, lefts_at, rights_at, literal_at}
use Rattle.circuit.proofs.read_literals.Goals as goal

pub returns : goal.returns
unfolding lefts_at literal_at rights_at
returns c =
    let p : 8 + 2 * (c.args.head.gates + c.args.g) ≡ 8 + 2 * gates c.args.circuit.now + 2 * c.args.g = omega (arith, c.requires.head_of.gates_is) in
    λ i. record { left = c.read-left.ensures.0 i; right = (c.read-right.ensures.0 ∙ ap (word_at c.args.circuit.now) p) i }
