-- `chains::gates::put_gate` meets its contract.
-- Assumes nothing.
use mathlib.Core.Path.{ap, ◌∙◌}
use mathlib.Core.List.{List, ◌∷◌, []}
use Prim.Native.Nat.{ℕ, ◌+◌, ◌*◌}
use Rattle.words.specs.Words.{stored}
use Rattle.chains.specs.Chains.{gates_stored}
use Rattle.chains.proofs.gates.put_gate.Goals as goal

pub returns : goal.returns
unfolding gates_stored
returns c =
    c.store-2.ensures ∙ ap (λ (v : List ℕ). stored 2 v (8 + 2 * (c.args.target.gates + c.args.k)) (c.args.right ∷ [])) c.store.ensures
