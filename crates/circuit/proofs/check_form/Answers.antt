-- `circuit::check_form` meets its contract: each stage is the definition's, and an accepted stage gives the next one what it requires.
-- Assumes nothing.
use mathlib.Core.Path.{ap, ◌∙◌}
use Prim.Native.Nat.{ℕ, ◌+◌, ◌*◌}
use Rattle.verdict.proofs.Laws.{stop, go_on}
use Rattle.circuit.specs.Circuit.{lefts_at, rights_at, literals_checked, form_within}
use Rattle.circuit.proofs.check_form.Goals as goal

pub returns-in_err-check_head : goal.returns-in_err-check_head
unfolding form_within
returns-in_err-check_head c = stop _ _ _ _ c.from_residual.ensures.1 c.in_err-check_head.ensures.verdict

pub returns-in_err-check_literals : goal.returns-in_err-check_literals
unfolding form_within lefts_at
returns-in_err-check_literals c =
    go_on _ _ _ _ c.in_ok-check_head.ensures.verdict (stop _ _ _ _ c.from_residual-in_err-check_literals.ensures.1 c.in_err-check_literals.ensures)

pub returns : goal.returns
unfolding form_within lefts_at rights_at
returns c =
    go_on _ _ _ _ c.in_ok-check_head.ensures.verdict
    (go_on _ _ _ _ c.in_ok-check_literals.ensures
    (c.check_literals-2.ensures ∙ ap (λ (n : ℕ). literals_checked c.args.circuit.now (8 + 2 * n)) c.read-head.ensures.gates_is))
