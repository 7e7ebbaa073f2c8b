-- `table::head::check_counts` meets its contract. The invariant: what the definition says of all counts is what it says of those from t on.
-- Assumes nothing.
use mathlib.Core.Path.{◌≡◌, sym, ap, ap₂, ◌∙◌}
use mathlib.Core.Bool.{Bool, ◌||◌, cond}
use mathlib.Core.List.{List}
use Prim.Native.Nat.{ℕ, suc, ◌+◌, ◌-◌}
use native.Mathlib.Omega.{arith}
use lib.Dec.{eqb}
use Rattle.table.specs.Limits.{end_states, most_states}
use Rattle.verdict.specs.Judgements.{answer, refuse_first}
use Rattle.verdict.proofs.Laws.{first_here, first_later, first-none}
use Rattle.sizes.specs.Sizes.{frames, outside}
use Rattle.table.specs.Table.{count_at, states, counts_checked}
use Rattle.table.proofs.head.check_counts.Goals as goal

-- the count of layer t is out of its limits
abbrev wrong : List ℕ → ℕ → Bool
wrong b t = outside 1 (cond (eqb t 0 || eqb t (frames b)) end_states most_states) (states b t)

pub loop-t-init : goal.loop-t-init
unfolding counts_checked
loop-t-init c =
    let z : suc (frames c.args.table.now) ≡ c.args.last + 1 - 0 = omega arith in
    (omega arith, ap (refuse_first (wrong c.args.table.now) 2 count_at (answer 0 0) 0) z)

pub returns-then-is_outside : goal.returns-then-is_outside
unfolding count_at
returns-then-is_outside c =
    let judged : wrong c.args.table.now c.loop-t.t ≡ c.is_outside.result =
    let most = c.most_states.ensures ∙ ap (λ (l : ℕ). cond (eqb c.loop-t.t 0 || eqb c.loop-t.t l) end_states most_states) c.requires.last_value in
    sym (c.is_outside.ensures ∙ ap₂ (outside 1) most c.states_of.ensures.0)
    in
    sym (c.loop-t.invariant.1 ∙ first_here _ _ _ _ _ _ (omega arith) (judged ∙ c.if-is_outside.true))

pub loop-t-preserved : goal.loop-t-preserved
loop-t-preserved c =
    let judged : wrong c.args.table.now c.loop-t.t ≡ c.is_outside.result =
    let most = c.most_states.ensures ∙ ap (λ (l : ℕ). cond (eqb c.loop-t.t 0 || eqb c.loop-t.t l) end_states most_states) c.requires.last_value in
    sym (c.is_outside.ensures ∙ ap₂ (outside 1) most c.states_of.ensures.0)
    in
    (omega arith, c.loop-t.invariant.1 ∙ first_later _ _ _ _ _ _ (omega arith) (judged ∙ c.if-is_outside.false))

pub returns : goal.returns
returns c =
    sym (c.loop-t.invariant.1 ∙ first-none _ _ _ _ _ _ (omega arith))
