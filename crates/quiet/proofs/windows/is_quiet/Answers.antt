-- `quiet::windows::is_quiet` meets its contract. The invariant: a minute is quiet where one of the windows that are left holds it.
-- Assumes nothing.
use Rattle.std.proofs.Common.{◌≡◌, sym, ap, ◌∙◌, Bool, ◌||◌, List, ℕ, arith}
use Rattle.std.specs.Slice.Iter.{chunks_exact_rest}
use Rattle.quiet.specs.Windows.{is_quiet}
use Rattle.quiet.proofs.Minutes.{window, no_more}
use Rattle.quiet.proofs.windows.is_quiet.Goals as goal
use Rattle.quiet.proofs.windows.is_quiet.Goals.{After-holds}

-- a window, and those behind it
shown : (c : After-holds) → is_quiet c.args.windows.now c.args.minute ≡ (c.holds.result || is_quiet (chunks_exact_rest c.next.new.self) c.args.minute)
shown c =
    let s = c.in-Some.ensures.steps in
    c.loop-window.invariant.1
    ∙ ap (λ (ws : List ℕ). is_quiet ws c.args.minute) s.1.0
    ∙ window c.in-Some.window.now _ c.args.minute (s.1.1 ∙ c.loop-window.invariant.0)
    ∙ ap (λ (x : Bool). x || is_quiet (chunks_exact_rest c.next.new.self) c.args.minute) (sym c.holds.ensures)

pub returns-then-holds-clause-quiet : goal.returns-then-holds-clause-quiet
returns-then-holds-clause-quiet c =
    sym (shown (goal.at.returns-then-holds-clause-quiet c).After-holds ∙ ap (λ (x : Bool). x || is_quiet (chunks_exact_rest c.next.new.self) c.args.minute) c.if-holds.true)

pub loop-window-preserved : goal.loop-window-preserved
loop-window-preserved c = (
  c.in-Some.ensures.steps.0 ∙ c.loop-window.invariant.0,
  shown (goal.at.loop-window-preserved c).After-holds ∙ ap (λ (x : Bool). x || is_quiet (chunks_exact_rest c.next.new.self) c.args.minute) c.if-holds.false,
)

pub returns-clause-quiet : goal.returns-clause-quiet
returns-clause-quiet c = sym (c.loop-window.invariant.1 ∙ no_more _ c.args.minute (omega (arith, c.in-None.ensures.steps.1.0)))
