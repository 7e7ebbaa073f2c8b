-- `quiet::step` meets its contract: each stage is the definition's, and an accepted head gives the move what it requires.
-- Assumes nothing.
use Rattle.std.proofs.Common.{sym, ◌∙◌, true, false}
use Rattle.table.proofs.Accepted.{headed}
use Rattle.quiet.proofs.Stages.{goes_on_timed, heard_as, refused_head, refused_time, refused_move}
use Rattle.quiet.proofs.step.Goals as goal

pub returns-in-Err-clause-answer : goal.returns-in-Err-clause-answer
returns-in-Err-clause-answer c = refused_head _ _ _ c.args.position _ _ c.in-Err.ensures

pub returns-in-Err-check_time-clause-answer : goal.returns-in-Err-check_time-clause-answer
returns-in-Err-check_time-clause-answer c = refused_time _ _ _ c.args.position _ _ _ c.in_default.ensures c.in-Err-check_time.ensures

pub move_on-requires : goal.move_on-requires
move_on-requires c = headed _ _ (sym c.in_default.ensures)

pub returns-in_err-moved-clause-answer : goal.returns-in_err-moved-clause-answer
returns-in_err-moved-clause-answer c =
    refused_move _ _ _ c.args.position _ _ _ c.from_residual.ensures.1
    (goes_on_timed _ _ _ c.args.position _ _ _ _ c.in_default.ensures c.in_default-check_time.ensures c.in_err-moved.ensures)

pub returns-then-is_quiet-clause-answer : goal.returns-then-is_quiet-clause-answer
returns-then-is_quiet-clause-answer c =
    heard_as _ _ _ c.args.position _ true _ (sym c.if-is_quiet.true ∙ c.is_quiet.ensures.quiet)
    (goes_on_timed _ _ _ c.args.position _ _ _ _ c.in_default.ensures c.in_default-check_time.ensures c.in_ok-moved.ensures)

pub returns-clause-answer : goal.returns-clause-answer
returns-clause-answer c =
    heard_as _ _ _ c.args.position _ false _ (sym c.if-is_quiet.false ∙ c.is_quiet.ensures.quiet)
    (goes_on_timed _ _ _ c.args.position _ _ _ _ c.in_default.ensures c.in_default-check_time.ensures c.in_ok-moved.ensures)
