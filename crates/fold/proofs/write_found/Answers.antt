-- `fold::write_found` meets its contract: what is refused leaves the result, and what is accepted is written.
-- Assumes nothing.
use Rattle.fold.proofs.Judged.{short, countable, refused, tabled, ends_written}
use Rattle.fold.proofs.write_found.Goals as goal

pub returns-in_err-counts : goal.returns-in_err-counts
returns-in_err-counts c =
    short _ _ c.args.wanted _ _ _ c.args.res.now c.requires.1 _ c.in_err-counts.was _ c.from_residual.ensures.1

pub judge_counts-requires : goal.judge_counts-requires
judge_counts-requires c =
    let k = countable _ _ c.args.wanted _ _ _ c.args.res.now c.requires.1 _ c.in_ok-counts.was in
    (c.requires.0, k.0, k.1)

pub returns-in_err-bytes : goal.returns-in_err-bytes
returns-in_err-bytes c =
    refused _ _ c.args.wanted _ _ _ c.args.res.now c.requires.1 _ c.in_ok-counts.was _ c.in_err-bytes.ensures _ c.from_residual-in_err-bytes.ensures.1

pub write_table-requires : goal.write_table-requires
write_table-requires c =
    (c.requires.0, tabled _ _ c.args.wanted _ _ _ c.args.res.now c.requires.1 _ c.in_ok-counts.was _ c.in_ok-bytes.ensures)

pub returns : goal.returns
returns c =
    ends_written _ _ c.args.wanted _ _ _ c.args.res.now c.requires.1 _ c.in_ok-counts.was _ c.in_ok-bytes.ensures _ c.write_table.ensures
