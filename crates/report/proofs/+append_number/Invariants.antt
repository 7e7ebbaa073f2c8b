-- The cycle of calls {append_number}. The measure is the number.
-- Assumes nothing.
use Rattle.report.proofs.+append_number.Given as goal

abbrev pub decreases-append_number : goal.decreases-append_number
decreases-append_number l = l.number
