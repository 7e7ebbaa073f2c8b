-- The proof of the cycle of calls {append_number}. Where the ways to the last digit meet, one lemma says that it makes the number whole.
-- Assumes nothing.
use mathlib.Core.List.{List}
use Prim.Native.Nat.{ℕ, ◌+◌, ◌%◌, ◌<◌}
use native.Mathlib.Omega.{arith}
use lib.ListN.{set, length, length-set}
use Rattle.report.specs.Report.{decimal, Appended}
use Rattle.report.proofs.Decimal.{one_more}
use Rattle.report.proofs.Appending.{append_length, append_only, append_last}
use Rattle.report.proofs.+append_number.Goals as goal
use Rattle.report.proofs.+append_number.Goals.{then-number-lt10, else-number-lt10}

-- where a number is made whole by its last digit, there is room for it
last_in : (b : List ℕ) (at n : ℕ) (c : List ℕ) (i : ℕ) → Appended b at (decimal n) (set c i (48 + n % 10)) (i + 1) → i < length c
last_in b at n c i p = omega (arith, p.within, append_length p, length-set c i (48 + n % 10))

pub append_number-last-requires : goal.append_number-last-requires
append_number-last-requires t c = (omega arith, omega (arith, one_more c.args.number c.if-number-lt10.false))

pub bounds-out-last : goal.bounds-out-last
bounds-out-last t c =
    last_in c.args.out.now c.args.at c.args.number c.if-number-lt10.out c.if-number-lt10.last
    (elim c.if-number-lt10.branch [
      | then-number-lt10 w ↦ append_only c.args.out.now c.args.at c.args.number c.requires c.if-number-lt10.out c.if-number-lt10.last w.if-number-lt10.true w.out-is w.last-is
      | else-number-lt10 w ↦ append_last c.args.out.now c.args.at c.args.number c.requires c.if-number-lt10.out _ c.if-number-lt10.last _ w.if-number-lt10.false w.append_number-last.ensures w.out-is w.last-is
    ])

pub returns : goal.returns
returns t c =
    elim c.if-number-lt10.branch [
      | then-number-lt10 w ↦ append_only c.args.out.now c.args.at c.args.number c.requires c.if-number-lt10.out c.if-number-lt10.last w.if-number-lt10.true w.out-is w.last-is
      | else-number-lt10 w ↦ append_last c.args.out.now c.args.at c.args.number c.requires c.if-number-lt10.out _ c.if-number-lt10.last _ w.if-number-lt10.false w.append_number-last.ensures w.out-is w.last-is
    ]
