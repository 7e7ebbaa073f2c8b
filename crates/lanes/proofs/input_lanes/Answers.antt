-- `lanes::input_lanes` meets its contract: an input of the history is a bit of its number, a later one is zero.
-- Assumes nothing.
use mathlib.Core.Path.{sym, ◌∙◌}
use Prim.Native.Nat.{◌+◌, ◌*◌, ◌-◌, ◌<◌}
use native.Mathlib.Omega.{arith}
use lib.Arith.{digits_lt}
use Rattle.circuit.proofs.Bits.{bit_none}
use Rattle.lanes.specs.Lanes.{NumberLanes}
use Rattle.lanes.proofs.Laws.{input_bit_lem, input_none}
use Rattle.lanes.proofs.input_lanes.Goals as goal

pub returns-then-t-frame : goal.returns-then-t-frame
returns-then-t-frame c T h ht N j lj =
    bit_none j ∙ sym (input_none c.args.inputs T c.args.t (h j) c.args.frame c.args.k c.requires.0 c.requires.1 ht (omega (arith, c.if-t-frame)))

pub returns : goal.returns
unfolding NumberLanes
returns c T h ht N j lj =
    let place : (c.args.t - c.args.frame) * c.args.inputs + c.args.k < c.args.t * c.args.inputs =
    digits_lt {q = c.args.t - c.args.frame} {m = c.args.t} (omega (arith, c.requires, c.if-t-frame.false)) c.requires.1
    in
    N j _ lj (omega (arith, place, c.requires)) ∙ sym (input_bit_lem c.args.inputs T c.args.t (h j) c.args.frame c.args.k c.requires.0 c.requires.1 ht c.if-t-frame.false)
