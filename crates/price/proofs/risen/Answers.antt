-- `price::risen` meets its contract.
-- Assumes nothing.
use native.Mathlib.Omega.{arith}
use borrow.Author.Tests.{lt-ltb, le-ltb}
use Rattle.price.specs.Tariff.{plain_frames}
use Rattle.price.specs.Price.{rise, risen}
use Rattle.price.proofs.risen.Goals as goal

pub returns-then-frames-le-PLAIN_FRAMES : goal.returns-then-frames-le-PLAIN_FRAMES
unfolding risen
returns-then-frames-le-PLAIN_FRAMES c =
    rw (le-ltb plain_frames c.args.frames (omega arith)) (omega arith)

pub returns : goal.returns
unfolding rise risen
returns c =
    rw (lt-ltb plain_frames c.args.frames (omega arith))
