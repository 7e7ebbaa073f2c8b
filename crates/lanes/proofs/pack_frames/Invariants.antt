-- `lanes::pack_frames` meets its contract. The invariant: the words of the first t frames are stored.
-- Assumes nothing.
use mathlib.Core.Path.{◌≡◌}
use mathlib.Core.List.{List, []}
use Prim.Native.Nat.{ℕ, ◌+◌, ◌*◌, ◌≤◌}
use lib.ListN.{length, take, drop}
use Rattle.circuit.specs.Lists.{listed, packed}
use Rattle.lanes.specs.Lanes.{lane}
use Rattle.lanes.proofs.pack_frames.Given as goal

-- the word of frame t
abbrev word : (lanes : List ℕ) (at count j t : ℕ) → ℕ
word lanes at count j t = packed (take count (drop (at + count * t) (lane j lanes)))

abbrev pub invariant-loop-t : goal.invariant-loop-t
invariant-loop-t l =
    (l.t ≤ l.frames) × (l.frames ≡ length l.initial.words) × (length l.words ≡ length l.initial.words) × (take l.t l.words ≡ listed [] (word l.lanes l.at l.count l.j) l.t)
