-- `write::word_of` meets its contract. The invariant: the word so far is that of the outputs from k on.
-- Assumes nothing.
use mathlib.Core.Path.{◌≡◌, refl}
use mathlib.Core.Bool.{Bool, true, false, cond}
use mathlib.Core.List.{List, []}
use Prim.Native.Nat.{ℕ, ◌+◌, ◌-◌, ◌≤◌}
use native.Mathlib.Omega.{arith}
use lib.Dec.{eqb}
use package.mir.Val.{bool_byte}
use lib.ListN.{get_or, take, drop}
use Rattle.circuit.specs.Lists.{packed, listed}
use Rattle.write.proofs.word_of.Given as goal

-- the bits of all outputs
abbrev bits_in : (ws : List ℕ) (from m : ℕ) → List Bool
bits_in ws from m = listed [] (λ j. eqb (get_or ws (from + j) 0) 1) m

-- a truth value as a digit
byte-most : (v : Bool) → bool_byte v ≤ 1
byte-most true = omega arith
byte-most false = omega arith

byte-is : (v : Bool) → bool_byte v ≡ cond v 1 0
byte-is true = refl
byte-is false = refl

abbrev pub invariant-loop-k : goal.invariant-loop-k
invariant-loop-k l =
    (l.k ≤ l.outputs) × (l.word ≡ packed (take (l.outputs - l.k) (drop l.k (bits_in l.work l.from l.outputs))))
