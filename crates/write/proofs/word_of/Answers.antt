-- `write::word_of` meets its contract. The invariant: the word so far is that of the outputs from k on.
-- Assumes nothing.
use mathlib.Core.Path.{◌≡◌, refl, sym, ap, ap₂, ◌∙◌}
use mathlib.Core.Bool.{Bool, true, false, cond}
use mathlib.Core.List.{List, []}
use Prim.Native.Nat.{ℕ, ◌+◌, ◌-◌, ◌≤◌, ◌<◌}
use native.Mathlib.Omega.{arith}
use lib.Dec.{eqb}
use package.mir.Val.{bool_byte}
use lib.Seq.{take_all}
use lib.ListN.{get_or, take, drop, length-take}
use Rattle.circuit.specs.Lists.{packed, listed}
use Rattle.circuit.proofs.Lists.{listed_length, listed_at}
use Rattle.circuit.proofs.Laws.{packed_below, packed_more}
use Rattle.write.specs.Write.{word_in}
use Rattle.write.proofs.word_of.Goals as goal

-- the bits of all outputs
abbrev bits_in : (ws : List ℕ) (from m : ℕ) → List Bool
bits_in ws from m = listed [] (λ j. eqb (get_or ws (from + j) 0) 1) m

-- a truth value as a digit
byte-most : (v : Bool) → bool_byte v ≤ 1
byte-most true = omega arith
byte-most false = omega arith

byte-is : (v : Bool) → bool_byte v ≡ cond v 1 0
byte-is true = refl
byte-is false = refl

pub loop-k-init : goal.loop-k-init
unfolding packed
loop-k-init c =
    let z : c.args.outputs - c.args.outputs ≡ 0 = omega arith in
    (omega arith, rw z)

pub loop-k-preserved : goal.loop-k-preserved
loop-k-preserved c =
    let v = bits_in c.args.work.now c.args.from c.args.outputs in
    let f : ℕ → Bool = λ j. eqb (get_or c.args.work.now (c.args.from + j) 0) 1 in
    let i : ℕ = c.loop-k.k - 1 in (
      omega arith,
      packed_more v i c.loop-k.k (c.args.outputs - c.loop-k.k) (c.args.outputs - i) c.loop-k.word (bool_byte (f i))
          (omega (arith, listed_length f c.args.outputs)) (omega arith) (omega arith) c.loop-k.invariant.1
          (byte-is (f i) ∙ ap (λ (t : Bool). cond t 1 0) (sym (listed_at f false c.args.outputs i (omega arith)))),
    )

pub returns : goal.returns
unfolding word_in
returns c =
    let f : ℕ → Bool = λ j. eqb (get_or c.args.work.now (c.args.from + j) 0) 1 in
    let x : c.args.outputs - c.loop-k.k ≡ c.args.outputs = omega arith in
    let z : c.loop-k.k ≡ 0 = omega arith in
    c.loop-k.invariant.1 ∙ ap₂ (λ (x y : ℕ). packed (take x (drop y (bits_in c.args.work.now c.args.from c.args.outputs)))) x z
    ∙ ap packed (take_all c.args.outputs (listed [] f c.args.outputs) (omega (arith, listed_length f c.args.outputs)))

pub overflow_mul-word : goal.overflow_mul-word
overflow_mul-word c =
    let small : c.loop-k.word < 32768 =
    let p = packed_below (take (c.args.outputs - c.loop-k.k) (drop c.loop-k.k (bits_in c.args.work.now c.args.from c.args.outputs))) 15 (simp length-take (omega arith)) in
    omega (arith, p)
    in
    omega (arith, small)

pub overflow_add-word-in-loop-k : goal.overflow_add-word-in-loop-k
overflow_add-word-in-loop-k c =
    let small : c.loop-k.word < 32768 =
    let p = packed_below (take (c.args.outputs - c.loop-k.k) (drop c.loop-k.k (bits_in c.args.work.now c.args.from c.args.outputs))) 15 (simp length-take (omega arith)) in
    omega (arith, p)
    in
    omega (arith, small, byte-most (eqb (get_or c.args.work.now (c.args.from + (c.loop-k.k - 1)) 0) 1))
