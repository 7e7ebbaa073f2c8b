-- `source::connected_outputs` meets its contract. The invariant: the word is that of the outputs of the frame from j on.
-- Assumes nothing.
use mathlib.Core.Path.{◌≡◌, refl, sym, ap, ◌∙◌}
use mathlib.Core.Bool.{Bool, true, false, not, cond}
use mathlib.Core.List.{List, []}
use Prim.Native.Nat.{ℕ, suc, ◌+◌, ◌*◌, ◌-◌, ◌≤◌, ◌<◌}
use native.Mathlib.Nat.{mul-suc, mul-le-mul_left}
use native.Mathlib.Omega.{arith}
use mir.Val.{bool_byte}
use lib.ListN.{get_or, take, drop, length-take}
use lib.Seq.{take_all}
use Rattle.sizes.specs.Sizes.{outputs, frames}
use Rattle.circuit.specs.Lists.{listed, packed}
use Rattle.circuit.specs.Circuit.{all_outputs, gate_of_output, unconnected, connects, connected_outputs}
use Rattle.circuit.proofs.Laws.{packed_more, packed_below}
use Rattle.circuit.proofs.Lists.{listed_length, listed_at}
use Rattle.source.specs.Source.{sourced}
use Rattle.source.proofs.Sources.{well}
use Rattle.source.proofs.connected_outputs.Goals as goal

bit_most : (x : Bool) → bool_byte x ≤ 1
bit_most true = omega arith
bit_most false = omega arith

module _ (b : List ℕ) (t : ℕ) where
  -- which outputs of the frame are connected
  abbrev flags : List Bool
  flags = listed [] (connects b t) (outputs b)

  -- the word of a part of them is small
  small : (i j : ℕ) → j ≤ 16 → packed (take j (drop i flags)) < 65536
  small i j h = packed_below _ 16 (simp length-take (omega arith))

  -- and half of it where one at least is left
  half : (i j : ℕ) → j ≤ 15 → packed (take j (drop i flags)) < 32768
  half i j h = packed_below _ 15 (simp length-take (omega arith))

  -- the outputs of a frame are within all
  inside : t < frames b → outputs b * t + outputs b ≤ all_outputs b
  unfolding all_outputs
  inside h = let l : suc t ≤ frames b = omega arith in omega (arith, mul-suc (outputs b) t, mul-le-mul_left (outputs b) l)

  -- one more
  flag : (m j i : ℕ) (x : Bool) (w : ℕ) → m ≡ outputs b → 0 < j → j ≤ m → i ≡ m * t + (j - 1) → x ≡ not (unconnected b (gate_of_output b i))
      → w ≡ packed (take (m - j) (drop j flags)) → 2 * w + bool_byte x ≡ packed (take (m - (j - 1)) (drop (j - 1) flags))
  flag m j i x w em lo hi ei ex ew =
      let here : j - 1 < outputs b = omega arith in
      let at : i ≡ outputs b * t + (j - 1) = ei ∙ ap (λ m. m * t + (j - 1)) em in
      let q : x ≡ get_or flags (j - 1) false = ex ∙ ap (λ i. not (unconnected b (gate_of_output b i))) at ∙ sym (listed_at (connects b t) false (outputs b) (j - 1) here) in
      packed_more flags (j - 1) j (m - j) (m - (j - 1)) w (bool_byte x) (omega (arith, listed_length (connects b t) (outputs b))) (omega arith) (omega arith) ew
      (byte x ∙ ap (λ y. cond y 1 0) q)
    where
      byte : (x : Bool) → bool_byte x ≡ cond x 1 0
      byte true = refl
      byte false = refl

pub loop-j-init : goal.loop-j-init
unfolding packed
loop-j-init c =
    let z : c.args.source.outputs - c.args.source.outputs ≡ 0 = omega arith in
    (omega arith, rw z)

pub overflow_mul-first : goal.overflow_mul-first
overflow_mul-first c =
    let W = well _ _ c.requires.0 in
    let i = inside (sourced c.args.source c.args.circuit.now) c.args.t (omega (arith, W.head_is.frames_is, c.requires.1)) in
    rw W.head_is.outputs_is (omega (arith, i, W.headed.outputs_to, W.headed.gates_to))

pub overflow_mul-word : goal.overflow_mul-word
overflow_mul-word c =
    let W = well _ _ c.requires.0 in
    let s = half (sourced c.args.source c.args.circuit.now) c.args.t c.loop-j.j (c.args.source.outputs - c.loop-j.j) (omega (arith, W.head_is.outputs_is, W.headed.sizes.outputs_to)) in
    omega (arith, c.loop-j.invariant.1, s)

pub overflow_add-word : goal.overflow_add-word
overflow_add-word c =
    let W = well _ _ c.requires.0 in
    let s = half (sourced c.args.source c.args.circuit.now) c.args.t c.loop-j.j (c.args.source.outputs - c.loop-j.j) (omega (arith, W.head_is.outputs_is, W.headed.sizes.outputs_to)) in
    omega (arith, c.loop-j.invariant.1, s, bit_most c.is_connected.result)

pub is_connected-requires : goal.is_connected-requires
is_connected-requires c =
    let W = well _ _ c.requires.0 in
    let i = inside (sourced c.args.source c.args.circuit.now) c.args.t (omega (arith, W.head_is.frames_is, c.requires.1)) in
    (c.requires.0, rw W.head_is.outputs_is (omega (arith, i, W.head_is.outputs_is, W.head_is.total_is)))

pub loop-j-preserved : goal.loop-j-preserved
loop-j-preserved c =
    let W = well _ _ c.requires.0 in
    (omega arith, flag (sourced c.args.source c.args.circuit.now) c.args.t c.args.source.outputs c.loop-j.j _ c.is_connected.result c.loop-j.word W.head_is.outputs_is (omega arith) (omega arith) refl c.is_connected.ensures c.loop-j.invariant.1)

pub returns : goal.returns
unfolding connected_outputs
returns c =
    let W = well _ _ c.requires.0 in
    let b = sourced c.args.source c.args.circuit.now in
    let z : c.loop-j.j ≡ 0 = omega arith in
    let m : c.args.source.outputs - c.loop-j.j ≡ outputs b = omega (arith, W.head_is.outputs_is) in
    let e : c.loop-j.word ≡ packed (flags b c.args.t) =
    c.loop-j.invariant.1 ∙ rw (m, z) (ap packed (take_all (outputs b) (flags b c.args.t) (omega (arith, listed_length (connects b c.args.t) (outputs b)))))
    in
    (e, omega (arith, c.loop-j.invariant.1, small b c.args.t c.loop-j.j (c.args.source.outputs - c.loop-j.j) (omega (arith, W.head_is.outputs_is, W.headed.sizes.outputs_to))))
