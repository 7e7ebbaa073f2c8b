-- `causal::own_bit` meets its contract: the same bit, none, or the place's, whose frame is counted.
-- Assumes nothing.
use mathlib.Core.Path.{◌≡◌, sym, ◌∙◌}
use mathlib.Core.Bool.{false}
use Prim.Native.Nat.{ℕ, ◌+◌, ◌*◌, ◌-◌, ◌≤◌, ◌<◌}
use native.Mathlib.Omega.{arith}
use lib.ListN.{get_or}
use Rattle.circuit.proofs.Frames.{not_after_first}
use Rattle.circuit.specs.Circuit.{frame_of}
use Rattle.source.specs.declared.Source.{Source}
use Rattle.causal.specs.Played.{Placed, own_bit}
use Rattle.causal.proofs.Places.{frame_to, frame_start, later_most, in_frame, place-bit, own_whole, own_none, own_place}
use Rattle.causal.proofs.own_bit.Goals as goal

-- what is known of a network: its places lie inside
module _ (s : Source) (i : ℕ) (known : Placed s) (h : i + 1 < s.own.base) where
  inside : get_or s.places i 0 < s.inputs * s.frames
  inside = known.places_in i h

  module _ (r : ℕ) (er : r ≡ frame_of s.inputs (get_or s.places i 0)) where
    to : r ≤ s.frames
    to = frame_to _ _ _ _ known.inputs_from inside er

    from : (r - 1) * s.inputs ≤ get_or s.places i 0
    from = frame_start _ _ _ _ known.inputs_from inside er

    most : (s.frames - r) * s.inputs + s.inputs ≤ s.inputs * s.frames
    most = later_most _ _ _ _ known.inputs_from inside er

    rest : get_or s.places i 0 - (r - 1) * s.inputs < s.inputs
    rest = in_frame _ _ _ _ known.inputs_from inside er

    is : s.whole ≡ false → (s.frames - r) * s.inputs + (get_or s.places i 0 - (r - 1) * s.inputs) ≡ own_bit s i
    is e = place-bit _ _ _ _ known.inputs_from inside er ∙ sym (own_place _ _ e h)

pub returns-then-source : goal.returns-then-source
returns-then-source c =
    (own_whole _ _ c.if-source.true, c.requires.0)

pub returns-then-source-i : goal.returns-then-source-i
returns-then-source-i c =
    (own_none _ _ c.if-source.false c.if-source-i.true, omega arith)

pub output_frame-frame-requires : goal.output_frame-frame-requires
output_frame-frame-requires c =
    let k = c.requires.1 c.if-source.false in
    let p = inside c.args.source c.args.i k (omega (arith, c.if-source-i.false)) in
    record {
      le_outputs = (k.inputs_from, omega (arith, k.inputs_to), omega (arith, p, k.bits_to));
      not_after = not_after_first _ _;
    }

pub returns : goal.returns
returns c =
    let k = c.requires.1 c.if-source.false in
    let h : c.args.i + 1 < c.args.source.own.base = omega (arith, c.if-source-i.false) in
    let e = c.output_frame-frame.ensures.frame in
    (is c.args.source c.args.i k h _ e c.if-source.false, omega (arith, most c.args.source c.args.i k h _ e, rest c.args.source c.args.i k h _ e, k.bits_to))
