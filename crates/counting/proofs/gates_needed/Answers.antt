-- `counting::gates_needed` meets its contract. The invariant: what the output gates and the first t frames need is added up.
-- Assumes nothing.
use mathlib.Core.Path.{◌≡◌, sym, ap, ◌∙◌}
use Prim.Native.Nat.{◌+◌, ◌*◌, ◌≤◌}
use native.Mathlib.Nat.{mul-le-mul}
use native.Mathlib.Omega.{arith}
use Rattle.sizes.specs.Sizes.{outputs as outputs_of, frames as frames_of}
use Rattle.sizes.specs.declared.Sizes.{Sizes}
use Rattle.layered.specs.Search.{total}
use Rattle.table.proofs.Offsets.{laid}
use Rattle.unfolded.specs.Counted.{frame_needs}
use Rattle.unfolded.proofs.Counts.{gates-needed}
use Rattle.layered.proofs.Lists.{total_next}
use Rattle.counting.proofs.gates_needed.Goals as goal
use Rattle.counting.proofs.gates_needed.Goals.{Start}

frames_are : (s : Start) → s.args.layout.frames ≡ frames_of s.args.table.now
frames_are s = (laid s.args.table.now s.args.layout s.requires.sound.headed s.requires.layout_value.0).frames_is

outputs_are : (s : Start) → s.args.sizes.outputs ≡ outputs_of s.args.table.now
outputs_are s = ap (λ (z : Sizes). z.outputs) s.requires.layout_value.1

pub loop-t-init : goal.loop-t-init
unfolding total
loop-t-init c =
    let s = (goal.at.loop-t-init c).Start in
    let m : c.args.sizes.outputs ≤ 16 = omega (arith, outputs_are s, c.requires.sound.headed.sized) in
    let t : c.args.layout.frames ≤ 16 = omega (arith, frames_are s, c.requires.sound.headed.sized) in
    let few : c.args.sizes.outputs * c.args.layout.frames ≤ 256 = mul-le-mul m t in
    (omega arith, omega arith, omega (arith, few))

pub loop-t-preserved : goal.loop-t-preserved
loop-t-preserved c = (
  omega (arith, c.loop-t-test.true),
  omega (arith, c.loop-t.invariant.1, c.frame_needs-gates.ensures.0, total_next (frame_needs (c.args.table.now)) c.loop-t.t),
  omega (arith, c.loop-t.invariant.2, c.frame_needs-gates.ensures.1),
)

pub returns : goal.returns
returns c =
    let s = (goal.at.returns c).Start in
    let b = c.args.table.now in
    let e : c.loop-t.t ≡ frames_of b = omega (arith, c.loop-t-test.false, c.loop-t.invariant.0, frames_are s) in (
      c.loop-t.invariant.1 ∙ (λ i. total (e i) (frame_needs b) + outputs_are s i * frames_are s i) ∙ sym (gates-needed b c.requires.sound.legal),
      omega (arith, c.loop-t.invariant.2, e, c.requires.sound.headed.sized),
    )
