-- `draw::draw` meets its contract. The invariant: the gates of the first t frames are stored, and the literals of the states that they reach and
-- of their outputs are kept.
-- Assumes nothing.
use mathlib.Core.Path.{◌≡◌, refl, sym, ap, ap₂, subst, ◌∙◌}
use mathlib.Core.List.{[]}
use Prim.Native.Nat.{ℕ, suc, ◌+◌, ◌*◌, ◌≤◌, ◌<◌}
use native.Mathlib.Nat.{mul-zero, mul-suc, mul-le-mul, le_trans}
use native.Mathlib.Numerals.{add-one}
use native.Mathlib.Omega.{arith}
use borrow.Author.Rules.{rules}
use lib.ListN.{length, take}
use Rattle.circuit.specs.Lists.{listed}
use Rattle.circuit.proofs.Lists.{listed_length}
use Rattle.sizes.specs.Sizes.{outputs as outputs_of, frames as frames_of}
use Rattle.table.proofs.Offsets.{laid}
use Rattle.unfolded.specs.Unfolded.{out_literal, frame_gates, drawing, gates_needed}
use Rattle.unfolded.proofs.Drawings.{drawn_length}
use Rattle.chains.specs.Chains.{target_of, gates_stored}
use Rattle.chains.specs.declared.Target.{Target}
use Rattle.chains.proofs.Stored.{gates_none}
use Rattle.draw.specs.Limits.{most_literals}
use Rattle.draw.specs.Draw.{frame_at, StatesKept}
use Rattle.draw.specs.declared.Source.{Source}
use Rattle.draw.proofs.Frames.{frame_ends, frame_room, drawn_more, part_back, outputs_left, outputs_drawn}
use Rattle.draw.proofs.draw.Goals as goal
use Rattle.draw.proofs.draw.Goals.{Start}

aim : (s : Start) → s.args.target ≡ target_of s.args.table.now
aim s = s.requires.target_value.0

frames_are : (s : Start) → s.args.layout.frames ≡ frames_of s.args.table.now
frames_are s = (laid s.args.table.now s.args.layout s.requires.sound.headed s.requires.layout_value).frames_is

outputs_are : (s : Start) → s.args.target.outputs ≡ outputs_of s.args.table.now
outputs_are s = ap (λ (target : Target). target.outputs) (aim s)

gates_are : (s : Start) → s.args.target.gates ≡ gates_needed s.args.table.now
gates_are s = ap (λ (target : Target). target.gates) (aim s)

-- behind the gates of all frames, those of the outputs have room
room : (s : Start) (t k : ℕ) → t ≡ frames_of s.args.table.now → k ≡ length (drawing s.args.table.now t).gates
    → k + outputs_of s.args.table.now * frames_of s.args.table.now ≤ s.args.target.gates
unfolding gates_needed
room s t k e p =
    let b = s.args.table.now in
    omega (arith, gates_are s, drawn_length b, p, ap (λ (t : ℕ). length (drawing b t).gates) e)

pub loop-t-init : goal.loop-t-init
unfolding drawing
loop-t-init c =
    let m : ℕ = c.args.target.outputs in (
      omega arith,
      refl,
      sym (gates_none _ _ _),
      record { long = search rules; kept = c.start_states-states.ensures },
      rw (mul-zero m) refl,
      search rules,
    )

pub loop-t-preserved : goal.loop-t-preserved
unfolding gates_needed
loop-t-preserved c =
    let s = (goal.at.loop-t-preserved c).Start in
    let b = c.args.table.now in
    let t : ℕ = c.loop-t.t in
    let m : ℕ = c.args.target.outputs in
    let fit = c.requires.target_value.1 in
    let early : t < frames_of b = omega (arith, c.loop-t-test.true, frames_are s) in
    let places : m * t + m ≤ most_literals = omega (arith, mul-suc m t, mul-le-mul fit.outputs_to (le_trans early c.requires.sound.headed.sized.frames_to)) in
    let frame-of : c.read-source.result.frame ≡ t = ap (λ (p : Source). p.frame) c.read-source.ensures in
    let first_of : c.read-source.result.first ≡ c.loop-t.k = ap (λ (p : Source). p.first) c.read-source.ensures in
    let next : suc c.read-source.result.frame ≡ t + 1 = omega (arith, frame-of) in
    let outs = c.put_frame-k.ensures.outputs ∙ ap (λ (t : ℕ). listed [] (out_literal (frame_at b t)) m) frame-of in
    let space : m * t + m ≤ length c.loop-t.outputs = omega (arith, places, c.loop-t.invariant.5) in (
      omega (arith, c.loop-t-test.true),
      c.put_frame-k.ensures.end ∙ ap (λ (t : ℕ). length (drawing b t).gates) next,
      drawn_more b c.args.target.gates c.args.res.now c.loop-t.res _ t c.loop-t.k c.loop-t.invariant.2 c.loop-t.invariant.1
          (c.put_frame-k.ensures.gates ∙ (λ i. gates_stored c.args.target.gates (first_of i) c.loop-t.res (frame_gates (frame_at b (frame-of i)))))
          (omega (arith, gates_are s, frame_ends b t, frame_room b t early)) fit.room
          ∙ ap (λ (t : ℕ). gates_stored c.args.target.gates 0 c.args.res.now (drawing b t).gates) (sym (add-one t)),
      subst (λ (t : ℕ). StatesKept b t c.put_frame-k.new.states) next c.put_frame-k.ensures.states,
      outputs_left b c.loop-t.outputs _ _ t m (outputs_are s) c.loop-t.invariant.4 (omega arith) outs ∙ ap (λ (t : ℕ). (drawing b t).outputs) (sym (add-one t)),
      part_back c.loop-t.outputs c.put_frame-k.new.outputs (m * t) m most_literals (ap length outs ∙ listed_length _ m) space c.loop-t.invariant.5,
    )

pub put_outputs-requires-clause-table_bound : goal.put_outputs-requires-clause-table_bound
put_outputs-requires-clause-table_bound c =
    let s = (goal.at.put_outputs-requires-clause-table_bound c).Start in
    let ended : c.loop-t.t ≡ frames_of c.args.table.now = omega (arith, c.loop-t-test.false, c.loop-t.invariant.0, frames_are s) in
    let total_is : c.args.target.outputs * c.args.layout.frames ≡ outputs_of c.args.table.now * frames_of c.args.table.now = λ i. outputs_are s i * frames_are s i in
    let h : c.args.layout.frames ≤ 16 = omega (arith, frames_are s, c.requires.sound.headed.sized) in
    let few_outputs : c.args.target.outputs * c.args.layout.frames ≤ most_literals = mul-le-mul c.requires.target_value.1.outputs_to h in
    (room s c.loop-t.t c.loop-t.k ended c.loop-t.invariant.1, omega (arith, few_outputs, total_is, c.loop-t.invariant.5))

pub returns : goal.returns
returns c =
    let s = (goal.at.returns c).Start in
    let b = c.args.table.now in
    let ended : c.loop-t.t ≡ frames_of b = omega (arith, c.loop-t-test.false, c.loop-t.invariant.0, frames_are s) in
    outputs_drawn b c.args.target.gates c.args.res.now c.loop-t.res _ c.loop-t.k c.loop-t.outputs
    (c.loop-t.invariant.2 ∙ ap (λ (t : ℕ). gates_stored c.args.target.gates 0 c.args.res.now (drawing b t).gates) ended)
    (c.loop-t.invariant.1 ∙ ap (λ (t : ℕ). length (drawing b t).gates) ended)
    (ap₂ (λ (m t : ℕ). take (m * t) c.loop-t.outputs) (sym (outputs_are s)) (sym ended) ∙ c.loop-t.invariant.4 ∙ ap (λ (t : ℕ). (drawing b t).outputs) ended)
    c.put_outputs.ensures (room s c.loop-t.t c.loop-t.k ended c.loop-t.invariant.1) c.requires.target_value.1.room
