-- `lanes::first_uses` meets its contract. The invariant: what is noted holds of the gates from g on.
-- Assumes nothing.
use mathlib.Core.Path.{◌≡◌, refl, ap, ◌∙◌, subst}
use Prim.Native.Nat.{ℕ, suc, ◌+◌, ◌-◌, ◌≤◌}
use native.Mathlib.Omega.{arith}
use Rattle.sizes.specs.Limits.{most_bits}
use Rattle.lanes.specs.Lanes.{FirstUses}
use Rattle.lanes.proofs.Laws.{noted, uses_none, uses_more}
use Rattle.lanes.proofs.first_uses.Goals as goal

pub loop-g-init : goal.loop-g-init
loop-g-init c =
    (omega (arith, c.requires), refl, uses_none c.args.circuit.now (1 + most_bits) c.args.head.gates)

pub note_use-requires : goal.note_use-requires
note_use-requires c =
    let base-in : (n : ℕ) → n ≡ 1 + most_bits → c.args.head.base ≤ n =
    λ n e. omega (arith, c.requires)
    in
    base-in _ c.loop-g.invariant.1

pub note_use-requires-in-loop-g : goal.note_use-requires-in-loop-g
note_use-requires-in-loop-g c =
    let base-in : (n : ℕ) → n ≡ 1 + most_bits → c.args.head.base ≤ n =
    λ n e. omega (arith, c.requires)
    in
    base-in _ (c.note_use.auto.firsts ∙ c.loop-g.invariant.1)

pub loop-g-preserved : goal.loop-g-preserved
loop-g-preserved c =
    let base-in : (n : ℕ) → n ≡ 1 + most_bits → c.args.head.base ≤ n =
    λ n e. omega (arith, c.requires)
    in
    let g : c.loop-g.g ≡ suc (c.loop-g.g - 1) = omega (arith, c) in (
      omega (arith, c),
      c.note_use-in-loop-g.auto.firsts ∙ c.note_use.auto.firsts ∙ c.loop-g.invariant.1,
      uses_more c.args.circuit.now c.loop-g.firsts _ c.args.head.base c.read_gate-gate.result.left c.read_gate-gate.result.right (c.loop-g.g - 1) c.requires.head_is.base_is
          (base-in _ c.loop-g.invariant.1) c.read_gate-gate.ensures.left_is c.read_gate-gate.ensures.right_is
          (c.note_use-in-loop-g.ensures ∙ ap (λ f. noted f c.args.head.base c.read_gate-gate.result.right (c.loop-g.g - 1)) c.note_use.ensures) (subst (λ n. FirstUses c.args.circuit.now n c.loop-g.firsts) g c.loop-g.invariant.2),
    )

pub returns : goal.returns
returns c =
    let z : c.loop-g.g ≡ 0 = omega arith in
    subst (λ n. FirstUses c.args.circuit.now n c.loop-g.firsts) z c.loop-g.invariant.2
