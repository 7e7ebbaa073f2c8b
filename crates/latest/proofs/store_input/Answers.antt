-- `latest::store_input` meets its contract. The invariant: the latest frames of input k of the first t frames are stored too.
-- Assumes nothing.
use mathlib.Core.Path.{◌≡◌, refl, ◌∙◌, subst}
use Prim.Native.Nat.{◌+◌, ◌*◌, ◌<◌}
use native.Mathlib.Omega.{arith}
use lib.Arith.{digits_lt}
use lib.ListN.{length, length-set}
use Rattle.latest.proofs.Laws.{InputTo, input_more, input_all}
use Rattle.latest.proofs.store_input.Goals.{In-loop-t}
use Rattle.latest.proofs.store_input.Goals as goal

-- the signal is one of the inputs
inside : (c : In-loop-t) → c.loop-t.t * c.args.inputs + c.args.k < c.args.frames * c.args.inputs
inside c = digits_lt {q = c.loop-t.t} {m = c.args.frames} (omega (arith, c)) c.requires.k_lt_inputs.0

pub loop-t-init : goal.loop-t-init
loop-t-init c =
    (omega arith, refl, (c.requires.inputs_to, λ f h. absurd (omega arith)))

pub loop-t-preserved : goal.loop-t-preserved
loop-t-preserved c =
    let s = 1 + (c.loop-t.t * c.args.inputs + c.args.k) in
    let room : s < length c.loop-t.latest = omega (arith, inside (goal.at.loop-t-preserved c).In-loop-t, c.loop-t.invariant.1, c.requires) in (
      omega (arith, c),
      length-set c.loop-t.latest s _ ∙ c.loop-t.invariant.1,
      input_more c.args.inputs c.args.frames c.args.k c.loop-t.t s _ c.loop-t.latest c.requires.k_lt_inputs.0 refl (omega arith) room c.loop-t.invariant.2,
    )

pub returns : goal.returns
returns c =
    let e : c.loop-t.t ≡ c.args.frames = omega (arith, c, c.loop-t.invariant.0) in
    input_all c.args.inputs c.args.frames c.args.k c.loop-t.latest (subst (λ t. InputTo c.args.inputs c.args.frames c.args.k t c.loop-t.latest) e c.loop-t.invariant.2)
