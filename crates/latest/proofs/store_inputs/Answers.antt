-- `latest::store_inputs` meets its contract. The invariant: the latest frames of the constant and of inputs 0 to k - 1 of every frame are stored.
-- Assumes nothing.
use mathlib.Core.Path.{◌≡◌, refl, ◌∙◌, subst}
use native.Mathlib.Omega.{arith}
use lib.ListN.{length-set}
use Rattle.latest.specs.Latest.{InputsTo}
use Rattle.latest.proofs.Laws.{inputs_none, inputs_all, input_only}
use Rattle.latest.proofs.store_inputs.Goals as goal

pub loop-k-init : goal.loop-k-init
loop-k-init c =
    (omega arith, refl, inputs_none c.args.inputs c.args.frames c.args.latest.now (omega (arith, c.requires)))

pub store_input-requires : goal.store_input-requires
store_input-requires c =
    record {
      k_lt_inputs = omega (arith, c, c.requires, c.loop-k.invariant.1, length-set c.args.latest.now 0 0);
      inputs_to = c.loop-k.invariant.2;
    }

pub loop-k-preserved : goal.loop-k-preserved
loop-k-preserved c =
    (omega (arith, c), c.store_input.auto.latest ∙ c.loop-k.invariant.1, c.store_input.ensures)

pub returns : goal.returns
returns c =
    let e : c.loop-k.k ≡ c.args.inputs = omega (arith, c, c.loop-k.invariant.0) in
    let stored : InputsTo c.args.inputs c.args.frames c.args.inputs c.loop-k.latest = subst (λ k. InputsTo c.args.inputs c.args.frames k c.loop-k.latest) e c.loop-k.invariant.2 in record {
      frames = inputs_all c.args.inputs c.args.frames c.loop-k.latest c.requires.0 (omega (arith, c.loop-k.invariant.1, length-set c.args.latest.now 0 0, c.requires)) stored;
      only = input_only c.args.inputs c.args.frames c.loop-k.latest c.requires.0 stored;
    }
