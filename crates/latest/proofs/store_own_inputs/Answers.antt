-- `latest::store_own_inputs` meets its contract. The invariant: the latest frames of the constant and the first i inputs are stored.
-- Assumes nothing.
use mathlib.Core.Path.{◌≡◌, refl, ap, ◌∙◌}
use mathlib.Core.Bool.{false}
use Prim.Native.Nat.{◌+◌, ◌*◌, ◌<◌}
use native.Mathlib.Omega.{arith}
use lib.ListN.{length, get_or, length-set}
use Rattle.circuit.specs.Circuit.{all_inputs}
use Rattle.circuit.specs.WellFormed.{WellFormed}
use Rattle.circuit.specs.declared.Head.{Head}
use Rattle.circuit.proofs.Frames.{inputs_are, not_after_first}
use Rattle.source.specs.Source.{head_of, sourced, Spreads}
use Rattle.source.proofs.Sources.{well, is_whole, is_spread}
use Rattle.latest.proofs.Laws.{own_inputs_whole, placed_none, placed_more, placed_all}
use Rattle.latest.proofs.store_own_inputs.Goals as goal

-- ---- a circuit as it stands
pub store_inputs-requires : goal.store_inputs-requires
store_inputs-requires c =
    let known : WellFormed (sourced c.args.source c.requires.by_index.0) (head_of c.args.source) =
    well _ _ c.requires.by_index.1
    in
    let all-inputs : c.args.source.frames * c.args.source.inputs ≡ all_inputs (sourced c.args.source c.requires.by_index.0) =
    inputs_are _ _ _ known.head_is.inputs_is known.head_is.frames_is
    in
    omega (arith, known, all-inputs, c.requires.most_signals_in_bounds)

pub returns-then-source : goal.returns-then-source
returns-then-source c =
    let known : WellFormed (sourced c.args.source c.requires.by_index.0) (head_of c.args.source) =
    well _ _ c.requires.by_index.1
    in
    let all-inputs : c.args.source.frames * c.args.source.inputs ≡ all_inputs (sourced c.args.source c.requires.by_index.0) =
    inputs_are _ _ _ known.head_is.inputs_is known.head_is.frames_is
    in
    let O = is_whole _ _ c.requires.by_index.1 c.if-source.true in
    let own : c.args.source.own.base ≡ c.args.source.base = ap (λ (h : Head). h.base) O.own_is in
    own_inputs_whole c.args.source _ _ c.if-source.true (omega (arith, own, known.head_is.base_is, all-inputs)) c.store_inputs.ensures.frames

-- ---- a network
pub loop-i-init : goal.loop-i-init
loop-i-init c =
    (omega arith, refl, placed_none c.args.source c.args.latest.now (omega (arith, c.requires.most_signals_in_bounds)))

pub output_frame-requires : goal.output_frame-requires
output_frame-requires c =
    let spreads : c.args.source.whole ≡ false → Spreads c.requires.by_index.0 c.args.source =
    λ e. is_spread _ _ c.requires.by_index.1 e
    in
    let of-turn : Spreads c.requires.by_index.0 c.args.source =
    spreads c.if-source.false
    in
    let inside : get_or c.args.source.places c.loop-i.i 0 < 16 =
    let P = of-turn in omega (arith, P.places_in c.loop-i.i (omega (arith, c.loop-i-test.true, P.network.head_is.base_is)), P.sizes.bits_to)
    in
    record {
      le_outputs = omega (arith, of-turn.sizes, inside);
      not_after = not_after_first _ _;
    }

pub loop-i-preserved : goal.loop-i-preserved
loop-i-preserved c =
    let spreads : c.args.source.whole ≡ false → Spreads c.requires.by_index.0 c.args.source =
    λ e. is_spread _ _ c.requires.by_index.1 e
    in
    let of-turn : Spreads c.requires.by_index.0 c.args.source =
    spreads c.if-source.false
    in
    let few : c.loop-i.i < 16 =
    let P = of-turn in omega (arith, c.loop-i-test.true, P.network.head_is.base_is, P.network.headed.inputs_to)
    in
    let room : 1 + c.loop-i.i < length c.loop-i.latest =
    omega (arith, few, c.loop-i.invariant.1, length-set c.args.latest.now 0 0, c.requires.most_signals_in_bounds)
    in (
      omega (arith, c.loop-i-test.true),
      length-set c.loop-i.latest (1 + c.loop-i.i) c.output_frame.result ∙ c.loop-i.invariant.1,
      placed_more c.args.source c.loop-i.latest c.loop-i.i c.output_frame.result room c.loop-i.invariant.2 c.output_frame.ensures.frame,
    )

pub returns : goal.returns
returns c =
    let spreads : c.args.source.whole ≡ false → Spreads c.requires.by_index.0 c.args.source =
    λ e. is_spread _ _ c.requires.by_index.1 e
    in
    placed_all c.args.source c.loop-i.latest c.loop-i.i c.if-source.false (omega (arith, c.loop-i-test.false, c.loop-i.invariant.0, (spreads c.if-source.false).network.head_is.base_is)) c.loop-i.invariant.2
