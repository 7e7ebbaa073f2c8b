-- `causal::first_differing` meets its contract. The invariant: the outputs before q are on this part as on the first sequences, whose lanes are kept,
-- of the others what was kept of the part before still is, and `frame` is not after output q.
-- Assumes nothing.
use mathlib.Core.Path.{◌≡◌, refl}
use mathlib.Core.Bool.{true}
use mathlib.Core.List.{List}
use Prim.Native.Nat.{ℕ, ◌-◌, ◌^◌, ◌≤◌, ◌<◌}
use native.Mathlib.Omega.{arith}
use lib.ListN.{length, get_or, length-set}
use Rattle.layered.proofs.Search.{below_suc}
use Rattle.circuit.specs.Lists.{block_start}
use Rattle.circuit.specs.Circuit.{all_outputs, output_on, later_inputs}
use Rattle.circuit.proofs.Frames.{not_after_first, not_after_next}
use Rattle.source.specs.Source.{head_of, sourced}
use Rattle.source.proofs.Sources.{well}
use Rattle.lanes.specs.Limits.{lane_count}
use Rattle.blocks.specs.Blocks.{Holds}
use Rattle.causal.specs.Played.{Outputs, Firsts, part_as_first}
use Rattle.causal.proofs.Parts.{output_few, frame_in, later_is, later_to, due_holds, part_same, part_apart, firsts_more, firsts_rest}
use Rattle.causal.proofs.first_differing.Goals.{In-loop-q, After-first_of_blocks-due}
use Rattle.causal.proofs.first_differing.Goals as goal

-- output q is one of all, and so there is room for it
inside : (c : In-loop-q) → c.loop-q.q < all_outputs (sourced c.args.source c.args.circuit.now)
inside c = omega (arith, c, c.requires.lane_count_value)

few : (c : In-loop-q) → c.loop-q.q < 256
few c =
    let W = well _ _ c.requires.source_of in
    omega (arith, output_few (sourced c.args.source c.args.circuit.now) W.headed (head_of c.args.source) W.head_is c.loop-q.q (inside c))

room : (c : In-loop-q) → c.loop-q.q < length c.loop-q.kept
room c = omega (arith, few c, c.loop-q.invariant.2, c.requires)

-- what is seen of it on this part, and what is due: its values on the first sequences that agree
seen : (b shown lanes : List ℕ) (at q : ℕ) → Outputs b shown at lanes → q < all_outputs b → Holds (get_or lanes (get_or shown q 0) 0) at (output_on b q)
unfolding Outputs
seen b shown lanes at q O h = O q h

due : (c : After-first_of_blocks-due) → Holds c.first_of_blocks-due.result c.args.at (λ x. output_on (sourced c.args.source c.args.circuit.now) c.loop-q.q (block_start (later_inputs (sourced c.args.source c.args.circuit.now) c.loop-q.q) x))
unfolding Firsts
due c =
    let W = well _ _ c.requires.source_of in
    let i : c.loop-q.q < all_outputs (sourced c.args.source c.args.circuit.now) = omega (arith, c, c.requires.lane_count_value) in
    due_holds (sourced c.args.source c.args.circuit.now) c.args.at c.loop-q.q _ _ c.first_of_blocks-due.result _
    (later_is (sourced c.args.source c.args.circuit.now) W.headed (head_of c.args.source) W.head_is c.loop-q.q i c.output_frame-frame.result c.output_frame-frame.ensures.frame)
    (seen _ _ _ _ _ c.requires.outputs i)
    (λ p. c.loop-q.invariant.5 p c.loop-q.q (omega arith) (omega (arith, c)))
    c.first_of_blocks-due.ensures

pub loop-q-init : goal.loop-q-init
unfolding Firsts
loop-q-init c = (
  omega arith,
  omega (arith, c.requires),
  refl,
  λ i lo hi. absurd (omega arith),
  λ i lo hi. absurd (omega arith),
  c.requires.firsts,
  not_after_first _ _,
)

pub output_frame-frame-requires : goal.output_frame-frame-requires
output_frame-frame-requires c =
    let W = well _ _ c.requires.source_of in
    record {
      le_outputs = omega (arith, W, few (goal.at.output_frame-frame-requires c).In-loop-q);
      not_after = c.loop-q.invariant.6;
    }

pub overflow_sub-later : goal.overflow_sub-later
overflow_sub-later c =
    let W = well _ _ c.requires.source_of in
    frame_in (sourced c.args.source c.args.circuit.now) W.headed (head_of c.args.source) W.head_is c.loop-q.q (inside (goal.at.overflow_sub-later c).In-loop-q) c.output_frame-frame.result c.output_frame-frame.ensures.frame

pub offset_bounds-shown-q : goal.offset_bounds-shown-q
offset_bounds-shown-q c = omega (arith, few (goal.at.offset_bounds-shown-q c).In-loop-q)

pub offset_bounds-kept-q : goal.offset_bounds-kept-q
offset_bounds-kept-q c = omega (arith, few (goal.at.offset_bounds-kept-q c).In-loop-q)

pub offset_bounds-kept-q-in-loop-q : goal.offset_bounds-kept-q-in-loop-q
offset_bounds-kept-q-in-loop-q c = omega (arith, few (goal.at.offset_bounds-kept-q-in-loop-q c).In-loop-q)

pub bounds-shown-q : goal.bounds-shown-q
bounds-shown-q c = omega (arith, few (goal.at.bounds-shown-q c).In-loop-q, c.requires.most_signals_in_bounds.2.as_many)

pub bounds-kept-q : goal.bounds-kept-q
bounds-kept-q c = room (goal.at.bounds-kept-q c).In-loop-q

pub bounds-kept-q-in-loop-q : goal.bounds-kept-q-in-loop-q
bounds-kept-q-in-loop-q c = room (goal.at.bounds-kept-q-in-loop-q c).In-loop-q

pub first_of_blocks-due-requires : goal.first_of_blocks-due-requires
first_of_blocks-due-requires c =
    let W = well _ _ c.requires.source_of in
    (later_to (sourced c.args.source c.args.circuit.now) W.headed (head_of c.args.source) W.head_is c.loop-q.q (inside (goal.at.first_of_blocks-due-requires c).In-loop-q) c.output_frame-frame.result c.output_frame-frame.ensures.frame, c.requires.lane_count_value.0)

pub returns-then-seen-due : goal.returns-then-seen-due
returns-then-seen-due c =
    let s = seen _ _ _ _ _ c.requires.outputs (inside (goal.at.returns-then-seen-due c).In-loop-q) in
    let d = due (goal.at.returns-then-seen-due c).After-first_of_blocks-due in
    let fits : get_or c.args.lanes.now (get_or c.args.shown.now c.loop-q.q 0) 0 < 2 ^ lane_count = omega (arith, c.type_inv.lanes (get_or c.args.shown.now c.loop-q.q 0)) in
    let fits-2 : c.first_of_blocks-due.result < 2 ^ lane_count = omega (arith, c.first_of_blocks-due) in record {
      first_differing = record {
        r_from = c.loop-q.invariant.0;
        r_to = c.loop-q.invariant.1;
        before = c.loop-q.invariant.3;
        there = λ h. part_apart (sourced c.args.source c.args.circuit.now) c.args.at c.loop-q.q _ _ s d fits fits-2 c.if-seen-due.true;
      };
      firsts_2 = c.loop-q.invariant.4;
    }

pub loop-q-preserved : goal.loop-q-preserved
loop-q-preserved c =
    let at : In-loop-q = (goal.at.loop-q-preserved c).In-loop-q in
    let s = seen _ _ _ _ _ c.requires.outputs (inside at) in
    let d = due (goal.at.loop-q-preserved c).After-first_of_blocks-due in
    let q = c.loop-q.q in (
      omega (arith, c.loop-q.invariant),
      omega (arith, c),
      simp length-set c.loop-q.invariant.2,
      λ j lo hi.
          below_suc {P = λ j. c.args.from ≤ j → part_as_first (sourced c.args.source c.args.circuit.now) c.args.at j ≡ true} {n = q} (λ j h lo. c.loop-q.invariant.3 j lo h)
          (λ _. part_same (sourced c.args.source c.args.circuit.now) c.args.at q _ _ s d c.if-seen-due.false) j (omega arith) lo,
      firsts_more (sourced c.args.source c.args.circuit.now) c.args.at c.loop-q.kept q c.first_of_blocks-due.result c.args.from (room at) c.loop-q.invariant.4 d,
      λ p. firsts_rest (sourced c.args.source c.args.circuit.now) (c.args.at - lane_count) c.loop-q.kept q c.first_of_blocks-due.result c.args.found (c.loop-q.invariant.5 p),
      not_after_next _ c.output_frame-frame.result q c.output_frame-frame.ensures.only.0,
    )

pub returns : goal.returns
returns c =
    let e : c.loop-q.q ≡ c.args.found = omega (arith, c.loop-q.invariant) in record {
      first_differing = record {
        r_from = omega (arith, c.requires);
        r_to = omega arith;
        before = λ q lo hi. c.loop-q.invariant.3 q lo (omega arith);
        there = λ h. absurd (omega arith);
      };
      firsts_2 = rw (← e) c.loop-q.invariant.4;
    }
