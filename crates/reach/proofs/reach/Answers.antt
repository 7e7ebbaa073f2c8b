-- `reach::reach` meets its contract: each return is a case of the definition.
-- Assumes nothing.
use Rattle.std.proofs.Common.{◌≡◌, refl, sym, ap, ◌∙◌, suc, ◌+◌, ◌*◌, length, add-one, arith}
use Rattle.std.specs.Prelude.{Err}
use Rattle.verdict.specs.declared.Refusal.TheVariants.{Room}
use Rattle.verdict.proofs.Laws.{stop}
use Rattle.table.specs.Table.{states_below}
use Rattle.table.specs.Sound.{Sound}
use Rattle.table.proofs.Accepted.{sound}
use Rattle.table.proofs.Offsets.{Laid, laid}
use Rattle.paths.specs.Places.{all_states}
use Rattle.paths.proofs.Places.{head_is}
use Rattle.reach.specs.Reach.{reach_bytes, reach_checked}
use Rattle.reach.proofs.Bytes.{bytes_length}
use Rattle.reach.proofs.Outcomes.{too_few, enough, refused, accepted}
use Rattle.reach.proofs.reach.Goals as goal
use Rattle.reach.proofs.reach.Goals.{In_ok-check, After-read-layout, After-states_below-states, After-head_bytes}

legal : (c : In_ok-check) → Sound c.args.table.now
legal c = sound _ _ (sym c.in_ok-check.ensures.verdict)

layout_is : (c : After-read-layout) → Laid c.args.table.now c.read-layout.result
layout_is c = laid _ _ (sound _ _ (sym c.in_ok-check.ensures.verdict)).headed c.read-layout.ensures

states_are : (c : After-states_below-states) → c.states_below-states.result ≡ all_states c.args.table.now
unfolding all_states
states_are c =
    let l = laid _ _ (sound _ _ (sym c.in_ok-check.ensures.verdict)).headed c.read-layout.ensures in
    c.states_below-states.ensures.0 ∙ ap (states_below c.args.table.now) (add-one c.read-layout.result.frames ∙ ap suc l.frames_is)

bytes_are : (c : After-head_bytes) → c.states_below-states.result ≡ all_states c.args.table.now → c.head_bytes.result + 2 * (4 * c.states_below-states.result) ≡ length (reach_bytes c.args.table.now)
bytes_are c e =
    let b = c.args.table.now in
    let S = sound b _ (sym c.in_ok-check.ensures.verdict) in
    omega (arith, c.head_bytes.ensures, (laid _ _ S.headed c.read-layout.ensures).frames_is, head_is b, bytes_length b S)

pub returns-in_err-check-clause-verdict : goal.returns-in_err-check-clause-verdict
unfolding reach_checked
returns-in_err-check-clause-verdict c = stop _ _ _ _ c.from_residual.ensures.1 c.in_err-check.ensures.verdict

pub returns-in_err-check-clause-res : goal.returns-in_err-check-clause-res
unfolding reach_checked
returns-in_err-check-clause-res c = let r = c.in_err-check.field-0.0 in refused _ _ r (stop (Err r) r _ _ refl c.in_err-check.ensures.verdict)

pub read-layout-requires : goal.read-layout-requires
read-layout-requires c = (legal (goal.at.read-layout-requires c).In_ok-check).headed

pub overflow_add-layout : goal.overflow_add-layout
overflow_add-layout c = omega (arith, layout_is (goal.at.overflow_add-layout c).After-read-layout)

pub states_below-states-requires : goal.states_below-states-requires
states_below-states-requires c = let l = layout_is (goal.at.states_below-states-requires c).After-read-layout in (omega arith, omega arith)

pub head_bytes-requires : goal.head_bytes-requires
head_bytes-requires c = (layout_is (goal.at.head_bytes-requires c).After-read-layout).frames_to

pub overflow_mul-bytes : goal.overflow_mul-bytes
overflow_mul-bytes c = omega (arith, c.states_below-states.ensures.1, layout_is (goal.at.overflow_mul-bytes c).After-read-layout)

pub overflow_mul-bytes-2 : goal.overflow_mul-bytes-2
overflow_mul-bytes-2 c = omega (arith, c.states_below-states.ensures.1, layout_is (goal.at.overflow_mul-bytes-2 c).After-read-layout)

pub overflow_add-bytes : goal.overflow_add-bytes
overflow_add-bytes c = omega (arith, c.states_below-states.ensures.1, c.head_bytes.ensures, layout_is (goal.at.overflow_add-bytes c).After-read-layout)

pub returns-then-res-bytes-clause-verdict : goal.returns-then-res-bytes-clause-verdict
returns-then-res-bytes-clause-verdict c =
    let at = goal.at.returns-then-res-bytes-clause-verdict c in
    too_few _ _ _ _ c.in_ok-check.ensures.verdict (bytes_are at.After-head_bytes (states_are at.After-states_below-states)) c.if-res-bytes.true

pub returns-then-res-bytes-clause-res : goal.returns-then-res-bytes-clause-res
returns-then-res-bytes-clause-res c =
    let at = goal.at.returns-then-res-bytes-clause-res c in
    refused _ _ (Room _) (too_few _ _ _ _ c.in_ok-check.ensures.verdict (bytes_are at.After-head_bytes (states_are at.After-states_below-states)) c.if-res-bytes.true)

pub write_numbers-requires : goal.write_numbers-requires
write_numbers-requires c =
    let at = goal.at.write_numbers-requires c in
    let S = legal at.In_ok-check in
    let s = states_are at.After-states_below-states in
    record {
      sound = S;
      layout_value = (c.read-layout.ensures, s, omega (arith, c.if-res-bytes.false, bytes_are at.After-head_bytes s, bytes_length c.args.table.now S));
    }

pub returns-clause-verdict : goal.returns-clause-verdict
returns-clause-verdict c =
    let at = goal.at.returns-clause-verdict c in
    enough _ _ _ _ c.in_ok-check.ensures.verdict (bytes_are at.After-head_bytes (states_are at.After-states_below-states)) c.if-res-bytes.false

pub returns-clause-res : goal.returns-clause-res
returns-clause-res c =
    let at = goal.at.returns-clause-res c in
    let n = bytes_are at.After-head_bytes (states_are at.After-states_below-states) in
    accepted _ _ _ _ (enough _ _ _ _ c.in_ok-check.ensures.verdict n c.if-res-bytes.false) n c.write_numbers.ensures
