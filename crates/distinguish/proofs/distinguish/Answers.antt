-- `distinguish::distinguish` meets its contract: each return is a case of the definition.
-- Assumes nothing.
use Rattle.std.proofs.Common.{refl, sym, ap, ◌∙◌, ◌++◌, ◌-◌, ◌≤◌, ◌<◌, length, drop, arith}
use Rattle.std.specs.Prelude.{Err}
use lib.Pow.{pow_pos}
use Rattle.verdict.specs.declared.Refusal.TheVariants.{Room}
use Rattle.verdict.proofs.Laws.{stop, told}
use Rattle.sizes.specs.Sizes.{inputs, frames}
use Rattle.layered.specs.Histories.{history_words}
use Rattle.layered.proofs.Histories.{history_length}
use Rattle.table.specs.Table.{states}
use Rattle.table.specs.Sound.{Sound}
use Rattle.table.proofs.Accepted.{sound}
use Rattle.table.proofs.Offsets.{Laid, laid}
use Rattle.distinguish.specs.Distinguish.{distinguish_checked}
use Rattle.distinguish.proofs.Theorems.{pair_in}
use Rattle.distinguish.proofs.Outcomes.{refused, accepted, pair_judged, no_room, room}
use Rattle.distinguish.proofs.distinguish.Goals as goal
use Rattle.distinguish.proofs.distinguish.Goals.{In_ok-check, After-read-layout, In_ok-check_pair}

legal : (c : In_ok-check) → Sound c.args.table.now
legal c = sound _ _ (sym c.in_ok-check.ensures.verdict)

layout_is : (c : After-read-layout) → Laid c.args.table.now c.read-layout.result
layout_is c = laid _ _ (sound _ _ (sym c.in_ok-check.ensures.verdict)).headed c.read-layout.ensures

pair_is : (c : In_ok-check_pair) → (c.args.layer ≤ frames c.args.table.now) × (c.args.first < states c.args.table.now c.args.layer) × (c.args.second < states c.args.table.now c.args.layer)
pair_is c = pair_in _ _ _ _ _ (sym c.in_ok-check_pair.ensures)

pub returns-in_err-check-clause-verdict : goal.returns-in_err-check-clause-verdict
unfolding distinguish_checked
returns-in_err-check-clause-verdict c = stop _ _ _ _ c.from_residual.ensures.1 c.in_err-check.ensures.verdict

pub returns-in_err-check-clause-res : goal.returns-in_err-check-clause-res
unfolding distinguish_checked
returns-in_err-check-clause-res c = let r = c.in_err-check.field-0.0 in refused _ _ _ _ _ r (stop (Err r) r _ _ refl c.in_err-check.ensures.verdict)

pub read-layout-requires : goal.read-layout-requires
read-layout-requires c = (legal (goal.at.read-layout-requires c).In_ok-check).headed

pub check_pair-requires : goal.check_pair-requires
check_pair-requires c = ((legal (goal.at.check_pair-requires c).In_ok-check).headed, c.read-layout.ensures)

pub returns-in_err-check_pair-clause-verdict : goal.returns-in_err-check_pair-clause-verdict
returns-in_err-check_pair-clause-verdict c =
    told _ _ _ c.from_residual-in_err-check_pair.ensures.1 (pair_judged _ _ _ _ c.args.res.now _ _ c.in_ok-check.ensures.verdict c.in_err-check_pair.ensures)

pub returns-in_err-check_pair-clause-res : goal.returns-in_err-check_pair-clause-res
returns-in_err-check_pair-clause-res c = refused _ _ _ _ _ _ (pair_judged _ _ _ _ _ _ _ c.in_ok-check.ensures.verdict c.in_err-check_pair.ensures)

pub overflow_sub-left : goal.overflow_sub-left
overflow_sub-left c =
    let at = goal.at.overflow_sub-left c in
    omega (arith, pair_is at.In_ok-check_pair, layout_is at.After-read-layout)

pub returns-then-res-left-clause-verdict : goal.returns-then-res-left-clause-verdict
returns-then-res-left-clause-verdict c =
    let l = layout_is (goal.at.returns-then-res-left-clause-verdict c).After-read-layout in
    no_room _ _ _ _ c.args.res.now _ _ c.in_ok-check.ensures.verdict c.in_ok-check_pair.ensures _ (ap (λ n. n - c.args.layer) l.frames_is) c.if-res-left.true

pub returns-then-res-left-clause-res : goal.returns-then-res-left-clause-res
returns-then-res-left-clause-res c =
    let l = layout_is (goal.at.returns-then-res-left-clause-res c).After-read-layout in
    refused _ _ _ _ _ (Room _) (no_room _ _ _ _ _ _ _ c.in_ok-check.ensures.verdict c.in_ok-check_pair.ensures _ (ap (λ n. n - c.args.layer) l.frames_is) c.if-res-left.true)

-- ---- there is room
pub entries_below-requires : goal.entries_below-requires
entries_below-requires c =
    let at = goal.at.entries_below-requires c in
    let l = layout_is at.After-read-layout in
    let p = (pair_is at.In_ok-check_pair).0 in
    record { words_value = (l.words_is, l.words_to); layer_le_most_frames = (omega arith, omega arith) }

pub shortest_list-list-requires : goal.shortest_list-list-requires
shortest_list-list-requires c =
    let at = goal.at.shortest_list-list-requires c in
    let p = pair_is at.In_ok-check_pair in
    (legal at.In_ok-check, c.read-layout.ensures, record { layer_to = p.0; below_is = c.entries_below.ensures.0; first_to = p.1; second_to = p.2 })

pub store_words-requires : goal.store_words-requires
store_words-requires c =
    let l = layout_is (goal.at.store_words-requires c).After-read-layout in
    (omega (arith, pow_pos (inputs c.args.table.now)), omega arith, omega arith)

pub returns-clause-verdict : goal.returns-clause-verdict
returns-clause-verdict c =
    let l = layout_is (goal.at.returns-clause-verdict c).After-read-layout in
    room _ _ _ _ c.args.res.now _ _ c.in_ok-check.ensures.verdict c.in_ok-check_pair.ensures _ (omega arith)
    (sym (history_length _ c.shortest_list-list.result.length c.shortest_list-list.result.number) ∙ ap length c.shortest_list-list.ensures.words)

pub returns-clause-res : goal.returns-clause-res
returns-clause-res c =
    let l = layout_is (goal.at.returns-clause-res c).After-read-layout in
    let list = c.shortest_list-list in
    accepted _ _ _ _ _ list.result.length _
    (room _ _ _ _ c.args.res.now _ _ c.in_ok-check.ensures.verdict c.in_ok-check_pair.ensures _ (omega arith) (sym (history_length _ list.result.length list.result.number) ∙ ap length list.ensures.words))
    (c.store_words.ensures
    ∙ ap (λ n. history_words n list.result.length list.result.number ++ drop list.result.length c.args.res.now) l.words_is
    ∙ ap (λ l. l ++ drop list.result.length c.args.res.now) list.ensures.words)
