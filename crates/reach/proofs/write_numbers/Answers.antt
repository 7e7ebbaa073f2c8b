-- `reach::write_numbers` meets its contract: head, zeros, the start's count, and then all entries are followed.
-- Assumes nothing.
use mathlib.Core.List.{List, [], ◌∷◌}
use Rattle.std.proofs.Common.{rules, ◌≡◌, ap, ap₂, ◌∙◌, ℕ, ◌+◌, ◌-◌, ◌*◌, ◌≤◌, ◌<◌, length, get_or, length-take, length-drop, arith}
use borrow.Rule.Slice.PartMut.{put_mid}
use Rattle.words.specs.Words.{stored}
use Rattle.sizes.specs.Sizes.{frames}
use Rattle.layered.specs.Search.{tabulate}
use Rattle.table.proofs.Offsets.{Laid, laid}
use Rattle.paths.specs.Places.{reach_head, all_states}
use Rattle.paths.specs.Progress.{so_far}
use Rattle.paths.proofs.Places.{head_is}
use Rattle.paths.proofs.Numbers.{following, further}
use Rattle.reach.proofs.Stored.{zeros_stored}
use Rattle.reach.proofs.Bytes.{some_states, begun, bytes_stored, head_kept, zeros_kept}
use Rattle.reach.proofs.write_numbers.Goals as goal
use Rattle.reach.proofs.write_numbers.Goals.{Start, After-store_head, After-fill, After-store32}

layout_is : (c : Start) → Laid c.args.table.now c.args.layout
layout_is c = laid _ _ c.requires.sound.headed c.requires.layout_value.0

-- where the numbers begin, and the room for them once the head is written
begins : (c : After-store_head) → (c.head_bytes-head.result ≡ reach_head c.args.table.now) × (reach_head c.args.table.now + 8 * all_states c.args.table.now ≤ length c.store_head.new.res)
begins c =
    let l = laid _ _ c.requires.sound.headed c.requires.layout_value.0 in (
      omega (arith, l, head_is c.args.table.now),
      omega (arith, c.requires.layout_value, head_kept c.args.table.now c.requires.sound c.args.res.now c.store_head.new.res (omega (arith, c.requires.layout_value)) c.store_head.ensures),
    )

-- all of them are 0
cleared : (c : After-fill) → (c.head_bytes-head.result ≡ reach_head c.args.table.now) × (reach_head c.args.table.now + 8 * all_states c.args.table.now ≤ length c.store_head.new.res)
    → put_mid c.head_bytes-head.result (c.head_bytes-head.result + 2 * (4 * c.args.states) - c.head_bytes-head.result) c.store_head.new.res c.fill.new.self
    ≡ stored 4 c.store_head.new.res (reach_head c.args.table.now) (tabulate (2 * all_states c.args.table.now) (λ _. 0))
cleared c B =
    let k : ℕ = c.head_bytes-head.result + 2 * (4 * c.args.states) - c.head_bytes-head.result in
    let s : c.args.states ≡ all_states c.args.table.now = c.requires.layout_value.1 in
    let l : length c.fill.new.self ≡ k = c.fill.ensures.len ∙ simp (length-take, length-drop) (omega (arith, B, s)) in
    let zeros : (i : ℕ) → i < length c.fill.new.self → get_or c.fill.new.self i 0 ≡ 0 = search rules in
    zeros_stored c.store_head.new.res c.fill.new.self c.head_bytes-head.result (2 * c.args.states) k (omega arith) l (λ i h. zeros i (omega (arith, h, l)))
    ∙ ap₂ (λ (i n : ℕ). stored 4 c.store_head.new.res i (tabulate (2 * n) (λ _. 0))) B.0 s

-- and one history leads to the start
started : (c : After-store32) → (B : (c.head_bytes-head.result ≡ reach_head c.args.table.now) × (reach_head c.args.table.now + 8 * all_states c.args.table.now ≤ length c.store_head.new.res))
    → put_mid c.head_bytes-head.result (c.head_bytes-head.result + 2 * (4 * c.args.states) - c.head_bytes-head.result) c.store_head.new.res c.fill.new.self
    ≡ stored 4 c.store_head.new.res (reach_head c.args.table.now) (tabulate (2 * all_states c.args.table.now) (λ _. 0))
    → c.store32.new.bytes ≡ stored 4 c.store_head.new.res (reach_head c.args.table.now) (so_far c.args.table.now 0 0)
started c B z =
    let v : List ℕ = put_mid c.head_bytes-head.result (c.head_bytes-head.result + 2 * (4 * c.args.states) - c.head_bytes-head.result) c.store_head.new.res c.fill.new.self in
    c.store32.ensures ∙ ap (λ (i : ℕ). stored 4 v i (1 ∷ [])) B.0 ∙ begun c.args.table.now c.requires.sound c.store_head.new.res v B.1 z

pub head_bytes-head-requires : goal.head_bytes-head-requires
head_bytes-head-requires c = (layout_is (goal.at.head_bytes-head-requires c).Start).frames_to

pub store_head-requires : goal.store_head-requires
store_head-requires c =
    record {
      table_headed = c.requires.sound.headed;
      last_value = ((layout_is (goal.at.store_head-requires c).Start).frames_is, omega (arith, c.requires.layout_value));
    }

pub slice_bounds-fill-end : goal.slice_bounds-fill-end
slice_bounds-fill-end c = omega (arith, begins (goal.at.slice_bounds-fill-end c).After-store_head, c.requires.layout_value.1)

pub store32-requires : goal.store32-requires
store32-requires c =
    let at = goal.at.store32-requires c in
    let B = begins at.After-store_head in
    omega (arith, B, zeros_kept _ c.requires.sound c.store_head.new.res _ B.1 (cleared at.After-fill B), some_states _ c.requires.sound)

pub follow_layers-requires-clause-following : goal.follow_layers-requires-clause-following
follow_layers-requires-clause-following c =
    let at = goal.at.follow_layers-requires-clause-following c in
    let B = begins at.After-store_head in
    following _ c.requires.sound c.store_head.new.res c.store32.new.bytes 0 0 B.1 (started at.After-store32 B (cleared at.After-fill B))

pub returns : goal.returns
returns c =
    let at = goal.at.returns c in
    let B = begins at.After-store_head in
    let b = c.args.table.now in
    bytes_stored b c.requires.sound c.args.res.now c.store_head.new.res _ c.store_head.ensures
    (further b c.requires.sound c.store_head.new.res c.store32.new.bytes _ 0 0 (frames b) 0 B.1 (started at.After-store32 B (cleared at.After-fill B)) c.follow_layers.ensures)
