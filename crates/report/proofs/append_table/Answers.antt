-- `report::append_table` meets its contract: the lines are those of the table, and few enough.
-- Assumes nothing.
use mathlib.Core.Path.{◌≡◌, ap}
use Prim.Native.Nat.{ℕ, ◌+◌, ◌≤◌}
use Prim.Native.Char.{code}
use native.Mathlib.Omega.{arith}
use Rattle.sizes.specs.Limits.{most_frames}
use Rattle.sizes.specs.Sizes.{frames}
use Rattle.sizes.specs.declared.Sizes.{Sizes}
use Rattle.table.proofs.Offsets.{arrays_stand}
use Rattle.report.specs.Report.{ascii}
use Rattle.report.proofs.Lines.{total_length, field_most, table_lines_lem}
use Rattle.report.proofs.append_table.Goals as goal

pub read-count-requires : goal.read-count-requires
read-count-requires c =
    omega (arith, arrays_stand c.args.table.now, c.requires.table_headed.whole)

pub overflow_add-count : goal.overflow_add-count
overflow_add-count c =
    let few : (c.read-count.result.frames ≡ frames c.args.table.now) × (c.read-count.result.frames ≤ most_frames) =
    let e : c.read-count.result.frames ≡ frames c.args.table.now = ap (λ (s : Sizes). s.frames) c.read-count.ensures in
    (e, omega (arith, c.requires.table_headed.sized))
    in
    omega (arith, few)

pub append_layers-end-requires : goal.append_layers-end-requires
append_layers-end-requires c =
    let few : (c.read-count.result.frames ≡ frames c.args.table.now) × (c.read-count.result.frames ≤ most_frames) =
    let e : c.read-count.result.frames ≡ frames c.args.table.now = ap (λ (s : Sizes). s.frames) c.read-count.ensures in
    (e, omega (arith, c.requires.table_headed.sized))
    in
    record {
      table_headed = (c.requires.table_headed, omega (arith, few));
      count_in_bounds = omega (arith, few);
    }

pub states_below-requires : goal.states_below-requires
states_below-requires c =
    let few : (c.read-count.result.frames ≡ frames c.args.table.now) × (c.read-count.result.frames ≤ most_frames) =
    let e : c.read-count.result.frames ≡ frames c.args.table.now = ap (λ (s : Sizes). s.frames) c.read-count.ensures in
    (e, omega (arith, c.requires.table_headed.sized))
    in
    (omega (arith, few), omega (arith, few, c.requires.table_headed.whole, arrays_stand c.args.table.now))

pub append_total-requires : goal.append_total-requires
append_total-requires c =
    let few : (c.read-count.result.frames ≡ frames c.args.table.now) × (c.read-count.result.frames ≤ most_frames) =
    let e : c.read-count.result.frames ≡ frames c.args.table.now = ap (λ (s : Sizes). s.frames) c.read-count.ensures in
    (e, omega (arith, c.requires.table_headed.sized))
    in
    let f = few in
    omega (arith, total_length c.states_below.result, field_most 6 c.states_below.result (code "\n") (omega arith))

pub returns : goal.returns
unfolding ascii
returns c =
    let few : (c.read-count.result.frames ≡ frames c.args.table.now) × (c.read-count.result.frames ≤ most_frames) =
    let e : c.read-count.result.frames ≡ frames c.args.table.now = ap (λ (s : Sizes). s.frames) c.read-count.ensures in
    (e, omega (arith, c.requires.table_headed.sized))
    in
    table_lines_lem _ _ _ (ap (λ (T : ℕ). T + 1) (few).0) c.states_below.ensures.0 c.append-end.ensures c.append_layers-end.ensures.appended c.append_total.ensures
