-- `table::entries::check_array` meets its contract. The invariant: layer t's part starts here, and what the definition says of all layers is
-- what it says of those from t on.
-- Assumes nothing.
use mathlib.Core.Path.{◌≡◌, sym, ap, ap₂, ◌∙◌}
use mathlib.Core.List.{List}
use Prim.Native.Nat.{ℕ, ◌+◌, ◌*◌, ◌-◌, ◌^◌, ◌≤◌, ◌<◌}
use native.Mathlib.Numerals.{add-one}
use native.Mathlib.Omega.{arith}
use lib.ListN.{length, take, drop, length-take, length-drop}
use Rattle.verdict.specs.Judgements.{first_refusal}
use Rattle.verdict.specs.declared.Figures.{Figures}
use Rattle.verdict.proofs.Laws.{row_stop, row_on, row_end}
use Rattle.sizes.specs.Sizes.{inputs, frames}
use Rattle.table.specs.Table.{states, entries_below, entry_count, layer_part, bad_output, bad_next, part_checked, array_checked}
use Rattle.table.specs.Sound.{TableHeaded, bad_by, bound_of, array_at, bad_entry, layout_of}
use Rattle.table.specs.declared.Layout.{Layout}
use Rattle.table.specs.declared.entries.Array.{Array}
use Rattle.table.specs.declared.entries.Array.TheVariants.{Outputs, Nexts}
use Rattle.table.specs.declared.entries.Bound.{Bound}
use Rattle.table.proofs.Offsets.{Laid, laid, below_first, below_next, layer_in, arrays_stand}
use Rattle.table.proofs.entries.check_array.Goals as goal
use Rattle.table.proofs.entries.check_array.Goals.{Start, After-states_of, in-Outputs, in-Nexts}

-- the judgement of layer t's part
abbrev judge : (array : Array) → List ℕ → (t : ℕ) → Figures
judge array b t = part_checked (bad_entry b array t) (array_at b array + 2 * entries_below b t) (layer_part b (array_at b array) t)

-- it is within the table
array_in : (array : Array) (b : List ℕ) → TableHeaded b → array_at b array + 2 * entry_count b ≤ length b
array_in Outputs b h = omega (arith, arrays_stand b, h.whole)
array_in Nexts b h = omega (arith, arrays_stand b, h.whole)

-- what is bad by the bound of layer t
bad-is : (array : Array) (b : List ℕ) (t : ℕ) (bound : Bound) → bound ≡ bound_of b array t → bad_by bound ≡ bad_entry b array t
unfolding bad_next bad_output
bad-is Outputs b t bound e = ap bad_by e
bad-is Nexts b t bound e = ap bad_by e

-- the table, with its layout, the array that is judged, and a layer t, whose part starts at `start` and whose count is S
module _ (array : Array) (b : List ℕ) (layout : Layout) (headed : TableHeaded b) (is : layout ≡ layout_of b) where
  laid₀ : Laid b layout
  laid₀ = laid b layout headed is

  -- the array starts where the code starts
  start_nexts : (start : ℕ) → array ≡ Nexts → start ≡ layout.nexts → start ≡ array_at b array
  start_nexts start n e = e ∙ laid₀.nexts_is ∙ ap (array_at b) (sym n)

  start_outputs : (start : ℕ) → array ≡ Outputs → start ≡ layout.outputs → start ≡ array_at b array
  start_outputs start n e = e ∙ laid₀.outputs_is ∙ ap (array_at b) (sym n)

  module _ (t start S : ℕ) (below : t < layout.frames) (start_is : start ≡ array_at b array + 2 * entries_below b t) (count_is : S ≡ states b t) where
    row_is : S * layout.words ≡ states b t * 2 ^ inputs b
    row_is = ap₂ ◌*◌ count_is laid₀.words_is

    -- its part is within the table
    room : start + 2 * (S * layout.words) ≤ length b
    room = let l = laid₀ in omega (arith, row_is, array_in array b headed, layer_in b t (omega arith))

    -- the next layer's part starts where it ends
    next_start : start + 2 * (S * layout.words) ≡ array_at b array + 2 * entries_below b (t + 1)
    next_start = rw add-one (omega (arith, row_is, below_next b t))

    -- what is judged there by the bound of layer t is what the definition judges
    part_is : (bound : Bound) → bound ≡ bound_of b array t → part_checked (bad_by bound) start (take (start + 2 * (S * layout.words) - start) (drop start b)) ≡ judge array b t
    unfolding layer_part
    part_is bound e =
        let f : bad_by bound ≡ bad_entry b array t = bad-is array b t bound e in
        let k : start + 2 * (S * layout.words) - start ≡ 2 * (states b t * 2 ^ inputs b) = omega (arith, row_is) in
        λ j. part_checked (f j) (start_is j) (take (k j) (drop (start_is j) b))

-- layer t's part is within the table
there : (c : After-states_of) → (c.loop-t.start + 2 * (c.states_of.result * c.args.layout.words) ≤ length c.args.table.now)
there c = room c.args.array _ _ c.requires.table_headed c.requires.layout_value c.loop-t.t c.loop-t.start c.states_of.result c.loop-t-test.true c.loop-t.invariant.1 c.states_of.ensures.0

pub loop-t-init : goal.loop-t-init
unfolding array_checked
loop-t-init c =
    let b : List ℕ = c.args.table.now in
    let l : Laid b c.args.layout = laid b c.args.layout c.requires.table_headed c.requires.layout_value in
    let start_is : c.match-array.start ≡ array_at b c.args.array =
    elim c.match-array.branch [
      | in-Nexts w ↦ start_nexts c.args.array b c.args.layout c.requires.table_headed c.requires.layout_value _ w.in-Nexts.is w.start-is
      | in-Outputs w ↦ start_outputs c.args.array b c.args.layout c.requires.table_headed c.requires.layout_value _ w.in-Outputs.is w.start-is
    ]
    in
    let z : frames b ≡ c.args.layout.frames - 0 = omega arith in
    (omega arith, omega (arith, start_is, below_first b), ap (first_refusal (judge c.args.array b) 0) z)

pub states_of-requires : goal.states_of-requires
states_of-requires c =
    omega (arith, laid c.args.table.now c.args.layout c.requires.table_headed c.requires.layout_value)

pub overflow_mul-end : goal.overflow_mul-end
overflow_mul-end c =
    omega (arith, there (goal.at.overflow_mul-end c).After-states_of)

pub overflow_mul-end-in-loop-t : goal.overflow_mul-end-in-loop-t
overflow_mul-end-in-loop-t c =
    omega (arith, there (goal.at.overflow_mul-end-in-loop-t c).After-states_of)

pub overflow_add-end : goal.overflow_add-end
overflow_add-end c =
    omega (arith, there (goal.at.overflow_add-end c).After-states_of)

pub slice_bounds-check_part-count : goal.slice_bounds-check_part-count
slice_bounds-check_part-count c =
    omega (arith, there (goal.at.slice_bounds-check_part-count c).After-states_of)

pub slice_bounds-check_part-end : goal.slice_bounds-check_part-end
slice_bounds-check_part-end c =
    omega (arith, there (goal.at.slice_bounds-check_part-end c).After-states_of)

pub of-requires : goal.of-requires
of-requires c =
    let l : Laid c.args.table.now c.args.layout = laid c.args.table.now c.args.layout c.requires.table_headed c.requires.layout_value in
    record {
      table_headed = c.requires.table_headed;
      layout_value = c.requires.layout_value;
      t_bound = omega (arith, c.loop-t-test.true, l.frames_is);
    }

pub check_part-requires : goal.check_part-requires
check_part-requires c =
    simp (length-take, length-drop) (omega (arith, there (goal.at.check_part-requires c).After-states_of))

pub returns-in_err-check_part : goal.returns-in_err-check_part
returns-in_err-check_part c =
    row_stop (judge c.args.array c.args.table.now) _ _ c.loop-t.t _ c.loop-t-test.true c.from_residual.ensures.1
    (c.in_err-check_part.ensures ∙ part_is c.args.array c.args.table.now c.args.layout c.requires.table_headed c.requires.layout_value c.loop-t.t c.loop-t.start c.states_of.result c.loop-t-test.true c.loop-t.invariant.1 c.states_of.ensures.0 c.of.result c.of.ensures)
    ∙ sym c.loop-t.invariant.2

pub loop-t-preserved : goal.loop-t-preserved
loop-t-preserved c = (
  omega (arith, c.loop-t-test.true),
  next_start c.args.array c.args.table.now c.args.layout c.requires.table_headed c.requires.layout_value c.loop-t.t c.loop-t.start c.states_of.result c.loop-t-test.true c.loop-t.invariant.1 c.states_of.ensures.0,
  c.loop-t.invariant.2 ∙ row_on (judge c.args.array c.args.table.now) _ c.loop-t.t c.args.layout.frames c.loop-t-test.true
      (c.in_ok-check_part.ensures ∙ part_is c.args.array c.args.table.now c.args.layout c.requires.table_headed c.requires.layout_value c.loop-t.t c.loop-t.start c.states_of.result c.loop-t-test.true c.loop-t.invariant.1 c.states_of.ensures.0 c.of.result c.of.ensures),
)

pub returns : goal.returns
returns c =
    sym (c.loop-t.invariant.2 ∙ row_end _ _ _ (omega arith))
