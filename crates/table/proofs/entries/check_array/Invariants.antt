-- `table::entries::check_array` meets its contract. The invariant: layer t's part starts here, and what the definition says of all layers is
-- what it says of those from t on.
-- Assumes nothing.
use mathlib.Core.Path.{◌≡◌, ap}
use mathlib.Core.List.{List}
use Prim.Native.Nat.{ℕ, ◌+◌, ◌*◌, ◌-◌, ◌≤◌}
use native.Mathlib.Omega.{arith}
use lib.ListN.{length}
use Rattle.verdict.specs.Judgements.{first_refusal}
use Rattle.verdict.specs.declared.Figures.{Figures}
use Rattle.table.specs.Table.{entries_below, entry_count, layer_part, bad_output, bad_next, part_checked, array_checked}
use Rattle.table.specs.Sound.{TableHeaded, bad_by, bound_of, array_at, bad_entry}
use Rattle.table.specs.declared.entries.Array.{Array}
use Rattle.table.specs.declared.entries.Array.TheVariants.{Outputs, Nexts}
use Rattle.table.specs.declared.entries.Bound.{Bound}
use Rattle.table.proofs.Offsets.{arrays_stand}
use Rattle.table.proofs.entries.check_array.Given as goal

-- the judgement of layer t's part
abbrev judge : (array : Array) → List ℕ → (t : ℕ) → Figures
judge array b t = part_checked (bad_entry b array t) (array_at b array + 2 * entries_below b t) (layer_part b (array_at b array) t)

-- it is within the table
array_in : (array : Array) (b : List ℕ) → TableHeaded b → array_at b array + 2 * entry_count b ≤ length b
array_in Outputs b h = omega (arith, arrays_stand b, h.whole)
array_in Nexts b h = omega (arith, arrays_stand b, h.whole)

-- what is bad by the bound of layer t
bad-is : (array : Array) (b : List ℕ) (t : ℕ) (bound : Bound) → bound ≡ bound_of b array t → bad_by bound ≡ bad_entry b array t
unfolding bad_next bad_output
bad-is Outputs b t bound e = ap bad_by e
bad-is Nexts b t bound e = ap bad_by e

abbrev pub invariant-loop-t : goal.invariant-loop-t
invariant-loop-t l =
    (l.t ≤ l.last) × (l.start ≡ array_at l.table l.array + 2 * entries_below l.table l.t) × (array_checked l.table (array_at l.table l.array) (bad_entry l.table l.array) ≡ first_refusal (judge l.array l.table) l.t (l.last - l.t))
