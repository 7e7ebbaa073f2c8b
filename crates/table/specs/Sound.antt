-- What is known of accepted tables, and the layout as the code holds it.
use Rattle.std.specs.Prelude.{ℕ, suc, ◌^◌, ◌≤◌, ◌<◌, ◌≡◌, Bool, false, List, leb, length}
use Rattle.sizes.specs.Sizes.{inputs, outputs, frames}
use Rattle.sizes.specs.Sized.{Sized}
use Rattle.sizes.specs.Limits.{most_inputs}
use Rattle.table.specs.Limits.{end_states, most_states}
use Rattle.layered.specs.Machines.{Legal}
use Rattle.table.specs.Table.{states, connected, strays, bad_output, bad_next, outputs_at, nexts_at, table_length, machine}
use Rattle.table.specs.declared.Layout.{Layout}
use Rattle.table.specs.declared.entries.Array.{Array}
use Rattle.table.specs.declared.entries.Array.TheVariants.{Outputs, Nexts}
use Rattle.table.specs.declared.entries.Bound.{Bound}
use Rattle.table.specs.declared.entries.Bound.TheVariants.{Connected, Count}

-- the head is accepted: sizes, counts and connected outputs are within the limits, and the length is exact
pub record TableHeaded (b : List ℕ) : Type 0 where
  pub sized : Sized most_inputs (inputs b) (outputs b) (frames b)
  pub one_first : states b 0 ≡ end_states
  pub one_last : states b (frames b) ≡ end_states
  pub states_from : (t : ℕ) → t ≤ frames b → 1 ≤ states b t
  pub states_to : (t : ℕ) → t ≤ frames b → states b t ≤ most_states
  pub connected_to : (t : ℕ) → t < frames b → connected b t < 2 ^ outputs b
  pub whole : length b ≡ table_length b

-- all is accepted: the head is, each entry is an output and a next state of a layered machine, and no output has a bit that is not connected
pub record Sound (b : List ℕ) : Type 0 where
  pub headed : TableHeaded b
  pub legal : Legal (2 ^ inputs b) (outputs b) (frames b) (machine b)
  pub outputs_connected : (t s w : ℕ) → t < frames b → s < states b t → w < 2 ^ inputs b → bad_output b t ((machine b).out t s w) ≡ false

-- a word is bad by a bound, as the code holds it: an output with a bit outside it, a next state not below it
abbrev pub bad_by : Bound → (x : ℕ) → Bool
bad_by (Connected c) x = strays c x
bad_by (Count n) x = leb n x

-- the bound of layer t's entries
abbrev pub bound_of : List ℕ → Array → (t : ℕ) → Bound
bound_of b Outputs t = Connected (connected b t)
bound_of b Nexts t = Count (states b (suc t))

-- one of the two arrays: where it begins, and which entries of layer t are bad
abbrev pub array_at : List ℕ → Array → ℕ
array_at b Outputs = outputs_at b
array_at b Nexts = nexts_at b

abbrev pub bad_entry : List ℕ → Array → (t x : ℕ) → Bool
bad_entry b Outputs t x = bad_output b t x
bad_entry b Nexts t x = bad_next b t x

-- the layout of b
abbrev pub layout_of : List ℕ → Layout
layout_of b = record { words = 2 ^ inputs b; frames = frames b; outputs = outputs_at b; nexts = nexts_at b }
