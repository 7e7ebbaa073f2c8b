-- `counting::frame_needs` meets its contract: the part that it counts in is the layer's.
-- Assumes nothing.
use mathlib.Core.Path.{◌≡◌, ap, ap₂, ◌∙◌}
use mathlib.Core.Bool.{cond}
use mathlib.Core.List.{List}
use Prim.Native.Nat.{ℕ, suc, ◌+◌, ◌*◌, ◌-◌, ◌/◌, ◌^◌, ◌≤◌, ◌<◌}
use native.Mathlib.Nat.{mul-le-mul}
use native.Mathlib.Omega.{arith}
use lib.Dec.{ltb}
use lib.ListN.{length, take, drop}
use Rattle.words.specs.Words.{word_at}
use Rattle.sizes.specs.Sizes.{inputs, outputs, frames}
use Rattle.sizes.specs.declared.Sizes.{Sizes}
use Rattle.circuit.specs.Lists.{bit}
use Rattle.layered.specs.Search.{tally, total}
use Rattle.table.specs.Table.{states, entries_below, outputs_at, layer_part}
use Rattle.table.proofs.Offsets.{Laid, laid, row_small}
use Rattle.unfolded.specs.Counted.{ones, frame_needs}
use Rattle.table.proofs.Parts.{count_in, part_is, part_in}
use Rattle.counting.proofs.Needs.{cond_most, ones_are}
use Rattle.counting.proofs.frame_needs.Goals as goal
use Rattle.counting.proofs.frame_needs.Goals.{Start}

-- the entry: the table, its layout and its sizes
abbrev b₀ : Start → List ℕ
b₀ s = s.args.table.now

lay : (s : Start) → Laid (b₀ s) s.args.layout
lay s = laid (b₀ s) s.args.layout s.requires.table_headed s.requires.layout_value.0

outputs_are : (s : Start) → s.args.sizes.outputs ≡ outputs (b₀ s)
outputs_are s = ap (λ (z : Sizes). z.outputs) s.requires.layout_value.1

inputs_are : (s : Start) → s.args.sizes.inputs ≡ inputs (b₀ s)
inputs_are s = ap (λ (z : Sizes). z.inputs) s.requires.layout_value.1

matches-few : (s : Start) → s.args.layout.words * s.args.sizes.inputs ≤ 2048
matches-few s = let h : s.args.sizes.inputs ≤ 8 = omega (arith, inputs_are s, s.requires.table_headed.sized) in mul-le-mul (lay s).words_to h

-- how many edges there are, where the layer has n states
module _ (s : Start) (n : ℕ) (en : (n ≡ states (b₀ s) s.args.t) × (n < 65536)) where
  edges_are : n * s.args.layout.words ≡ states (b₀ s) s.args.t * 2 ^ inputs (b₀ s)
  edges_are = ap₂ ◌*◌ en.0 (lay s).words_is

  edges_few : n * s.args.layout.words ≤ 16777216
  edges_few = row_small _ _ en.1 (lay s).words_to

  -- the layer's part, with m entries below it
  module _ (m : ℕ) (em : (m ≡ entries_below (b₀ s) s.args.t) × (m ≤ 268435456)) where
    from_is : s.args.layout.outputs + 2 * m ≡ outputs_at (b₀ s) + 2 * entries_below (b₀ s) s.args.t
    from_is = λ i. (lay s).outputs_is i + 2 * em.0 i

    within : s.args.layout.outputs + 2 * m + 2 * (n * s.args.layout.words) ≤ length (b₀ s)
    within = omega (arith, from_is, edges_are, lay s, part_in (b₀ s) (outputs_at (b₀ s)) s.args.t (omega (arith, lay s)) s.requires.layout_value.2)

    -- what is passed on
    abbrev part : List ℕ
    part =
        let from : ℕ = s.args.layout.outputs + 2 * m in
        take (from + 2 * (n * s.args.layout.words) - from) (drop from (b₀ s))

    part-whole : part ≡ layer_part (b₀ s) (outputs_at (b₀ s)) s.args.t
    part-whole = part_is (b₀ s) _ _ _ _ from_is (ap (λ (k : ℕ). s.args.layout.outputs + 2 * m + 2 * k) edges_are)

    -- the bits 1 in it
    ones_is : (z : ℕ) → z ≡ total (length part / 2) (λ e. tally s.args.sizes.outputs (bit (word_at part (2 * e)))) → z ≡ ones (b₀ s) s.args.t
    ones_is z ez =
        ez
        ∙ (λ i. total (length (part-whole i) / 2) (λ e. tally (outputs_are s i) (bit (word_at (part-whole i) (2 * e)))))
        ∙ ones_are (b₀ s) s.args.t (omega (arith, lay s)) s.requires.layout_value.2

  -- the edges that are gathered into next states
  module _ (g : ℕ) (eg : g ≡ cond (ltb (suc s.args.t) s.args.layout.frames) (n * s.args.layout.words) 0) where
    gathered-few : g ≤ 16777216
    gathered-few = rw eg (cond_most (ltb (suc s.args.t) s.args.layout.frames) edges_few)

    entering-is : g ≡ cond (ltb (suc s.args.t) (frames (b₀ s))) (states (b₀ s) s.args.t * 2 ^ inputs (b₀ s)) 0
    entering-is = eg ∙ (λ i. cond (ltb (suc s.args.t) ((lay s).frames_is i)) (edges_are i) 0)

-- ---- the answers

pub states_of-requires : goal.states_of-requires
states_of-requires c = count_in c.args.table.now c.requires.table_headed c.args.t (omega (arith, c.requires.layout_value.2))

pub entries_below-requires-clause-layer_le_most_frames : goal.entries_below-requires-clause-layer_le_most_frames
entries_below-requires-clause-layer_le_most_frames c =
    let l = lay (goal.at.entries_below-requires-clause-layer_le_most_frames c).Start in
    (omega (arith, l.frames_is, c.requires.layout_value.2, l.frames_to), omega (arith, count_in c.args.table.now c.requires.table_headed c.args.t (omega (arith, c.requires.layout_value.2))))

pub overflow_add-from : goal.overflow_add-from
overflow_add-from c = omega (arith, within (goal.at.overflow_add-from c).Start _ c.states_of.ensures _ c.entries_below.ensures, c.well_formed)

pub overflow_add-to : goal.overflow_add-to
overflow_add-to c = omega (arith, within (goal.at.overflow_add-to c).Start _ c.states_of.ensures _ c.entries_below.ensures, c.well_formed)

pub slice_bounds-ones_in-end : goal.slice_bounds-ones_in-end
slice_bounds-ones_in-end c = within (goal.at.slice_bounds-ones_in-end c).Start _ c.states_of.ensures _ c.entries_below.ensures

pub returns : goal.returns
unfolding frame_needs
returns c =
    let s = (goal.at.returns c).Start in
    let l = lay s in
    let n = c.states_of.ensures in
    let edges = edges_are s _ n in
    let entering = entering-is s _ n _ c.gathered-entering.ensures in
    let ones = ones_is s _ n _ c.entries_below.ensures _ c.ones_in-ones.ensures.0 in (
      (λ i. l.words_is i * inputs_are s i + (edges i + (entering i + ones i))),
      omega (arith, matches-few s, edges_few s _ n, gathered-few s _ n _ c.gathered-entering.ensures, c.ones_in-ones.ensures.1),
    )
