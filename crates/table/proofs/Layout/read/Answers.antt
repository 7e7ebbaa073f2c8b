-- `table::Layout::read` meets its contract: each field is what its call gives.
-- Assumes nothing.
use mathlib.Core.Path.{◌≡◌, ap, ◌∙◌}
use Prim.Native.Nat.{ℕ, ◌+◌, ◌*◌, ◌^◌}
use native.Mathlib.Omega.{arith}
use Rattle.sizes.specs.Sizes.{inputs, frames}
use Rattle.sizes.specs.declared.Sizes.{Sizes}
use Rattle.table.specs.Table.{head_length, outputs_at, nexts_at, entry_count, entries_below}
use Rattle.table.proofs.Offsets.{head_length_lem, words_most, arrays_stand}
use Rattle.table.proofs.Layout.read.Goals as goal

pub read-sizes-requires : goal.read-sizes-requires
read-sizes-requires c =
    omega (arith, c.requires, arrays_stand c.args.table.now)

pub power-words-requires : goal.power-words-requires
power-words-requires c =
    let inputs_is : c.read-sizes.result.inputs ≡ inputs c.args.table.now =
    ap (λ (s : Sizes). s.inputs) c.read-sizes.ensures
    in
    omega (arith, inputs_is, c.requires)

pub head_length-outputs-requires : goal.head_length-outputs-requires
head_length-outputs-requires c =
    let frames_is : c.read-sizes.result.frames ≡ frames c.args.table.now =
    ap (λ (s : Sizes). s.frames) c.read-sizes.ensures
    in
    omega (arith, frames_is, c.requires)

pub entries_below-entries-requires : goal.entries_below-entries-requires
entries_below-entries-requires c =
    let inputs_is : c.read-sizes.result.inputs ≡ inputs c.args.table.now =
    ap (λ (s : Sizes). s.inputs) c.read-sizes.ensures
    in
    let frames_is : c.read-sizes.result.frames ≡ frames c.args.table.now =
    ap (λ (s : Sizes). s.frames) c.read-sizes.ensures
    in
    let w : c.power-words.result ≡ 2 ^ inputs c.args.table.now = c.power-words.ensures ∙ ap (λ (n : ℕ). 2 ^ n) (inputs_is) in record {
      words_value = (w, omega (arith, words_most (inputs c.args.table.now) c.requires.sized.inputs_to));
      layer_le_most_frames = (omega (arith, frames_is, c.requires), omega (arith, frames_is, c.requires, arrays_stand c.args.table.now));
    }

pub overflow_add-result : goal.overflow_add-result
overflow_add-result c =
    let frames_is : c.read-sizes.result.frames ≡ frames c.args.table.now =
    ap (λ (s : Sizes). s.frames) c.read-sizes.ensures
    in
    omega (arith, c.head_length-outputs.ensures, head_length_lem c.read-sizes.result.frames, frames_is, c.requires)

pub returns : goal.returns
unfolding entry_count nexts_at outputs_at
returns c =
    let inputs_is : c.read-sizes.result.inputs ≡ inputs c.args.table.now =
    ap (λ (s : Sizes). s.inputs) c.read-sizes.ensures
    in
    let frames_is : c.read-sizes.result.frames ≡ frames c.args.table.now =
    ap (λ (s : Sizes). s.frames) c.read-sizes.ensures
    in
    let o = c.head_length-outputs.ensures ∙ ap head_length (frames_is) in
    let e = c.entries_below-entries.ensures.0 ∙ ap (entries_below c.args.table.now) (frames_is) in
    λ i. record {
      words = (c.power-words.ensures ∙ ap (λ (n : ℕ). 2 ^ n) (inputs_is)) i;
      frames = frames_is i;
      outputs = o i;
      nexts = o i + 2 * e i;
    }
