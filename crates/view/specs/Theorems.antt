-- What is proved of views. Each statement is cited by the call that it is about. b is the table that is viewed.
use Rattle.std.specs.Prelude.{ℕ, ◌+◌, ◌*◌, ◌^◌, ◌≤◌, ◌<◌, ◌≡◌, true, ◌&&◌, List, length, get_or, take, drop}
use Rattle.words.specs.Words.{word_at}
use Rattle.verdict.specs.Judgements.{answer}
use Rattle.sizes.specs.Sizes.{inputs, outputs, frames}
use Rattle.layered.specs.Search.{join}
use Rattle.layered.specs.States.{Words}
use Rattle.layered.specs.Machines.{feed}
use Rattle.circuit.specs.Lists.{bit}
use Rattle.table.specs.Table.{states, entry_count, outputs_at, machine, checked}
use Rattle.view.specs.View.{viewed, view_result}
use Rattle.view.specs.Layers.{layer_outputs, located}

-- ---- masked views

-- the output word of frame k, from 0, that a run of b gives on the words c
abbrev pub output_at : List ℕ → (c : List ℕ) (k : ℕ) → ℕ
output_at b c k = get_or (feed (machine b) 0 0 c) k 0

-- two tables are of equal n, m and T, and pass every check
pub record Comparable (b d : List ℕ) : Type 0 where
  pub first_passes : checked b ≡ answer 0 0
  pub second_passes : checked d ≡ answer 0 0
  pub same_inputs : inputs d ≡ inputs b
  pub same_outputs : outputs d ≡ outputs b
  pub same_frames : frames d ≡ frames b

-- on the words c they agree in masked bits: wherever the mask has bit j, both outputs of a frame have it or neither
unfoldable pub AgreeOn : (b d : List ℕ) (mask : ℕ) (c : List ℕ) → Type 0
AgreeOn b d mask c = (k j : ℕ) → k < frames b → j < outputs b → bit mask j ≡ true → bit (output_at b c k) j ≡ bit (output_at d c k) j

-- given these words and this result, the call answers and leaves the same for both
unfoldable pub LookAlike : (b d : List ℕ) (mask : ℕ) (words before : List ℕ) → Type 0
LookAlike b d mask words before =
    (viewed b mask words (length before) ≡ viewed d mask words (length before)) × (view_result b mask words before ≡ view_result d mask words before)

-- a view that is accepted had a mask below 2^m and T words of n bits, T is the place, and each word of the result has the output's bits that the
-- mask has, and no other
unfoldable pub ViewShows : List ℕ → (mask : ℕ) (words before : List ℕ) → Type 0
ViewShows b mask words before =
    (p : ℕ) → viewed b mask words (length before) ≡ answer 0 p
    → (mask < 2 ^ outputs b) × Words (2 ^ inputs b) (frames b) words × (p ≡ frames b)
    × ((k j : ℕ) → k < p → bit (get_or (view_result b mask words before) k 0) j ≡ (bit (output_at b words k) j && bit mask j))

-- the result depends on the masked outputs alone: where a table agrees with b in them on the words given, it leaves the same
unfoldable pub ViewHides : List ℕ → (mask : ℕ) → Type 0
ViewHides b mask = (d : List ℕ) → Comparable b d → (words before : List ℕ) → AgreeOn b d mask words → LookAlike b d mask words before

-- so a table that agrees with b in masked bits on every sequence cannot be told from it, whatever words and result are given, refusals included;
-- and with a mask below 2^m none but those
unfoldable pub ViewsAlike : List ℕ → (mask : ℕ) → Type 0
ViewsAlike b mask =
    (d : List ℕ) → Comparable b d
    → (((c : List ℕ) → Words (2 ^ inputs b) (frames b) c → AgreeOn b d mask c) → (words before : List ℕ) → LookAlike b d mask words before)
    × (mask < 2 ^ outputs b → ((words before : List ℕ) → LookAlike b d mask words before) → (c : List ℕ) → Words (2 ^ inputs b) (frames b) c → AgreeOn b d mask c)

-- ---- layer outputs

-- offset and length lie in the table, and are those of what is shown
unfoldable pub LayerStands : List ℕ → (layer : ℕ) → Type 0
LayerStands b layer =
    ((located b layer).offset + (located b layer).length ≤ length b) × (layer_outputs b layer ≡ take (located b layer).length (drop (located b layer).offset b))

-- of an accepted table: word s * 2^n + w of what a layer below T shows is the output of its state s for the word w
unfoldable pub LayerTells : List ℕ → (layer : ℕ) → Type 0
LayerTells b layer =
    (p : ℕ) → checked b ≡ answer 0 p → (s w : ℕ) → layer < frames b → s < states b layer → w < 2 ^ inputs b
    → word_at (layer_outputs b layer) (2 * (s * 2 ^ inputs b + w)) ≡ (machine b).out layer s w

-- and what the layers 0 to T - 1 show, one behind the other, is the whole array of outputs
unfoldable pub LayersJoin : List ℕ → Type 0
LayersJoin b = (p : ℕ) → checked b ≡ answer 0 p → join (frames b) (layer_outputs b) ≡ take (2 * entry_count b) (drop (outputs_at b) b)
