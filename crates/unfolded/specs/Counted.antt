-- How many gates a table needs, counted without drawing them.
use Rattle.std.specs.Prelude.{ℕ, suc, ◌+◌, ◌*◌, ◌/◌, ◌%◌, ◌^◌, cond, List, ltb}
use Rattle.sizes.specs.Sizes.{inputs, outputs, frames}
use Rattle.circuit.specs.Lists.{bit}
use Rattle.layered.specs.Search.{tally, total}
use Rattle.table.specs.Table.{states, machine}

-- how many bits 1 the outputs of layer t have; edge e is that of state e / 2^n and word e % 2^n
unfoldable pub ones : List ℕ → (t : ℕ) → ℕ
ones b t = total (states b t * 2 ^ inputs b) (λ e. tally (outputs b) (bit ((machine b).out t (e / 2 ^ inputs b) (e % 2 ^ inputs b))))

-- what the frame from layer t needs: n·2^n match gates, a gate for each edge, for each edge one of its next state's gather chain (none in the
-- last frame), and one for each bit 1 of its output
unfoldable pub frame_needs : List ℕ → (t : ℕ) → ℕ
frame_needs b t =
    2 ^ inputs b * inputs b + (states b t * 2 ^ inputs b + (cond (ltb (suc t) (frames b)) (states b t * 2 ^ inputs b) 0 + ones b t))
