-- What is proved of prices, cited by the call. b is the table that is priced.
use Rattle.std.specs.Prelude.{ℕ, ◌^◌, ◌≤◌, ◌<◌, ◌≡◌, List}
use Rattle.verdict.specs.Judgements.{answer}
use Rattle.sizes.specs.Sizes.{inputs, outputs, frames}
use Rattle.circuit.specs.Circuit as circuit
use Rattle.table.specs.Table.{states, machine, checked}
use Rattle.folded.specs.Folded.{folded_bytes}
use Rattle.folded.specs.Theorems.{Matches}
use Rattle.price.specs.Price.{price, priced}

-- the two prices that document 02 names: parity has 3 charged states over 2 frames; 33 states over 13 frames
unfoldable pub Quoted : Type 0
Quoted = (price 2 3 ≡ 17400) × (price 13 33 ≡ 75841)

-- the price never falls when a layer gains states: a table of as many frames that has at each charged layer at least as many costs at least as much
unfoldable pub NeverFalls : List ℕ → Type 0
NeverFalls b =
    (d : List ℕ) (p q : ℕ) → checked b ≡ answer 0 p → checked d ≡ answer 0 q → frames d ≡ frames b → ((t : ℕ) → t < frames b → states b t ≤ states d t)
    → (priced b).cents ≤ (priced d).cents

-- of an accepted circuit c whose sizes b has and which it matches on every sequence: the folded table passes every check, and costs at most what
-- b costs
unfoldable pub FoldedCheapest : List ℕ → Type 0
FoldedCheapest b =
    (c : List ℕ) (p q : ℕ) → circuit.checked c ≡ answer 0 p → checked b ≡ answer 0 q → inputs b ≡ inputs c → outputs b ≡ outputs c → frames b ≡ frames c
    → Matches (2 ^ inputs c) (frames c) c (machine b)
    → (checked (folded_bytes c) ≡ answer 0 0) × ((priced (folded_bytes c)).cents ≤ (priced b).cents)
