-- `sizes::check_words` meets its contract. The invariant: what the definition says of all words is what it says of those from t on.
-- Assumes nothing.
use mathlib.Core.Path.{◌≡◌}
use mathlib.Core.Bool.{Bool}
use mathlib.Core.List.{List}
use Prim.Native.Nat.{ℕ, ◌-◌, ◌^◌, ◌≤◌}
use lib.ListN.{length, get_or}
use lib.Dec.{leb}
use Rattle.verdict.specs.Judgements.{answer, refuse_first}
use Rattle.sizes.specs.Sizes.{words_checked}
use Rattle.sizes.proofs.check_words.Given as goal

-- word t is too large
abbrev large : ℕ → List ℕ → ℕ → Bool
large n words t = leb (2 ^ n) (get_or words t 0)

abbrev pub invariant-loop-t : goal.invariant-loop-t
invariant-loop-t l =
    (l.t ≤ length l.words) × (words_checked l.inputs l.words ≡ refuse_first (large l.inputs l.words) 9 (λ i. i) (answer 0 0) l.t (length l.words - l.t))
