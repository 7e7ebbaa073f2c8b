-- `paths::add_histories` meets its contract.
-- Assumes nothing.
use mathlib.Core.Path.{ap, ap₂, ◌∙◌}
use mathlib.Core.List.{List, [], ◌∷◌}
use Prim.Native.Nat.{ℕ, ◌+◌, ◌^◌, ◌<◌}
use native.Mathlib.Omega.{arith}
use Rattle.words.specs.Words.{stored}
use Rattle.paths.specs.Progress.{smaller, added}
use Rattle.paths.proofs.Smallest.{smaller_below}
use Rattle.paths.proofs.add_histories.Goals as goal

pub overflow_cast-least : goal.overflow_cast-least
overflow_cast-least c =
    let o : smaller c.read32-before.result c.read32.result c.args.smallest < 2 ^ 32 =
    smaller_below _ _ _ _ c.read32.ensures.1 c.requires.count_bound.1 in
    omega (arith, c.smaller-least.ensures)

pub returns : goal.returns
unfolding added
returns c =
    let v : List ℕ = c.args.res.now in
    let least = c.smaller-least.ensures ∙ ap₂ (λ (n k : ℕ). smaller n k c.args.smallest) c.read32-before.ensures.0 c.read32.ensures.0 in
    c.store32-2.ensures
    ∙ ap₂ (λ (r : List ℕ) (n : ℕ). stored 4 r c.args.at ((n + c.args.count) ∷ [])) (c.store32.ensures ∙ ap (λ (x : ℕ). stored 4 v (c.args.at + c.args.gap) (x ∷ [])) least) c.read32-before.ensures.0
