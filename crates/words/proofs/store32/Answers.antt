-- `words::store32` meets its contract: two words are stored, one behind the other, which is one of twice their width.
-- Assumes nothing.
use mathlib.Core.Path.{ap, ◌∙◌}
use mathlib.Core.List.{List, [], ◌∷◌}
use Prim.Native.Nat.{ℕ, ◌+◌, ◌/◌}
use native.Mathlib.Omega.{arith}
use Rattle.words.specs.Words.{stored}
use Rattle.words.proofs.Laws.{stored_join, stored_low}
use Rattle.words.proofs.store32.Goals as goal

pub returns : goal.returns
returns c =
    let b : List ℕ = c.args.bytes.now in
    c.store-2.ensures
    ∙ stored_low _ (c.args.at + 2) (c.args.word / 65536)
    ∙ ap (λ v. stored 2 v (c.args.at + 2) (c.args.word / 65536 ∷ [])) (c.store.ensures ∙ stored_low b c.args.at c.args.word)
    ∙ stored_join 2 2 b c.args.at c.args.word (omega arith)
