-- `sizes::check_words` meets its contract. The invariant: what the definition says of all words is what it says of those from t on.
-- Assumes nothing.
use mathlib.Core.Path.{◌≡◌, sym, ap, ◌∙◌}
use mathlib.Core.Bool.{Bool}
use mathlib.Core.List.{List}
use Prim.Native.Nat.{ℕ, ◌-◌, ◌^◌}
use native.Mathlib.Omega.{arith}
use borrow.Author.Tests.{le-leb, lt-leb}
use lib.ListN.{length, get_or}
use lib.Dec.{leb}
use Rattle.verdict.specs.Judgements.{answer, refuse_first}
use Rattle.verdict.proofs.Laws.{first_here, first_later, first-none}
use Rattle.sizes.specs.Sizes.{words_checked}
use Rattle.sizes.proofs.check_words.Goals as goal

-- word t is too large
abbrev large : ℕ → List ℕ → ℕ → Bool
large n words t = leb (2 ^ n) (get_or words t 0)

pub loop-t-init : goal.loop-t-init
unfolding words_checked
loop-t-init c =
    let z : length c.args.words.now ≡ length c.args.words.now - 0 = omega arith in
    (omega arith, ap (refuse_first (large c.args.inputs c.args.words.now) 9 (λ i. i) (answer 0 0) 0) z)

pub overflow_cast-word : goal.overflow_cast-word
overflow_cast-word c =
    omega (arith, c.type_inv.words c.loop-t.t)

pub returns-then-limit-word : goal.returns-then-limit-word
returns-then-limit-word c =
    sym (c.loop-t.invariant.1 ∙ first_here _ _ _ _ _ _ (omega arith)
    (le-leb (2 ^ c.args.inputs) (get_or c.args.words.now c.loop-t.t 0) (omega (arith, c.power-limit.ensures))))

pub loop-t-preserved : goal.loop-t-preserved
loop-t-preserved c = (
  omega arith,
  c.loop-t.invariant.1 ∙ first_later _ _ _ _ _ _ (omega arith)
      (lt-leb (2 ^ c.args.inputs) (get_or c.args.words.now c.loop-t.t 0) (omega (arith, c.power-limit.ensures))),
)

pub returns : goal.returns
returns c =
    sym (c.loop-t.invariant.1 ∙ first-none _ _ _ _ _ _ (omega arith))
