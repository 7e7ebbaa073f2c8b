-- `sizes::Sizes::check` meets its contract: at each return the tests on the way pick the case of the definition.
-- Assumes nothing.
use mathlib.Core.Path.{◌≡◌, sym, ◌∙◌}
use mathlib.Core.Bool.{false}
use native.Mathlib.Nat.{mul-le-mul, le_trans, lt_of_le_of_lt}
use lib.Dec.{lit<}
use borrow.Author.Tests.{lt-ltb, le-ltb}
use Rattle.sizes.specs.Sizes.{outside, sizes_checked}
use Rattle.sizes.proofs.Laws.{inside}
use Rattle.sizes.proofs.Sizes.check.Goals as goal

pub returns-then-is_outside : goal.returns-then-is_outside
unfolding sizes_checked
returns-then-is_outside c =
    simp (sym c.is_outside.ensures ∙ c.if-is_outside.true)

pub returns-then-is_outside-2 : goal.returns-then-is_outside-2
unfolding sizes_checked
returns-then-is_outside-2 c =
    let t₁ : outside 1 c.args.most c.args.self.inputs ≡ false =
    sym c.is_outside.ensures ∙ c.if-is_outside.false
    in
    simp (t₁, sym c.is_outside-2.ensures ∙ c.if-is_outside-2.true)

pub returns-then-is_outside-3 : goal.returns-then-is_outside-3
unfolding sizes_checked
returns-then-is_outside-3 c =
    let t₁ : outside 1 c.args.most c.args.self.inputs ≡ false =
    sym c.is_outside.ensures ∙ c.if-is_outside.false
    in
    let t₂ : outside 1 16 c.args.self.outputs ≡ false =
    sym c.is_outside-2.ensures ∙ c.if-is_outside-2.false
    in
    simp (t₁, t₂, sym c.is_outside-3.ensures ∙ c.if-is_outside-3.true)

pub overflow_mul-self : goal.overflow_mul-self
overflow_mul-self c =
    let t₁ : outside 1 c.args.most c.args.self.inputs ≡ false =
    sym c.is_outside.ensures ∙ c.if-is_outside.false
    in
    let t₃ : outside 1 16 c.args.self.frames ≡ false =
    sym c.is_outside-3.ensures ∙ c.if-is_outside-3.false
    in
    let n = inside 1 _ _ (t₁) in
    let t = inside 1 16 _ (t₃) in
    record { fits = lt_of_le_of_lt (mul-le-mul (le_trans n.1 c.requires) t.1) (lit< tt) }

pub returns-then-self-gt-BITS : goal.returns-then-self-gt-BITS
unfolding sizes_checked
returns-then-self-gt-BITS c =
    let t₁ : outside 1 c.args.most c.args.self.inputs ≡ false =
    sym c.is_outside.ensures ∙ c.if-is_outside.false
    in
    let t₂ : outside 1 16 c.args.self.outputs ≡ false =
    sym c.is_outside-2.ensures ∙ c.if-is_outside-2.false
    in
    let t₃ : outside 1 16 c.args.self.frames ≡ false =
    sym c.is_outside-3.ensures ∙ c.if-is_outside-3.false
    in
    simp (t₁, t₂, t₃, lt-ltb _ _ c.if-self-gt-BITS.true)

pub returns : goal.returns
unfolding sizes_checked
returns c =
    let t₁ : outside 1 c.args.most c.args.self.inputs ≡ false =
    sym c.is_outside.ensures ∙ c.if-is_outside.false
    in
    let t₂ : outside 1 16 c.args.self.outputs ≡ false =
    sym c.is_outside-2.ensures ∙ c.if-is_outside-2.false
    in
    let t₃ : outside 1 16 c.args.self.frames ≡ false =
    sym c.is_outside-3.ensures ∙ c.if-is_outside-3.false
    in
    simp (t₁, t₂, t₃, le-ltb _ _ c.if-self-gt-BITS.false)
