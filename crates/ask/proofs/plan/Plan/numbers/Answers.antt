-- `ask::plan::Plan::numbers` meets its contract. The invariant: the sizes and the counts so far stand in front.
-- Assumes nothing.
use mathlib.Core.Path.{◌≡◌, refl, sym, ap, ap₂, ◌∙◌}
use mathlib.Core.List.{List, [], ◌∷◌, ◌++◌}
use Prim.Native.Nat.{ℕ, suc, ◌+◌}
use native.Mathlib.Numerals.{add-one}
use native.Mathlib.Omega.{arith}
use lib.ListN.{length, get_or, set, take, length-set}
use lib.Seq.{take-suc, take-suc-set, take_all}
use Rattle.ask.specs.declared.plan.Plan.{Plan}
use borrow.Author.Rules.{rules}
use Rattle.ask.proofs.plan.Plan.numbers.Goals as goal

-- the sizes, and the counts of the layers below t
abbrev front : Plan → (counts : List ℕ) (t : ℕ) → List ℕ
front p counts t = p.inputs ∷ p.outputs ∷ p.frames ∷ take t counts

pub loop-t-init : goal.loop-t-init
loop-t-init c =
    (omega arith, refl, refl)

pub overflow_cast-numbers : goal.overflow_cast-numbers
overflow_cast-numbers c =
    search rules

pub loop-t-preserved : goal.loop-t-preserved
loop-t-preserved c =
    let x : ℕ = get_or c.args.self.counts c.loop-t.t 0 in
    let e : 3 + (c.loop-t.t + 1) ≡ suc (3 + c.loop-t.t) = omega arith in (
      omega arith,
      simp length-set c.loop-t.invariant.1,
      ap (λ (k : ℕ). take k (set c.loop-t.numbers (3 + c.loop-t.t) x)) e
          ∙ take-suc-set c.loop-t.numbers (3 + c.loop-t.t) x (omega (arith, c.loop-t.invariant.1))
          ∙ ap (λ (r : List ℕ). r ++ (x ∷ [])) c.loop-t.invariant.2
          ∙ ap (λ (r : List ℕ). c.args.self.inputs ∷ c.args.self.outputs ∷ c.args.self.frames ∷ r) (sym (take-suc c.args.self.counts c.loop-t.t 0 (omega arith)) ∙ ap (λ (k : ℕ). take k c.args.self.counts) (sym (add-one c.loop-t.t))),
    )

pub returns : goal.returns
returns c =
    let x : ℕ = c.args.self.bytes in
    let e : c.loop-t.t ≡ 17 = omega arith in
    sym (take_all 21 (set c.loop-t.numbers 20 x) (simp length-set (omega (arith, c.loop-t.invariant.1))))
    ∙ take-suc-set c.loop-t.numbers 20 x (omega (arith, c.loop-t.invariant.1))
    ∙ ap (λ (r : List ℕ). r ++ (x ∷ [])) (ap (λ (t : ℕ). take (3 + t) c.loop-t.numbers) (sym e) ∙ c.loop-t.invariant.2 ∙ ap (front c.args.self c.args.self.counts) e ∙ ap (λ (r : List ℕ). c.args.self.inputs ∷ c.args.self.outputs ∷ c.args.self.frames ∷ r) (take_all 17 c.args.self.counts (omega arith)))
