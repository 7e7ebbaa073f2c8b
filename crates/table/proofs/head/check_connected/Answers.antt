-- `table::head::check_connected` meets its contract. The invariant: what the definition says of all frames is what it says of those from t on.
-- Assumes nothing.
use mathlib.Core.Path.{◌≡◌, sym, ap, ◌∙◌}
use mathlib.Core.Bool.{Bool}
use mathlib.Core.List.{List}
use Prim.Native.Nat.{ℕ, ◌-◌, ◌^◌}
use native.Mathlib.Omega.{arith}
use borrow.Author.Tests.{le-leb, lt-leb}
use lib.Dec.{leb}
use Rattle.verdict.specs.Judgements.{answer, refuse_first}
use Rattle.verdict.proofs.Laws.{first_here, first_later, first-none}
use Rattle.sizes.specs.Sizes.{outputs, frames}
use Rattle.sizes.specs.declared.Sizes.{Sizes}
use Rattle.table.specs.Table.{connected_at, connected, connected_checked}
use Rattle.table.proofs.head.check_connected.Goals as goal

-- the connected outputs of the frame from layer t are not among the m
abbrev wrong : List ℕ → ℕ → Bool
wrong b t = leb (2 ^ outputs b) (connected b t)

pub power-limit-requires : goal.power-limit-requires
power-limit-requires c =
    omega (arith, c.requires)

pub loop-t-init : goal.loop-t-init
unfolding connected_checked
loop-t-init c =
    let b₀ : List ℕ =
    c.args.table.now
    in
    let frames_is : c.args.sizes.frames ≡ frames ((c.args.table.now)) =
    ap (λ (s : Sizes). s.frames) c.requires.sizes_value
    in
    let z : frames (c.args.table.now) ≡ c.args.sizes.frames - 0 = omega (arith, frames_is) in
    (omega arith, ap (refuse_first (wrong (c.args.table.now)) 2 (connected_at (frames (c.args.table.now))) (answer 0 0) 0) z)

pub connected_of-requires : goal.connected_of-requires
connected_of-requires c =
    let b₀ : List ℕ =
    c.args.table.now
    in
    let frames_is : c.args.sizes.frames ≡ frames ((c.args.table.now)) =
    ap (λ (s : Sizes). s.frames) c.requires.sizes_value
    in
    record {
      last_value = (frames_is, c.requires.outputs_le_most_outputs.1, c.loop-t-test.true);
      last_in_bounds = c.requires.frames_in_bounds;
    }

pub connected_at-requires : goal.connected_at-requires
connected_at-requires c =
    (c.requires.outputs_le_most_outputs.1, omega (arith, c.loop-t-test.true))

pub returns-then-limit-connected_of : goal.returns-then-limit-connected_of
returns-then-limit-connected_of c =
    let b₀ : List ℕ =
    c.args.table.now
    in
    let frames_is : c.args.sizes.frames ≡ frames ((c.args.table.now)) =
    ap (λ (s : Sizes). s.frames) c.requires.sizes_value
    in
    let limit_is : c.power-limit.result ≡ 2 ^ outputs ((c.args.table.now)) =
    c.power-limit.ensures ∙ ap (λ (s : Sizes). 2 ^ s.outputs) c.requires.sizes_value
    in
    let at : c.connected_at.result ≡ connected_at (frames (c.args.table.now)) c.loop-t.t = c.connected_at.ensures ∙ ap (λ (T : ℕ). connected_at T c.loop-t.t) (frames_is) in
    ap (answer 2) at ∙ sym (c.loop-t.invariant.1 ∙ first_here _ _ _ _ _ _ (omega (arith, c.loop-t-test.true)) (le-leb (2 ^ outputs (c.args.table.now)) (connected (c.args.table.now) c.loop-t.t) (omega (arith, c.if-limit-connected_of.true, c.connected_of.ensures.0, limit_is))))

pub loop-t-preserved : goal.loop-t-preserved
loop-t-preserved c =
    let b₀ : List ℕ =
    c.args.table.now
    in
    let limit_is : c.power-limit.result ≡ 2 ^ outputs ((c.args.table.now)) =
    c.power-limit.ensures ∙ ap (λ (s : Sizes). 2 ^ s.outputs) c.requires.sizes_value
    in (
      omega (arith, c.loop-t-test.true),
      c.loop-t.invariant.1 ∙ first_later _ _ _ _ _ _ c.loop-t-test.true (lt-leb (2 ^ outputs (c.args.table.now)) (connected (c.args.table.now) c.loop-t.t) (omega (arith, c.if-limit-connected_of.false, c.connected_of.ensures.0, limit_is))),
    )

pub returns : goal.returns
returns c =
    sym (c.loop-t.invariant.1 ∙ first-none _ _ _ _ _ _ (omega arith))
