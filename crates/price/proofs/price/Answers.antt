-- `price::price` meets its contract: the table's check is the only judgement, and an accepted table gives the rest what it requires.
-- Assumes nothing.
use Rattle.std.proofs.Common.{◌≡◌, refl, sym, ap, ap₂, ◌∙◌, ◌+◌, ◌^◌, ◌<◌, arith}
use Rattle.sizes.specs.Sizes.{frames}
use Rattle.sizes.specs.declared.Sizes.{Sizes}
use Rattle.table.specs.Table.{states_below}
use Rattle.table.proofs.Offsets.{arrays_stand}
use Rattle.table.proofs.Accepted.{sound, accepted_at}
use Rattle.price.specs.Tariff.{base}
use Rattle.price.specs.Price.{charged, states_cents, risen, price}
use Rattle.price.proofs.Bands.{cents_most}
use Rattle.price.proofs.Prices.{price_answers, refusal_answers}
use Rattle.price.proofs.price.Goals as goal
use Rattle.price.proofs.price.Goals.{After-read-frames, After-states_cents-sum}

frames_is : (c : After-read-frames) → c.read-frames.result.frames ≡ frames c.args.table.now
frames_is c = ap (λ (s : Sizes). s.frames) c.read-frames.ensures

few : (c : After-states_cents-sum) → base + c.states_cents-sum.result < 2 ^ 32
few c =
    omega (arith, c.states_cents-sum.ensures, cents_most c.states_below.result, c.states_below.ensures, ap (λ (s : Sizes). s.frames) c.read-frames.ensures, (sound _ _ (sym c.in_ok-check.ensures.verdict)).headed.sized)

pub returns-in_err-check-clause-answer : goal.returns-in_err-check-clause-answer
returns-in_err-check-clause-answer c = refusal_answers _ _ _ c.from_residual.ensures.1 c.in_err-check.ensures.verdict

pub read-frames-requires : goal.read-frames-requires
read-frames-requires c = omega (arith, (sound _ _ (sym c.in_ok-check.ensures.verdict)).headed, arrays_stand c.args.table.now)

pub states_below-requires : goal.states_below-requires
states_below-requires c =
    let f = frames_is (goal.at.states_below-requires c).After-read-frames in
    let h = (sound _ _ (sym c.in_ok-check.ensures.verdict)).headed in
    (omega (arith, f, h.sized), omega (arith, f, h.whole, arrays_stand c.args.table.now))

pub states_cents-sum-requires : goal.states_cents-sum-requires
states_cents-sum-requires c =
    omega (arith, c.states_below.ensures, frames_is (goal.at.states_cents-sum-requires c).After-read-frames, (sound _ _ (sym c.in_ok-check.ensures.verdict)).headed.sized)

pub overflow_add-sum : goal.overflow_add-sum
overflow_add-sum c = omega (arith, few (goal.at.overflow_add-sum c).After-states_cents-sum)

pub risen-requires : goal.risen-requires
risen-requires c = few (goal.at.risen-requires c).After-states_cents-sum

pub returns-clause-answer : goal.returns-clause-answer
unfolding charged price
returns-clause-answer c =
    let f = frames_is (goal.at.returns-clause-answer c).After-read-frames in
    let k = c.states_below.ensures.0 ∙ ap (states_below c.args.table.now) f in
    price_answers _ _ _ (accepted_at _ _ (sym c.in_ok-check.ensures.verdict)) refl
    (c.risen.ensures ∙ ap₂ risen f (ap (λ n. base + n) (c.states_cents-sum.ensures ∙ ap states_cents k)))
