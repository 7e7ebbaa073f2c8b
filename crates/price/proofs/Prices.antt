-- The price of more states, and what each answer of pricing tells. Assumes nothing.
use mathlib.Core.Path.{◌≡◌, ap, ◌∙◌}
use mathlib.Core.Bool.{cond}
use mathlib.Core.List.{List}
use Prim.Native.Nat.{ℕ, ◌+◌, ◌≤◌, ◌<◌}
use native.Mathlib.Decide.{dec_lt}
use native.Mathlib.Omega.{arith}
use lib.Dec.{ltb}
use borrow.Author.Tests.{lt-ltb, le-ltb}
use Rattle.verdict.specs.Judgements.{answer, refusal_figures}
use Rattle.verdict.specs.declared.Figures.{Figures}
use Rattle.std.specs.Prelude.{Result, Err, IsErrAnd}
use Rattle.std.proofs.lemmas.Result.{err_from_is_err_and}
use Rattle.verdict.specs.declared.Refusal.{Refusal}
use Rattle.verdict.proofs.Laws.{refusal_number}
use Rattle.sizes.specs.Sizes.{frames}
use Rattle.layered.proofs.Lists.{total_le}
use Rattle.table.specs.Table.{checked}
use Rattle.price.specs.Tariff.{bands, base, plain_frames}
use Rattle.price.specs.Price.{charged, state_cents, states_cents, rise, risen, price, priced_after, priced, price_figures}

-- ---- more states never cost less, and neither do more frames

rise_le : (a b : ℕ) → a ≤ b → rise a ≤ rise b
unfolding rise
rise_le a b h = omega arith

-- over more frames no less
risen_le : (R T a b : ℕ) → R ≤ T → a ≤ b → risen R a ≤ risen T b
unfolding risen
risen_le R T a b f h = go (dec_lt plain_frames R)
  where
    go : Dec (plain_frames < R) → a + cond (ltb plain_frames R) (rise a) 0 ≤ b + cond (ltb plain_frames T) (rise b) 0
    go (yes l) = rw (lt-ltb plain_frames R l, lt-ltb plain_frames T (omega arith)) (omega (arith, rise_le a b h))
    go (no n) = rw (le-ltb plain_frames R (omega arith)) (omega arith)

pub price_le : (R T j k : ℕ) → R ≤ T → j ≤ k → price R j ≤ price T k
unfolding price states_cents
price_le R T j k f h =
    let l = total_le j k (state_cents bands) h in
    risen_le R T (base + states_cents j) (base + states_cents k) f (omega (arith, l))

-- ---- what pricing answers

-- where the table's checks accept, the price
pub cents_are : (b : List ℕ) (p : ℕ) → checked b ≡ answer 0 p → (priced b).cents ≡ price (frames b) (charged b)
unfolding priced
cents_are b p e = ap (λ (f : Figures). (priced_after f b).cents) e

pub price_answers : (b : List ℕ) (p c : ℕ) → checked b ≡ answer 0 p → p ≡ 0 → c ≡ price (frames b) (charged b) → record { number = 0; place = 0; cents = c } ≡ priced b
unfolding priced
price_answers b p c e z q = rw (e, z, q)

-- where they refuse, the refusal
pub refusal_answers : (b : List ℕ) (x : Result ℕ Refusal) (r : Refusal) → IsErrAnd x (λ y. y ≡ r) → refusal_figures r ≡ checked b → price_figures x ≡ priced b
unfolding priced
refusal_answers b x r h e = let p = err_from_is_err_and x h in ap price_figures (p.1 ∙ ap Err p.2) ∙ rw (← e, refusal_number r)
