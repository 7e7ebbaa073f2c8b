-- The counts of a plan as a list, and the plan of a circuit whose states are counted. Assumes nothing.
use mathlib.Core.Path.{◌≡◌, sym, ap, ap₂, ◌∙◌}
use mathlib.Core.Bool.{cond}
use mathlib.Core.Logic.{⊎_elim}
use mathlib.Core.List.{List, [], ◌∷◌, ◌++◌}
use Prim.Native.Nat.{ℕ, ◌*◌, ◌^◌, ◌≤◌, ◌<◌}
use native.Mathlib.Omega.{arith}
use native.Mathlib.Decide.{dec_lt}
use native.Mathlib.Nat.{mul-le-mul_left, eq-or-lt_of_le}
use lib.Dec.{ltb}
use lib.Pow.{pow_pos, pow_mono}
use lib.ListN.{length, get_or}
use borrow.Author.Tests.{le-ltb, lt-ltb}
use Rattle.sizes.specs.Sizes.{inputs, outputs, frames}
use Rattle.layered.proofs.Lists.{tabulated}
use Rattle.circuit.specs.WellFormed.{CircuitHeaded, Accepted}
use Rattle.circuit.specs.Theorems.{response}
use Rattle.layered.specs.States.{count}
use Rattle.layered.proofs.States.{count_last}
use Rattle.folded.specs.Folded.{folded_bytes}
use Rattle.folded.specs.Planned.{counts_to, folded_plan}
use Rattle.folded.proofs.Plans.{folded_plan_lem}
use Rattle.ask.specs.Plan.{Counted}

-- ---- counts

-- how many states layer t has
abbrev pub state_count : List ℕ → (t : ℕ) → ℕ
state_count b t = count (2 ^ inputs b) (frames b) (response b) t

-- the counts of a circuit's layers: of the last too, and 0 beyond it
pub counts_are : (b counts : List ℕ) → 1 ≤ frames b → Counted b counts → (t : ℕ) → t ≤ frames b → get_or counts t 0 ≡ state_count b t
counts_are b counts h C t l = ⊎_elim
    (λ e. ap (λ t. get_or counts t 0) e ∙ C.last ∙ sym (count_last (2 ^ inputs b) (frames b) (response b) (pow_pos (inputs b))) ∙ ap (state_count b) (sym e))
    (λ k. C.known t (omega arith))
    (eq-or-lt_of_le l)

counts_to_lem : (b counts : List ℕ) → 1 ≤ frames b → Counted b counts → counts ≡ counts_to (frames b) (state_count b)
unfolding counts_to
counts_to_lem b counts h C = tabulated 17 (λ k. cond (ltb (frames b) k) 0 (state_count b k)) counts C.places (λ i l. at i (dec_lt (frames b) i))
  where
    at : (i : ℕ) → Dec (frames b < i) → get_or counts i 0 ≡ cond (ltb (frames b) i) 0 (state_count b i)
    at i (yes l) = C.none i (omega arith) (λ e. omega arith) ∙ rw (lt-ltb (frames b) i l)
    at i (no n) = counts_are b counts h C i (omega arith) ∙ rw (le-ltb (frames b) i (omega arith))

-- ---- the plan

pub plan_is : (b counts : List ℕ) (n m T x : ℕ) → Accepted b → 1 ≤ frames b → Counted b counts
    → n ≡ inputs b → m ≡ outputs b → T ≡ frames b → x ≡ length (folded_bytes b)
    → n ∷ m ∷ T ∷ (counts ++ (x ∷ [])) ≡ folded_plan b
plan_is b counts n m T x A h C en em eT ex =
    ap₂ (λ (n : ℕ) (l : List ℕ). n ∷ l) en
    (ap₂ (λ (m : ℕ) (l : List ℕ). m ∷ l) em
    (ap₂ (λ (T : ℕ) (l : List ℕ). T ∷ l) eT
    (ap₂ (λ (c : List ℕ) (x : ℕ). c ++ (x ∷ [])) (counts_to_lem b counts h C) ex)))
    ∙ sym (folded_plan_lem b A)

-- ---- sizes

-- two words at least are below 2^n
pub two_words : (n : ℕ) → 1 ≤ n → 2 ≤ 2 ^ n
two_words n h = pow_mono {i = 1} h

-- the bits of t words
pub bits_below : (b : List ℕ) → CircuitHeaded b → (t : ℕ) → t ≤ frames b → inputs b * t ≤ 16
bits_below b H t h = omega (arith, mul-le-mul_left (inputs b) h, H.sizes.bits_to)
