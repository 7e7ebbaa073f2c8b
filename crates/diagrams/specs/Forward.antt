-- The states of a layer, met in forward order: each state of the layer before, by its smallest history, followed by each word.
use Rattle.std.specs.Prelude.{◌≡◌, Bool, ◌↔◌, ℕ, suc, ◌+◌, ◌*◌, ◌/◌, ◌%◌, ◌<◌, T as Yes}
use Rattle.layered.specs.Search.{tally}
use Rattle.layered.specs.States.{Equivalent, first, count, number, history}
use Rattle.diagrams.specs.Numbering.{is_new, number_same, count_same}

-- candidate c of layer t + 1: word c % K after state c / K of layer t
unfoldable pub candidate : (K T : ℕ) (y : ℕ → ℕ → ℕ) (t c : ℕ) → ℕ
candidate K T y t c = history K T y t (c / K) * K + c % K

-- candidates that no earlier one is equivalent to are new; they have the numbers 0, 1, .. in this order, and are all the states of layer t + 1
pub record Forward (K T : ℕ) (y : ℕ → ℕ → ℕ) (t : ℕ) : Type 0 where
  pub new : (c : ℕ) → c < count K T y t * K
      → Yes (first K T y (suc t) (candidate K T y t c)) ↔ ((d : ℕ) → d < c → Equivalent K T y (suc t) (candidate K T y t d) (candidate K T y t c) → ⊥)
  pub numbered : (c : ℕ) → c < count K T y t * K → Yes (first K T y (suc t) (candidate K T y t c))
      → number K T y (suc t) (candidate K T y t c) ≡ tally c (λ d. first K T y (suc t) (candidate K T y t d))
  pub counted : count K T y (suc t) ≡ tally (count K T y t * K) (λ d. first K T y (suc t) (candidate K T y t d))

unfoldable pub InForwardOrder : Type 0
InForwardOrder = (K T : ℕ) (y : ℕ → ℕ → ℕ) (t : ℕ) → 0 < K → t < T → Forward K T y t

-- `same` tests which candidates are equivalent
unfoldable pub Tells : (K T : ℕ) (y : ℕ → ℕ → ℕ) (t : ℕ) (same : ℕ → ℕ → Bool) → Type 0
Tells K T y t same = (d c : ℕ) → d < count K T y t * K → c < count K T y t * K → Yes (same d c) ↔ Equivalent K T y (suc t) (candidate K T y t d) (candidate K T y t c)

-- the candidates numbered by `same` have the numbers of their states, and a new one is its state's smallest history
pub record ByClasses (K T : ℕ) (y : ℕ → ℕ → ℕ) (t : ℕ) (same : ℕ → ℕ → Bool) : Type 0 where
  pub class_number : (c : ℕ) → c < count K T y t * K → number_same same c ≡ number K T y (suc t) (candidate K T y t c)
  pub class_count : count_same same (count K T y t * K) ≡ count K T y (suc t)
  pub class_history : (c : ℕ) → c < count K T y t * K → Yes (is_new same c) → history K T y (suc t) (number_same same c) ≡ candidate K T y t c

unfoldable pub StatesByClasses : Type 0
StatesByClasses = (K T : ℕ) (y : ℕ → ℕ → ℕ) (t : ℕ) (same : ℕ → ℕ → Bool) → 0 < K → t < T → Tells K T y t same → ByClasses K T y t same
