-- A number for each state of all layers, in one list: how many there are, where each stands, one replaced, and that they fit. Assumes nothing.
use mathlib.Core.Path.{◌≡◌, sym, ap, ◌∙◌}
use Prim.Native.Nat.{ℕ, suc, ◌+◌, ◌^◌, ◌≤◌, ◌<◌}
use native.Mathlib.Omega.{arith}
use lib.ListN.{length, get_or, set}
use Rattle.words.specs.Words.{Fit}
use Rattle.words.proofs.Laws.{fit_at}
use Rattle.layered.specs.Search.{tabulate, total}
use Rattle.layered.proofs.Lists.{total_le, join_cong, join_length, join_at, join_set, below_join, tabulate_cong, tabulate_length, tabulate_at, below_tabulate}
use Rattle.paths.specs.Paths.{of_states}

module _ (T : ℕ) (S : ℕ → ℕ) (f : ℕ → ℕ → ℕ) where
  pub states_length : length (of_states T S f) ≡ total (suc T) S
  unfolding of_states
  states_length = join_length (suc T) _ S (λ t h. tabulate_length (S t) (f t))

  pub states_at : (t s : ℕ) → t ≤ T → s < S t → get_or (of_states T S f) (total t S + s) 0 ≡ f t s
  unfolding of_states
  states_at t s b l =
      ap (λ n. get_or (of_states T S f) (n + s) 0) (sym (join_length t (λ t. tabulate (S t) (f t)) S (λ t h. tabulate_length (S t) (f t))))
      ∙ join_at (suc T) t s (λ t. tabulate (S t) (f t)) (omega arith) (omega (arith, tabulate_length (S t) (f t)))
      ∙ tabulate_at (S t) s (f t) l

  pub states_cong : (g : ℕ → ℕ → ℕ) → ((t s : ℕ) → t ≤ T → s < S t → f t s ≡ g t s) → of_states T S f ≡ of_states T S g
  unfolding of_states
  states_cong g e = join_cong (suc T) _ _ (λ t h. tabulate_cong (S t) (f t) (g t) (λ s l. e t s (omega arith) l))

  pub states_set : (g : ℕ → ℕ → ℕ) (t s : ℕ) → t ≤ T → s < S t → ((k r : ℕ) → k ≤ T → r < S k → (k ≡ t → r ≡ s → ⊥) → g k r ≡ f k r)
      → of_states T S g ≡ set (of_states T S f) (total t S + s) (g t s)
  unfolding of_states
  states_set g t s b l e = join_set (suc T) t s S f g (omega arith) l (λ k r h m n. e k r (omega arith) m n)

  -- a state's number is among all
  pub states_in : (t s : ℕ) → t ≤ T → s < S t → total t S + s < total (suc T) S
  unfolding total
  states_in t s b l = omega (arith, total_le (suc t) (suc T) S (omega arith))

-- numbers for all states fit, where each does
pub fit_states : (T : ℕ) (S : ℕ → ℕ) (f : ℕ → ℕ → ℕ) → ((t s : ℕ) → t ≤ T → s < S t → f t s < 256 ^ 4) → Fit 4 (of_states T S f)
unfolding of_states
fit_states T S f B = fit_at (of_states T S f) (below_join (suc T) (λ t. tabulate (S t) (f t)) (λ t h. below_tabulate (S t) (f t) (λ s l. B t s (omega arith) l)))
