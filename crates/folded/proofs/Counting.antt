-- Number 18, by the first gate for whose nodes the records are too few.
use mathlib.Core.Path.{◌≡◌, refl, sym, ap, ◌∙◌, subst}
use mathlib.Core.Bool.{Bool, true, false}
use mathlib.Core.Logic.{◌⊎◌, inl, inr, ⊎_elim}
use mathlib.Core.List.{List}
use Prim.Native.Nat.{ℕ, suc, ◌+◌, ◌≤◌, ◌<◌, min}
use native.Mathlib.Nat.{eq-or-lt_of_le}
use native.Mathlib.Omega.{arith}
use lib.Dec.{ltb}
use borrow.Author.Tests.{lt-ltb, le-ltb, ltb-true, ltb-false}
use Rattle.verdict.specs.Judgements.{answer}
use Rattle.verdict.specs.declared.Figures.{Figures}
use Rattle.verdict.proofs.Laws.{first_is, finds_none, none_found, first_cong}
use Rattle.layered.proofs.Search.{least_tells, least_le}
use Rattle.circuit.specs.Circuit.{gates, all_inputs}
use Rattle.circuit.specs.WellFormed.{WellFormed}
use Rattle.circuit.specs.declared.Head.{Head}
use Rattle.diagrams.specs.Building.{first_over}
use Rattle.functions.specs.Functions.{signal_on, nodes_to}
use Rattle.functions.specs.Theorems.{FewNodes}
use Rattle.functions.proofs.Signals.{few_nodes}
use Rattle.folded.specs.Folded.{nodes_checked}

module _ (b : List ℕ) (R : ℕ) where
  over : ℕ → Bool
  over g = ltb R (nodes_to b g)

  -- the first gate for whose nodes the records are too few
  abbrev pub first_above : ℕ
  first_above = first_over (all_inputs b) R (gates b) (signal_on b)

  tells : ((i : ℕ) → i < first_above → over i ≡ false) × (first_above < suc (gates b) → over first_above ≡ true)
  unfolding first_over over nodes_to
  tells = least_tells (suc (gates b)) over

  -- there is one, or none
  pub nodes_refused : first_above ≤ gates b → nodes_checked b R ≡ answer 18 first_above
  unfolding nodes_checked over
  nodes_refused h = first_is over 18 (λ g. g) (answer 0 0) first_above (suc (gates b)) (omega arith) tells.0 (tells.1 (omega arith))

  pub nodes_pass : first_above ≡ gates b + 1 → nodes_checked b R ≡ answer 0 0
  unfolding nodes_checked over
  nodes_pass e = finds_none over 18 (λ g. g) (answer 0 0) 0 (suc (gates b)) (λ j lo hi. tells.0 j (omega arith))

  pub first_most : first_above ≤ suc (gates b)
  unfolding first_over
  first_most = least_le (suc (gates b)) _

  pub either : (first_above ≤ gates b) ⊎ (first_above ≡ gates b + 1)
  either = ⊎_elim (λ e. inr (omega arith)) (λ l. inl (omega arith)) (eq-or-lt_of_le first_most)

  -- the place of 18 tells all that it means
  pub nodes_tell : (g : ℕ) → nodes_checked b R ≡ answer 18 g → (g ≤ gates b) × (R < nodes_to b g) × ((k : ℕ) → k < g → nodes_to b k ≤ R)
  unfolding over
  nodes_tell g e = ⊎_elim
      (λ h.
      let q : first_above ≡ g = ap (λ (f : Figures). f.place) (sym (nodes_refused h) ∙ e) in
      subst (λ g. (g ≤ gates b) × (R < nodes_to b g) × ((k : ℕ) → k < g → nodes_to b k ≤ R)) q (h, ltb-true R _ (tells.1 (omega arith)), λ k l. ltb-false R _ (tells.0 k l)))
      (λ h. absurd (omega (arith, ap (λ (f : Figures). f.number) (sym (nodes_pass h) ∙ e))))
      either

  pub nodes_at_lem : (g : ℕ) → g ≤ gates b → R < nodes_to b g → ((k : ℕ) → k < g → nodes_to b k ≤ R) → nodes_checked b R ≡ answer 18 g
  unfolding nodes_checked
  nodes_at_lem g h l f = first_is (λ g. ltb R (nodes_to b g)) 18 (λ g. g) (answer 0 0) g (suc (gates b)) (omega arith) (λ j m. le-ltb R _ (f j m)) (lt-ltb R _ l)

  -- acceptance tells that there are enough
  pub nodes_few : (p : ℕ) → nodes_checked b R ≡ answer 0 p → (g : ℕ) → g ≤ gates b → nodes_to b g ≤ R
  unfolding nodes_checked
  nodes_few p e g h = ltb-false R _ ((none_found (λ g. ltb R (nodes_to b g)) 18 (λ g. g) (answer 0 0) p 0 (suc (gates b)) refl e).0 g (omega arith) (omega arith))

  pub nodes_enough : ((g : ℕ) → g ≤ gates b → nodes_to b g ≤ R) → nodes_checked b R ≡ answer 0 0
  unfolding nodes_checked
  nodes_enough f = finds_none (λ g. ltb R (nodes_to b g)) 18 (λ g. g) (answer 0 0) 0 (suc (gates b)) (λ j lo hi. le-ltb R _ (f j (omega arith)))

-- records beyond what any circuit needs do not matter
pub capped : (b : List ℕ) (h : Head) → WellFormed b h → (R S : ℕ) → S ≡ min R 536870912 → nodes_checked b S ≡ nodes_checked b R
unfolding nodes_checked FewNodes
capped b h W R S e =
    first_cong (λ g. ltb S (nodes_to b g)) (λ g. ltb R (nodes_to b g)) 18 (λ g. g) (answer 0 0) 0 (suc (gates b)) (λ g lo hi. same (nodes_to b g) (few_nodes b h W g (omega arith)))
  where
    same : (n : ℕ) → n < 536870912 → ltb S n ≡ ltb R n
    same n l = go (ltb R n) refl
      where
        go : (t : Bool) → ltb R n ≡ t → ltb S n ≡ ltb R n
        go true q = lt-ltb S n (omega (arith, ltb-true R n q)) ∙ sym q
        go false q = le-ltb S n (omega (arith, ltb-false R n q)) ∙ sym q
