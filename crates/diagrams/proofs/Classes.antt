-- The states of the next layer by a test of candidates.
use mathlib.Core.Path.{◌≡◌, refl, sym, ap, ◌∙◌, subst}
use mathlib.Core.Bool.{Bool}
use mathlib.Core.Logic.{◌↔◌}
use mathlib.Core.List.{List}
use Prim.Native.Nat.{ℕ, suc, ◌+◌, ◌*◌, ◌-◌, ◌/◌, ◌%◌, ◌^◌, ◌≤◌, ◌<◌}
use native.Mathlib.Nat.{le_refl, le_antisymm, mod-lt}
use native.Mathlib.Omega.{arith}
use lib.Pow.{pow_pos}
use lib.Dec.{T as Yes, eqb, eqb→eq}
use Rattle.layered.specs.Search.{every, tally}
use Rattle.layered.specs.States.{Equivalent, first, count, number, history}
use Rattle.layered.proofs.Search.{eq-eqb, iff_eq, every_all, all_every, tally_cong}
use Rattle.layered.proofs.States.{equivalent_refl, equivalent_sym, equivalent_trans, smallest_least, number_decides, number_below, history_is, history_least}
use Rattle.diagrams.specs.Diagrams.{Nodes, follow, Reduced}
use Rattle.diagrams.specs.Theorems.{Holds}
use Rattle.diagrams.specs.Frames.{word_bits, history_bits, Responds, StatesByCut}
use Rattle.diagrams.specs.Paths.{path_of}
use Rattle.diagrams.specs.Numbering.{first_same, is_new, number_same, count_same}
use Rattle.diagrams.specs.Forward.{candidate, Forward, InForwardOrder, Tells, StatesByClasses}
use Rattle.diagrams.specs.Leads.{lead, same_leads, LeadsTell}
use Rattle.diagrams.proofs.Frames.{states_by_cut}
use Rattle.diagrams.proofs.Forward.{cand_in, first_is, in_forward_order}
use Rattle.diagrams.proofs.Numbering.{new_decides, Equivalence, first_below, first-same, first_new}
use Rattle.diagrams.proofs.Paths.{path_bits, follow_next}

-- ---- candidates by a test

module _ (K T : ℕ) (y : ℕ → ℕ → ℕ) (t : ℕ) (same : ℕ → ℕ → Bool) (pos : 0 < K) (last : t < T) (tells : Tells K T y t same) where
  forward : Forward K T y t
  unfolding InForwardOrder
  forward = in_forward_order K T y t pos last

  -- such a test is an equivalence
  pub told_equivalence : Equivalence (count K T y t * K) same
  unfolding Tells
  told_equivalence = record {
    itself = λ c l. (tells c c l l).1 (equivalent_refl K T y (suc t) _);
    back = λ d c k l s. (tells c d l k).1 (equivalent_sym K T y (suc t) _ _ ((tells d c k l).0 s));
    through = λ b d c k m l s r. (tells b c k l).1 (equivalent_trans K T y (suc t) _ _ _ ((tells b d k m).0 s) ((tells d c m l).0 r));
  }

  -- new are the smallest histories
  new_first : (c : ℕ) → c < count K T y t * K → is_new same c ≡ first K T y (suc t) (candidate K T y t c)
  unfolding Tells
  new_first c l = iff_eq _ _
      (λ n. (forward.new c l).1 (λ d h E. (new_decides same c).0 n d h ((tells d c (omega arith) l).1 E)))
      (λ f. (new_decides same c).1 (λ d h s. (forward.new c l).0 f d h ((tells d c (omega arith) l).0 s)))

  new_tally : (c : ℕ) → c ≤ count K T y t * K → tally c (is_new same) ≡ tally c (λ d. first K T y (suc t) (candidate K T y t d))
  new_tally c l = tally_cong c (λ d h. new_first d (omega arith))

  class_number : (c : ℕ) → c < count K T y t * K → number_same same c ≡ number K T y (suc t) (candidate K T y t c)
  unfolding number_same Tells
  class_number c l =
      let E = told_equivalence in
      let d = first_same same c in
      let b : d < count K T y t * K = first_below (count K T y t * K) same E c l in
      let f : Yes (first K T y (suc t) (candidate K T y t d)) = subst Yes (new_first d b) (first_new (count K T y t * K) same E c l) in
      new_tally d (omega arith) ∙ sym (forward.numbered d b f) ∙ (number_decides K T y (suc t) _ _).1 ((tells d c b l).0 (first-same (count K T y t * K) same E c l))

  class_count : count_same same (count K T y t * K) ≡ count K T y (suc t)
  unfolding count_same
  class_count = new_tally (count K T y t * K) (le_refl _) ∙ sym forward.counted

  -- the history of a smallest history's state is that history
  history_own : (h : ℕ) → h < K ^ suc t → Yes (first K T y (suc t) h) → history K T y (suc t) (number K T y (suc t) h) ≡ h
  history_own h l f =
      let s = number K T y (suc t) h in
      let i = history_is K T y (suc t) s (number_below K T y (suc t) h l) in
      le_antisymm
      (history_least K T y (suc t) s h l refl)
      (omega (arith, first_is K T y t pos last h f, smallest_least K T y (suc t) (history K T y (suc t) s) h ((number_decides K T y (suc t) (history K T y (suc t) s) h).0 i.1)))

  class_history : (c : ℕ) → c < count K T y t * K → Yes (is_new same c) → history K T y (suc t) (number_same same c) ≡ candidate K T y t c
  class_history c l n = ap (history K T y (suc t)) (class_number c l) ∙ history_own (candidate K T y t c) (cand_in K T y t pos last c l) (subst Yes (new_first c l) n)

pub states_by_classes : StatesByClasses
unfolding StatesByClasses
states_by_classes K T y t same pos last tells =
    record { class_number = class_number K T y t same pos last tells; class_count = class_count K T y t same pos last tells; class_history = class_history K T y t same pos last tells }

-- ---- candidates by where they lead

-- from where its state leads, by its word
pub lead_next : (n m T : ℕ) (y : ℕ → ℕ → ℕ) (D : Nodes) (root : ℕ → ℕ) (t c i : ℕ)
    → lead n m T y D root t c i ≡ follow D (suc (n * t)) (word_bits n (c % 2 ^ n)) (follow D 1 (word_bits (n * t) (path_of n t (history (2 ^ n) T y t (c / 2 ^ n)))) (root (m * suc t + i)))
unfolding lead candidate
lead_next n m T y D root t c i = follow_next D n t (history (2 ^ n) T y t (c / 2 ^ n)) (c % 2 ^ n) (root (m * suc t + i)) (mod-lt c (pow_pos n))

module _ (n m T : ℕ) (y : ℕ → ℕ → ℕ) (F : ℕ → List Bool → Bool) (D : Nodes) (root : ℕ → ℕ) (red : Reduced (n * T) D) (holds : Holds (n * T) (m * T) F D root) (R : Responds n m T y F) (t : ℕ) (last : t < T) where
  -- as the cut has it
  lead_is : (c i : ℕ) → lead n m T y D root t c i ≡ follow D 1 (history_bits n (suc t) (candidate (2 ^ n) T y t c)) (root (m * suc t + i))
  unfolding lead
  lead_is c i = ap (λ vs. follow D 1 vs (root (m * suc t + i))) (path_bits n (suc t) (candidate (2 ^ n) T y t c))

  leads_tell_at : Tells (2 ^ n) T y t (same_leads n m T y D root t)
  unfolding Tells same_leads StatesByCut
  leads_tell_at d c _ _ = (there, back)
    where
      g : ℕ
      g = candidate (2 ^ n) T y t d

      h : ℕ
      h = candidate (2 ^ n) T y t c

      cut : Equivalent (2 ^ n) T y (suc t) g h ↔ ((o : ℕ) → m * suc t ≤ o → o < m * T → follow D 1 (history_bits n (suc t) g) (root o) ≡ follow D 1 (history_bits n (suc t) h) (root o))
      cut = states_by_cut n m T y F D root red holds R (suc t) g h last

      there : Yes (every (m * T - m * suc t) (λ i. eqb (lead n m T y D root t d i) (lead n m T y D root t c i))) → Equivalent (2 ^ n) T y (suc t) g h
      there s = cut.1 λ o a b.
          let i : ℕ = o - m * suc t in
          let e : m * suc t + i ≡ o = omega arith in
          let q : lead n m T y D root t d i ≡ lead n m T y D root t c i = eqb→eq _ _ (every_all _ (m * T - m * suc t) s i (omega arith)) in
          subst (λ o. follow D 1 (history_bits n (suc t) g) (root o) ≡ follow D 1 (history_bits n (suc t) h) (root o)) e (sym (lead_is d i) ∙ q ∙ lead_is c i)

      back : Equivalent (2 ^ n) T y (suc t) g h → Yes (every (m * T - m * suc t) (λ i. eqb (lead n m T y D root t d i) (lead n m T y D root t c i)))
      back E = all_every _ (m * T - m * suc t) λ i l. eq-eqb (lead_is d i ∙ cut.0 E (m * suc t + i) (omega arith) (omega arith) ∙ sym (lead_is c i))

pub leads_tell : LeadsTell
unfolding LeadsTell
leads_tell = leads_tell_at
