-- States in forward order.
use mathlib.Core.Path.{◌≡◌, refl, sym, ap, ap₂, ◌∙◌, subst}
use mathlib.Core.Logic.{◌⊎◌, inl, inr, ⊎_elim}
use Prim.Native.Nat.{ℕ, suc, ◌+◌, ◌*◌, ◌/◌, ◌%◌, ◌^◌, ◌≤◌, ◌<◌}
use native.Mathlib.Nat.{le_refl, le_antisymm, mod-lt, pow-suc, div-lt_iff_lt-mul, div-add-mod'}
use native.Mathlib.Omega.{arith}
use lib.Arith.{digits_lt, digits_div, digits_mod}
use lib.Dec.{T as Yes, eqb→eq}
use Rattle.layered.specs.Search.{tally}
use Rattle.layered.specs.States.{Equivalent, smallest, first, count, number, history}
use Rattle.layered.proofs.Search.{eq-eqb}
use Rattle.layered.proofs.States.{equivalent_step, smallest_is, smallest_le, smallest_least, first_smallest, number_decides, number_below, history_is, history_least, number_order}
use Rattle.diagrams.specs.Forward.{candidate, InForwardOrder}
use Rattle.diagrams.proofs.Growth.{decide}
use Rattle.diagrams.proofs.Tallies.{tally_into}

module _ (K T : ℕ) (y : ℕ → ℕ → ℕ) (t : ℕ) (pos : 0 < K) (last : t < T) where
  -- ---- smallest histories

  -- a state's history is the smallest of its class
  own_least : (s k : ℕ) → s < count K T y t → Equivalent K T y t k (history K T y t s) → history K T y t s ≤ k
  own_least s k l E =
      let h = history_is K T y t s l in
      let n : number K T y t k ≡ s = (number_decides K T y t k (history K T y t s)).1 E ∙ h.1 in
      let c : ¬ (k < history K T y t s) = λ b. omega (arith, history_least K T y t s k (omega (arith, h.0)) n) in
      omega arith

  histories_grow : (r s : ℕ) → r < s → s < count K T y t → history K T y t r < history K T y t s
  histories_grow r s l b =
      let hr = history_is K T y t r (omega arith) in
      let hs = history_is K T y t s b in
      let c : ¬ (history K T y t s < history K T y t r) = λ d. omega (arith, number_order K T y t _ _ d (λ k E. own_least r k (omega arith) E), hr.1, hs.1) in
      let e : ¬ (history K T y t s ≡ history K T y t r) = λ d. omega (arith, ap (number K T y t) d, hr.1, hs.1) in
      omega arith

  -- ---- candidates

  module _ (c : ℕ) (l : c < count K T y t * K) where
    state_in : c / K < count K T y t
    state_in = (div-lt_iff_lt-mul pos).1 l

    pub cand_in : candidate K T y t c < K ^ suc t
    unfolding candidate
    cand_in = rw pow-suc (digits_lt (history_is K T y t (c / K) state_in).0 (mod-lt c pos))

  cands_grow : (c d : ℕ) → c < d → d < count K T y t * K → candidate K T y t c < candidate K T y t d
  unfolding candidate
  cands_grow c d l b = go (decide (c / K) (d / K))
    where
      wc : c % K < K
      wc = mod-lt c pos

      wd : d % K < K
      wd = mod-lt d pos

      ec : c / K * K + c % K ≡ c
      ec = div-add-mod' c K

      ed : d / K * K + d % K ≡ d
      ed = div-add-mod' d K

      go : (c / K ≡ d / K) ⊎ ((c / K ≡ d / K) → ⊥) → history K T y t (c / K) * K + c % K < history K T y t (d / K) * K + d % K
      go (inl e) =
          let q : c / K * K ≡ d / K * K = ap (λ s. s * K) e in
          let r : history K T y t (c / K) * K ≡ history K T y t (d / K) * K = ap (λ s. history K T y t s * K) e in
          omega (arith, ec, ed, q, r)
      go (inr n) =
          let up : ¬ (d / K < c / K) = λ k. omega (arith, digits_lt {m = c / K} {c = K} k wd, ec, ed) in
          let s : c / K < d / K = omega arith in
          omega (arith, digits_lt {c = K} (histories_grow (c / K) (d / K) s (state_in d b)) wc)

  cands_apart : (c d : ℕ) → c < count K T y t * K → d < count K T y t * K → candidate K T y t c ≡ candidate K T y t d → c ≡ d
  cands_apart c d a b e =
      let x : ¬ (c < d) = λ l. omega (arith, cands_grow c d l b) in
      let z : ¬ (d < c) = λ l. omega (arith, cands_grow d c l a) in
      omega arith

  -- each smallest history of layer t + 1 is a candidate
  covers : (h : ℕ) → h < K ^ suc t → Yes (first K T y (suc t) h) → (c : ℕ) × (c < count K T y t * K) × (candidate K T y t c ≡ h)
  unfolding first candidate
  covers h l f =
      let q = h / K in
      let w = h % K in
      let wl : w < K = mod-lt h pos in
      let e : q * K + w ≡ h = div-add-mod' h K in
      let ql : q < K ^ t = (div-lt_iff_lt-mul pos).1 (rw pow-suc at l) in
      let p = smallest K T y t q in
      let E = (equivalent_step K T y t p q w last wl (smallest_is K T y t q)).1 in
      let u : smallest K T y (suc t) (q * K + w) ≤ p * K + w = smallest_least K T y (suc t) (p * K + w) (q * K + w) E in
      let v : smallest K T y (suc t) (q * K + w) ≡ h = ap (smallest K T y (suc t)) e ∙ eqb→eq _ h f in
      let d : ¬ (p < q) = λ k. omega (arith, digits_lt {c = K} k wl, u, v, e) in
      let s = number K T y t q in
      let sl : s < count K T y t = number_below K T y t q ql in
      let hs = history_is K T y t s sl in
      let a : history K T y t s ≤ q = history_least K T y t s q ql refl in
      let b : p ≤ history K T y t s = smallest_least K T y t (history K T y t s) q ((number_decides K T y t (history K T y t s) q).0 hs.1) in
      let same : history K T y t s ≡ q = omega arith in
      let dv : (s * K + w) / K ≡ s = digits_div s wl in
      let md : (s * K + w) % K ≡ w = digits_mod s wl in
      (s * K + w, digits_lt sl wl, ap₂ (λ s w. history K T y t s * K + w) dv md ∙ ap (λ q. q * K + w) same ∙ e)

  -- ---- as many new candidates as smallest histories

  new_fewer : (c h : ℕ) → ((d : ℕ) → d < c → candidate K T y t d < h) → c ≤ count K T y t * K
      → tally c (λ d. first K T y (suc t) (candidate K T y t d)) ≤ tally h (first K T y (suc t))
  new_fewer c h b m = tally_into (λ d g. (candidate K T y t d ≡ g) × (d < c)) (λ d. first K T y (suc t) (candidate K T y t d)) c h (first K T y (suc t))
      (λ d l f. (candidate K T y t d, b d l, f, (refl, l)))
      (λ d e g _ _ x z. cands_apart d e (omega (arith, x.1)) (omega (arith, z.1)) (x.0 ∙ sym z.0))

  new_more : (c h : ℕ) → ((g : ℕ) → g < h → Yes (first K T y (suc t) g) → (d : ℕ) × (d < c) × (candidate K T y t d ≡ g))
      → tally h (first K T y (suc t)) ≤ tally c (λ d. first K T y (suc t) (candidate K T y t d))
  new_more c h b = tally_into (λ g d. candidate K T y t d ≡ g) (first K T y (suc t)) h c (λ d. first K T y (suc t) (candidate K T y t d))
      (λ g l f. let d = b g l f in (d.0, d.1, subst (λ g. Yes (first K T y (suc t) g)) (sym d.2) f, d.2))
      (λ g i d _ _ x z. sym x ∙ z)

  is_new_lem : (c : ℕ) → c < count K T y t * K → Yes (first K T y (suc t) (candidate K T y t c)) → (d : ℕ) → d < c → Equivalent K T y (suc t) (candidate K T y t d) (candidate K T y t c) → ⊥
  unfolding first
  is_new_lem c l f d b E =
      omega (arith, smallest_least K T y (suc t) (candidate K T y t d) (candidate K T y t c) E, eqb→eq (smallest K T y (suc t) (candidate K T y t c)) (candidate K T y t c) f, cands_grow d c b l)

  is_first : (c : ℕ) → c < count K T y t * K → ((d : ℕ) → d < c → Equivalent K T y (suc t) (candidate K T y t d) (candidate K T y t c) → ⊥) → Yes (first K T y (suc t) (candidate K T y t c))
  unfolding first
  is_first c l none =
      let h = candidate K T y t c in
      let g = smallest K T y (suc t) h in
      let le = smallest_le K T y (suc t) h in
      let E = smallest_is K T y (suc t) h in
      let r = covers g (omega (arith, le, cand_in c l)) (first_smallest K T y (suc t) h) in
      let n : ¬ (r.0 < c) = λ b. none r.0 b (subst (λ g. Equivalent K T y (suc t) g h) (sym r.2) E) in
      let k : ¬ (g < h) = λ b. ⊎_elim (λ e. omega (arith, ap (candidate K T y t) e, r.2)) (λ m. omega (arith, cands_grow c r.0 (omega arith) r.1, r.2)) (decide r.0 c) in
      let e : g ≡ h = omega arith in
      eq-eqb e

  pub first_is : (h : ℕ) → Yes (first K T y (suc t) h) → smallest K T y (suc t) h ≡ h
  unfolding first
  first_is h f = eqb→eq (smallest K T y (suc t) h) h f

  not_past : (c d : ℕ) → d < count K T y t * K → candidate K T y t d < candidate K T y t c → d < c
  not_past c d l b =
      let x : ¬ (c < d) = λ k. omega (arith, cands_grow c d k l) in
      let z : ¬ (c ≡ d) = λ e. omega (arith, ap (candidate K T y t) e) in
      omega arith

  numbered : (c : ℕ) → c < count K T y t * K → Yes (first K T y (suc t) (candidate K T y t c)) → number K T y (suc t) (candidate K T y t c) ≡ tally c (λ d. first K T y (suc t) (candidate K T y t d))
  unfolding number
  numbered c l f =
      let h = candidate K T y t c in
      let own : smallest K T y (suc t) h ≡ h = first_is h f in
      ap (λ h. tally h (first K T y (suc t))) own
      ∙ le_antisymm
      (new_more c h (λ g b q. let r = covers g (omega (arith, cand_in c l)) q in
      (r.0, omega (arith, not_past c r.0 r.1 (omega (arith, r.2))), r.2)))
      (new_fewer c h (λ d b. cands_grow d c b l) (omega arith))

  counted : count K T y (suc t) ≡ tally (count K T y t * K) (λ d. first K T y (suc t) (candidate K T y t d))
  unfolding count
  counted = le_antisymm (new_more (count K T y t * K) (K ^ suc t) covers) (new_fewer (count K T y t * K) (K ^ suc t) (λ d l. cand_in d l) (le_refl _))

pub in_forward_order : InForwardOrder
unfolding InForwardOrder
in_forward_order K T y t pos last = record { new = λ c l. (is_new_lem K T y t pos last c l, is_first K T y t pos last c l); numbered = numbered K T y t pos last; counted = counted K T y t pos last }
