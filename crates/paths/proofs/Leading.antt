-- Where histories lead: a word at a time, within the layer, and of the last entry of a history. Assumes nothing.
use mathlib.Core.Path.{◌≡◌, sym, ap, ap₂, ◌∙◌}
use mathlib.Core.List.{List, [], ◌∷◌}
use Prim.Native.Nat.{ℕ, suc, ◌+◌, ◌*◌, ◌/◌, ◌%◌, ◌^◌, ◌≤◌, ◌<◌}
use native.Mathlib.Nat.{mod-lt, div-lt_iff_lt-mul, pow-suc}
use native.Mathlib.Omega.{arith}
use lib.Arith.{digits_lt, digits_div, digits_mod}
use lib.ListN.{length}
use Rattle.layered.specs.Histories.{history_words}
use Rattle.layered.specs.Machines.{Machine, Legal, reached}
use Rattle.layered.proofs.Feeding.{reached_append, reached_below}
use Rattle.layered.proofs.Histories.{history_length, number_words}
use Rattle.paths.specs.Paths.{leads_to}
use Rattle.paths.specs.Progress.{last_entry}

module _ (K : ℕ) (M : Machine) where
  -- by its last word, from where the others lead
  pub leads_on : (t h : ℕ) → leads_to K M (suc t) h ≡ M.next t (leads_to K M t (h / K)) (h % K)
  unfolding leads_to history_words reached
  leads_on t h =
      let c : List ℕ = history_words K t (h / K) in
      let e : 0 + length c ≡ t = omega (arith, history_length K t (h / K)) in
      reached_append M 0 M.start c (h % K ∷ []) ∙ ap (λ u. M.next u (reached M 0 M.start c) (h % K)) e

  -- within the layer
  pub leads_below : {m T : ℕ} → Legal K m T M → (t h : ℕ) → t ≤ T → h < K ^ t → leads_to K M t h < M.states t
  unfolding leads_to
  leads_below L t h b l = let e : 0 + t ≡ t = omega arith in rw e at (reached_below M L 0 M.start (omega arith) L.start_is (number_words K t h l).0)

  -- a history without its last word
  pub front_below : 0 < K → (t h : ℕ) → h < K ^ suc t → h / K < K ^ t
  front_below p t h l = (div-lt_iff_lt-mul p).1 (rw pow-suc at l)

  -- the last entry is one of the layer's
  pub last_below : {m T : ℕ} → Legal K m T M → 0 < K → (t h : ℕ) → t ≤ T → h < K ^ suc t → last_entry K M t h < M.states t * K
  unfolding last_entry
  last_below L p t h b l = digits_lt (leads_below L t (h / K) b (front_below p t h l)) (mod-lt h p)

  -- it tells the state before, and the last word
  pub last_tells : (t h s w : ℕ) → w < K → last_entry K M t h ≡ s * K + w → (leads_to K M t (h / K) ≡ s) × (h % K ≡ w)
  unfolding last_entry
  last_tells t h s w l e =
      let p : 0 < K = omega arith in
      let r = mod-lt h p in
      (sym (digits_div (leads_to K M t (h / K)) r) ∙ ap (λ x. x / K) e ∙ digits_div s l, sym (digits_mod (leads_to K M t (h / K)) r) ∙ ap (λ x. x % K) e ∙ digits_mod s l)

  pub last_is : (t h s w : ℕ) → leads_to K M t (h / K) ≡ s → h % K ≡ w → last_entry K M t h ≡ s * K + w
  unfolding last_entry
  last_is t h s w e f = ap₂ (λ a v. a * K + v) e f
