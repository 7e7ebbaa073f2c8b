-- Histories, a word at a time.
use mathlib.Core.Path.{◌≡◌, refl, sym, ap, ap₂, ◌∙◌, subst}
use Prim.Native.Nat.{ℕ, zero, suc, ◌+◌, ◌*◌, ◌/◌, ◌%◌, ◌^◌, ◌<◌}
use native.Mathlib.Nat.{mod-lt, pow-suc, mul-zero, not-suc-le-zero, div-lt_iff_lt-mul}
use native.Mathlib.Omega.{arith}
use lib.Arith.{digits_lt, digits_div, digits_mod}
use Rattle.merged.specs.Merged.{Target, Merged, Proper, entries_of, Same}
use Rattle.merged.specs.Demands.{target_after, state_after, Within}

positive : (K a h : ℕ) → h < a * K → 0 < K
positive zero a h l = absurd (not-suc-le-zero (rw mul-zero at l))
positive (suc K) a h l = omega arith

-- the words of a history of one word more
pub some_word : (K t h : ℕ) → h < K ^ suc t → 0 < K
some_word K t h l = positive K (K ^ t) h (rw pow-suc at l)

pub word_below : (K t h : ℕ) → h < K ^ suc t → h % K < K
word_below K t h l = mod-lt h (some_word K t h l)

pub before_below : (K t h : ℕ) → h < K ^ suc t → h / K < K ^ t
before_below K t h l = (div-lt_iff_lt-mul (some_word K t h l)).1 (rw pow-suc at l)

module _ (B : Target) where
  pub target_more : (t h w : ℕ) → w < B.K → target_after B (suc t) (h * B.K + w) ≡ B.machine.next t (target_after B t h) w
  unfolding target_after
  target_more t h w l = ap₂ (λ g v. B.machine.next t (target_after B t g) v) (digits_div h l) (digits_mod h l)

  module _ (next : ℕ → ℕ) where
    entry_more : (t h w : ℕ) → w < B.K
        → state_after B next t ((h * B.K + w) / B.K) * B.K + (h * B.K + w) % B.K ≡ state_after B next t h * B.K + w
    entry_more t h w l = ap₂ (λ g v. state_after B next t g * B.K + v) (digits_div h l) (digits_mod h l)

    pub state_more : (t h w : ℕ) → w < B.K → state_after B next (suc t) (h * B.K + w) ≡ next (state_after B next t h * B.K + w)
    unfolding state_after
    state_more t h w l = ap next (entry_more t h w l)

    pub within_more : (p t h w : ℕ) → w < B.K → Within B next p t h → state_after B next t h * B.K + w < p → Within B next p (suc t) (h * B.K + w)
    unfolding Within
    within_more p t h w l W b = (subst (Within B next p t) (sym (digits_div h l)) W, subst (λ e. e < p) (sym (entry_more t h w l)) b)

    -- what is within a prefix is within a longer one
    pub within_longer : (p r t h : ℕ) → ((e : ℕ) → e < p → e < r) → Within B next p t h → Within B next r t h
    unfolding Within
    within_longer p r zero h l W = tt
    within_longer p r (suc t) h l W = (within_longer p r t (h / B.K) l W.0, l _ W.1)

  -- next states that are the same on a prefix lead to the same states, by the same entries
  pub within_same : (f g : ℕ → ℕ) (p : ℕ) → Same p f g → (t h : ℕ) → Within B f p t h → (state_after B f t h ≡ state_after B g t h) × Within B g p t h
  unfolding Same Within state_after
  within_same f g p S zero h W = (refl, tt)
  within_same f g p S (suc t) h W =
      let I = within_same f g p S t (h / B.K) W.0 in
      let E : state_after B f t (h / B.K) * B.K + h % B.K ≡ state_after B g t (h / B.K) * B.K + h % B.K = ap (λ s. s * B.K + h % B.K) I.0 in
      (S _ W.1 ∙ ap g E, (I.1, subst (λ e. e < p) E W.1))

  -- a machine's history is within its entries, and leads to one of its states
  pub within_all : (G : Merged) → Proper B G → (t h : ℕ) → h < B.K ^ t → Within B G.next (entries_of B G.states) t h × (state_after B G.next t h < G.states)
  unfolding Within state_after entries_of
  within_all G P zero h l = (tt, P.some)
  within_all G P (suc t) h l =
      let I = within_all G P t (h / B.K) (before_below B.K t h l) in
      let b = digits_lt I.1 (word_below B.K t h l) in
      ((I.0, b), P.next_is _ b)
