-- What nothing decides is 0 in the machine that is chosen: with 0 instead it would match too, and come before. Assumes nothing.
use mathlib.Core.Path.{◌≡◌, refl, sym, ap, ◌∙◌, subst}
use mathlib.Core.Bool.{Bool, true, false, cond}
use mathlib.Core.Logic.{inl, inr}
use Prim.Native.Nat.{ℕ, zero, suc, ◌+◌, ◌*◌, ◌/◌, ◌%◌, ◌^◌, ◌<◌}
use native.Mathlib.Omega.{arith}
use lib.Dec.{eqb}
use borrow.Author.Tests.{eqb-true, eqb-false, eq-eqb, ne_eqb}
use Rattle.circuit.specs.Lists.{bit}
use Rattle.circuit.proofs.Bits.{bit_zero, bit_suc}
use Rattle.merged.specs.Merged.{Target, Merged, Proper, entries_of, Same, Before, Smaller}
use Rattle.merged.specs.Demands.{state_after, Demand}
use Rattle.merged.specs.Theorems.{Chosen, Used, UndecidedZero}
use Rattle.merged.proofs.Histories.{word_below, before_below, within_all}
use Rattle.merged.proofs.Demands.{satisfied, fulfilled}

-- ---- a word with one bit cleared

clear : (x i : ℕ) → ℕ
clear x zero = x / 2 * 2
clear x (suc i) = clear (x / 2) i * 2 + x % 2

cleared : (x i : ℕ) → bit (clear x i) i ≡ false
unfolding clear
cleared x zero = let e : x / 2 * 2 % 2 ≡ 0 = omega arith in bit_zero _ ∙ ap (λ k. eqb k 1) e
cleared x (suc i) = let e : (clear (x / 2) i * 2 + x % 2) / 2 ≡ clear (x / 2) i = omega arith in bit_suc _ i ∙ ap (λ y. bit y i) e ∙ cleared (x / 2) i

clear_others : (x i j : ℕ) → ((j ≡ i) → ⊥) → bit (clear x i) j ≡ bit x j
unfolding clear
clear_others x zero zero n = absurd (n refl)
clear_others x zero (suc j) n = let e : x / 2 * 2 / 2 ≡ x / 2 = omega arith in bit_suc _ j ∙ ap (λ y. bit y j) e ∙ sym (bit_suc x j)
clear_others x (suc i) zero n = let e : (clear (x / 2) i * 2 + x % 2) % 2 ≡ x % 2 = omega arith in bit_zero _ ∙ ap (λ k. eqb k 1) e ∙ sym (bit_zero x)
clear_others x (suc i) (suc j) n =
    let e : (clear (x / 2) i * 2 + x % 2) / 2 ≡ clear (x / 2) i = omega arith in
    bit_suc _ j ∙ ap (λ y. bit y j) e ∙ clear_others (x / 2) i j (λ q. n (ap suc q)) ∙ sym (bit_suc x j)

clear_less : (x i : ℕ) → bit x i ≡ true → clear x i < x
unfolding clear
clear_less x zero b = let o = eqb-true (x % 2) 1 (sym (bit_zero x) ∙ b) in omega arith
clear_less x (suc i) b = let l = clear_less (x / 2) i (sym (bit_suc x i) ∙ b) in omega arith

-- ---- one entry changed

changed : (f : ℕ → ℕ) (e x : ℕ) → ℕ → ℕ
changed f e x j = cond (eqb j e) x (f j)

change_at : (f : ℕ → ℕ) (e x : ℕ) → changed f e x e ≡ x
unfolding changed
change_at f e x = ap (λ t. cond t x (f e)) (eq-eqb e e refl)

change_off : (f : ℕ → ℕ) (e x j : ℕ) → ((j ≡ e) → ⊥) → changed f e x j ≡ f j
unfolding changed
change_off f e x j n = ap (λ t. cond t x (f j)) (ne_eqb j e n)

-- whatever holds of the new value at e, and of the others
change_all : (P : ℕ → ℕ → Type 0) (f : ℕ → ℕ) (e x j : ℕ) → (j ≡ e → P j x) → ((j ≡ e → ⊥) → P j (f j)) → P j (changed f e x j)
unfolding changed
change_all P f e x j here off = go (eqb j e) refl
  where
    go : (t : Bool) → eqb j e ≡ t → P j (cond t x (f j))
    go true q = here (eqb-true j e q)
    go false q = off (eqb-false j e q)

change_before : (n : ℕ) (f : ℕ → ℕ) (e x : ℕ) → e < n → x < f e → Before n (changed f e x) f
change_before n f e x l h = record { place = e; inside = l; same = λ j k. change_off f e x j (λ q. omega arith); less = subst (λ y. y < f e) (sym (change_at f e x)) h }

module _ (B : Target) (masks : (t : ℕ) → t < B.T → B.connected t < 2 ^ B.m) (G : Merged) (C : Chosen B G) (e : ℕ) (l : e < entries_of B G.states) where
  abbrev L : ℕ
  L = entries_of B G.states

  -- ---- a bit that is set and not demanded

  module _ (i : ℕ) (N : Demand B G.next L e i true → ⊥) (b : bit (G.out e) i ≡ true) where
    abbrev lower : Merged
    lower = record { states = G.states; next = G.next; out = changed G.out e (clear (G.out e) i) }

    lower_proper : Proper B lower
    lower_proper = record {
      some = C.proper.some;
      next_is = C.proper.next_is;
      out_is = λ j h. change_all (λ j x. x < 2 ^ B.m) G.out e (clear (G.out e) i) j (λ q. omega (arith, clear_less (G.out e) i b, C.proper.out_is e l)) (λ _. C.proper.out_is j h);
    }

    lower_bits : (j k : ℕ) (v : Bool) → k < B.m → Demand B G.next L j k v → bit (changed G.out e (clear (G.out e) i) j) k ≡ v
    lower_bits j k v h D = change_all (λ j x. bit x k ≡ v) G.out e (clear (G.out e) i) j at (λ _. satisfied B G C.matching L j k v D)
      where
        is_i : (v : Bool) → Demand B G.next L e i v → bit (clear (G.out e) i) i ≡ v
        is_i true D = absurd (N D)
        is_i false D = cleared (G.out e) i

        at : j ≡ e → bit (clear (G.out e) i) k ≡ v
        at q = go (eqb k i) refl
          where
            go : (t : Bool) → eqb k i ≡ t → bit (clear (G.out e) i) k ≡ v
            go true s =
                let s' = eqb-true k i s in
                ap (bit (clear (G.out e) i)) s' ∙ is_i v (subst (λ k. Demand B G.next L e k v) s' (subst (λ j. Demand B G.next L j k v) q D))
            go false s = clear_others (G.out e) i k (eqb-false k i s) ∙ ap (λ j. bit (G.out j) k) (sym q) ∙ satisfied B G C.matching L j k v D

    not_set : ⊥
    unfolding Smaller Same
    not_set =
        C.first lower lower_proper (fulfilled B masks lower lower_proper lower_bits) refl
        (inr ((λ j h. refl), change_before L G.out e (clear (G.out e) i) l (clear_less (G.out e) i b)))

  pub zero_output : (i : ℕ) → (Demand B G.next L e i true → ⊥) → bit (G.out e) i ≡ false
  zero_output i N = go (bit (G.out e) i) refl
    where
      go : (t : Bool) → bit (G.out e) i ≡ t → t ≡ false
      go false q = refl
      go true q = absurd (not_set i N q)

  -- ---- a next state that is not 0 and not used

  module _ (N : Used B G.next e → ⊥) (pos : 0 < G.next e) where
    abbrev first : ℕ → ℕ
    first = changed G.next e 0

    abbrev sooner : Merged
    sooner = record { states = G.states; next = first; out = G.out }

    sooner_proper : Proper B sooner
    sooner_proper = record {
      some = C.proper.some;
      next_is = λ j h. change_all (λ j x. x < G.states) G.next e 0 j (λ _. C.proper.some) (λ _. C.proper.next_is j h);
      out_is = C.proper.out_is;
    }

    -- no history comes to another state by it
    same_state : (t h : ℕ) → t < B.T → h < B.K ^ t → state_after B first t h ≡ state_after B G.next t h
    unfolding state_after
    same_state zero h lt lh = refl
    same_state (suc t) h lt lh =
        let I = same_state t (h / B.K) (omega arith) (before_below B.K t h lh) in
        ap (λ s. first (s * B.K + h % B.K)) I
        ∙ change_off G.next e 0 _ (λ q. N (record { t = t; h = h / B.K; w = h % B.K; frame_in = lt; history_in = before_below B.K t h lh; word_in = word_below B.K t h lh; comes = q }))

    sooner_bits : (j k : ℕ) (v : Bool) → k < B.m → Demand B first L j k v → bit (G.out j) k ≡ v
    sooner_bits j k v h D =
        satisfied B G C.matching L j k v
        (record {
          t = D.t;
          h = D.h;
          w = D.w;
          frame_in = D.frame_in;
          history_in = D.history_in;
          word_in = D.word_in;
          within = (within_all B G C.proper D.t D.h D.history_in).0;
          comes = ap (λ s. s * B.K + D.w) (sym (same_state D.t D.h D.frame_in D.history_in)) ∙ D.comes;
          counts = D.counts;
          is = D.is;
        })

    not_used : ⊥
    unfolding Smaller
    not_used = C.first sooner sooner_proper (fulfilled B masks sooner sooner_proper sooner_bits) refl (inl (change_before L G.next e 0 l pos))

  pub zero_next : (Used B G.next e → ⊥) → G.next e ≡ 0
  zero_next N = let n : ¬ (0 < G.next e) = not_used N in omega arith

pub undecided_zero : UndecidedZero
unfolding UndecidedZero
undecided_zero B masks G C = record { outputs = λ e i l h N. zero_output B masks G C e l i N; nexts = λ e l N. zero_next B masks G C e l N }
