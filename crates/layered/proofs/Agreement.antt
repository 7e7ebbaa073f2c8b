-- Machines that agree wherever a machine is defined, and machines renumbered: what carries over from one to the other.
use mathlib.Core.Path.{◌≡◌, refl, sym, ap, ◌∙◌}
use mathlib.Core.Logic.{◌↔◌}
use mathlib.Core.List.{List}
use Prim.Native.Nat.{ℕ, suc, ◌+◌, ◌-◌, ◌≤◌, ◌<◌}
use native.Mathlib.Omega.{arith}
use lib.Bits.{bit_and}
use Rattle.layered.specs.States.{Words, none, more}
use Rattle.layered.specs.Machines.{Machine, Legal, feed, reached, Gives, Renumbered, masked}
use Rattle.layered.proofs.Machines.{renumbered_trans, renumbered_feed}

-- M and N are the same machine: states of layers 0 to T, start, and all entries of layers below T
pub record Agree (K T : ℕ) (M N : Machine) : Type 0 where
  pub states_are : (t : ℕ) → t ≤ T → M.states t ≡ N.states t
  pub start_is : M.start ≡ N.start
  pub outs_are : (t s w : ℕ) → t < T → s < M.states t → w < K → M.out t s w ≡ N.out t s w
  pub nexts_are : (t s w : ℕ) → t < T → s < M.states t → w < K → M.next t s w ≡ N.next t s w

agree_sym : {K T : ℕ} (M N : Machine) → Agree K T M N → Agree K T N M
agree_sym M N A = record {
  states_are = λ t b. sym (A.states_are t b);
  start_is = sym A.start_is;
  outs_are = λ t s w b l k. sym (A.outs_are t s w b (omega (arith, A.states_are t (omega arith))) k);
  nexts_are = λ t s w b l k. sym (A.nexts_are t s w b (omega (arith, A.states_are t (omega arith))) k);
}

-- it is renumbered by the identity
agree_renumbered : {K T : ℕ} (M N : Machine) → Agree K T M N → Renumbered K T M N
agree_renumbered M N A = record {
  there = λ t s. s;
  back = λ t s. s;
  there_is = λ t s b l. omega (arith, A.states_are t b);
  back_is = λ t s b l. omega (arith, A.states_are t b);
  back_there = λ t s b l. refl;
  there_back = λ t s b l. refl;
  starts = A.start_is;
  outs = λ t s w b l k. sym (A.outs_are t s w b l k);
  nexts = λ t s w b l k. sym (A.nexts_are t s w b l k);
}

-- renumberings of one are renumberings of the other
pub agree_renumberings : {K T : ℕ} (M N P : Machine) → Agree K T M N → Renumbered K T M P ↔ Renumbered K T N P
agree_renumberings M N P A =
    ((λ R. renumbered_trans N M P (agree_renumbered N M (agree_sym M N A)) R), (λ R. renumbered_trans M N P (agree_renumbered M N A) R))

module _ {K m T : ℕ} (M N : Machine) (L : Legal K m T M) (A : Agree K T M N) where
  agree_feed : {r : ℕ} {c : List ℕ} (t s : ℕ) → r ≡ T - t → s < M.states t → Words K r c → feed N t s c ≡ feed M t s c
  unfolding agree_renumbered
  agree_feed t s e l W = renumbered_feed M N L (agree_renumbered M N A) t s e l W

  pub agree_reached : {r : ℕ} {c : List ℕ} (t s : ℕ) → t + r ≤ T → s < M.states t → Words K r c → reached N t s c ≡ reached M t s c
  unfolding reached
  agree_reached t s e l none = refl
  agree_reached t s e l (more {w = w} {c = c} k W) =
      let b : t < T = omega arith in
      ap (λ q. reached N (suc t) q c) (sym (A.nexts_are t s w b l k)) ∙ agree_reached (suc t) _ (omega arith) (L.next_is t s w b l k) W

  pub agree_gives : (given : List ℕ → List ℕ) → Gives K T M given → Gives K T N given
  unfolding Gives
  agree_gives given G c W = ap (λ s. feed N 0 s c) (sym A.start_is) ∙ agree_feed 0 _ (omega arith) L.start_is W ∙ G c W

  pub agree_legal : Legal K m T N
  agree_legal = record {
    start_is = omega (arith, A.start_is, A.states_are 0 (omega arith), L.start_is);
    out_is = λ t s w b l k.
        let l' : s < M.states t = omega (arith, A.states_are t (omega arith)) in
        rw (← A.outs_are t s w b l' k) (L.out_is t s w b l' k);
    next_is = λ t s w b l k.
        let l' : s < M.states t = omega (arith, A.states_are t (omega arith)) in
        rw (← A.nexts_are t s w b l' k, ← A.states_are (suc t) b) (L.next_is t s w b l' k);
  }

-- a machine whose outputs have no bit outside C gives the same when it is masked
pub masked_gives : {K m T : ℕ} (C : ℕ → ℕ) (M : Machine) → Legal K m T M
    → ((t s w : ℕ) → t < T → s < M.states t → w < K → bit_and (M.out t s w) (C t) ≡ M.out t s w)
    → (given : List ℕ → List ℕ) → Gives K T M given → Gives K T (masked C M) given
masked_gives C M L E =
    agree_gives M (masked C M) L (record {
      states_are = λ t b. refl;
      start_is = refl;
      outs_are = λ t s w b l k. sym (E t s w b l k);
      nexts_are = λ t s w b l k. refl;
    })
