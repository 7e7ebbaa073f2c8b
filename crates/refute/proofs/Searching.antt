-- From one candidate to the next. Assumes nothing.
use mathlib.Core.Path.{◌≡◌, refl, sym, subst}
use mathlib.Core.Bool.{Bool, true}
use mathlib.Core.Logic.{⊎_elim}
use mathlib.Core.List.{List}
use Prim.Native.Nat.{ℕ, ◌^◌, ◌≤◌, ◌<◌}
use native.Mathlib.Omega.{arith}
use lib.ListN.{length, get_or}
use Rattle.layered.proofs.Search.{below_or}
use Rattle.merged.specs.Merged.{Target, Same, digit_of}
use Rattle.merged.specs.Demands.{Demand, Contradicted, Ones, skipped}
use Rattle.merged.specs.Theorems.{InOrder}
use Rattle.merged.proofs.Histories.{within_longer}
use Rattle.merged.proofs.Demands.{demand_same}
use Rattle.merged.proofs.Numbers.{in_order_all}
use Rattle.trial.specs.Tried.{Candidate}
use Rattle.trial.specs.Collected.{Judged}
use Rattle.trial.specs.Collected as judged
use Rattle.refute.specs.Searched as told
use Rattle.trial.specs.declared.Sought.{Sought}
use Rattle.refute.specs.Searched.{Digits, Refuses, Recalled, Decided, Searched, found}
use Rattle.refute.specs.declared.Refuted.{Refuted}
use Rattle.trial.specs.declared.Spot.{Spot}
use Rattle.std.specs.Prelude.{Option, Result, Ok, Err, Some}

skips_of : (k L : ℕ) → 0 < k → (c d p : ℕ) → p ≤ L → c ≤ d → d < skipped k L c p → Same p (digit_of k L c) (digit_of k L d)
unfolding InOrder
skips_of k L pos = (in_order_all k L pos).skips

pub goes_on : (k L : ℕ) → 0 < k → (c p : ℕ) → c < skipped k L c p
unfolding InOrder
goes_on k L pos = (in_order_all k L pos).ahead

-- what the digits of a candidate are
pub digits_same : (k L c : ℕ) (r : List ℕ) → Digits k L c r → Same L (λ e. get_or r e 0) (digit_of k L c)
unfolding Same
digits_same k L c r D = D

pub digits_chosen : (a : Sought) (c : ℕ) (r : List ℕ) → 0 < a.states → a.entries ≤ length r → Digits a.states a.entries c r → Candidate a r
unfolding InOrder
digits_chosen a c r pos l D = record { long = l; small = λ e b. subst (λ x. x < a.states) (sym (D e b)) ((in_order_all a.states a.entries pos).digits_below c e) }

module _ (B : Target) where
  contradicted_same : (f g : ℕ → ℕ) (p : ℕ) → Same p f g → Contradicted B f p → Contradicted B g p
  contradicted_same f g p S C = record { e = C.e; i = C.i; bit_in = C.bit_in; one = demand_same B f g p _ _ _ S C.one; zero = demand_same B f g p _ _ _ S C.zero }

  demand_longer : (f : ℕ → ℕ) (p r e i : ℕ) (v : Bool) → p ≤ r → Demand B f p e i v → Demand B f r e i v
  demand_longer f p r e i v l D = record {
    t = D.t;
    h = D.h;
    w = D.w;
    frame_in = D.frame_in;
    history_in = D.history_in;
    word_in = D.word_in;
    within = within_longer B f p r D.t D.h (λ e b. omega arith) D.within;
    comes = D.comes;
    counts = D.counts;
    is = D.is;
  }

  contradicted_longer : (f : ℕ → ℕ) (p r : ℕ) → p ≤ r → Contradicted B f p → Contradicted B f r
  contradicted_longer f p r l C = record { e = C.e; i = C.i; bit_in = C.bit_in; one = demand_longer f p r _ _ _ l C.one; zero = demand_longer f p r _ _ _ l C.zero }

  flip : (f g : ℕ → ℕ) (p : ℕ) → Same p f g → Same p g f
  unfolding Same
  flip f g p S = λ j l. sym (S j l)

  shorter : (f g : ℕ → ℕ) (p r : ℕ) → p ≤ r → Same r f g → Same p f g
  unfolding Same
  shorter f g p r l S = λ j b. S j (omega arith)

  module _ (k L c : ℕ) (chosen : List ℕ) (pos : 0 < k) (D : Same L (λ e. get_or chosen e 0) (digit_of k L c)) where
    -- a refuted prefix refutes all candidates up to the one skipped to
    pub passed : (used : ℕ) → used ≤ L → Contradicted B (λ e. get_or chosen e 0) used → ((d : ℕ) → d < c → Contradicted B (digit_of k L d) L)
        → (d : ℕ) → d < skipped k L c used → Contradicted B (digit_of k L d) L
    passed used l C before d b =
        ⊎_elim (before d)
        (λ h. contradicted_longer (digit_of k L d) used L l
        (contradicted_same (digit_of k L c) (digit_of k L d) used (skips_of k L pos c d used l h b) (contradicted_same (λ e. get_or chosen e 0) (digit_of k L c) used (shorter _ _ used L l D) C)))
        (below_or d c)

    pub ends : (ones : List ℕ) → length ones ≡ 12 → (Contradicted B (λ e. get_or chosen e 0) L → ⊥) → Ones B (λ e. get_or chosen e 0) L (λ e. get_or ones e 0)
        → c < k ^ L → ((d : ℕ) → d < c → Contradicted B (digit_of k L d) L) → Searched B k L (Some (record { number = c; ones = ones }))
    ends ones long N O b before =
        found (record { number = c; ones = ones }) refl long b before
        (record {
          small = O.small;
          are = λ e i le li. ((λ z. demand_same B (λ e. get_or chosen e 0) (digit_of k L c) L e i true D ((O.are e i le li).0 z)), λ z. (O.are e i le li).1 (demand_same B (digit_of k L c) (λ e. get_or chosen e 0) L e i true (flip _ _ L D) z));
        })
        (λ C. N (contradicted_same (digit_of k L c) (λ e. get_or chosen e 0) L (flip _ _ L D) C))

-- what a decision tells in either case
pub told_fits : (B : Target) (next : ℕ → ℕ) (L : ℕ) (r : Result (List ℕ) Refuted) → Decided B next L r → (ones : List ℕ) → r ≡ Ok ones
    → (length ones ≡ 12) × (Contradicted B next L → ⊥) × Ones B next L (λ e. get_or ones e 0)
told_fits B next L r (told.Decided.refuted p e l C a) ones q = absurd (cc)
told_fits B next L r (told.Decided.fits o e l N O) ones q = let s : o ≡ ones = cc in subst (λ x. (length x ≡ 12) × (Contradicted B next L → ⊥) × Ones B next L (λ e. get_or x e 0)) s (l, N, O)

pub told_refuted : (B : Target) (next : ℕ → ℕ) (L : ℕ) (r : Result (List ℕ) Refuted) → Decided B next L r → (p : Refuted) → r ≡ Err p → (p.used ≤ L) × Contradicted B next p.used
told_refuted B next L r (told.Decided.refuted p e l C a) q h = let s : p ≡ q = cc in subst (λ x. (x.used ≤ L) × Contradicted B next x.used) s (l, C)
told_refuted B next L r (told.Decided.fits o e l N O) q h = absurd (cc)

-- trying all histories decides
pub decided_fits : (B : Target) (next : ℕ → ℕ) (L : ℕ) (r : Result (List ℕ) Spot) → Judged B next L r → (ones : List ℕ) → r ≡ Ok ones → Decided B next L (Ok ones)
decided_fits B next L r (judged.Judged.refuted s e C) ones q = absurd (cc)
decided_fits B next L r (judged.Judged.fits o e l N O) ones q = let s : o ≡ ones = cc in subst (λ x. Decided B next L (Ok x)) s (told.Decided.fits o refl l N O)

pub decided_refuted : (B : Target) (next : ℕ → ℕ) (L : ℕ) (r : Result (List ℕ) Spot) → Judged B next L r → (spot : Spot) → r ≡ Err spot → Contradicted B next L
decided_refuted B next L r (judged.Judged.refuted s e C) spot q = C
decided_refuted B next L r (judged.Judged.fits o e l N O) spot q = absurd (cc)

-- what is recalled is what two histories refute
pub recalls : (B : Target) (next : ℕ → ℕ) (L : ℕ) (r : Option ℕ) (used at : ℕ) → Refuses B next L r → r ≡ Some used → at < 64 → Recalled B next L (Some (record { used = used; at = at }))
recalls B next L r used at R q b p e =
    let s : record { used = used; at = at } ≡ p = cc in
    let c = R.by used q in
    subst (λ (x : Refuted). (x.used ≤ L) × Contradicted B next x.used × (x.at < 64)) s (c.0, c.1, b)
