-- A machine matches exactly when each of its bits is what is demanded of it.
use mathlib.Core.Path.{◌≡◌, refl, sym, ap, ap₂, ◌∙◌, subst}
use mathlib.Core.Bool.{Bool, true, false, false≢true, ◌&&◌, and-true}
use mathlib.Core.List.{List, ◌∷◌, head-eq_of_cons-eq, tail-eq_of_cons-eq}
use Prim.Native.Nat.{ℕ, zero, suc, ◌+◌, ◌*◌, ◌-◌, ◌/◌, ◌%◌, ◌^◌, ◌≤◌, ◌<◌}
use native.Mathlib.Omega.{arith}
use lib.Arith.{digits_lt}
use lib.Bits.{bit_and}
use lib.ListN.{replicate}
use Rattle.layered.specs.States.{Words, none, more}
use Rattle.layered.specs.Machines.{Machine, feed, masked}
use Rattle.layered.proofs.States.{some_words, digit_below, empty_below}
use Rattle.circuit.specs.Lists.{bit}
use Rattle.circuit.proofs.Bits.{bit_and_lem, masked_equal}
use Rattle.merged.specs.Merged.{Target, Merged, Proper, entries_of, layers_of, seen, Matches, Same}
use Rattle.merged.specs.Demands.{target_after, state_after, Demand, Contradicted, Ones}
use Rattle.merged.specs.Theorems.{ByDemands}
use Rattle.merged.proofs.Bits.{bits_le}
use Rattle.merged.proofs.Histories.{word_below, before_below, target_more, state_more, within_same, within_all}

module _ (B : Target) where
  -- after a history the outputs of a machine that matches are still the target's
  module _ (G : Merged) (M : Matches B G) where
    abbrev N : Machine
    N = layers_of B.K G

    agrees : (t h r : ℕ) (d : List ℕ) → h < B.K ^ t → r + t ≡ B.T → Words B.K r d
        → feed (masked B.connected N) t (state_after B G.next t h) d ≡ feed (masked B.connected B.machine) t (target_after B t h) d
    unfolding Matches seen feed state_after target_after
    agrees zero h r d l e W = M d (subst (λ r. Words B.K r d) (omega arith) W)
    agrees (suc t) h r d l e W = tail-eq_of_cons-eq (agrees t (h / B.K) (suc r) (h % B.K ∷ d) (before_below B.K t h l) (omega arith) (more (word_below B.K t h l) W))

    pub satisfied : (p e i : ℕ) (v : Bool) → Demand B G.next p e i v → bit (G.out e) i ≡ v
    unfolding feed
    satisfied p e i v D =
        let r = B.T - suc D.t in
        let A = agrees D.t D.h (suc r) (D.w ∷ replicate r D.w) D.history_in (omega (arith, D.frame_in)) (more D.word_in (some_words r D.word_in)) in
        ap (λ e. bit (G.out e) i) (sym D.comes) ∙ counted (G.out (state_after B G.next D.t D.h * B.K + D.w)) _ (head-eq_of_cons-eq A) ∙ D.is
      where
        counted : (x y : ℕ) → bit_and x (B.connected D.t) ≡ bit_and y (B.connected D.t) → bit x i ≡ bit y i
        counted x y q = sym (kept x) ∙ ap (λ z. bit z i) q ∙ kept y
          where
            kept : (z : ℕ) → bit (bit_and z (B.connected D.t)) i ≡ bit z i
            kept z = bit_and_lem z (B.connected D.t) i ∙ ap (λ b. bit z i && b) D.counts ∙ and-true (bit z i)

  -- and a machine with the bits that are demanded matches
  module _ (masks : (t : ℕ) → t < B.T → B.connected t < 2 ^ B.m) (G : Merged) (P : Proper B G)
      (S : (e i : ℕ) (v : Bool) → i < B.m → Demand B G.next (entries_of B G.states) e i v → bit (G.out e) i ≡ v) where
    follows : (t h r : ℕ) (d : List ℕ) → h < B.K ^ t → r + t ≡ B.T → Words B.K r d
        → feed (masked B.connected (layers_of B.K G)) t (state_after B G.next t h) d ≡ feed (masked B.connected B.machine) t (target_after B t h) d
    unfolding feed
    follows t h r d l e none = refl
    follows t h (suc r) (w ∷ d) l e (more b W) =
        ap₂ ◌∷◌
        (masked_equal B.m (B.connected t) _ _ (masks t (omega arith)) (λ i li c. S (state_after B G.next t h * B.K + w) i _ li (record {
          t = t;
          h = h;
          w = w;
          frame_in = omega arith;
          history_in = l;
          word_in = b;
          within = (within_all B G P t h l).0;
          comes = refl;
          counts = c;
          is = refl;
        })))
        (ap (λ s. feed (masked B.connected (layers_of B.K G)) (suc t) s d) (sym (state_more B G.next t h w b))
        ∙ follows (suc t) (h * B.K + w) r d (digit_below t l b) (omega arith) W
        ∙ ap (λ q. feed (masked B.connected B.machine) (suc t) q d) (target_more B t h w b))

    pub fulfilled : Matches B G
    unfolding Matches seen state_after target_after
    fulfilled c W = follows 0 0 B.T c (empty_below B.K) (omega arith) W

  -- a demand by a prefix is one of every machine with this prefix
  pub demand_same : (f g : ℕ → ℕ) (p e i : ℕ) (v : Bool) → Same p f g → Demand B f p e i v → Demand B g p e i v
  demand_same f g p e i v S D =
      let I = within_same B f g p S D.t D.h D.within in
      record {
        t = D.t;
        h = D.h;
        w = D.w;
        frame_in = D.frame_in;
        history_in = D.history_in;
        word_in = D.word_in;
        within = I.1;
        comes = ap (λ s. s * B.K + D.w) (sym I.0) ∙ D.comes;
        counts = D.counts;
        is = D.is;
      }

  -- a demand is of one of the machine's entries
  pub demand_in : (G : Merged) → Proper B G → (p e i : ℕ) (v : Bool) → Demand B G.next p e i v → e < entries_of B G.states
  unfolding entries_of
  demand_in G P p e i v D = subst (λ e. e < entries_of B G.states) D.comes (digits_lt (within_all B G P D.t D.h D.history_in).1 D.word_in)

pub by_demands : ByDemands
unfolding ByDemands
by_demands B masks G P = ((λ M e i v l D. satisfied B G M (entries_of B G.states) e i v D), fulfilled B masks G P)

-- where a bit is demanded both ways by the next states of a prefix, no machine with this prefix matches
pub refutes : (B : Target) (next : ℕ → ℕ) (p : ℕ) → Contradicted B next p → (G : Merged) → Same p next G.next → Matches B G → ⊥
refutes B next p C G S M =
    let one = satisfied B G M p C.e C.i true (demand_same B next G.next p _ _ _ S C.one) in
    let zero = satisfied B G M p C.e C.i false (demand_same B next G.next p _ _ _ S C.zero) in
    false≢true (sym zero ∙ one)

-- where none is, the bits demanded 1 match
pub ones_match : (B : Target) → ((t : ℕ) → t < B.T → B.connected t < 2 ^ B.m) → (G : Merged) → Proper B G → Ones B G.next (entries_of B G.states) G.out
    → (Contradicted B G.next (entries_of B G.states) → ⊥) → Matches B G
ones_match B masks G P O N = fulfilled B masks G P held
  where
    held : (e i : ℕ) (v : Bool) → i < B.m → Demand B G.next (entries_of B G.states) e i v → bit (G.out e) i ≡ v
    held e i true l D = (O.are e i (demand_in B G P (entries_of B G.states) e i true D) l).1 D
    held e i false l D = go (bit (G.out e) i) refl
      where
        go : (b : Bool) → bit (G.out e) i ≡ b → b ≡ false
        go false q = refl
        go true q = absurd (N (record { e = e; i = i; bit_in = l; one = (O.are e i (demand_in B G P (entries_of B G.states) e i false D) l).0 q; zero = D }))

-- and no output of a machine with these next states that matches is smaller
pub ones_least : (B : Target) (f ones : ℕ → ℕ) (L : ℕ) → Ones B f L ones → (H : Merged) → Same L f H.next → Matches B H → (e : ℕ) → e < L → ones e ≤ H.out e
ones_least B f ones L O H S M e l =
    bits_le B.m (ones e) (H.out e) (O.small e l) (λ i li b. satisfied B H M L e i true (demand_same B f H.next L e i true S ((O.are e i l li).0 b)))
