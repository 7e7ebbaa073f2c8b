-- The values of the drawn circuit: a state's literal is true exactly of the state that the machine is in, an output's literal is that bit
-- of the machine's output.
use mathlib.Core.Path.{◌≡◌, refl, sym, ap, ap₂, ◌∙◌}
use mathlib.Core.Bool.{Bool, true, false, not, ◌&&◌, and-true, and-false, cond, beq}
use mathlib.Core.List.{List, [], ◌∷◌, ◌++◌}
use Prim.Native.Nat.{ℕ, zero, suc, ◌+◌, ◌*◌, ◌-◌, ◌/◌, ◌%◌, ◌^◌, ◌≤◌, ◌<◌}
use native.Mathlib.Nat.{mul_comm, mul-suc, mul-le-mul_left, div-add-mod', mod-lt, div-lt_iff_lt-mul}
use native.Mathlib.Omega.{arith}
use lib.Arith.{digits_div, digits_mod, digits_lt}
use lib.Dec.{eqb}
use lib.Pow.{pow_pos}
use lib.ListN.{length, get_or, take, get_or-append}
use lib.Seq.{get_or_at}
use borrow.Author.Tests.{eqb-true, eqb-false, eq-eqb}
use Rattle.sizes.specs.Sizes.{inputs, outputs, frames}
use Rattle.circuit.specs.Lists.{grown, listed, bit}
use Rattle.circuit.specs.Circuit.{input_values, literal_value}
use Rattle.circuit.proofs.Unconnected.{start_length}
use Rattle.layered.specs.Search.{every}
use Rattle.layered.specs.States.{Words}
use Rattle.layered.specs.Machines.{Machine, feed}
use Rattle.table.specs.Table.{states, connected, machine, bad_output}
use Rattle.table.specs.Sound.{Sound}
use Rattle.layered.specs.Machines.{reached}
use Rattle.layered.proofs.Feeding.{words_length, words_at}
use Rattle.unfolded.specs.Unfolded.{ending, inverted, Frame, input_literal, matching, edges_at, inverted_edges, entering, next_literal, with_bit, out_literal, frame_gates, next_gates_at, out_gates_at, Drawing, table_frame, drawing, is_connected}
use Rattle.circuit.proofs.Lists.{listed_at, listed_cons}
use Rattle.circuit.proofs.Gates.{Reads, run}
use Rattle.unfolded.proofs.Gates.{together, together_append}
use Rattle.unfolded.proofs.Frames.{Placed, crossed, edge_reads, next_reads, out_reads}
use Rattle.unfolded.proofs.Drawings.{base, behind, all_gates, connected-at, input_low, HandsOn, Step, outputs_read}
use Rattle.unfolded.proofs.Bits.{not-not, every_one, no_stray, same_bits}

-- ---- values as they are read

literal_even : (vs : List Bool) (l k : ℕ) → l ≡ 2 * k → literal_value vs l ≡ get_or vs k false
unfolding literal_value
literal_even vs l k e =
    let r : l % 2 ≡ 0 = omega arith in
    let h : l / 2 ≡ k = omega arith in
    ap₂ (λ r h. cond (eqb r 1) (not (get_or vs h false)) (get_or vs h false)) r h

literal_odd : (vs : List Bool) (l k : ℕ) → l ≡ 2 * k + 1 → literal_value vs l ≡ not (get_or vs k false)
unfolding literal_value
literal_odd vs l k e =
    let r : l % 2 ≡ 1 = omega arith in
    let h : l / 2 ≡ k = omega arith in
    ap₂ (λ r h. cond (eqb r 1) (not (get_or vs h false)) (get_or vs h false)) r h

value_reads : Reads literal_value
unfolding literal_value
value_reads = record {
  kept = λ vs ws l h. ap (λ v. cond (eqb (l % 2) 1) (not v) v) (get_or-append vs ws false (l / 2) (omega arith));
  new = λ vs x. literal_even (vs ++ (x ∷ [])) (2 * length vs) (length vs) refl ∙ get_or_at vs x [] false (length vs) refl;
}

inverted_value : (vs : List Bool) (l : ℕ) → literal_value vs (inverted l) ≡ not (literal_value vs l)
unfolding inverted
inverted_value vs l = go (eqb (l % 2) 1) refl
  where
    go : (t : Bool) → eqb (l % 2) 1 ≡ t → literal_value vs (cond t (l - 1) (l + 1)) ≡ not (literal_value vs l)
    go true e =
        let q : l % 2 ≡ 1 = eqb-true (l % 2) 1 e in
        literal_even vs (l - 1) (l / 2) (omega arith) ∙ sym (not-not _) ∙ ap not (sym (literal_odd vs l (l / 2) (omega arith)))
    go false e =
        let n : l % 2 ≡ 1 → ⊥ = eqb-false (l % 2) 1 e in
        literal_odd vs (l + 1) (l / 2) (omega (arith, n)) ∙ ap not (sym (literal_even vs l (l / 2) (omega (arith, n))))

-- all of a row of literals
all_listed : (f : ℕ → Bool) (g : ℕ → ℕ) (p : ℕ → Bool) (c : ℕ) → ((i : ℕ) → i < c → f (g i) ≡ p i) → together ◌&&◌ f true (listed [] g c) ≡ every c p
unfolding grown together every
all_listed f g p zero h = refl
all_listed f g p (suc c) h =
    together_append ◌&&◌ f true (listed [] g c) (g c ∷ []) ∙ ap₂ ◌&&◌ (all_listed f g p c (λ i q. h i (omega arith))) (h c (omega arith))

-- a gather chain: none of its edges
none_of : (at : ℕ) (f : ℕ → Bool) (test v : ℕ → Bool) (c : ℕ) → ((e : ℕ) → e < c → f (2 * (at + e) + 1) ≡ not (v e))
    → together ◌&&◌ f true (inverted_edges at test c) ≡ every c (λ e. not (test e && v e))
unfolding inverted_edges together every
none_of at f test v zero h = refl
none_of at f test v (suc c) h =
    together_append ◌&&◌ f true (inverted_edges at test c) (cond (test c) ((2 * (at + c) + 1) ∷ []) [])
    ∙ ap (λ a. together ◌&&◌ f a (cond (test c) ((2 * (at + c) + 1) ∷ []) [])) (none_of at f test v c (λ e q. h e (omega arith)))
    ∙ go (test c)
  where
    go : (t : Bool) → together ◌&&◌ f (every c (λ e. not (test e && v e))) (cond t ((2 * (at + c) + 1) ∷ []) [])
        ≡ (every c (λ e. not (test e && v e)) && not (t && v c))
    go true = ap (λ a. every c (λ e. not (test e && v e)) && a) (h c (omega arith))
    go false = sym (and-true _)

-- edges of S states and K words, of which only that of state s and word w is true: a gather chain tells its test
only_edge : (S K s w : ℕ) (test : ℕ → Bool) → s < S → w < K
    → every (S * K) (λ e. not (test e && (eqb s (e / K) && eqb w (e % K)))) ≡ not (test (s * K + w))
only_edge S K s w test h k =
    every_one (λ e. not (test e && (eqb s (e / K) && eqb w (e % K)))) (S * K) (s * K + w) (digits_lt h k) (λ e l d. ap (λ a. not (test e && a)) (other e d) ∙ ap not (and-false (test e)))
    ∙ ap (λ a. not (test (s * K + w) && a)) (ap₂ ◌&&◌ (eq-eqb s _ (sym (digits_div s k))) (eq-eqb w _ (sym (digits_mod s k))))
    ∙ ap not (and-true (test (s * K + w)))
  where
    other : (e : ℕ) → (e ≡ s * K + w → ⊥) → (eqb s (e / K) && eqb w (e % K)) ≡ false
    other e d = go (eqb s (e / K)) refl (eqb w (e % K)) refl
      where
        go : (a : Bool) → eqb s (e / K) ≡ a → (c : Bool) → eqb w (e % K) ≡ c → (a && c) ≡ false
        go false p c q = refl
        go true p false q = refl
        go true p true q =
            absurd (d (sym (div-add-mod' e K) ∙ ap₂ (λ x y. x * K + y) (sym (eqb-true s (e / K) p)) (sym (eqb-true w (e % K) q))))

-- ---- the machine's way

-- the state after one word more, and the output on it
module _ (M : Machine) where
  reached-more : (k s : ℕ) (c : List ℕ) (t : ℕ) → t < length c → reached M k s (take (suc t) c) ≡ M.next (k + t) (reached M k s (take t c)) (get_or c t 0)
  unfolding reached
  reached-more k s [] t h = absurd (omega arith)
  reached-more k s (w ∷ c) zero h = let e : k ≡ k + 0 = omega arith in ap (λ k. M.next k s w) e
  reached-more k s (w ∷ c) (suc t) h =
      let e : suc k + t ≡ k + suc t = omega arith in
      reached-more (suc k) (M.next k s w) c t (omega arith) ∙ ap (λ i. M.next i (reached M (suc k) (M.next k s w) (take t c)) (get_or c t 0)) e

  pub feed_at : (k s : ℕ) (c : List ℕ) (t : ℕ) → t < length c → get_or (feed M k s c) t 0 ≡ M.out (k + t) (reached M k s (take t c)) (get_or c t 0)
  unfolding feed reached
  feed_at k s [] t h = absurd (omega arith)
  feed_at k s (w ∷ c) zero h = let e : k ≡ k + 0 = omega arith in ap (λ k. M.out k s w) e
  feed_at k s (w ∷ c) (suc t) h =
      let e : suc k + t ≡ k + suc t = omega arith in
      feed_at (suc k) (M.next k s w) c t (omega arith) ∙ ap (λ i. M.out i (reached M (suc k) (M.next k s w) (take t c)) (get_or c t 0)) e

-- ---- frame by frame

module _ (b c : List ℕ) where
  start : List Bool
  start = input_values c (inputs b) (inputs b * frames b)

  input_bit : ℕ → Bool
  input_bit i = bit (get_or c (i / inputs b) 0) (i % inputs b)

  start_is : start ≡ false ∷ listed [] input_bit (inputs b * frames b)
  unfolding start input_values input_bit
  start_is = listed_cons false (λ i. bit (get_or c (i / inputs b) 0) (i % inputs b)) (inputs b * frames b)

  false_value : literal_value start 0 ≡ false
  false_value = literal_even start 0 0 refl ∙ ap (λ l. get_or l 0 false) start_is

  true_value : literal_value start 1 ≡ true
  true_value = literal_odd start 1 0 refl ∙ ap (λ l. not (get_or l 0 false)) start_is

  input_value : (t w i : ℕ) → t < frames b → i < inputs b → literal_value start (input_literal (inputs b) t w i) ≡ beq (bit w i) (bit (get_or c t 0) i)
  unfolding input_literal input_bit
  input_value t w i h l =
      let n : ℕ = inputs b in
      let k : t * n + i < n * frames b = omega (arith, mul_comm t n, mul-suc n t, mul-le-mul_left n h) in
      let q : 1 + (t * n + i) ≡ suc (t * n + i) = omega arith in
      let v : get_or start (1 + (t * n + i)) false ≡ bit (get_or c t 0) i =
      ap₂ (λ l i. get_or l i false) start_is q
      ∙ listed_at input_bit false (n * frames b) (t * n + i) k
      ∙ ap₂ (λ t i. bit (get_or c t 0) i) (digits_div t l) (digits_mod t l) in
      go (bit w i) (1 + (t * n + i)) ∙ ap (λ v. cond (bit w i) v (not v)) v ∙ equal (bit w i) (bit (get_or c t 0) i)
    where
      equal : (a v : Bool) → cond a v (not v) ≡ beq a v
      equal true true = refl
      equal true false = refl
      equal false true = refl
      equal false false = refl

      go : (a : Bool) (x : ℕ) → literal_value start (2 * x + cond a 0 1) ≡ cond a (get_or start x false) (not (get_or start x false))
      go true x = literal_even start (2 * x + 0) x (omega arith)
      go false x = literal_odd start (2 * x + 1) x refl

  -- the state after t words
  unfoldable pub state_after : ℕ → ℕ
  state_after t = reached (machine b) 0 0 (take t c)

  abbrev OfState : ℕ → ℕ → Bool → Type 0
  OfState t s a = a ≡ eqb (state_after t) s

  abbrev OfOutput : ℕ → ℕ → Bool → Type 0
  OfOutput t j a = a ≡ bit ((machine b).out t (state_after t) (get_or c t 0)) j

  module _ (W : Words (2 ^ inputs b) (frames b) c) (Z : Sound b) where
    state_more : (t : ℕ) → t < frames b → state_after (suc t) ≡ (machine b).next t (state_after t) (get_or c t 0)
    unfolding state_after
    state_more t h =
        reached-more (machine b) 0 0 c t (omega (arith, words_length W))
        ∙ (let e : 0 + t ≡ t = omega arith in ap (λ k. (machine b).next k (reached (machine b) 0 0 (take t c)) (get_or c t 0)) e)

    pub state_below : (t : ℕ) → t ≤ frames b → state_after t < states b t
    unfolding state_after reached
    state_below zero h = Z.legal.start_is
    state_below (suc t) h = rw (state_more t h) (Z.legal.next_is t (state_after t) (get_or c t 0) h (state_below t (omega arith)) (words_at W t h))

    module _
        (t : ℕ) (d : Drawing) (vs : List Bool) (h : t < frames b) (P : Placed (table_frame b t d)) (at : length vs ≡ (table_frame b t d).at)
        (old : (l : ℕ) → l < 2 * base b → literal_value vs l ≡ literal_value start l)
        (S : (s : ℕ) → s < states b t → literal_value vs (get_or d.states s 0) ≡ eqb (state_after t) s)
      where
        true_now : literal_value vs 1 ≡ true
        unfolding base
        true_now = old 1 (omega arith) ∙ true_value

        match_now : (w : ℕ) → w < 2 ^ inputs b → together ◌&&◌ (literal_value vs) (literal_value vs 1) (matching (inputs b) t w) ≡ eqb (get_or c t 0) w
        unfolding matching table_frame
        match_now w k =
            ap (λ a. together ◌&&◌ (literal_value vs) a (matching (inputs b) t w)) true_now
            ∙ all_listed (literal_value vs) (input_literal (inputs b) t w) (λ i. beq (bit w i) (bit (get_or c t 0) i)) (inputs b)
            (λ i l. old (input_literal (inputs b) t w i) (input_low b t w i h l) ∙ input_value t w i h l)
            ∙ same_bits (inputs b) w (get_or c t 0) k (words_at W t h)

        -- the edge that the machine takes is true, and no other
        edge_now : (e : ℕ) → e < (table_frame b t d).edges
            → literal_value (crossed (table_frame b t d) P ◌&&◌ literal_value value_reads vs at) (2 * (edges_at (table_frame b t d) + e) + 1)
            ≡ not (eqb (state_after t) (e / 2 ^ inputs b) && eqb (get_or c t 0) (e % 2 ^ inputs b))
        unfolding table_frame
        edge_now e l =
            let F : Frame = table_frame b t d in
            let X : List Bool = crossed F P ◌&&◌ literal_value value_reads vs at in
            literal_odd X (2 * (edges_at F + e) + 1) (edges_at F + e) refl
            ∙ ap not
            (sym (literal_even X (2 * (edges_at F + e)) (edges_at F + e) refl)
            ∙ edge_reads F P ◌&&◌ literal_value value_reads vs at e l
            ∙ ap₂ ◌&&◌ (S (e / 2 ^ inputs b) ((div-lt_iff_lt-mul (pow_pos (inputs b))).1 l)) (match_now (e % 2 ^ inputs b) (mod-lt e (pow_pos (inputs b)))))

        -- a gather chain, inverted: the test of that edge
        gather_now : (test : ℕ → Bool) (a : Bool)
            → a ≡ together ◌&&◌ (literal_value (crossed (table_frame b t d) P ◌&&◌ literal_value value_reads vs at)) (literal_value vs 1) (inverted_edges (edges_at (table_frame b t d)) test (table_frame b t d).edges)
            → not a ≡ test (state_after t * 2 ^ inputs b + get_or c t 0)
        unfolding table_frame
        gather_now test a e =
            let F : Frame = table_frame b t d in
            let f : ℕ → Bool = literal_value (crossed F P ◌&&◌ literal_value value_reads vs at) in
            ap not
            (e
            ∙ ap (λ a. together ◌&&◌ f a (inverted_edges (edges_at F) test F.edges)) true_now
            ∙ none_of (edges_at F) f test (λ e. eqb (state_after t) (e / 2 ^ inputs b) && eqb (get_or c t 0) (e % 2 ^ inputs b)) F.edges edge_now
            ∙ only_edge (states b t) (2 ^ inputs b) (state_after t) (get_or c t 0) test (state_below t (omega arith)) (words_at W t h))
            ∙ not-not (test (state_after t * 2 ^ inputs b + get_or c t 0))

        hands_on : HandsOn ◌&&◌ literal_value value_reads b start OfState OfOutput t d vs
        unfolding next_literal out_literal entering with_bit table_frame
        hands_on =
            let F : Frame = table_frame b t d in
            let X : List Bool = run ◌&&◌ literal_value vs (frame_gates F) in
            let K : ℕ = 2 ^ inputs b in
            let s₀ : ℕ = state_after t in
            let w₀ : ℕ = get_or c t 0 in
            let w< : w₀ < K = words_at W t h in
            let entry : (e : ℕ → ℕ → ℕ) → e ((s₀ * K + w₀) / K) ((s₀ * K + w₀) % K) ≡ e s₀ w₀ = λ e. ap₂ e (digits_div s₀ w<) (digits_mod s₀ w<) in
            record {
              nexts = λ s l.
                  inverted_value X (ending (next_gates_at F) (entering F) s)
                  ∙ gather_now (λ e. eqb (F.next e) s) _ (next_reads F P ◌&&◌ literal_value value_reads vs at s l)
                  ∙ ap (λ r. eqb r s) (entry ((machine b).next t) ∙ sym (state_more t h));
              outs = λ j l.
                  inverted_value X (ending (out_gates_at F) (with_bit F) j)
                  ∙ gather_now (λ e. bit (F.out e) j) _ (out_reads F P ◌&&◌ literal_value value_reads vs at j l)
                  ∙ ap (λ o. bit o j) (entry ((machine b).out t));
            }

    step : Step ◌&&◌ literal_value value_reads b start OfState OfOutput
    unfolding start input_values base state_after reached
    step = record {
      from = start_length c (inputs b) (inputs b * frames b);
      first = true_value;
      on = λ t d vs h P at old S. hands_on t d vs h P at old S;
    }

    -- an output that is not connected is false
    none_connected : (t j : ℕ) → t < frames b → j < outputs b → is_connected b (outputs b * t + j) ≡ false → OfOutput t j (literal_value start 0 && literal_value start 0)
    unfolding bad_output
    none_connected t j h l e =
        let s : ℕ = state_after t in
        let w : ℕ = get_or c t 0 in
        ap (λ v. v && v) false_value
        ∙ sym (no_stray (connected b t) ((machine b).out t s w) j (Z.outputs_connected t s w h (state_below t (omega arith)) (words_at W t h)) (sym (connected-at b t j l) ∙ e))

    -- the output gates
    pub output_value : (t j : ℕ) → t < frames b → j < outputs b
        → get_or (run ◌&&◌ literal_value (input_values c (inputs b) (inputs b * frames b)) (all_gates b 0)) (behind b (drawing b (frames b)) + (outputs b * t + j)) false
        ≡ bit ((machine b).out t (state_after t) (get_or c t 0)) j
    unfolding start
    output_value t j h l =
        let at : ℕ = behind b (drawing b (frames b)) + (outputs b * t + j) in
        sym (literal_even (run ◌&&◌ literal_value start (all_gates b 0)) (2 * at) at refl)
        ∙ outputs_read ◌&&◌ literal_value value_reads b start OfState OfOutput Z.headed.one_first step (λ t j a e. ap (λ v. a && v) true_value ∙ and-true a ∙ e) none_connected t j h l
