-- The latest frames in the numbering of what is read are those of the circuit that the source is: a network's signal has that of the signal as which it stands,
-- and a place of an output that of the signal that it shows. Assumes nothing.
use mathlib.Core.Path.{◌≡◌, refl, sym, ap, ap₂, ◌∙◌}
use mathlib.Core.Bool.{Bool, true, false, not, ◌&&◌, cond}
use mathlib.Core.Logic.{⊎_elim}
use mathlib.Core.List.{List, [], ◌∷◌}
use Prim.Native.Nat.{ℕ, zero, suc, ◌+◌, ◌*◌, ◌-◌, ◌/◌, ◌≤◌, ◌<◌, max}
use native.Mathlib.Nat.{eq-or-lt_of_le}
use native.Mathlib.Omega.{arith}
use lib.Dec.{ltb}
use lib.ListN.{length, get_or, take}
use lib.Seq.{get_or-take}
use borrow.Author.Tests.{ltb-true, ltb-false}
use Rattle.sizes.specs.Sizes.{inputs}
use Rattle.layered.proofs.Search.{below_or}
use Rattle.circuit.specs.Lists.{grown, listed}
use Rattle.circuit.specs.Circuit.{gates, lefts_at, rights_at, literal_at, operand, unconnected, all_inputs, all_outputs, gate_signal, gate_of_output, output_signal, frame_of}
use Rattle.circuit.specs.WellFormed.{WellFormed}
use Rattle.circuit.specs.declared.Head.{Head}
use Rattle.circuit.proofs.Literals.{operand_before}
use Rattle.circuit.proofs.Gates.{closing, closing_connected, closing_blank}
use Rattle.circuit.proofs.Laws.{length_grown}
use Rattle.circuit.proofs.Lists.{grown_old, grown_at, grown_start, grown_kept, listed_start, listed_after}
use Rattle.source.specs.Rearranged.{standing, renamed, item_at, connects_at, shown_literal}
use Rattle.source.specs.Source.{sourced, item_in, shown_signal, Spreads, WholeOf, SourceOf, stands, spread}
use Rattle.source.specs.declared.Source.{Source}
use Rattle.source.proofs.Standing.{standing_gate, standing_input, standing_constant, standing_before, renamed_signal, item_whole, shown_none, shown_item}
use Rattle.source.proofs.Rearranged.{b, rearranged_head, inputs_are, outputs_are, gates_are, inner_left, inner_right, closing_operands}
use Rattle.source.proofs.Sources.{sourced_whole, sourced_spread, own_well, well, spread_item}
use Rattle.latest.specs.Latest.{input_frames, later_frame, latest_frames, reaches_later, own_input_frames, own_frames}

-- ---- a network that is spread

module _ (c : List ℕ) (s : Source) (P : Spreads c s) (w : s.whole ≡ false) where
  abbrev N : ℕ
  N = all_inputs c

  abbrev A : ℕ
  A = s.inputs * s.frames

  abbrev r : List ℕ
  r = b c s P

  abbrev H : WellFormed c s.own
  H = P.network

  abbrev place : ℕ → ℕ
  place i = get_or s.places i 0

  -- the inputs of both
  own_start : own_input_frames s ≡ listed (0 ∷ []) (λ i. frame_of s.inputs (place i)) N
  unfolding own_input_frames
  own_start =
      let n : s.own.base - 1 ≡ N = omega (arith, H.head_is.base_is) in
      rw (w, n)

  start : input_frames (inputs r) (all_inputs r) ≡ listed (0 ∷ []) (frame_of s.inputs) A
  unfolding input_frames
  start = ap₂ (λ n k. listed (0 ∷ []) (frame_of n) k) (sym (rearranged_head c s P).inputs_is) (inputs_are c s P)

  own_length : length (own_input_frames s) ≡ 1 + N
  own_length = ap length own_start ∙ length_grown (0 ∷ []) _ N

  start_length : length (input_frames (inputs r) (all_inputs r)) ≡ 1 + A
  start_length = ap length start ∙ length_grown (0 ∷ []) _ A

  -- the constant is of no frame
  own_constant : (k : ℕ) → get_or (own_frames s c k) 0 0 ≡ 0
  unfolding own_frames
  own_constant k = grown_start (own_input_frames s) (later_frame c) 0 k 0 (omega (arith, own_length)) ∙ ap (λ l. get_or l 0 0) own_start ∙ listed_start (0 ∷ []) _ 0 N 0 (omega arith)

  constant : (k : ℕ) → get_or (latest_frames r k) 0 0 ≡ 0
  unfolding latest_frames
  constant k = grown_start (input_frames (inputs r) (all_inputs r)) (later_frame r) 0 k 0 (omega (arith, start_length)) ∙ ap (λ l. get_or l 0 0) start ∙ listed_start (0 ∷ []) _ 0 A 0 (omega arith)

  -- a gate's
  own_gate : (g k : ℕ) → g < k → get_or (own_frames s c k) (1 + N + g) 0 ≡ later_frame c (own_frames s c g) g
  unfolding own_frames
  own_gate g k h = ap (λ i. get_or (own_frames s c k) (i + g) 0) (sym own_length) ∙ grown_at (own_input_frames s) (later_frame c) 0 k g h

  gate : (g k : ℕ) → g < k → get_or (latest_frames r k) (1 + A + g) 0 ≡ later_frame r (latest_frames r g) g
  unfolding latest_frames
  gate g k h = ap (λ i. get_or (latest_frames r k) (i + g) 0) (sym start_length) ∙ grown_at (input_frames (inputs r) (all_inputs r)) (later_frame r) 0 k g h

  -- a signal up to gate k has the latest frame of the one as which it stands
  Same : (k : ℕ) → Type 0
  Same k = (x : ℕ) → x < 1 + N + k → get_or (own_frames s c k) x 0 ≡ get_or (latest_frames r k) (standing N s.places A x) 0

  same_inputs : Same 0
  unfolding Same own_frames latest_frames grown
  same_inputs zero h = own_constant 0 ∙ sym (constant 0) ∙ ap (λ x. get_or (latest_frames r 0) x 0) (sym (standing_constant N s.places A))
  same_inputs (suc i) h =
      let l : i < N = omega arith in
      let p : suc i ≡ 1 + i = omega arith in
      let k : suc i - 1 ≡ i = omega arith in
      let e : standing N s.places A (suc i) ≡ 1 + place i = standing_input N s.places A (suc i) (omega arith) (λ z. absurd (omega arith)) ∙ ap (λ i. 1 + place i) k in
      ap₂ (λ l x. get_or l x 0) own_start p
      ∙ listed_after (0 ∷ []) (λ i. frame_of s.inputs (place i)) 0 N i l
      ∙ sym (listed_after (0 ∷ []) (frame_of s.inputs) 0 A (place i) (P.places_in i l))
      ∙ sym (ap₂ (λ l x. get_or l x 0) start e)

  -- an operand of gate k and the renamed one
  same_operand : (k l m : ℕ) → Same k → l / 2 < 1 + N + k → m ≡ renamed N s.places A l → get_or (own_frames s c k) (l / 2) 0 ≡ get_or (latest_frames r k) (m / 2) 0
  unfolding Same
  same_operand k l m S h e = S (l / 2) h ∙ ap (λ x. get_or (latest_frames r k) x 0) (sym (ap (λ m. m / 2) e ∙ renamed_signal N s.places A l))

  same_gate : (k : ℕ) → k < gates c → Same k → later_frame c (own_frames s c k) k ≡ later_frame r (latest_frames r k) k
  unfolding later_frame
  same_gate k h S =
      ap₂ max
      (same_operand k (operand c (lefts_at c) k) (operand r (lefts_at r) k) S (operand_before c (lefts_at c) k _ (H.legal.left k h) refl) (inner_left c s P k h))
      (same_operand k (operand c (rights_at c) k) (operand r (rights_at r) k) S (operand_before c (rights_at c) k _ (H.legal.right k h) refl) (inner_right c s P k h))

  same_more : (k : ℕ) → k < gates c → Same k → Same (suc k)
  unfolding Same own_frames latest_frames
  same_more k h before x l = ⊎_elim
      (λ (q : x ≡ 1 + N + k).
      let f : standing N s.places A x ≡ 1 + A + k = standing_gate N s.places A x (omega arith) ∙ omega arith in
      ap (λ x. get_or (own_frames s c (suc k)) x 0) q ∙ own_gate k (suc k) (omega arith) ∙ same_gate k h before ∙ sym (gate k (suc k) (omega arith)) ∙ sym (ap (λ x. get_or (latest_frames r (suc k)) x 0) f))
      (λ (q : x < 1 + N + k).
      grown_old (own_input_frames s) (later_frame c) 0 k x (omega (arith, own_length))
      ∙ before x q
      ∙ sym (grown_old (input_frames (inputs r) (all_inputs r)) (later_frame r) 0 k (standing N s.places A x) (omega (arith, start_length, standing_before N s.places A k x P.places_in q))))
      (eq-or-lt_of_le {n = x} {m = 1 + N + k} (omega arith))

  same : (k : ℕ) → k ≤ gates c → Same k
  same zero h = same_inputs
  same (suc k) h = same_more k h (same k (omega arith))

  -- ---- places of outputs

  abbrev conn : ℕ → Bool
  conn = connects_at c s.shown

  abbrev item : ℕ → ℕ
  item q = item_at (all_outputs c) s.shown q

  -- the gate behind the network's that is for place q
  place_frame : (q : ℕ) → q < s.outputs * s.frames → (x y : ℕ) → closing conn (shown_literal c s.shown A) 0 q ≡ (x, y)
      → get_or (latest_frames r (gates r)) (output_signal r q) 0 ≡ max (get_or (latest_frames r (gates c + q)) (x / 2) 0) (get_or (latest_frames r (gates c + q)) (y / 2) 0)
  unfolding output_signal gate_signal later_frame
  place_frame q h x y e =
      let o = closing_operands c s P q h in
      let at : 1 + all_inputs r + gate_of_output r q ≡ 1 + A + (gates c + q) = omega (arith, inputs_are c s P, gates_are c s P, outputs_are c s P) in
      let fs : List ℕ = latest_frames r (gates c + q) in
      ap (λ i. get_or (latest_frames r (gates r)) i 0) at
      ∙ gate (gates c + q) (gates r) (omega (arith, gates_are c s P))
      ∙ ap₂ (λ x y. max (get_or fs (x / 2) 0) (get_or fs (y / 2) 0)) (o.0 ∙ ap (λ (p : ℕ × ℕ). p.0) e) (o.1 ∙ ap (λ (p : ℕ × ℕ). p.1) e)

  blank_place : (q : ℕ) → q < s.outputs * s.frames → conn q ≡ false → get_or (latest_frames r (gates r)) (output_signal r q) 0 ≡ 0
  blank_place q h e =
      place_frame q h 0 0 (closing_blank conn (shown_literal c s.shown A) 0 q e) ∙ ap₂ max (constant (gates c + q)) (constant (gates c + q))

  connected_place : (q : ℕ) → q < s.outputs * s.frames → conn q ≡ true → item q < all_outputs c
      → get_or (latest_frames r (gates r)) (output_signal r q) 0 ≡ get_or (own_frames s c (gates c)) (1 + N + gate_of_output c (item q)) 0
  unfolding shown_literal Same latest_frames
  connected_place q h e l =
      let g : ℕ = gate_of_output c (item q) in
      let in-network : g < gates c = omega (arith, H.headed.outputs_to) in
      let half : 2 * (1 + A + g) / 2 ≡ 1 + A + g = omega arith in
      let f : standing N s.places A (1 + N + g) ≡ 1 + A + g = standing_gate N s.places A (1 + N + g) (omega arith) ∙ omega arith in
      place_frame q h (2 * (1 + A + g)) 1 (closing_connected conn (shown_literal c s.shown A) 0 q e)
      ∙ ap₂ max
      (ap (λ i. get_or (latest_frames r (gates c + q)) i 0) half
      ∙ grown_kept (input_frames (inputs r) (all_inputs r)) (later_frame r) 0 (gates c) (gates c + q) (1 + A + g) (omega arith) (omega (arith, start_length))
      ∙ ap (λ i. get_or (latest_frames r (gates c)) i 0) (sym f)
      ∙ sym (same (gates c) (omega arith) (1 + N + g) (omega arith)))
      (constant (gates c + q))
      ∙ omega arith

  -- an unconnected output of the network is of no frame
  blank_item : (k : ℕ) → k < all_outputs c → unconnected c (gate_of_output c k) ≡ true → get_or (own_frames s c (gates c)) (1 + N + gate_of_output c k) 0 ≡ 0
  unfolding later_frame operand
  blank_item k h u =
      let g : ℕ = gate_of_output c k in
      let fs : List ℕ = own_frames s c g in
      let none : (at : ℕ) → get_or fs (cond (unconnected c g) 0 (literal_at c at g) / 2) 0 ≡ 0 = λ at. ap (λ t. get_or fs (cond t 0 (literal_at c at g) / 2) 0) u ∙ own_constant g in
      own_gate g (gates c) (omega (arith, H.headed.outputs_to)) ∙ ap₂ max (none (lefts_at c)) (none (rights_at c))

  spread_shown : (q : ℕ) → q < s.outputs * s.frames → get_or (latest_frames r (gates r)) (output_signal r q) 0 ≡ get_or (own_frames s c (gates c)) (shown_signal s q) 0
  unfolding connects_at
  spread_shown q h = go (ltb (item q) (all_outputs c)) refl (unconnected c (gate_of_output c (item q))) refl
    where
      k_is : item_in s q ≡ item q
      k_is = spread_item c s w P q

      shows : item q < all_outputs c → shown_signal s q ≡ 1 + N + gate_of_output c (item q)
      shows l = sym (shown_item s q (item q) (sym k_is) (omega (arith, H.head_is.total_is))) ∙ omega (arith, H.head_is.base_is, H.head_is.gates_is, H.head_is.total_is)

      go : (t : Bool) → ltb (item q) (all_outputs c) ≡ t → (u : Bool) → unconnected c (gate_of_output c (item q)) ≡ u → get_or (latest_frames r (gates r)) (output_signal r q) 0 ≡ get_or (own_frames s c (gates c)) (shown_signal s q) 0
      go true e false f = let l = ltb-true _ _ e in connected_place q h (ap₂ (λ x y. x && not y) e f) l ∙ ap (λ i. get_or (own_frames s c (gates c)) i 0) (sym (shows l))
      go true e true f = let l = ltb-true _ _ e in blank_place q h (ap₂ (λ x y. x && not y) e f) ∙ sym (blank_item (item q) l f) ∙ ap (λ i. get_or (own_frames s c (gates c)) i 0) (sym (shows l))
      go false e u f =
          let l : all_outputs c ≤ item q = ltb-false _ _ e in
          blank_place q h (ap (λ x. x && not (unconnected c (gate_of_output c (item q)))) e)
          ∙ sym (own_constant (gates c))
          ∙ ap (λ i. get_or (own_frames s c (gates c)) i 0) (shown_none s q (item q) (sym k_is) (omega (arith, H.head_is.total_is)))

-- ---- a circuit as it stands

module _ (c : List ℕ) (s : Source) (O : WholeOf c s) (W : WellFormed c s.own) where
  whole_frames : (k : ℕ) → own_frames s c k ≡ latest_frames c k
  unfolding own_frames latest_frames own_input_frames
  whole_frames k =
      let n : s.own.base - 1 ≡ all_inputs c = omega (arith, W.head_is.base_is) in
      rw (O.whole_is, n, O.head_is.inputs_is)

  whole_shown : (q : ℕ) → q < s.total → shown_signal s q ≡ output_signal c q
  unfolding output_signal gate_signal
  whole_shown q h =
      let t : s.own.total ≡ s.total = ap (λ (h : Head). h.total) O.own_is in
      sym (shown_item s q q (item_whole s q O.whole_is) (omega arith)) ∙ omega (arith, W.head_is.base_is, W.head_is.gates_is, W.head_is.total_is)

-- ---- so a place has the latest frame of what it shows

module _ (c : List ℕ) (s : Source) where
  shown_frame : SourceOf c s → (q : ℕ) → q < s.total → get_or (latest_frames (sourced s c) (gates (sourced s c))) (output_signal (sourced s c) q) 0 ≡ get_or (own_frames s c (gates c)) (shown_signal s q) 0
  shown_frame (stands O W) q h =
      rw (sourced_whole c s O.whole_is) (ap₂ (λ l i. get_or l i 0) (sym (whole_frames c s O W (gates c))) (sym (whole_shown c s O W q h)))
  shown_frame (spread w P) q h = rw (sourced_spread c s w) (spread_shown c s P w q (omega (arith, P.total_is)))

  -- it shows a signal
  shown_in : SourceOf c s → (q : ℕ) → shown_signal s q < gate_signal c (gates c)
  unfolding gate_signal
  shown_in S q =
      let W = own_well c s S in
      let k : ℕ = item_in s q in
      ⊎_elim
      (λ (l : k < s.own.total). omega (arith, shown_item s q k refl l, W))
      (λ (l : s.own.total ≤ k). omega (arith, shown_none s q k refl l))
      (below_or k s.own.total)

  -- output q's frame f against its latest frame, which v holds at `at`
  pub reaches_is : SourceOf c s → (v : List ℕ) (f at q : ℕ) → take (gate_signal c (gates c)) v ≡ own_frames s c (gates c) → q < s.total → f ≡ frame_of s.outputs q → at ≡ shown_signal s q
      → reaches_later (sourced s c) q ≡ ltb f (get_or v at 0)
  unfolding reaches_later
  reaches_is S v f at q e h ef ea =
      ap₂ ltb (ap (λ m. frame_of m q) (sym (well c s S).head_is.outputs_is) ∙ sym ef)
      (shown_frame S q h ∙ ap₂ (λ l i. get_or l i 0) (sym e) (sym ea) ∙ get_or-take (gate_signal c (gates c)) v at 0 (omega (arith, shown_in S q)))
