-- What is read of a source is what the circuit that it is has. Assumes nothing.
use mathlib.Core.Path.{◌≡◌, refl, sym, ap, ap₂, ◌∙◌, subst}
use mathlib.Core.Bool.{Bool, true, false, not, false≢true}
use mathlib.Core.List.{List}
use Prim.Native.Nat.{ℕ, ◌+◌, ◌*◌, ◌-◌, ◌≤◌, ◌<◌}
use native.Mathlib.Omega.{arith}
use lib.Dec.{ltb}
use lib.ListN.{length}
use borrow.Author.Tests.{lt-ltb, le-ltb}
use Rattle.layered.proofs.Search.{least_le}
use Rattle.sizes.specs.Limits.{most_bits}
use Rattle.circuit.specs.Limits.{most_signals}
use Rattle.circuit.specs.Circuit.{gates, all_inputs, all_outputs, gate_of_output, unconnected}
use Rattle.circuit.specs.WellFormed.{WellFormed, Formed, GateOf}
use Rattle.circuit.specs.declared.Head.{Head}
use Rattle.circuit.specs.declared.Gate.{Gate}
use Rattle.circuit.proofs.Accepted.{well_formed}
use Rattle.source.specs.Rearranged.{rearranged, renamed, item_at, connects_at, shown_literal}
use Rattle.source.specs.Source.{head_of, sourced, item_in, Renames, Spreads, WholeOf, SourceOf, stands, spread}
use Rattle.source.specs.declared.Source.{Source}
use Rattle.source.proofs.Rearranged.{rearranged_well, gates_are, inner_gate, shown_gate, blank_gate, place_unconnected}

module _ (c : List ℕ) (s : Source) where
  -- the circuit that a source is
  pub sourced_whole : s.whole ≡ true → sourced s c ≡ c
  unfolding sourced
  sourced_whole e = rw e

  pub sourced_spread : s.whole ≡ false → sourced s c ≡ rearranged c s.inputs s.outputs s.frames s.places s.shown
  unfolding sourced
  sourced_spread e = rw e

  -- a circuit as it stands is a source of itself
  pub whole_source : Formed c → WholeOf c s → SourceOf c s
  whole_source F O = stands O (subst (WellFormed c) (sym O.own_is) (well_formed F O.head_is))

  -- whether it is so is told by the flag
  pub is_whole : SourceOf c s → s.whole ≡ true → WholeOf c s
  is_whole (stands O _) e = O
  is_whole (spread w _) e = absurd (false≢true (sym w ∙ e))

  pub is_spread : SourceOf c s → s.whole ≡ false → Spreads c s
  is_spread (stands O _) e = absurd (false≢true (sym e ∙ O.whole_is))
  is_spread (spread _ P) e = P

  pub own_well : SourceOf c s → WellFormed c s.own
  own_well (stands O W) = W
  own_well (spread w P) = P.network

  -- it has room for its signals
  pub own_room : SourceOf c s → (s.own.base + s.own.gates ≤ most_signals) × (s.own.total ≤ s.own.gates)
  own_room S = let W = own_well S in (omega (arith, W), omega (arith, W))

  pub well : SourceOf c s → WellFormed (sourced s c) (head_of s)
  well (stands O W) = subst (λ b. WellFormed b (head_of s)) (sym (sourced_whole O.whole_is)) (subst (WellFormed c) O.own_is W)
  well (spread w P) = subst (λ b. WellFormed b (head_of s)) (sym (sourced_spread w)) (rearranged_well c s P)

  -- ---- gates

  -- a signal before a gate of a network can be renamed
  pub renames : Spreads c s → (g x : ℕ) → g < gates c → x < 1 + all_inputs c + g → most_bits ≤ length s.places → Renames s.own.base s.base s.places x
  renames P g x h k n =
      let O = P.network.head_is in
      record {
        first_from = omega (arith, O.base_is);
        first_to = omega (arith, O.base_is, P.network.headed.inputs_to);
        base_from = omega (arith, P.base_is);
        low = omega (arith, P.base_is, P.sizes.bits_to, P.network.headed.inputs_to, P.network.headed.gates_to);
        places_to = λ i l. omega (arith, P.places_in i (omega (arith, O.base_is)), P.sizes.bits_to);
      }

  -- a gate of a circuit as it stands is itself
  pub whole_gate : s.whole ≡ true → (g : ℕ) (r : Gate) → GateOf c g r → GateOf (sourced s c) g r
  whole_gate e g r G = subst (λ b. GateOf b g r) (sym (sourced_whole e)) G

  -- a network's is renamed
  pub spread_gate : s.whole ≡ false → Spreads c s → (g : ℕ) → g < gates c → (r x : Gate) → GateOf c g x
      → r.left ≡ renamed (s.own.base - 1) s.places (s.base - 1) x.left → r.right ≡ renamed (s.own.base - 1) s.places (s.base - 1) x.right → GateOf (sourced s c) g r
  spread_gate w P g l r x X el er = rw (sourced_spread w) (inner_gate c s P g l r (el ∙ same x.left ∙ ap name X.left_is) (er ∙ same x.right ∙ ap name X.right_is))
    where
      name : ℕ → ℕ
      name l = renamed (all_inputs c) s.places (s.inputs * s.frames) l

      same : (l : ℕ) → renamed (s.own.base - 1) s.places (s.base - 1) l ≡ name l
      same l =
          let n : s.own.base - 1 ≡ all_inputs c = omega (arith, P.network.head_is.base_is) in
          let a : s.base - 1 ≡ s.inputs * s.frames = omega (arith, P.base_is) in
          ap₂ (λ n a. renamed n s.places a l) n a

  -- a gate behind all of c's own: c is spread
  pub behind : SourceOf c s → (g : ℕ) → g < gates (sourced s c) → gates c ≤ g → (s.whole ≡ false) × Spreads c s × (g - gates c < s.total)
  behind (stands O W) g l k = absurd (omega (arith, ap gates (sourced_whole O.whole_is)))
  behind (spread w P) g l k = (w, P, omega (arith, ap gates (sourced_spread w), gates_are c s P, P.total_is))

  -- ---- connected outputs

  -- the item that stands at a place
  pub spread_item : s.whole ≡ false → Spreads c s → (q : ℕ) → item_in s q ≡ item_at (all_outputs c) s.shown q
  unfolding item_in
  spread_item e P q = rw (e, P.network.head_is.total_is)

  pub few_items : SourceOf c s → s.whole ≡ false → s.own.total ≤ 16
  few_items S e = let P = is_spread S e in omega (arith, P.few_outputs, P.network.head_is.total_is)

  module _ (q k : ℕ) (h : q < s.total) (e : k ≡ item_in s q) where
    -- none stands there
    pub none_there : SourceOf c s → s.own.total ≤ k → false ≡ not (unconnected (sourced s c) (gate_of_output (sourced s c) q))
    unfolding connects_at item_in
    none_there (stands O W) l = let t : s.own.total ≡ s.total = ap (λ (h : Head). h.total) O.own_is in absurd (omega (arith, rw O.whole_is at e))
    none_there (spread w P) l =
        let i = e ∙ spread_item w P q in
        let places : q < s.outputs * s.frames = omega (arith, P.total_is) in
        let off : connects_at c s.shown q ≡ false = rw (le-ltb (item_at (all_outputs c) s.shown q) (all_outputs c) (omega (arith, i, P.network.head_is.total_is))) in
        rw (sourced_spread w, place_unconnected c s P q places, off)

    -- item k does
    pub some_there : SourceOf c s → k < s.own.total → (x : Bool) → x ≡ unconnected c (gate_of_output c k) → not x ≡ not (unconnected (sourced s c) (gate_of_output (sourced s c) q))
    unfolding connects_at item_in
    some_there (stands O W) l x ex =
        let w = O.whole_is in
        let i : k ≡ q = rw w at e in
        rw (sourced_whole w) (ap not ex ∙ ap (λ k. not (unconnected c (gate_of_output c k))) i)
    some_there (spread w P) l x ex =
        let i = e ∙ spread_item w P q in
        let places : q < s.outputs * s.frames = omega (arith, P.total_is) in
        let in_list : ltb (item_at (all_outputs c) s.shown q) (all_outputs c) ≡ true = lt-ltb (item_at (all_outputs c) s.shown q) (all_outputs c) (omega (arith, i, P.network.head_is.total_is)) in
        let on : connects_at c s.shown q ≡ not x = rw (in_list, ← i) (ap not (sym ex)) in
        rw (sourced_spread w, place_unconnected c s P q places, on) (twice x)
      where
        twice : (x : Bool) → not x ≡ not (not (not x))
        twice true = refl
        twice false = refl

  -- ---- gates that show outputs

  module _ (S : Spreads c s) (w : s.whole ≡ false) (q k : ℕ) (h : q < s.total) (e : k ≡ item_in s q) where
    places_in : q < s.outputs * s.frames
    places_in = omega (arith, S.total_is)

    connected_is : (x : Bool) → x ≡ not (unconnected (sourced s c) (gate_of_output (sourced s c) q)) → connects_at c s.shown q ≡ x
    connected_is x ex = sym (ex ∙ ap not (ap (λ b. unconnected b (gate_of_output b q)) (sourced_spread w) ∙ place_unconnected c s S q places_in) ∙ twice (connects_at c s.shown q))
      where
        twice : (x : Bool) → not (not x) ≡ x
        twice true = refl
        twice false = refl

    pub shows_none : false ≡ not (unconnected (sourced s c) (gate_of_output (sourced s c) q)) → (r : Gate) → r.left ≡ 0 → r.right ≡ 0 → GateOf (sourced s c) (gates c + q) r
    shows_none f r el er = rw (sourced_spread w) (blank_gate c s S q places_in (connected_is false f) r el er)

    pub shows_item : true ≡ not (unconnected (sourced s c) (gate_of_output (sourced s c) q)) → (r : Gate) → r.left ≡ 2 * (s.base + (s.own.gates - s.own.total + k)) → r.right ≡ 1 → GateOf (sourced s c) (gates c + q) r
    unfolding shown_literal
    shows_item f r el er =
        let O = S.network.head_is in
        let i = e ∙ spread_item w S q in
        let same : 2 * (s.base + (s.own.gates - s.own.total + k)) ≡ 2 * (1 + s.inputs * s.frames + gate_of_output c (item_at (all_outputs c) s.shown q)) = omega (arith, S.base_is, O.gates_is, O.total_is, i) in
        rw (sourced_spread w) (shown_gate c s S q places_in (connected_is true f) r (el ∙ same) er)
