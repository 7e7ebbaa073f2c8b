-- What passing every check before 4 tells: the network is spread by the source of the given sizes and lists, and no place is named twice.
use mathlib.Core.Path.{◌≡◌, refl}
use mathlib.Core.Bool.{false, not}
use mathlib.Core.List.{List}
use Prim.Native.Nat.{ℕ, ◌+◌, ◌*◌, ◌-◌, ◌<◌, zero-le}
use native.Mathlib.Nat.{mul-one}
use native.Mathlib.Omega.{arith}
use lib.Dec.{eqb}
use lib.ListN.{length, get_or, get_or-append}
use lib.Seq.{get_or-append-add}
use borrow.Author.Tests.{lt-ltb, le-ltb, leb-false, eq-eqb, ne_eqb, eqb-true, eqb-false, not-false, not-true}
use Rattle.verdict.specs.Judgements.{answer, refuse_first}
use Rattle.verdict.proofs.Laws.{both_accept, passed, none_found}
use Rattle.sizes.specs.Limits.{most_inputs, most_bits}
use Rattle.sizes.specs.Sizes.{inputs, outputs, frames, sizes_checked}
use Rattle.sizes.proofs.Laws.{sized}
use Rattle.layered.proofs.Search.{every_each, least_is}
use Rattle.circuit.specs.Circuit.{gates, all_inputs, all_outputs, network_checked}
use Rattle.circuit.specs.declared.Head.{Head}
use Rattle.circuit.proofs.Accepted.{within, few_gates}
use Rattle.source.specs.Rearranged.{item_at}
use Rattle.source.specs.Source.{Spreads}
use Rattle.source.specs.declared.Source.{Source}
use Rattle.spreading.specs.Spread.{is_outside, is_repeated, is_taken, lists_checked, schedule_checked}

-- the sizes of a network
abbrev own_head : List ℕ → Head
own_head c = record { inputs = inputs c; outputs = outputs c; frames = frames c; gates = gates c; base = 1 + all_inputs c; total = all_outputs c }

-- the source that is a network spread
abbrev pub spread_source : (c : List ℕ) (n m T : ℕ) (ins outs : List ℕ) → Source
spread_source c n m T ins outs = record {
  inputs = n;
  outputs = m;
  frames = T;
  gates = gates c + m * T;
  base = 1 + n * T;
  total = m * T;
  own = own_head c;
  whole = false;
  places = ins;
  shown = outs;
}

-- no item of a list is an earlier one
unfoldable pub Apart : (count : ℕ) (list : List ℕ) → Type 0
Apart count list = (k : ℕ) → k < count → (i : ℕ) → i < k → get_or list i 0 ≡ get_or list k 0 → ⊥

-- so an item is the first that names its place
pub item_here : (count : ℕ) (list : List ℕ) → Apart count list → (k : ℕ) → k < count → item_at count list (get_or list k 0) ≡ k
unfolding Apart item_at
item_here count list A k h = least_is count k _ (omega arith) (λ i l. ne_eqb _ _ (A k h i l)) (λ _. eq-eqb (get_or list k 0) _ refl)

-- all that passing every check before 4 tells
pub record Scheduled (c : List ℕ) (n m T : ℕ) (ins outs : List ℕ) : Type 0 where
  pub spreads : Spreads c (spread_source c n m T ins outs)
  pub ins_many : length ins ≡ all_inputs c
  pub outs_many : length outs ≡ all_outputs c
  pub ins_apart : Apart (all_inputs c) ins
  pub outs_in : (k : ℕ) → k < all_outputs c → get_or outs k 0 < m * T
  pub outs_apart : Apart (all_outputs c) outs

-- an item that is not repeated is none of the earlier
unrepeated : (list : List ℕ) (k : ℕ) → is_repeated list k ≡ false → (i : ℕ) → i < k → get_or list i 0 ≡ get_or list k 0 → ⊥
unfolding is_repeated
unrepeated list k e i h = eqb-false _ _ (not-true _ (every_each (λ i. not (eqb (get_or list i 0) (get_or list k 0))) k (not-false _ e) i h))

module _ (n m T : ℕ) (ins outs : List ℕ) where
  input_inside : (k : ℕ) → k < length ins → is_outside n m T ins outs k ≡ false → get_or ins k 0 < n * T
  unfolding is_outside
  input_inside k h e = leb-false _ _ (rw (get_or-append ins outs 0 k h, lt-ltb k (length ins) h) at e)

  output_inside : (k : ℕ) → is_outside n m T ins outs (length ins + k) ≡ false → get_or outs k 0 < m * T
  unfolding is_outside
  output_inside k e = leb-false _ _ (rw (get_or-append-add ins outs k 0, le-ltb (length ins + k) (length ins) (omega arith)) at e)

module _ (ins outs : List ℕ) where
  input_free : (k : ℕ) → k < length ins → is_taken ins outs k ≡ false → is_repeated ins k ≡ false
  unfolding is_taken
  input_free k h e = rw (lt-ltb k (length ins) h) at e

  output_free : (k : ℕ) → is_taken ins outs (length ins + k) ≡ false → is_repeated outs k ≡ false
  unfolding is_taken
  output_free k e =
      let i : length ins + k - length ins ≡ k = omega arith in
      rw (le-ltb (length ins + k) (length ins) (omega arith), i) at e

pub scheduled : (c : List ℕ) (n m T : ℕ) (ins outs : List ℕ) (p : ℕ) → schedule_checked c n m T ins outs ≡ answer 0 p → Scheduled c n m T ins outs
unfolding schedule_checked network_checked lists_checked all_outputs Apart
scheduled c n m T ins outs p e =
    let a = both_accept (network_checked c) _ p e in
    let z = both_accept (sizes_checked most_inputs n m T) (lists_checked c n m T ins outs) p a.2 in
    let e₁ = passed (not (eqb (length ins) (all_inputs c))) 12 (length ins) _ p refl z.2 in
    let e₂ = passed (not (eqb (length outs) (all_outputs c))) 12 (length outs) _ p refl e₁.1 in
    let e₃ = both_accept (refuse_first (is_outside n m T ins outs) 19 (λ k. k) (answer 0 0) 0 (length ins + length outs)) _ p e₂.1 in
    let W = within c a.0 most_bits 1 (omega arith) a.1 in
    let one : frames c ≡ 1 = omega (arith, W.2, W.1.frames_from) in
    let li : length ins ≡ all_inputs c = eqb-true _ _ (not-false _ e₁.0) in
    let lo : length outs ≡ outputs c * frames c = eqb-true _ _ (not-false _ e₂.0) in
    let inside = (none_found (is_outside n m T ins outs) 19 _ (answer 0 0) e₃.0 0 (length ins + length outs) refl e₃.1).0 in
    let free = (none_found (is_taken ins outs) 20 _ (answer 0 0) p 0 (length ins + length outs) refl e₃.2).0 in
    record {
      spreads = record {
        network = record {
          headed = W.0;
          head_is = record { inputs_is = refl; outputs_is = refl; frames_is = refl; gates_is = refl; base_is = refl; total_is = refl };
          legal = W.3;
        };
        one_frame = one;
        few = few_gates c a.0 most_bits 1 a.1;
        sizes = sized most_inputs n m T z.0 z.1;
        base_is = refl;
        total_is = refl;
        gates_is = refl;
        places_in = λ i h. input_inside n m T ins outs i (omega arith) (inside i zero-le (omega arith));
        few_outputs = rw (one, mul-one) W.1.outputs_to;
      };
      ins_many = li;
      outs_many = lo;
      ins_apart = λ k h. unrepeated ins k (input_free ins outs k (omega arith) (free k zero-le (omega arith)));
      outs_in = λ k h. output_inside n m T ins outs k (inside (length ins + k) zero-le (omega arith));
      outs_apart = λ k h. unrepeated outs k (output_free ins outs k (free (length ins + k) zero-le (omega arith)));
    }
