-- Where signals stand and what is shown, case by case. Assumes nothing.
use mathlib.Core.Path.{◌≡◌, refl, sym, ap, ◌∙◌}
use mathlib.Core.Bool.{Bool, true, false}
use mathlib.Core.List.{List}
use Prim.Native.Nat.{ℕ, ◌+◌, ◌-◌, ◌/◌, ◌%◌, ◌≤◌, ◌<◌}
use native.Mathlib.Omega.{arith}
use lib.Dec.{ltb, eqb}
use lib.ListN.{length, get_or, take, length-take}
use Rattle.std.proofs.lemmas.List.{get_or-take}
use borrow.Author.Tests.{lt-ltb, le-ltb, ltb-true, ltb-false, ne_eqb, eqb-true, eqb-false}
use Rattle.layered.proofs.Search.{least_cong}
use Rattle.std.specs.List.{position}
use Rattle.circuit.specs.Found.{found}
use Rattle.circuit.proofs.Found.{position_found}
use Rattle.source.specs.Rearranged.{standing, renamed, item_at}
use Rattle.source.specs.Source.{item_in, shown_signal}
use Rattle.source.specs.declared.Source.{Source}

-- ---- as which signal a signal stands

module _ (own : ℕ) (places : List ℕ) (all s : ℕ) where
  pub standing_gate : own < s → standing own places all s ≡ all + (s - own)
  unfolding standing
  standing_gate h = rw (lt-ltb own s h)

  pub standing_input : s ≤ own → ¬ (s ≡ 0) → standing own places all s ≡ 1 + get_or places (s - 1) 0
  unfolding standing
  standing_input h n = rw (le-ltb own s h, ne_eqb s 0 n)

pub standing_constant : (own : ℕ) (places : List ℕ) (all : ℕ) → standing own places all 0 ≡ 0
unfolding standing
standing_constant own places all = rw (le-ltb own 0 (omega arith))

-- a signal before gate g stands before it
pub standing_before : (own : ℕ) (places : List ℕ) (all g s : ℕ) → ((i : ℕ) → i < own → get_or places i 0 < all) → s < 1 + own + g → standing own places all s < 1 + all + g
unfolding standing
standing_before own places all g s P h = go (ltb own s) refl (eqb s 0) refl
  where
    go : (t : Bool) → ltb own s ≡ t → (u : Bool) → eqb s 0 ≡ u → standing own places all s < 1 + all + g
    go true e u f = let l = ltb-true own s e in omega (arith, standing_gate own places all s l)
    go false e true f = rw (eqb-true s 0 f, standing_constant own places all) (omega arith)
    go false e false f =
        let l = ltb-false own s e in
        let n : ¬ (s ≡ 0) = eqb-false s 0 f in
        omega (arith, standing_input own places all s l n, P (s - 1) (omega arith))

-- the signal and the sign of a renamed literal
pub renamed_signal : (own : ℕ) (places : List ℕ) (all l : ℕ) → renamed own places all l / 2 ≡ standing own places all (l / 2)
unfolding renamed
renamed_signal own places all l = omega arith

pub renamed_sign : (own : ℕ) (places : List ℕ) (all l : ℕ) → renamed own places all l % 2 ≡ l % 2
unfolding renamed
renamed_sign own places all l = omega arith

-- ---- as the code has it

module _ (first base : ℕ) (places : List ℕ) (x : ℕ) (f : 1 ≤ first) (b : 1 ≤ base) where
  pub stands_gate : first ≤ x → base + (x - first) ≡ standing (first - 1) places (base - 1) x
  stands_gate h = omega (arith, standing_gate (first - 1) places (base - 1) x (omega arith))

  pub stands_constant : x ≡ 0 → 0 ≡ standing (first - 1) places (base - 1) x
  stands_constant z = rw z (sym (standing_constant (first - 1) places (base - 1)))

  pub stands_input : x < first → ¬ (x ≡ 0) → 1 + get_or places (x - 1) 0 ≡ standing (first - 1) places (base - 1) x
  stands_input h n = sym (standing_input (first - 1) places (base - 1) x (omega arith) n)

-- ---- which output stands at a place

module _ (s : Source) (q : ℕ) where
  pub item_whole : s.whole ≡ true → q ≡ item_in s q
  unfolding item_in
  item_whole e = rw e

  module _ (e : s.whole ≡ false) where
    pub item_position : s.own.total ≤ length s.shown → position (λ x. eqb x q) (take s.own.total s.shown) ≡ found s.own.total (item_in s q)
    unfolding item_in item_at
    item_position h =
        let l : length (take s.own.total s.shown) ≡ s.own.total = length-take s.own.total s.shown ∙ omega arith in
        position_found (λ x. eqb x q) 0 (take s.own.total s.shown)
        ∙ rw (l, e) (ap (found s.own.total) (least_cong s.own.total _ _ (λ k m. ap (λ x. eqb x q) (get_or-take s.own.total s.shown k 0 m))))

-- ---- the signal that is shown

module _ (s : Source) (q k : ℕ) (e : k ≡ item_in s q) where
  pub shown_none : s.own.total ≤ k → 0 ≡ shown_signal s q
  unfolding shown_signal
  shown_none h = rw (le-ltb (item_in s q) s.own.total (omega arith))

  pub shown_item : k < s.own.total → s.own.base + (s.own.gates - s.own.total) + k ≡ shown_signal s q
  unfolding shown_signal
  shown_item h = rw (lt-ltb (item_in s q) s.own.total (omega arith)) (omega arith)
