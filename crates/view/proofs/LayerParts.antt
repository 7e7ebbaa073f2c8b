-- A layer's part of the array of outputs: where it stands, what its words are, and that the parts are the whole array. Assumes nothing.
use mathlib.Core.Path.{◌≡◌, refl, sym, ap, ap₂, ◌∙◌}
use mathlib.Core.Bool.{Bool, true, false, ◌&&◌, cond}
use mathlib.Core.List.{List, [], ◌++◌}
use Prim.Native.Nat.{ℕ, zero, suc, ◌+◌, ◌*◌, ◌^◌, ◌≤◌, ◌<◌, zero-le}
use native.Mathlib.Nat.{le_refl}
use native.Mathlib.Omega.{arith}
use lib.Arith.{digits_div, digits_mod, digits_lt}
use lib.Dec.{ltb, eqb}
use lib.ListN.{length, take, drop}
use lib.Seq.{drop-drop, take-add}
use borrow.Author.Tests.{ltb-true, eqb-true, lt-ltb, le-ltb}
use Rattle.words.specs.Words.{word_at}
use Rattle.verdict.specs.Judgements.{answer, refusal_figures, refuse}
use Rattle.verdict.specs.declared.Refusal.{Refusal}
use Rattle.std.specs.Prelude.{Result, Err, IsErrAnd}
use Rattle.std.proofs.lemmas.Result.{err_from_is_err_and}
use Rattle.verdict.proofs.Laws.{refusal_number, both_accept}
use Rattle.sizes.specs.Sizes.{inputs, frames}
use Rattle.layered.specs.Search.{join}
use Rattle.table.specs.Table.{states, entries_below, entry_count, outputs_at, entry_at, layer_part, checked}
use Rattle.table.proofs.Offsets.{below_first, below_next, arrays_stand}
use Rattle.table.proofs.Parts.{part_in, part_entry}
use Rattle.table.proofs.Accepted.{sound}
use Rattle.view.specs.Layers.{layer_checked, shows, layer_outputs, located, layer_figures}
use Rattle.view.specs.Theorems.{LayerStands, LayerTells, LayersJoin}
use Rattle.view.specs.declared.layers.Part.{Part}

-- ---- what is shown

module _ (b : List ℕ) (layer : ℕ) where
  -- where a layer is not refused, the table is accepted
  table_passes : (layer_checked b layer).number ≡ 0 → (p : ℕ) × (checked b ≡ answer 0 p)
  unfolding layer_checked
  table_passes e =
      let p : ℕ = (layer_checked b layer).place in
      let a = both_accept (checked b) (refuse (ltb (frames b) layer) 11 layer (answer 0 0)) p (ap (λ (n : ℕ). answer n p) e) in
      (a.0, a.1)

  -- of an accepted table, a layer below T is shown
  is_shown : (p : ℕ) → checked b ≡ answer 0 p → layer < frames b → shows b layer ≡ true
  unfolding shows layer_checked
  is_shown p e h = rw (e, le-ltb (frames b) layer (omega arith), lt-ltb layer (frames b) h)

  -- what is shown is its part of the array of outputs
  shows_part : (p : ℕ) → checked b ≡ answer 0 p → layer < frames b → layer_outputs b layer ≡ layer_part b (outputs_at b) layer
  unfolding layer_outputs
  shows_part p e h = rw (is_shown p e h)

  -- which is within the table
  part_stands : (p : ℕ) → checked b ≡ answer 0 p → layer < frames b → outputs_at b + 2 * entries_below b layer + 2 * (states b layer * 2 ^ inputs b) ≤ length b
  part_stands p e h = part_in b (outputs_at b) layer (omega (arith, (sound b p e).headed.whole, arrays_stand b)) h

-- ---- where it stands

-- offset and length lie in the table and are those of what is shown: of a layer that is shown by its part, else by 0 and 0
pub layer_stands : (b : List ℕ) (layer : ℕ) → LayerStands b layer
unfolding LayerStands located layer_outputs shows layer_part
layer_stands b layer = go (eqb (layer_checked b layer).number 0) (ltb layer (frames b)) refl refl
  where
    go : (t u : Bool) → eqb (layer_checked b layer).number 0 ≡ t → ltb layer (frames b) ≡ u
        → (cond (t && u) (outputs_at b + 2 * entries_below b layer) 0 + cond (t && u) (2 * (states b layer * 2 ^ inputs b)) 0 ≤ length b)
        × (cond (t && u) (take (2 * (states b layer * 2 ^ inputs b)) (drop (outputs_at b + 2 * entries_below b layer) b)) []
        ≡ take (cond (t && u) (2 * (states b layer * 2 ^ inputs b)) 0) (drop (cond (t && u) (outputs_at b + 2 * entries_below b layer) 0) b))
    go true true d l =
        let a = table_passes b layer (eqb-true (layer_checked b layer).number 0 d) in
        (part_stands b layer a.0 a.1 (ltb-true layer (frames b) l), refl)
    go true false d l = (zero-le, refl)
    go false u d l = (zero-le, refl)

-- ---- what locating answers

module _ (b : List ℕ) (layer : ℕ) where
  -- where the table's checks refuse, the answer is the refusal
  pub table_refused : (x : Result Part Refusal) (r : Refusal) → IsErrAnd x (λ y. y ≡ r) → refusal_figures r ≡ checked b → layer_figures x ≡ located b layer
  unfolding located shows layer_checked
  table_refused x r h e = let p = err_from_is_err_and x h in ap layer_figures (p.1 ∙ ap Err p.2) ∙ rw (← e, refusal_number r, refusal_number r)

  module _ (p : ℕ) (e : checked b ≡ answer 0 p) where
    -- above T, 11 at the layer
    pub layer_refused : frames b < layer → record { number = 11; place = layer; offset = 0; length = 0 } ≡ located b layer
    unfolding located shows layer_checked
    layer_refused h = rw (e, lt-ltb (frames b) layer h)

    -- at T, an empty part
    pub end_empty : layer ≡ frames b → record { number = 0; place = 0; offset = 0; length = 0 } ≡ located b layer
    unfolding located shows layer_checked
    end_empty h = rw (e, le-ltb (frames b) layer (omega arith), le-ltb layer (frames b) (omega arith))

    -- below T, the offset and length of the layer's part
    pub part_located : (from size : ℕ) → layer < frames b → from ≡ outputs_at b + 2 * entries_below b layer → size ≡ 2 * (states b layer * 2 ^ inputs b)
        → record { number = 0; place = 0; offset = from; length = size } ≡ located b layer
    unfolding located shows layer_checked
    part_located from size h ef es = rw (e, le-ltb (frames b) layer (omega arith), lt-ltb layer (frames b) h, ef, es)

-- ---- what the layers show

-- the words of a layer's part are the outputs of its states
pub layer_tells : (b : List ℕ) (layer : ℕ) → LayerTells b layer
unfolding LayerTells
layer_tells b layer p e s w h hs hw =
    let K : ℕ = 2 ^ inputs b in
    ap (λ l. word_at l (2 * (s * K + w))) (shows_part b layer p e h)
    ∙ part_entry b (outputs_at b) layer (s * K + w) (digits_lt hs hw)
    ∙ ap₂ (λ s w. word_at b (entry_at b (outputs_at b) layer s w)) (digits_div s hw) (digits_mod s hw)

-- what the layers below t show is the array of outputs up to layer t
joins_below : (b : List ℕ) (p : ℕ) → checked b ≡ answer 0 p → (t : ℕ) → t ≤ frames b → join t (layer_outputs b) ≡ take (2 * entries_below b t) (drop (outputs_at b) b)
unfolding join layer_part
joins_below b p e zero h = let z : 0 ≡ 2 * entries_below b 0 = omega (arith, below_first b) in ap (λ k. take k (drop (outputs_at b) b)) z
joins_below b p e (suc t) h =
    let i : ℕ = 2 * entries_below b t in
    let j : ℕ = 2 * (states b t * 2 ^ inputs b) in
    let n : i + j ≡ 2 * entries_below b (suc t) = omega (arith, below_next b t) in
    ap₂ ◌++◌ (joins_below b p e t (omega arith)) (shows_part b t p e h ∙ ap (take j) (sym (drop-drop i (outputs_at b) b)))
    ∙ sym (take-add i j (drop (outputs_at b) b))
    ∙ ap (λ k. take k (drop (outputs_at b) b)) n

-- those of all layers are the whole array
pub layers_join : (b : List ℕ) → LayersJoin b
unfolding LayersJoin entry_count
layers_join b p e = joins_below b p e (frames b) (le_refl (frames b))
