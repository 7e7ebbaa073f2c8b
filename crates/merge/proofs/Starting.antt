-- Where the layers of a table begin, one after the other. Assumes nothing.
use mathlib.Core.Path.{◌≡◌, sym, ap, ◌∙◌}
use mathlib.Core.Logic.{⊎_elim}
use mathlib.Core.List.{List}
use Prim.Native.Nat.{ℕ, ◌+◌, ◌*◌, ◌^◌, ◌≤◌, ◌<◌}
use native.Mathlib.Nat.{eq-or-lt_of_le}
use native.Mathlib.Numerals.{add-one}
use native.Mathlib.Omega.{arith}
use lib.ListN.{length, get_or, set, length-set}
use lib.Seq.{get_or-set_same, get_or-set_other}
use Rattle.sizes.specs.Sizes.{inputs, frames}
use Rattle.table.specs.Table.{states, entries_below, outputs_at}
use Rattle.table.specs.Sound.{TableHeaded, layout_of}
use Rattle.table.specs.declared.Layout.{Layout}
use Rattle.table.proofs.Offsets.{Laid, laid, below_first, below_next, layer_in}

-- the starts of the layers before t stand, and `start` is that of layer t
pub record Begun (b starts : List ℕ) (start t : ℕ) : Type 0 where
  pub turns : t ≤ frames b
  pub long : length starts ≡ 16
  pub are : (i : ℕ) → i < t → get_or starts i 0 ≡ outputs_at b + 2 * entries_below b i
  pub start_is : start ≡ outputs_at b + 2 * entries_below b t

pub begun_none : (b starts : List ℕ) (start : ℕ) → length starts ≡ 16 → start ≡ outputs_at b → Begun b starts start 0
begun_none b starts start l e = record { turns = omega arith; long = l; are = λ i h. absurd (omega arith); start_is = omega (arith, e, below_first b) }

module _ (b : List ℕ) (layout : Layout) (Z : TableHeaded b) (el : layout ≡ layout_of b) (starts : List ℕ) (start t : ℕ) (S : Begun b starts start t) (h : t < frames b) where
  stands : Laid b layout
  stands = laid b layout Z el

  -- a layer's entries, in bytes
  module _ (count : ℕ) (ec : count ≡ states b t) where
    same_entries : count * layout.words ≡ states b t * 2 ^ inputs b
    same_entries = ap (λ c. c * layout.words) ec ∙ ap (λ w. states b t * w) stands.words_is

    pub layer_few : start + 2 * (count * layout.words) ≤ length b
    layer_few = omega (arith, same_entries, layer_in b t h, S.start_is, stands.outputs_is, stands.nexts-at, stands.end_at)

    pub begun_next : (start' : ℕ) → start' ≡ start + 2 * (count * layout.words) → Begun b (set starts t start) start' (t + 1)
    begun_next start' e = record {
      turns = omega arith;
      long = length-set starts t start ∙ S.long;
      are = λ i l. ⊎_elim
          (λ q. ap (λ i. get_or (set starts t start) i 0) q ∙ get_or-set_same starts t start 0 (omega (arith, S.long, Z.sized.frames_to)) ∙ S.start_is ∙ ap (λ i. outputs_at b + 2 * entries_below b i) (sym q))
          (λ k. get_or-set_other starts t i start 0 (λ z. omega arith) ∙ S.are i k)
          (eq-or-lt_of_le {n = i} {m = t} (omega arith));
      start_is = omega (arith, e, same_entries, S.start_is, below_next b t) ∙ ap (λ t. outputs_at b + 2 * entries_below b t) (sym (add-one t));
    }
