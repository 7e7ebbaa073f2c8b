-- Where the entries of two states of a layer stand, and that these are the machine's. Assumes nothing.
use mathlib.Core.Path.{◌≡◌, sym, ap, ◌∙◌}
use mathlib.Core.List.{List}
use Prim.Native.Nat.{ℕ, suc, ◌+◌, ◌*◌, ◌^◌, ◌≤◌, ◌<◌}
use native.Mathlib.Nat.{suc-mul, mul-le-mul_right}
use native.Mathlib.Numerals.{add-one}
use native.Mathlib.Omega.{arith}
use Rattle.words.specs.Words.{word_at}
use Rattle.sizes.specs.Sizes.{inputs, frames}
use Rattle.table.specs.Table.{states, entries_below, entry_count, entry_at, machine}
use Rattle.table.specs.Sound.{Sound, layout_of}
use Rattle.table.specs.declared.Layout.{Layout}
use Rattle.table.proofs.Offsets.{Laid, laid, layer_in, below_next}
use Rattle.distinguish.specs.Pairs.{PairOf}
use Rattle.distinguish.specs.declared.Pair.{Pair}

module _ (b : List ℕ) (l : Layout) (p : Pair) (Z : Sound b) (e : l ≡ layout_of b) (P : PairOf b p) (h : p.layer < frames b) where
  pub stands : Laid b l
  stands = laid b l Z.headed e

  -- where a row begins
  abbrev pub row_at : (start s : ℕ) → ℕ
  row_at start s = start + 2 * (p.below + s * l.words)

  module _ (s : ℕ) (k : s < states b p.layer) where
    -- its end is among all entries
    pub row_in : p.below + s * l.words + l.words ≤ entry_count b
    row_in =
        let w : s * l.words ≡ s * 2 ^ inputs b = ap (λ n. s * n) stands.words_is in
        let m : suc s * 2 ^ inputs b ≤ states b p.layer * 2 ^ inputs b = mul-le-mul_right (2 ^ inputs b) k in
        omega (arith, w, m, suc-mul s (2 ^ inputs b), layer_in b p.layer h, P.below_is, stands.words_is)

    at_entry : (start w : ℕ) → row_at start s + 2 * w ≡ entry_at b start p.layer s w
    unfolding entry_at
    at_entry start w = omega (arith, P.below_is, ap (λ n. s * n) stands.words_is)

    pub output_at_lem : (w : ℕ) → word_at b (row_at l.outputs s + 2 * w) ≡ (machine b).out p.layer s w
    output_at_lem w = ap (word_at b) (at_entry l.outputs w ∙ ap (λ start. entry_at b start p.layer s w) stands.outputs_is)

    pub next_at : (w : ℕ) → word_at b (row_at l.nexts s + 2 * w) ≡ (machine b).next p.layer s w
    next_at w = ap (word_at b) (at_entry l.nexts w ∙ ap (λ start. entry_at b start p.layer s w) stands.nexts_is)

  -- the entries below the next layer
  pub below_more : p.below + states b p.layer * l.words ≡ entries_below b (p.layer + 1)
  below_more =
      let w : states b p.layer * l.words ≡ states b p.layer * 2 ^ inputs b = ap (λ n. states b p.layer * n) stands.words_is in
      omega (arith, P.below_is, w, below_next b p.layer) ∙ sym (ap (entries_below b) (add-one p.layer))
