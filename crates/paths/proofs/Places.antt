-- Where the numbers of a table's states stand in the result, as the code computes it. Assumes nothing.
use mathlib.Core.Path.{◌≡◌, refl, ap, ◌∙◌}
use mathlib.Core.List.{List}
use Prim.Native.Nat.{ℕ, suc, ◌+◌, ◌*◌, ◌^◌, ◌≤◌, ◌<◌}
use native.Mathlib.Numerals.{add-one}
use native.Mathlib.Omega.{arith}
use lib.Arith.{digits_lt}
use lib.ListN.{length}
use Rattle.sizes.specs.Sizes.{inputs, frames}
use Rattle.layered.specs.Search.{total}
use Rattle.table.specs.Table.{states, states_below, entries_below, nexts_at, entry_at}
use Rattle.table.specs.Sound.{TableHeaded}
use Rattle.table.proofs.Offsets.{arrays_stand, layer_in, words_most}
use Rattle.paths.specs.Places.{reach_head, all_states, histories_at, gap}
use Rattle.paths.specs.Progress.{layer_of}
use Rattle.paths.specs.declared.Layer.{Layer}
use Rattle.paths.proofs.Arrays.{states_in}

module _ (b : List ℕ) where
  -- of a layer's first state
  pub from_is : (t T head below : ℕ) → T ≡ frames b → head ≡ 4 + 2 * T → below ≡ states_below b t → head + 4 * below ≡ histories_at b t 0
  unfolding histories_at reach_head
  from_is t T head below e h k = omega arith

  -- of the next layer's
  pub to_is : (t from count : ℕ) → from ≡ histories_at b t 0 → count ≡ states b t → from + 4 * count ≡ histories_at b (suc t) 0
  unfolding histories_at states_below total
  to_is t from count e k = omega arith

  pub gap_is : (T all : ℕ) → T ≡ frames b → all ≡ states_below b (T + 1) → 4 * all ≡ gap b
  unfolding gap all_states
  gap_is T all e k = ap (λ n. 4 * n) (k ∙ ap (states_below b) (add-one T ∙ ap suc e))

  -- of another state
  pub state_at : (t s : ℕ) → histories_at b t 0 + 4 * s ≡ histories_at b t s
  unfolding histories_at
  state_at t s = omega arith

  -- its place is among those of all states
  pub state_in : (t s : ℕ) → t ≤ frames b → s < states b t → states_below b t + s < all_states b
  unfolding states_below all_states
  state_in t s h k = states_in (frames b) (states b) (λ t s. 0) t s h k

  -- its smallest history stands as far behind as there are states
  pub gap_at : (t s : ℕ) → histories_at b t s + gap b ≡ reach_head b + 4 * (all_states b + (states_below b t + s))
  unfolding histories_at gap
  gap_at t s = omega arith

  pub head_is : reach_head b ≡ 4 + 2 * frames b
  unfolding reach_head
  head_is = refl

  -- ---- a layer as the code holds it

  pub record LayerIs (t : ℕ) (l : Layer) : Type 0 where
    pub words_is : l.words ≡ 2 ^ inputs b
    pub nexts_is : l.nexts ≡ nexts_at b + 2 * entries_below b t
    pub from_is : l.from ≡ histories_at b t 0
    pub to_is : l.to ≡ histories_at b (suc t) 0
    pub gap_is : l.gap ≡ gap b
    pub words_to : l.words ≤ 256

  pub layer_is : TableHeaded b → (t : ℕ) (l : Layer) → l ≡ layer_of b t → LayerIs t l
  layer_is H t l e =
      let w : l.words ≡ 2 ^ inputs b = ap (λ (l : Layer). l.words) e in
      record {
        words_is = w;
        nexts_is = ap (λ (l : Layer). l.nexts) e;
        from_is = ap (λ (l : Layer). l.from) e;
        to_is = ap (λ (l : Layer). l.to) e;
        gap_is = ap (λ (l : Layer). l.gap) e;
        words_to = omega (arith, words_most (inputs b) H.sized.inputs_to);
      }

  -- ---- its next states

  module _ (t s w : ℕ) where
    pub next_at : nexts_at b + 2 * entries_below b t + 2 * (s * 2 ^ inputs b) + 2 * w ≡ entry_at b (nexts_at b) t s w
    unfolding entry_at
    next_at = omega arith

    pub next_inside : TableHeaded b → t < frames b → s < states b t → w < 2 ^ inputs b → entry_at b (nexts_at b) t s w + 2 ≤ length b
    unfolding entry_at
    next_inside H ht hs hw = omega (arith, H.whole, arrays_stand b, layer_in b t ht, digits_lt hs hw)
