-- The bytes of a machine, as they are read. Assumes nothing.
use mathlib.Core.Path.{◌≡◌, sym, ap, ap₂, ◌∙◌}
use mathlib.Core.List.{List, ◌∷◌, ◌++◌}
use Prim.Native.Nat.{ℕ, suc, ◌+◌, ◌*◌, ◌≤◌, ◌<◌}
use native.Mathlib.Nat.{lt_of_lt_of_le}
use native.Mathlib.Omega.{arith}
use lib.ListN.{length, get_or, take, drop, length-append, get_or-append}
use lib.Pow.{pow_mono}
use lib.Seq.{get_or-append-add, get_or-take, length-take-le}
use Rattle.words.specs.Words.{all_bytes, word_at, word_bytes, Fit, more, stored}
use Rattle.words.proofs.Laws.{all_bytes_length, stored_front, word_back, fit_append, fit_at}
use Rattle.sizes.specs.Sizes.{inputs, outputs}
use Rattle.sizes.specs.Sized.{sizes_of}
use Rattle.sizes.specs.declared.Sizes.{Sizes}
use Rattle.layered.specs.Search.{tabulate}
use Rattle.layered.proofs.Lists.{tabulate_length, tabulate_at, tabulated, below_tabulate}
use Rattle.table.specs.Sound.{Sound}
use Rattle.merged.specs.Merged.{Merged, Proper, Same, entries_of, most_merged, first_machine}
use Rattle.merge.specs.Merge.{target, machine_words, merge_bytes}
use Rattle.merge.specs.Found.{FewestIs, found_words}
use Rattle.merge.specs.declared.Fewest.{Fewest}

module _ (b : List ℕ) (G : Merged) where
  abbrev L : ℕ
  L = entries_of (target b) G.states

  words_length : length (machine_words b G) ≡ 3 + 2 * L
  unfolding machine_words
  words_length =
      let t = length-append (tabulate L G.out) (tabulate L G.next) in
      omega (arith, t, tabulate_length L G.out, tabulate_length L G.next)

  pub bytes_length : length (word_bytes (machine_words b G)) ≡ 6 + 4 * L
  unfolding word_bytes
  bytes_length = omega (arith, all_bytes_length 2 (machine_words b G), words_length)

  -- where its words stand
  abbrev bytes : List ℕ
  bytes = word_bytes (machine_words b G)

  abbrev arrays : List ℕ
  arrays = tabulate L G.out ++ tabulate L G.next

  module _ (Z : Sound b) (P : Proper (target b) G) (few : G.states ≤ most_merged) where
    fits : Fit 2 (machine_words b G)
    unfolding machine_words
    fits =
        more {x = inputs b} (omega (arith, Z.headed.sized.inputs_to)) (more {x = outputs b} (omega (arith, Z.headed.sized.outputs_to)) (more {x = G.states} (omega (arith, few))
        (fit_append {xs = tabulate L G.out} {ys = tabulate L G.next}
        (fit_at _ (below_tabulate L G.out (λ e l. lt_of_lt_of_le (P.out_is e l) (pow_mono Z.headed.sized.outputs_to))))
        (fit_at _ (below_tabulate L G.next (λ e l. omega (arith, P.next_is e l, few)))))))

    pub inputs_in : word_at bytes 0 ≡ inputs b
    unfolding machine_words
    inputs_in = word_back (machine_words b G) 0 fits (omega (arith, words_length))

    pub outputs_in : word_at bytes 2 ≡ outputs b
    unfolding machine_words
    outputs_in = word_back (machine_words b G) 1 fits (omega (arith, words_length))

    pub states_in : word_at bytes 4 ≡ G.states
    unfolding machine_words
    states_in = word_back (machine_words b G) 2 fits (omega (arith, words_length))

    array_in : (i : ℕ) → i < 2 * L → word_at bytes (6 + 2 * i) ≡ get_or arrays i 0
    unfolding machine_words
    array_in i l =
        let e : 6 + 2 * i ≡ 2 * suc (suc (suc i)) = omega arith in
        ap (word_at bytes) e ∙ word_back (machine_words b G) (suc (suc (suc i))) fits (omega (arith, words_length))

    pub outs_in : (e : ℕ) → e < L → word_at bytes (6 + 2 * e) ≡ G.out e
    outs_in e l =
        array_in e (omega arith) ∙ get_or-append (tabulate L G.out) (tabulate L G.next) 0 e (omega (arith, tabulate_length L G.out)) ∙ tabulate_at L e G.out l

    pub nexts_in_lem : (e : ℕ) → e < L → word_at bytes (6 + 2 * (L + e)) ≡ G.next e
    nexts_in_lem e l =
        array_in (L + e) (omega arith) ∙ ap (λ n. get_or arrays (n + e) 0) (sym (tabulate_length L G.out)) ∙ get_or-append-add (tabulate L G.out) (tabulate L G.next) e 0
        ∙ tabulate_at L e G.next l

-- what the code holds are these words
module _ (b : List ℕ) (r : Fewest) (F : FewestIs b r) where
  abbrev E : ℕ
  E = entries_of (target b) r.states

  taken : (l : List ℕ) (f : ℕ → ℕ) → E ≤ length l → Same E (λ e. get_or l e 0) f → take E l ≡ tabulate E f
  unfolding Same
  taken l f h S = tabulated E f (take E l) (length-take-le E l h) (λ i k. get_or-take E l i 0 k ∙ S i k)

  pub words_found : (s : Sizes) (entries : ℕ) → s ≡ sizes_of b → entries ≡ E → entries ≤ 12 → found_words s r entries ≡ machine_words b (first_machine (target b))
  unfolding machine_words
  words_found s entries es ee small =
      let G = first_machine (target b) in
      ap₂ (λ (s : Sizes) (n : ℕ). s.inputs ∷ s.outputs ∷ r.states ∷ take n r.outs ++ take n r.nexts) es ee
      ∙ ap₂ (λ x y. inputs b ∷ outputs b ∷ r.states ∷ x ++ y)
      (taken r.outs G.out (omega (arith, ee, F.outs_long)) F.outs_are) (taken r.nexts G.next (omega (arith, ee, F.nexts_long)) F.nexts_are)
      ∙ ap (λ k. inputs b ∷ outputs b ∷ k ∷ tabulate (entries_of (target b) k) G.out ++ tabulate (entries_of (target b) k) G.next) F.states_are

-- stored at the front of a buffer they are the bytes
pub words_left : (b before after ws : List ℕ) (bytes : ℕ) → after ≡ stored 2 before 0 ws → ws ≡ machine_words b (first_machine (target b)) → bytes ≡ length (merge_bytes b)
    → after ≡ merge_bytes b ++ drop bytes before
unfolding merge_bytes word_bytes
words_left b before after ws _ e w n =
    let m = machine_words b (first_machine (target b)) in
    e ∙ ap (stored 2 before 0) w ∙ stored_front 2 before m ∙ ap (λ k. all_bytes 2 m ++ drop k before) (sym (all_bytes_length 2 m) ∙ sym n)
