-- The numbers of a sound table's states in a result: that they fit, where each stands, and what following one entry stores. Assumes nothing.
use mathlib.Core.Path.{◌≡◌, sym, ap, ap₂, ◌∙◌, subst}
use mathlib.Core.List.{List, [], ◌∷◌}
use Prim.Native.Nat.{ℕ, suc, ◌+◌, ◌*◌, ◌^◌, ◌≤◌, ◌<◌}
use native.Mathlib.Nat.{le_trans, mul-le-mul_left, one-le-pow, pow-suc}
use native.Mathlib.Omega.{arith}
use lib.Arith.{digits_lt}
use lib.Dec.{lit<}
use lib.ListN.{length, get_or, set, length-set}
use Rattle.words.specs.Words.{number_at, Fit, stored, Held}
use Rattle.words.proofs.Laws.{fit_append, stored_length, stored_over, stored_held, held_number, stored_set}
use Rattle.sizes.specs.Sizes.{inputs, frames}
use Rattle.layered.specs.Search.{total}
use Rattle.layered.proofs.Search.{tally_at_most}
use Rattle.layered.proofs.Rows.{power_fits}
use Rattle.table.specs.Table.{states, states_below, machine}
use Rattle.table.specs.Sound.{Sound}
use Rattle.paths.specs.Paths.{histories, smallest}
use Rattle.paths.specs.Places.{reach_head, all_states, histories_at, gap}
use Rattle.paths.specs.Progress.{histories_so_far, smallest_so_far, numbers_so_far, so_far, smaller, added, Following}
use Rattle.paths.proofs.Arrays.{states_in, fit_states}
use Rattle.paths.proofs.Places.{state_in, gap_at}
use Rattle.paths.proofs.Smallest.{smallest_tells, smallest_below}
use Rattle.paths.proofs.Following.{histories_more, numbers_length, histories_read, smallest_read, entry_followed, state_skipped, layer_followed}

-- number j of those that were stored
number_of : (v r : List ℕ) (i : ℕ) (xs : List ℕ) (j : ℕ) → r ≡ stored 4 v i xs → Fit 4 xs → i + 4 * length xs ≤ length v → j < length xs → number_at 4 r (i + 4 * j) ≡ get_or xs j 0
number_of v r i xs j e F room l =
    let n : length (stored 4 v i xs) ≡ length v = stored_length 4 v i xs room in
    ap (λ r. number_at 4 r (i + 4 * j)) e ∙ held_number 4 (stored 4 v i xs) i xs j (stored_held 4 v i xs (omega arith)) F (omega arith) l

-- numbers j and n + j of them, where histories come to one state more
added_numbers : (v r : List ℕ) (i : ℕ) (xs : List ℕ) (n j c o : ℕ) → r ≡ stored 4 v i xs → Fit 4 xs → length xs ≡ n + n → i + 4 * (n + n) ≤ length v → j < n
    → added r (i + 4 * j) (4 * n) c o ≡ stored 4 v i (set (set xs (n + j) (smaller (get_or xs j 0) (get_or xs (n + j) 0) o)) j (get_or xs j 0 + c))
unfolding added
added_numbers v r i xs n j c o e F l room h =
    let x : ℕ = get_or xs j 0 in
    let y : ℕ = smaller x (get_or xs (n + j) 0) o in
    let p : i + 4 * j + 4 * n ≡ i + 4 * (n + j) = omega arith in
    let q : number_at 4 r (i + 4 * j) ≡ x = number_of v r i xs j e F (omega arith) (omega arith) in
    let w : number_at 4 r (i + 4 * j + 4 * n) ≡ get_or xs (n + j) 0 = ap (number_at 4 r) p ∙ number_of v r i xs (n + j) e F (omega arith) (omega arith) in
    let m : length (set xs (n + j) y) ≡ length xs = length-set xs (n + j) y in
    ap₂ (λ k y. stored 4 (stored 4 r (i + 4 * j + 4 * n) (y ∷ [])) (i + 4 * j) ((k + c) ∷ [])) q (ap₂ (λ k z. smaller k z o) q w)
    ∙ ap (λ r. stored 4 r (i + 4 * j) ((x + c) ∷ [])) (ap₂ (λ r k. stored 4 r k (y ∷ [])) e p ∙ stored_set 4 v i xs (n + j) y (omega arith) (omega arith))
    ∙ stored_set 4 v i (set xs (n + j) y) j (x + c) (omega arith) (omega arith)

-- ---- of a table

module _ (b : List ℕ) (Z : Sound b) where
  abbrev K : ℕ
  K = 2 ^ inputs b

  -- a history of up to T words has 16 bits
  pub power_most : (l : ℕ) → l ≤ frames b → K ^ l ≤ 65536
  power_most l h = power_fits (inputs b) l (omega (arith, Z.headed.sized.bits_to, mul-le-mul_left (inputs b) h))

  pub words_some : 0 < K
  words_some = one-le-pow (inputs b) 2 (omega arith)

  module _ (t e : ℕ) where
    histories_most : (l s : ℕ) → l ≤ frames b → histories_so_far K (machine b) t e l s ≤ 65536
    unfolding histories_so_far
    histories_most l s h = le_trans (tally_at_most _ (K ^ l)) (power_most l h)

    smallest_most : (l s : ℕ) → l ≤ frames b → smallest_so_far K (machine b) t e l s < 65536
    unfolding smallest_so_far
    smallest_most l s h = smallest_below (K ^ l) 65536 _ (lit< tt) (power_most l h)

    pub so_far_fits : Fit 4 (so_far b t e)
    unfolding so_far numbers_so_far
    so_far_fits =
        fit_append
        (fit_states (frames b) (states b) (histories_so_far K (machine b) t e) (λ l s h k. omega (arith, histories_most l s h)))
        (fit_states (frames b) (states b) (smallest_so_far K (machine b) t e) (λ l s h k. omega (arith, smallest_most l s h)))

    pub so_far_length : length (so_far b t e) ≡ all_states b + all_states b
    unfolding so_far all_states states_below
    so_far_length = numbers_length K (frames b) (machine b) t e

    -- the numbers of a state, where they were stored
    module _ (v r : List ℕ) (room : reach_head b + 8 * all_states b ≤ length v) (S : r ≡ stored 4 v (reach_head b) (so_far b t e)) (l s : ℕ) (h : l ≤ frames b) (k : s < states b l) where
      pub histories_there : number_at 4 r (histories_at b l s) ≡ histories_so_far K (machine b) t e l s
      unfolding histories_at so_far states_below
      histories_there =
          number_of v r (reach_head b) (so_far b t e) (states_below b l + s) S so_far_fits (omega (arith, so_far_length)) (omega (arith, so_far_length, state_in b l s h k))
          ∙ histories_read K (frames b) (machine b) t e l s h k

      pub smallest_there : number_at 4 r (histories_at b l s + gap b) ≡ smallest_so_far K (machine b) t e l s
      unfolding so_far states_below all_states
      smallest_there =
          ap (number_at 4 r) (gap_at b l s)
          ∙ number_of v r (reach_head b) (so_far b t e) (all_states b + (states_below b l + s)) S so_far_fits (omega (arith, so_far_length)) (omega (arith, so_far_length, state_in b l s h k))
          ∙ smallest_read K (frames b) (machine b) t e l s h k

      -- where they stand
      pub histories_in : (histories_at b l s + gap b + 4 ≤ length v) × (4 ≤ gap b)
      unfolding histories_at gap
      histories_in = let i = state_in b l s h k in (omega arith, omega arith)

  -- ---- one entry is followed, of a state that histories lead to

  module _
      (v r : List ℕ) (t s w : ℕ) (ht : t < frames b) (hs : s < states b t) (hw : w < K) (some : 0 < histories K (machine b) t s)
      (room : reach_head b + 8 * all_states b ≤ length v) (S : r ≡ stored 4 v (reach_head b) (so_far b t (s * K + w)))
    where
      abbrev next : ℕ
      next = (machine b).next t s w

      next_in : next < states b (suc t)
      next_in = Z.legal.next_is t s w ht hs hw

      -- the numbers of its next state still fit
      pub sum_fits : number_at 4 r (histories_at b (suc t) next) + histories K (machine b) t s < 2 ^ 32
      sum_fits =
          omega (arith, histories_there t (s * K + w) v r room S (suc t) next ht next_in, histories_more K (machine b) t s w hw, histories_most t (s * K + w + 1) (suc t) next ht)

      pub entry_added : added r (histories_at b (suc t) next) (gap b) (histories K (machine b) t s) (smallest K (machine b) t s * K + w)
          ≡ stored 4 v (reach_head b) (so_far b t (s * K + (w + 1)))
      unfolding histories_at gap so_far all_states states_below
      entry_added =
          let n : ℕ = total (suc (frames b)) (states b) in
          let j : ℕ = total (suc t) (states b) + next in
          let e : ℕ = s * K + w in
          let xs : List ℕ = numbers_so_far K (frames b) (machine b) t e in
          let o : ℕ = smallest K (machine b) t s * K + w in
          let q : e + 1 ≡ s * K + (w + 1) = omega arith in
          added_numbers v r (reach_head b) xs n j (histories K (machine b) t s) o S (so_far_fits t e) (so_far_length t e) (omega arith)
          (states_in (frames b) (states b) (λ t s. 0) (suc t) next ht next_in)
          ∙ ap₂ (λ x y. stored 4 v (reach_head b) (set (set xs (n + j) (smaller x y o)) j (x + histories K (machine b) t s)))
          (histories_read K (frames b) (machine b) t e (suc t) next ht next_in) (smallest_read K (frames b) (machine b) t e (suc t) next ht next_in)
          ∙ ap (stored 4 v (reach_head b)) (sym (entry_followed K (frames b) (machine b) t s w ht hw next_in some) ∙ ap (numbers_so_far K (frames b) (machine b) t) q)

  -- the smallest history of a reached state, with a word behind it, is one of the next layer
  pub smallest_in : (t s w : ℕ) → t < frames b → w < K → 0 < histories K (machine b) t s → smallest K (machine b) t s * K + w < 65536
  unfolding histories smallest
  smallest_in t s w ht hw p = omega (arith, digits_lt (smallest_tells (K ^ t) _ p).0 hw, pow-suc K t, power_most (suc t) ht)

  -- ---- a state that no history leads to, a layer, all layers

  pub skipped : (t s : ℕ) → t ≤ frames b → histories K (machine b) t s ≡ 0 → so_far b t (s * K) ≡ so_far b t (suc s * K)
  unfolding so_far
  skipped t s h z = state_skipped K (frames b) (machine b) Z.legal words_some t s h z

  pub layer_done : (t : ℕ) → t ≤ frames b → so_far b t (states b t * K) ≡ so_far b (suc t) 0
  unfolding so_far
  layer_done t h = layer_followed K (frames b) (machine b) Z.legal words_some t h

  -- numbers that were stored leave the length
  pub kept_length : (v r : List ℕ) (t e : ℕ) → reach_head b + 8 * all_states b ≤ length v → r ≡ stored 4 v (reach_head b) (so_far b t e) → length r ≡ length v
  kept_length v r t e room S = ap length S ∙ stored_length 4 v (reach_head b) (so_far b t e) (omega (arith, so_far_length t e))

  -- and they stand there
  pub following : (v r : List ℕ) (t e : ℕ) → reach_head b + 8 * all_states b ≤ length v → r ≡ stored 4 v (reach_head b) (so_far b t e) → Following b r t e
  following v r t e room S =
      let n = kept_length v r t e room S in
      record {
        sound = Z;
        room = omega arith;
        held = subst (λ r. Held 4 r (reach_head b) (so_far b t e)) (sym S) (stored_held 4 v (reach_head b) (so_far b t e) (omega arith));
      }

  -- others are stored over them
  pub further : (v r w : List ℕ) (t e u f : ℕ) → reach_head b + 8 * all_states b ≤ length v → r ≡ stored 4 v (reach_head b) (so_far b t e) → w ≡ stored 4 r (reach_head b) (so_far b u f)
      → w ≡ stored 4 v (reach_head b) (so_far b u f)
  further v r w t e u f room S W =
      W ∙ ap (λ r. stored 4 r (reach_head b) (so_far b u f)) S ∙ stored_over 4 v (reach_head b) (so_far b t e) (so_far b u f) (so_far_length u f ∙ sym (so_far_length t e)) (omega arith)
