-- The bytes of the reach counts: how many they are, what stands in them, and that they are what is stored. Assumes nothing.
use mathlib.Core.Path.{◌≡◌, refl, sym, ap, ap₂, ◌∙◌}
use mathlib.Core.List.{List, [], ◌∷◌, ◌++◌, append-nil, append_assoc}
use Prim.Native.Nat.{ℕ, suc, ◌+◌, ◌*◌, ◌^◌, ◌≤◌, ◌<◌}
use native.Mathlib.Omega.{arith}
use lib.ListN.{length, get_or, drop, set, length-append}
use lib.Seq.{drop-drop}
use Rattle.words.specs.Words.{number_at, word_at, all_bytes, word_bytes, Fit, more, stored}
use Rattle.words.proofs.Laws.{number_after, read_back, all_bytes_length, fit_at, stored_length, stored_front, stored_after, stored_set}
use Rattle.sizes.specs.Sizes.{inputs, frames}
use Rattle.layered.specs.Search.{total, tabulate}
use Rattle.layered.proofs.Lists.{below_tabulate, tabulate_length, tabulate_at}
use Rattle.table.specs.Table.{states, states_below, machine}
use Rattle.table.specs.Sound.{Sound}
use Rattle.paths.specs.Paths.{histories, smallest}
use Rattle.reach.specs.Reach.{head_words, state_numbers, reach_bytes}
use Rattle.paths.specs.Places.{reach_head, all_states, histories_at, gap}
use Rattle.reach.specs.Theorems.{Written}
use Rattle.paths.specs.Progress.{so_far}
use Rattle.paths.proofs.Places.{state_in, gap_at}
use Rattle.paths.proofs.Following.{whole_histories, whole_smallest, histories_read, smallest_read, all_followed, none_followed}
use Rattle.paths.proofs.Numbers.{so_far_fits, so_far_length}

module _ (b : List ℕ) where
  abbrev K : ℕ
  K = 2 ^ inputs b

  -- T and the counts
  head_words_lem : length (head_words b) ≡ 2 + frames b
  unfolding head_words
  head_words_lem = omega (arith, tabulate_length (suc (frames b)) (states b))

  pub head_length_lem : length (word_bytes (head_words b)) ≡ reach_head b
  unfolding word_bytes reach_head
  head_length_lem = all_bytes_length 2 (head_words b) ∙ omega (arith, head_words_lem)

  -- the numbers of all states are those once all layers were followed
  pub numbers_are : so_far b (frames b) 0 ≡ state_numbers b
  unfolding so_far state_numbers
  numbers_are = all_followed K (frames b) (machine b)

  module _ (Z : Sound b) where
    pub numbers_length : length (state_numbers b) ≡ all_states b + all_states b
    numbers_length = ap length (sym numbers_are) ∙ so_far_length b Z (frames b) 0

    pub bytes_length : length (reach_bytes b) ≡ reach_head b + 8 * all_states b
    unfolding reach_bytes
    bytes_length = length-append (word_bytes (head_words b)) (all_bytes 4 (state_numbers b)) ∙ omega (arith, head_length_lem, all_bytes_length 4 (state_numbers b), numbers_length)

    -- ---- as they are read

    head_fits : Fit 2 (head_words b)
    unfolding head_words
    head_fits =
        more {x = frames b} (omega (arith, Z.headed.sized.frames_to))
        (fit_at (tabulate (suc (frames b)) (states b)) (below_tabulate (suc (frames b)) (states b) (λ t h. omega (arith, Z.headed.states_to t (omega arith)))))

    head_word : (i : ℕ) → i < 2 + frames b → word_at (reach_bytes b) (2 * i) ≡ get_or (head_words b) i 0
    unfolding word_at word_bytes reach_bytes
    head_word i h = read_back 2 (head_words b) (all_bytes 4 (state_numbers b)) i head_fits (omega (arith, head_words_lem))

    state_number : (j : ℕ) → j < all_states b + all_states b → number_at 4 (reach_bytes b) (reach_head b + 4 * j) ≡ get_or (so_far b (frames b) 0) j 0
    unfolding reach_bytes
    state_number j h =
        let p : List ℕ = word_bytes (head_words b) in
        let q : List ℕ = state_numbers b in
        let xs : List ℕ = so_far b (frames b) 0 in
        ap (λ n. number_at 4 (p ++ all_bytes 4 q) (n + 4 * j)) (sym head_length_lem)
        ∙ number_after 4 p (all_bytes 4 q) (4 * j)
        ∙ ap (λ l. number_at 4 l (4 * j)) (ap (all_bytes 4) (sym numbers_are) ∙ sym (append-nil (all_bytes 4 xs)))
        ∙ read_back 4 xs [] j (so_far_fits b Z (frames b) 0) (omega (arith, so_far_length b Z (frames b) 0))

    pub some_states : 0 < all_states b
    some_states = omega (arith, state_in b 0 0 (omega arith) (omega (arith, Z.headed.one_first)))

    histories-at : (t s : ℕ) → t ≤ frames b → s < states b t → number_at 4 (reach_bytes b) (histories_at b t s) ≡ histories K (machine b) t s
    unfolding histories_at so_far states_below
    histories-at t s h k =
        state_number (states_below b t + s) (omega (arith, state_in b t s h k))
        ∙ histories_read K (frames b) (machine b) (frames b) 0 t s h k
        ∙ whole_histories K (machine b) (frames b) 0 t s h

    smallest_at : (t s : ℕ) → t ≤ frames b → s < states b t → number_at 4 (reach_bytes b) (histories_at b t s + gap b) ≡ smallest K (machine b) t s
    unfolding so_far states_below all_states
    smallest_at t s h k =
        ap (number_at 4 (reach_bytes b)) (gap_at b t s)
        ∙ state_number (all_states b + (states_below b t + s)) (omega (arith, state_in b t s h k))
        ∙ smallest_read K (frames b) (machine b) (frames b) 0 t s h k
        ∙ whole_smallest K (machine b) (frames b) 0 t s h

    pub written : Written b
    unfolding head_words
    written = record {
      length_is = bytes_length;
      frames_at = head_word 0 (omega arith);
      states_at = λ t h.
          let p : 2 + 2 * t ≡ 2 * suc t = omega arith in
          ap (word_at (reach_bytes b)) p ∙ head_word (suc t) (omega arith) ∙ tabulate_at (suc (frames b)) t (states b) (omega arith);
      histories-at = histories-at;
      smallest_at = smallest_at;
    }

    -- ---- as they are stored

    -- one history leads to the start, and all other numbers are zero
    pub begun : (v r : List ℕ) → reach_head b + 8 * all_states b ≤ length v → r ≡ stored 4 v (reach_head b) (tabulate (2 * all_states b) (λ _. 0))
        → stored 4 r (reach_head b) (1 ∷ []) ≡ stored 4 v (reach_head b) (so_far b 0 0)
    unfolding so_far all_states states_below
    begun v r room S =
        let n : ℕ = total (suc (frames b)) (states b) in
        let zeros : List ℕ = tabulate (2 * n) (λ _. 0) in
        let l : length zeros ≡ 2 * n = tabulate_length (2 * n) (λ _. 0) in
        let p : reach_head b ≡ reach_head b + 4 * 0 = omega arith in
        let e : 2 * n ≡ n + n = omega arith in
        ap₂ (λ r i. stored 4 r i (1 ∷ [])) S p
        ∙ stored_set 4 v (reach_head b) zeros 0 1 (omega arith) (omega (arith, some_states))
        ∙ ap (λ m. stored 4 v (reach_head b) (set (tabulate m (λ _. 0)) 0 1)) e
        ∙ ap (stored 4 v (reach_head b)) (sym (none_followed K (frames b) (machine b) Z.headed.one_first refl))

    -- the head, and the numbers of all states behind it
    pub bytes_stored : (v r w : List ℕ) → r ≡ stored 2 v 0 (head_words b) → w ≡ stored 4 r (reach_head b) (so_far b (frames b) 0) → w ≡ reach_bytes b ++ drop (length (reach_bytes b)) v
    unfolding reach_bytes word_bytes
    bytes_stored v r w R W =
        let p : List ℕ = all_bytes 2 (head_words b) in
        let xs : List ℕ = state_numbers b in
        let rest : List ℕ = drop (2 * length (head_words b)) v in
        let n : 2 * length (head_words b) + 4 * length xs ≡ length (p ++ all_bytes 4 xs) = omega (arith, length-append p (all_bytes 4 xs), all_bytes_length 2 (head_words b), all_bytes_length 4 xs) in
        W
        ∙ ap₂ (λ r xs. stored 4 r (reach_head b) xs) (R ∙ stored_front 2 v (head_words b)) numbers_are
        ∙ stored_after 4 p rest (reach_head b) xs head_length_lem
        ∙ sym (append_assoc p (all_bytes 4 xs) (drop (4 * length xs) rest))
        ∙ ap (λ l. (p ++ all_bytes 4 xs) ++ l) (drop-drop (4 * length xs) (2 * length (head_words b)) v ∙ ap (λ n. drop n v) n)

    pub head_kept : (v r : List ℕ) → reach_head b + 8 * all_states b ≤ length v → r ≡ stored 2 v 0 (head_words b) → length r ≡ length v
    unfolding reach_head
    head_kept v r room R = ap length R ∙ stored_length 2 v 0 (head_words b) (omega (arith, head_words_lem))

    pub zeros_kept : (v r : List ℕ) → reach_head b + 8 * all_states b ≤ length v → r ≡ stored 4 v (reach_head b) (tabulate (2 * all_states b) (λ _. 0)) → length r ≡ length v
    zeros_kept v r room S =
        let n = tabulate_length (2 * all_states b) (λ _. 0) in
        ap length S ∙ stored_length 4 v (reach_head b) (tabulate (2 * all_states b) (λ _. 0)) (omega arith)
