-- A table of the right length is the bytes of the machine that it is.
use mathlib.Core.Path.{◌≡◌, refl, sym, ap, ap₂, ◌∙◌}
use mathlib.Core.List.{List, [], ◌∷◌, ◌++◌, append-nil, append_assoc}
use Prim.Native.Nat.{ℕ, zero, suc, ◌+◌, ◌*◌, ◌^◌, ◌≤◌, ◌<◌}
use native.Mathlib.Omega.{arith}
use lib.ListN.{length, get_or, take}
use lib.Seq.{take-suc, take_all}
use Rattle.words.specs.Words.{word_at, word_bytes, bytes_of, all_bytes}
use Rattle.words.proofs.Laws.{word_is, all_bytes_append}
use Rattle.sizes.specs.Sizes.{inputs, outputs, frames}
use Rattle.layered.specs.Search.{join, tabulate, total}
use Rattle.layered.specs.Machines.{Machine, entries, table_words}
use Rattle.layered.proofs.Lists.{Below, total_each, join_cong, tabulate_cong, tabulate_add, join_tabulate}
use Rattle.layered.proofs.Entries.{entries_cong, entries_counts}
use Rattle.table.specs.Table.{count_at, states, connected_at, connected, entry_count, outputs_at, nexts_at, table_length, entry_at, machine}
use Rattle.table.proofs.Offsets.{connected-at, head_length_lem}
use Rattle.layered.proofs.Agreement.{Agree}
use Rattle.folded.proofs.Places.{before}
use Rattle.folded.proofs.Checked.{below_is}
use Rattle.folded.proofs.Written.{table_bytes}

-- ---- rows of numbers in parts

-- n states of K entries
states_tabulate : (K n : ℕ) (f : ℕ → ℕ) → join n (λ s. tabulate K (λ w. f (s * K + w))) ≡ tabulate (n * K) f
states_tabulate K n f =
    join_cong n _ _ (λ s l. tabulate_cong K _ _ (λ w k. ap (λ i. f (i + w)) (sym (total_each s K))))
    ∙ join_tabulate n (λ s. K) f
    ∙ ap (λ i. tabulate i f) (total_each n K)

-- all entries
entries_tabulate : (K T : ℕ) (S f : ℕ → ℕ) → entries K T S (λ t s w. f (total t (λ t. S t * K) + (s * K + w))) ≡ tabulate (total T (λ t. S t * K)) f
unfolding entries
entries_tabulate K T S f =
    join_cong T _ _ (λ t b. states_tabulate K (S t) (λ j. f (total t (λ t. S t * K) + j))) ∙ join_tabulate T (λ t. S t * K) f

-- ---- bytes as words

-- the two bytes of a word
word_bytes_lem : (x y : ℕ) → x < 256 → y < 256 → bytes_of 2 (x + 256 * y) ≡ x ∷ y ∷ []
unfolding bytes_of
word_bytes_lem x y l k = ap₂ (λ a b. a ∷ b ∷ []) (omega arith) (omega arith)

-- the bytes of the first c words
words_back : (b : List ℕ) → Below 256 b → (c : ℕ) → 2 * c ≤ length b → all_bytes 2 (tabulate c (λ i. word_at b (2 * i))) ≡ take (2 * c) b
unfolding all_bytes tabulate join
words_back b B zero h = refl
words_back b B (suc c) h =
    let g : ℕ → ℕ = λ i. word_at b (2 * i) in
    let j : ℕ = 2 * c in
    let x : ℕ = get_or b j 0 in
    let y : ℕ = get_or b (suc j) 0 in
    let q : j + 1 ≡ suc j = omega arith in
    let p : suc (suc j) ≡ 2 * suc c = omega arith in
    let w : bytes_of 2 (word_at b j) ≡ x ∷ y ∷ [] =
    ap (bytes_of 2) (word_is b j ∙ ap (λ i. x + 256 * get_or b i 0) q) ∙ word_bytes_lem x y (B j (omega arith)) (B (suc j) (omega arith)) in
    all_bytes_append 2 (tabulate c g) (word_at b j ∷ [])
    ∙ ap₂ ◌++◌ (words_back b B c (omega arith)) (append-nil (bytes_of 2 (word_at b j)) ∙ w)
    ∙ sym (append_assoc (take j b) (x ∷ []) (y ∷ []))
    ∙ ap (λ l. l ++ (y ∷ [])) (sym (take-suc b j 0 (omega arith)))
    ∙ sym (take-suc b (suc j) 0 (omega arith))
    ∙ ap (λ i. take i b) p

-- ---- the table

module _ (b : List ℕ) where
  -- word i, and the words behind the sizes, in parts: counts, connected outputs, outputs, next states
  word : ℕ → ℕ
  word i = word_at b (2 * i)

  entry_total : ℕ
  entry_total = before (2 ^ inputs b) (machine b) (frames b)

  counts_are : tabulate (suc (frames b)) (λ i. word (3 + i)) ≡ tabulate (suc (frames b)) (states b)
  unfolding word states count_at
  counts_are = tabulate_cong (suc (frames b)) _ _ (λ i l. let p : 2 * (3 + i) ≡ 6 + 2 * i = omega arith in ap (word_at b) p)

  connecteds_are : tabulate (frames b) (λ i. word (3 + (suc (frames b) + i))) ≡ tabulate (frames b) (connected b)
  unfolding word connected
  connecteds_are = tabulate_cong (frames b) _ _ (λ i l. let p : 2 * (3 + (suc (frames b) + i)) ≡ connected_at (frames b) i = omega (arith, connected-at (frames b) i) in ap (word_at b) p)

  outs_are : tabulate entry_total (λ i. word (3 + (suc (frames b) + (frames b + i)))) ≡ entries (2 ^ inputs b) (frames b) (states b) (machine b).out
  unfolding word entry_total entry_at outputs_at
  outs_are =
      sym (entries_tabulate (2 ^ inputs b) (frames b) (states b) (λ i. word (3 + (suc (frames b) + (frames b + i)))))
      ∙ entries_cong (2 ^ inputs b) (frames b) (states b) _ _ (λ t s w l k j.
      let p : 2 * (3 + (suc (frames b) + (frames b + (before (2 ^ inputs b) (machine b) t + (s * 2 ^ inputs b + w))))) ≡ entry_at b (outputs_at b) t s w =
      omega (arith, below_is b t, head_length_lem (frames b)) in
      ap (word_at b) p)

  nexts_are : tabulate entry_total (λ i. word (3 + (suc (frames b) + (frames b + (entry_total + i))))) ≡ entries (2 ^ inputs b) (frames b) (states b) (machine b).next
  unfolding word entry_total entry_at nexts_at outputs_at entry_count
  nexts_are =
      sym (entries_tabulate (2 ^ inputs b) (frames b) (states b) (λ i. word (3 + (suc (frames b) + (frames b + (entry_total + i))))))
      ∙ entries_cong (2 ^ inputs b) (frames b) (states b) _ _ (λ t s w l k j.
      let p : 2 * (3 + (suc (frames b) + (frames b + (entry_total + (before (2 ^ inputs b) (machine b) t + (s * 2 ^ inputs b + w)))))) ≡ entry_at b (nexts_at b) t s w =
      omega (arith, below_is b t, below_is b (frames b), head_length_lem (frames b)) in
      ap (word_at b) p)

  sizes_are : tabulate 3 word ≡ inputs b ∷ outputs b ∷ frames b ∷ []
  unfolding word inputs outputs frames tabulate join
  sizes_are = refl

  -- how many words there are
  word_total : ℕ
  word_total = 3 + (suc (frames b) + (frames b + (entry_total + entry_total)))

  -- its words are those of its machine
  words_are : tabulate word_total word ≡ table_words (inputs b) (outputs b) (2 ^ inputs b) (frames b) (connected b) (machine b)
  unfolding word_total table_words
  words_are =
      tabulate_add 3 (suc (frames b) + (frames b + (entry_total + entry_total))) word
      ∙ ap₂ ◌++◌ sizes_are
      (tabulate_add (suc (frames b)) (frames b + (entry_total + entry_total)) (λ i. word (3 + i))
      ∙ ap₂ ◌++◌ counts_are
      (tabulate_add (frames b) (entry_total + entry_total) (λ i. word (3 + (suc (frames b) + i)))
      ∙ ap₂ ◌++◌ connecteds_are (tabulate_add entry_total entry_total (λ i. word (3 + (suc (frames b) + (frames b + i)))) ∙ ap₂ ◌++◌ outs_are nexts_are)))

  length_is : table_length b ≡ 2 * word_total
  unfolding table_length nexts_at outputs_at entry_count entry_total word_total
  length_is = omega (arith, below_is b (frames b), head_length_lem (frames b))

  -- so it is its machine's bytes
  pub bytes_are : Below 256 b → length b ≡ table_length b → b ≡ table_bytes (inputs b) (outputs b) (frames b) (connected b) (machine b)
  unfolding table_bytes word_bytes word
  bytes_are B L =
      let e : length b ≡ 2 * word_total = L ∙ length_is in
      sym (take_all (2 * word_total) b (omega arith)) ∙ sym (words_back b B word_total (omega arith)) ∙ ap (all_bytes 2) words_are

-- machines that agree, with the same connected outputs, have the same bytes
pub agree_bytes : (n m T : ℕ) (C D : ℕ → ℕ) (M N : Machine) → ((t : ℕ) → t < T → C t ≡ D t) → Agree (2 ^ n) T M N → table_bytes n m T C M ≡ table_bytes n m T D N
unfolding table_bytes table_words
agree_bytes n m T C D M N E A =
    ap word_bytes (ap₂ (λ c e. n ∷ m ∷ T ∷ c ++ e)
    (tabulate_cong (suc T) _ _ (λ t l. A.states_are t (omega arith)))
    (ap₂ ◌++◌ (tabulate_cong T C D E) (ap₂ ◌++◌ (both M.out N.out A.outs_are) (both M.next N.next A.nexts_are))))
  where
    both : (e f : ℕ → ℕ → ℕ → ℕ) → ((t s w : ℕ) → t < T → s < M.states t → w < 2 ^ n → e t s w ≡ f t s w)
        → entries (2 ^ n) T M.states e ≡ entries (2 ^ n) T N.states f
    both e f E = entries_cong (2 ^ n) T M.states e f E ∙ entries_counts (2 ^ n) T M.states N.states f (λ t l. A.states_are t (omega arith))
