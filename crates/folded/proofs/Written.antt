-- The bytes of a machine's table, read back: sizes, counts, entries and length are what was written.
use mathlib.Core.Path.{◌≡◌, refl, sym, ap, ap₂, ◌∙◌, subst₃}
use mathlib.Core.List.{List, [], ◌∷◌, ◌++◌}
use Prim.Native.Nat.{ℕ, zero, suc, ◌+◌, ◌*◌, ◌/◌, ◌^◌, ◌≤◌, ◌<◌, zero-le}
use native.Mathlib.Nat.{le_refl, le_trans, mod-lt}
use native.Mathlib.Omega.{arith}
use lib.Dec.{lit<}
use lib.Pow.{pow_mono}
use lib.ListN.{length, get_or, length-append, get_or-append}
use lib.Seq.{get_or-append-add}
use Rattle.words.specs.Words.{word_at, word_bytes, bytes_of, all_bytes, Fit, more}
use Rattle.words.proofs.Laws.{all_bytes_length, fit_append, fit_at, word_back}
use Rattle.verdict.specs.Judgements.{answer}
use Rattle.sizes.specs.Sizes.{inputs, outputs, frames}
use Rattle.layered.specs.Search.{tabulate, total}
use Rattle.layered.specs.Machines.{Machine, entries, table_words}
use Rattle.layered.proofs.Lists.{Below, below_append, below_join, below_tabulate, total_cong, total_mul, tabulate_length, tabulate_at}
use Rattle.layered.proofs.Entries.{entries_length, entries_at}
use Rattle.table.specs.Table.{count_at, states, connected, states_below, entries_below, entry_count, outputs_at, nexts_at, table_length, entry_at, machine, checked}
use Rattle.table.proofs.Offsets.{head_length_lem, connected-at}
use Rattle.layered.proofs.Agreement.{Agree, agree_legal}
use Rattle.folded.proofs.Places.{before, place_below}
use Rattle.folded.proofs.Checked.{Writable, passes}

-- ---- the words

module _ (n m K T : ℕ) (C : ℕ → ℕ) (M : Machine) where
  counts : List ℕ
  counts = tabulate (suc T) M.states

  connecteds : List ℕ
  connecteds = tabulate T C

  outs : List ℕ
  outs = entries K T M.states M.out

  nexts : List ℕ
  nexts = entries K T M.states M.next

  words_are : table_words n m K T C M ≡ n ∷ m ∷ T ∷ (counts ++ (connecteds ++ (outs ++ nexts)))
  unfolding table_words counts connecteds outs nexts
  words_are = refl

  counts_length : length counts ≡ suc T
  unfolding counts
  counts_length = tabulate_length (suc T) M.states

  connecteds_length : length connecteds ≡ T
  unfolding connecteds
  connecteds_length = tabulate_length T C

  outs_length : length outs ≡ before K M T
  unfolding outs
  outs_length = entries_length K T M.states M.out

  nexts_length : length nexts ≡ before K M T
  unfolding nexts
  nexts_length = entries_length K T M.states M.next

  word_count : length (table_words n m K T C M) ≡ 4 + 2 * T + 2 * before K M T
  word_count =
      ap length words_are
      ∙ omega (
        arith,
        counts_length,
        connecteds_length,
        outs_length,
        nexts_length,
        length-append counts (connecteds ++ (outs ++ nexts)),
        length-append connecteds (outs ++ nexts),
        length-append outs nexts,
      )

  count_word : (t : ℕ) → t ≤ T → get_or (table_words n m K T C M) (3 + t) 0 ≡ M.states t
  unfolding counts
  count_word t b =
      let p : 3 + t ≡ suc (suc (suc t)) = omega arith in
      ap₂ (λ l i. get_or l i 0) words_are p
      ∙ get_or-append counts (connecteds ++ (outs ++ nexts)) 0 t (omega (arith, counts_length))
      ∙ tabulate_at (suc T) t M.states (omega arith)

  -- what stands behind the counts
  after_counts : (i : ℕ) → get_or (table_words n m K T C M) (4 + T + i) 0 ≡ get_or (connecteds ++ (outs ++ nexts)) i 0
  after_counts i =
      let p : 4 + T + i ≡ suc (suc (suc (length counts + i))) = omega (arith, counts_length) in
      ap₂ (λ l i. get_or l i 0) words_are p ∙ get_or-append-add counts (connecteds ++ (outs ++ nexts)) i 0

  connected_word : (t : ℕ) → t < T → get_or (table_words n m K T C M) (4 + T + t) 0 ≡ C t
  unfolding connecteds
  connected_word t b = after_counts t ∙ get_or-append connecteds (outs ++ nexts) 0 t (omega (arith, connecteds_length)) ∙ tabulate_at T t C b

  -- and behind the connected outputs
  after_head : (i : ℕ) → get_or (table_words n m K T C M) (4 + 2 * T + i) 0 ≡ get_or (outs ++ nexts) i 0
  after_head i =
      let p : 4 + 2 * T + i ≡ 4 + T + (length connecteds + i) = omega (arith, connecteds_length) in
      ap (λ i. get_or (table_words n m K T C M) i 0) p ∙ after_counts (length connecteds + i) ∙ get_or-append-add connecteds (outs ++ nexts) i 0

  module _ (t s w : ℕ) (b : t < T) (l : s < M.states t) (k : w < K) where
    out_word : get_or (table_words n m K T C M) (4 + 2 * T + (before K M t + (s * K + w))) 0 ≡ M.out t s w
    unfolding outs
    out_word =
        after_head _
        ∙ get_or-append outs nexts 0 _ (omega (arith, place_below K T M t s w b l k, outs_length))
        ∙ entries_at K T M.states M.out t s w b l k

    next_word : get_or (table_words n m K T C M) (4 + 2 * T + (before K M T + (before K M t + (s * K + w)))) 0 ≡ M.next t s w
    unfolding outs nexts
    next_word =
        after_head _
        ∙ ap (λ i. get_or (outs ++ nexts) (i + (before K M t + (s * K + w))) 0) (sym outs_length)
        ∙ get_or-append-add outs nexts _ 0
        ∙ entries_at K T M.states M.next t s w b l k

-- ---- the words fit

below_entries : {x : ℕ} (K T : ℕ) (S : ℕ → ℕ) (e : ℕ → ℕ → ℕ → ℕ) → ((t s w : ℕ) → t < T → s < S t → w < K → e t s w < x) → Below x (entries K T S e)
unfolding entries
below_entries K T S e B = below_join T _ (λ t b. below_join (S t) _ (λ s l. below_tabulate K _ (λ w h. B t s w b l h)))

-- the words of a machine within the limits do
pub fits : {n m T : ℕ} {C : ℕ → ℕ} {M : Machine} → Writable n m T C M → Fit 2 (table_words n m (2 ^ n) T C M)
unfolding table_words
fits {n} {m} {T} {C} {M} W =
    let c : Fit 2 (tabulate (suc T) M.states) = fit_at _ (below_tabulate (suc T) M.states (λ t b. omega (arith, W.counts_to_lem t (omega arith)))) in
    let d : Fit 2 (tabulate T C) = fit_at _ (below_tabulate T C (λ t b. le_trans (W.connected_to t b) (pow_mono W.sizes.outputs_to))) in
    let o : Fit 2 (entries (2 ^ n) T M.states M.out) =
    fit_at _ (below_entries (2 ^ n) T M.states M.out (λ t s w b l k. le_trans (W.is_legal.out_is t s w b l k) (pow_mono W.sizes.outputs_to))) in
    let x : Fit 2 (entries (2 ^ n) T M.states M.next) =
    fit_at _ (below_entries (2 ^ n) T M.states M.next (λ t s w b l k. omega (arith, W.is_legal.next_is t s w b l k, W.counts_to_lem (suc t) b))) in
    more {x = n} (omega (arith, W.sizes.inputs_to)) (more {x = m} (omega (arith, W.sizes.outputs_to)) (more {x = T} (omega (arith, W.sizes.frames_to))
    (fit_append c (fit_append d (fit_append o x)))))

-- ---- the bytes

-- the bytes of the table of a machine
unfoldable pub table_bytes : (n m T : ℕ) (C : ℕ → ℕ) → Machine → List ℕ
table_bytes n m T C M = word_bytes (table_words n m (2 ^ n) T C M)

-- 8 + 4·T + 4·E bytes
pub bytes_length : (n m T : ℕ) (C : ℕ → ℕ) (M : Machine) → length (table_bytes n m T C M) ≡ 8 + 4 * T + 4 * (total T M.states * 2 ^ n)
unfolding table_bytes word_bytes
bytes_length n m T C M = all_bytes_length 2 (table_words n m (2 ^ n) T C M) ∙ omega (arith, word_count n m (2 ^ n) T C M, total_mul T (2 ^ n) M.states)

-- each is a byte
byte_below : (k x : ℕ) → Below 256 (bytes_of k x)
unfolding bytes_of
byte_below zero x i h = absurd (omega arith)
byte_below (suc k) x zero h = mod-lt x (lit< tt)
byte_below (suc k) x (suc i) h = byte_below k (x / 256) i (omega arith)

pub bytes_below : (k : ℕ) (xs : List ℕ) → Below 256 (all_bytes k xs)
unfolding all_bytes
bytes_below k [] = λ i h. absurd (omega arith)
bytes_below k (x ∷ xs) = below_append (bytes_of k x) (all_bytes k xs) (byte_below k x) (bytes_below k xs)

module _ {n m T : ℕ} {C : ℕ → ℕ} {M : Machine} (W : Writable n m T C M) where
  -- word i of the bytes, at byte offset p
  byte_back : (i p : ℕ) → p ≡ 2 * i → i < 4 + 2 * T + 2 * before (2 ^ n) M T → word_at (table_bytes n m T C M) p ≡ get_or (table_words n m (2 ^ n) T C M) i 0
  unfolding table_bytes
  byte_back i p e h =
      ap (word_at (table_bytes n m T C M)) e ∙ word_back (table_words n m (2 ^ n) T C M) i (fits W) (omega (arith, word_count n m (2 ^ n) T C M))

  pub inputs_back : inputs (table_bytes n m T C M) ≡ n
  unfolding inputs table_words
  inputs_back = byte_back 0 0 refl (omega arith)

  pub outputs_back : outputs (table_bytes n m T C M) ≡ m
  unfolding outputs table_words
  outputs_back = byte_back 1 2 refl (omega arith)

  pub frames_back : frames (table_bytes n m T C M) ≡ T
  unfolding frames table_words
  frames_back = byte_back 2 4 refl (omega arith)

  states_back : (t : ℕ) → t ≤ T → states (table_bytes n m T C M) t ≡ M.states t
  unfolding states count_at
  states_back t b = byte_back (3 + t) (6 + 2 * t) (omega arith) (omega arith) ∙ count_word n m (2 ^ n) T C M t b

  pub connected_back : (t : ℕ) → t < T → connected (table_bytes n m T C M) t ≡ C t
  unfolding connected
  connected_back t b =
      byte_back (4 + T + t) _ (connected-at (frames (table_bytes n m T C M)) t ∙ omega (arith, frames_back)) (omega arith) ∙ connected_word n m (2 ^ n) T C M t b

  below_back : (t : ℕ) → t ≤ T → entries_below (table_bytes n m T C M) t ≡ before (2 ^ n) M t
  unfolding entries_below states_below
  below_back t b = ap₂ ◌*◌ (total_cong t _ _ (λ i l. states_back i (omega arith))) (ap (λ k. 2 ^ k) inputs_back) ∙ sym (total_mul t (2 ^ n) M.states)

  count_back : entry_count (table_bytes n m T C M) ≡ before (2 ^ n) M T
  unfolding entry_count
  count_back = ap (entries_below (table_bytes n m T C M)) frames_back ∙ below_back T (le_refl T)

  pub outputs-at : outputs_at (table_bytes n m T C M) ≡ 8 + 4 * T
  unfolding outputs_at
  outputs-at = omega (arith, frames_back, head_length_lem (frames (table_bytes n m T C M)))

  pub nexts-at : nexts_at (table_bytes n m T C M) ≡ 8 + 4 * T + 2 * before (2 ^ n) M T
  unfolding nexts_at
  nexts-at = omega (arith, outputs-at, count_back)

  length_back : length (table_bytes n m T C M) ≡ table_length (table_bytes n m T C M)
  unfolding table_length
  length_back = bytes_length n m T C M ∙ omega (arith, nexts-at, count_back, total_mul T (2 ^ n) M.states)

  -- where an entry stands
  entry_back : (start t s w : ℕ) → t < T → entry_at (table_bytes n m T C M) start t s w ≡ start + 2 * (before (2 ^ n) M t + (s * 2 ^ n + w))
  unfolding entry_at
  entry_back start t s w b =
      ap₂ (λ e k. start + 2 * (e + (s * k + w))) (below_back t (omega arith)) (ap (λ k. 2 ^ k) inputs_back)

  -- the table is the machine that was written
  pub machine_back : Agree (2 ^ n) T M (machine (table_bytes n m T C M))
  machine_back = record {
    states_are = λ t b. sym (states_back t b);
    start_is = omega (arith, W.is_legal.start_is, W.one_first);
    outs_are = λ t s w b l k.
        sym (byte_back (4 + 2 * T + (before (2 ^ n) M t + (s * 2 ^ n + w))) _
        (entry_back _ t s w b ∙ omega (arith, outputs-at))
        (omega (arith, place_below (2 ^ n) T M t s w b l k))
        ∙ out_word n m (2 ^ n) T C M t s w b l k);
    nexts_are = λ t s w b l k.
        sym (byte_back (4 + 2 * T + (before (2 ^ n) M T + (before (2 ^ n) M t + (s * 2 ^ n + w)))) _
        (entry_back _ t s w b ∙ omega (arith, nexts-at))
        (omega (arith, place_below (2 ^ n) T M t s w b l k))
        ∙ next_word n m (2 ^ n) T C M t s w b l k);
  }

  -- and so it is within the limits
  machine_writable : Writable n m T (connected (table_bytes n m T C M)) (machine (table_bytes n m T C M))
  machine_writable =
      let A = machine_back in
      record {
        sizes = W.sizes;
        is_legal = agree_legal M (machine (table_bytes n m T C M)) W.is_legal A;
        connected_to = λ t b. rw (connected_back t b) (W.connected_to t b);
        outputs_connected = λ t s w b l k.
            let l' : s < M.states t = omega (arith, A.states_are t (omega arith)) in
            rw (← A.outs_are t s w b l' k, connected_back t b) (W.outputs_connected t s w b l' k);
        counts_from = λ t b. rw (states_back t b) (W.counts_from t b);
        counts_to_lem = λ t b. rw (states_back t b) (W.counts_to_lem t b);
        one_first = states_back 0 zero-le ∙ W.one_first;
        one_last = states_back T (le_refl T) ∙ W.one_last;
      }

  -- and passes the check
  pub bytes_pass : checked (table_bytes n m T C M) ≡ answer 0 0
  bytes_pass =
      let b : List ℕ = table_bytes n m T C M in
      passes b length_back (subst₃ (λ n m T. Writable n m T (connected b) (machine b)) (sym inputs_back) (sym outputs_back) (sym frames_back) machine_writable)
