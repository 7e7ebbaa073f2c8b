-- What passes the check of a table: exactly the bytes of the right length whose machine is legal and within the limits.
use mathlib.Core.Path.{◌≡◌, refl, sym, ap, ◌∙◌}
use mathlib.Core.Bool.{Bool, true, false, not, ◌||◌, cond}
use mathlib.Core.List.{List}
use Prim.Native.Nat.{ℕ, suc, ◌+◌, ◌*◌, ◌/◌, ◌%◌, ◌^◌, ◌≤◌, ◌<◌}
use native.Mathlib.Nat.{div-lt_iff_lt-mul, div-add-mod', mod-lt}
use native.Mathlib.Omega.{arith}
use lib.Bits.{bit_and}
use lib.Dec.{eqb}
use lib.Pow.{pow_pos}
use lib.ListN.{length, take, drop, length-take}
use borrow.Author.Tests.{le-ltb, lt-leb, eq-eqb, eqb-true, not-false}
use Rattle.sizes.specs.Limits.{most_inputs}
use Rattle.table.specs.Limits.{end_states, most_states, sizes_length}
use Rattle.words.specs.Words.{word_at}
use Rattle.verdict.specs.Judgements.{answer}
use Rattle.verdict.proofs.Laws.{finds_none, all_accept}
use Rattle.sizes.specs.Sizes.{inputs, outputs, frames}
use Rattle.sizes.specs.Sized.{Sized}
use Rattle.sizes.proofs.Laws.{not_outside, sizes_pass}
use Rattle.table.specs.Table.{count_at, states, connected_at, connected, head_length, states_below, entries_below, outputs_at, nexts_at, table_length, layer_part, entry_at, machine, counts_checked, connected_checked, head_checked, strays, bad_output, bad_next, part_checked, array_checked, entries_checked, checked}
use Rattle.table.proofs.Offsets.{part_word, head_length_lem}
use Rattle.table.proofs.Accepted.{sound}
use Rattle.layered.specs.Machines.{Machine, Legal}
use Rattle.layered.proofs.Lists.{total_mul}
use Rattle.folded.proofs.Places.{before}

-- ---- tables

-- a machine within the limits of document 01's sheet, with the connected outputs C
pub record Writable (n m T : ℕ) (C : ℕ → ℕ) (M : Machine) : Type 0 where
  pub sizes : Sized most_inputs n m T
  pub is_legal : Legal (2 ^ n) m T M
  pub connected_to : (t : ℕ) → t < T → C t < 2 ^ m
  pub outputs_connected : (t s w : ℕ) → t < T → s < M.states t → w < 2 ^ n → bit_and (M.out t s w) (C t) ≡ M.out t s w
  pub counts_from : (t : ℕ) → t ≤ T → 1 ≤ M.states t
  pub counts_to_lem : (t : ℕ) → t ≤ T → M.states t ≤ most_states
  pub one_first : M.states 0 ≡ 1
  pub one_last : M.states T ≡ 1

-- the limit of a count: 1 for the first and the last
limited : (s t : Bool) (x : ℕ) → (s ≡ true → x ≡ 1) → (t ≡ true → x ≡ 1) → x ≤ most_states → x ≤ cond (s || t) end_states most_states
limited true t x e f h = omega (arith, e refl)
limited false true x e f h = omega (arith, f refl)
limited false false x e f h = h

-- a part passes where none of its words is bad
part_passes : (b : List ℕ) (bad : ℕ → Bool) (at start c : ℕ) → ((i : ℕ) → i < c → bad (word_at b (start + 2 * i)) ≡ false) → part_checked bad at (take (2 * c) (drop start b)) ≡ answer 0 0
unfolding part_checked
part_passes b bad at start c B =
    finds_none _ 5 _ (answer 0 0) 0 _ (λ i lo hi.
    let h : i < c = omega (arith, length-take (2 * c) (drop start b)) in
    rw (part_word b start (2 * c) (2 * i) (omega arith)) (B i h))

-- an array passes where none of its entries is bad in its layer
array_passes : (b : List ℕ) (start : ℕ) (bad : (t x : ℕ) → Bool)
    → ((t s w : ℕ) → t < frames b → s < states b t → w < 2 ^ inputs b → bad t (word_at b (entry_at b start t s w)) ≡ false) → array_checked b start bad ≡ answer 0 0
unfolding array_checked layer_part entry_at
array_passes b start bad G =
    all_accept _ 0 (frames b) (λ t lo hi.
    part_passes b (bad t) _ (start + 2 * entries_below b t) (states b t * 2 ^ inputs b) (λ i h.
    let k : ℕ = 2 ^ inputs b in
    let p : start + 2 * entries_below b t + 2 * i ≡ start + 2 * (entries_below b t + (i / k * k + i % k)) = omega (arith, div-add-mod' i k) in
    rw p (G t (i / k) (i % k) (omega arith) ((div-lt_iff_lt-mul (pow_pos (inputs b))).1 h) (mod-lt i (pow_pos (inputs b))))))

-- of the machine that the bytes b are
module _ (b : List ℕ) where
  pub below_is : (t : ℕ) → entries_below b t ≡ before (2 ^ inputs b) (machine b) t
  unfolding entries_below states_below
  below_is t = sym (total_mul t (2 ^ inputs b) (states b))

  -- ---- the bytes of a legal machine within the limits pass the check

  module _ (L : length b ≡ table_length b) (W : Writable (inputs b) (outputs b) (frames b) (connected b) (machine b)) where
    counts_pass : counts_checked b ≡ answer 0 0
    unfolding counts_checked
    counts_pass =
        finds_none _ 2 count_at (answer 0 0) 0 (suc (frames b)) (λ t lo hi.
        not_outside 1 _ (states b t) (W.counts_from t (omega arith))
        (limited (eqb t 0) (eqb t (frames b)) (states b t)
        (λ e. ap (states b) (eqb-true t 0 e) ∙ W.one_first)
        (λ e. ap (states b) (eqb-true t (frames b) e) ∙ W.one_last)
        (W.counts_to_lem t (omega arith))))

    connected_passes : connected_checked b ≡ answer 0 0
    unfolding connected_checked
    connected_passes =
        finds_none _ 2 (connected_at (frames b)) (answer 0 0) 0 (frames b) (λ t lo hi. lt-leb (2 ^ outputs b) (connected b t) (W.connected_to t (omega arith)))

    -- the head is there
    head_fits : head_length (frames b) ≤ length b
    unfolding table_length nexts_at outputs_at
    head_fits = omega arith

    head_passes : head_checked b ≡ answer 0 0
    unfolding head_checked
    head_passes =
        rw (
          le-ltb (length b) sizes_length (omega (arith, head_fits, head_length_lem (frames b))),
          sizes_pass most_inputs (inputs b) (outputs b) (frames b) W.sizes,
          le-ltb (length b) (head_length (frames b)) head_fits,
          counts_pass,
          connected_passes,
          eq-eqb (length b) (table_length b) L,
        )

    pub passes : checked b ≡ answer 0 0
    unfolding checked entries_checked bad_output bad_next strays
    passes =
        rw (
          head_passes,
          array_passes b (outputs_at b) (bad_output b) (λ t s w l h k. ap not (eq-eqb _ _ (W.outputs_connected t s w l h k))),
        ) (array_passes b (nexts_at b) (bad_next b) (λ t s w l h k. lt-leb (states b (suc t)) _ (W.is_legal.next_is t s w l h k)))

  -- ---- and what passes the check is such a machine

  pub passed_table : (p : ℕ) → checked b ≡ answer 0 p → (length b ≡ table_length b) × Writable (inputs b) (outputs b) (frames b) (connected b) (machine b)
  unfolding bad_output strays
  passed_table p e =
      let S = sound b p e in
      let H = S.headed in (
        H.whole,
        record {
          sizes = H.sized;
          is_legal = S.legal;
          connected_to = H.connected_to;
          outputs_connected = λ t s w l h k. eqb-true _ _ (not-false _ (S.outputs_connected t s w l h k));
          counts_from = H.states_from;
          counts_to_lem = H.states_to;
          one_first = H.one_first;
          one_last = H.one_last;
        },
      )
