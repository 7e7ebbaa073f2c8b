-- `refine::refine` meets its contract. The invariant: the candidates so far have their numbers, `fresh` is how many there are, and the buckets are
-- theirs.
-- Assumes nothing.
use mathlib.Core.Path.{◌≡◌, refl, sym, ap, ◌∙◌, subst}
use mathlib.Core.Bool.{Bool}
use mathlib.Core.List.{List}
use Prim.Native.Nat.{ℕ, ◌+◌, ◌≤◌, ◌<◌}
use native.Mathlib.Omega.{arith}
use lib.ListN.{length, get_or, set, replicate}
use Rattle.diagrams.specs.Numbering.{first_same}
use Rattle.refine.specs.Limits.{bucket_count, link_count}
use Rattle.refine.specs.Rows.{number_in, same_row, Placed}
use Rattle.refine.specs.Buckets.{row_hash, test_in, hash_in, bucket, Linked}
use Rattle.refine.specs.declared.Rows.{Rows}
use Rattle.diagrams.proofs.Numbering.{first_le}
use Rattle.refine.proofs.Numbers.{count_most}
use Rattle.refine.proofs.Buckets.{Hashed, Bucketed, bucketed_none, bucketed_later, bucketed_new}
use Rattle.refine.proofs.Same.{row_hashed}
use Rattle.refine.proofs.Refining.{Numbered, numbered_none, numbered_all, placed_same, copied_long, kept, turn_later, turn_new}
use Rattle.refine.proofs.refine.Goals as goal
use Rattle.refine.proofs.refine.Goals.{then-g-c, else-g-c}

module _ (s₀ s w : List ℕ) (rows : Rows) (c fresh : ℕ) (P : Placed s₀ w rows) (N : Numbered s₀ s w rows c fresh) where
  -- the test and the hash, by the numbers at the start
  abbrev test : ℕ → ℕ → Bool
  test = same_row (number_in s₀ rows) w rows

  abbrev hashes : ℕ → ℕ
  hashes = row_hash (number_in s₀ rows) w rows

  hashed : Hashed test hashes
  hashed = row_hashed (number_in s₀ rows) w rows

  -- `fresh` is small
  few : fresh ≤ c
  few = omega (arith, N.counted, count_most test c)

  module _ (b : c < rows.count) where
    -- the scratch with the copy of a number, which has the numbers that were at the start
    abbrev copy : List ℕ
    copy = set s (rows.copy + c) (number_in s rows c)

    placed : Placed copy w rows
    placed = placed_same s₀ copy w rows (copied_long s₀ s w rows c fresh P b N) P

    -- the candidate that is found
    sought : (g : ℕ) → g ≡ first_same (test_in copy w rows c) c → g ≡ first_same test c
    sought g e = subst (λ x. g ≡ x) (kept s₀ s w rows c fresh P b N (λ f. first_same (same_row f w rows) c)) e

    module _ (h : ℕ) (e : h ≡ hash_in copy w rows c c) where
      -- the hash, and where its bucket starts
      hash-is : h ≡ hashes c
      hash-is = subst (λ x. h ≡ x) (kept s₀ s w rows c fresh P b N (λ f. row_hash f w rows c)) e

      hash_small : h < bucket_count
      hash_small = omega (arith, hash-is, hashed.small c)

      module _ (buckets links : List ℕ) (B : Bucketed test hashes buckets links c) where
        linked : Linked (test_in copy w rows c) (hash_in copy w rows c) links c
        linked = subst (λ X. X) (sym (kept s₀ s w rows c fresh P b N (λ f. Linked (same_row f w rows) (row_hash f w rows) links c))) B.linked

        started : get_or buckets h 0 ≡ bucket (test_in copy w rows c) (hash_in copy w rows c) (hash_in copy w rows c c) c
        started =
            B.start h hash_small ∙ ap (λ k. bucket test hashes k c) hash-is
            ∙ sym (kept s₀ s w rows c fresh P b N (λ f. bucket (same_row f w rows) (row_hash f w rows) (row_hash f w rows c) c))

        module _ (room : c < 32768) (g : ℕ) (f : g ≡ first_same (test_in copy w rows c) c) where
          -- the buckets with one candidate more
          buckets_later : g < c → Bucketed test hashes buckets links (c + 1)
          buckets_later l = bucketed_later test hashes hashed buckets links c B room (omega (arith, sought g f))

          buckets_new : c ≤ g → Bucketed test hashes (set buckets h (c + 1)) (set links c (get_or buckets h 0)) (c + 1)
          buckets_new l = bucketed_new test hashes hashed buckets links c B room h hash-is (omega (arith, sought g f, first_le test c))

pub loop-c-init : goal.loop-c-init
loop-c-init c =
    (omega arith, numbered_none c.args.scratch.now c.args.work.now c.args.rows, bucketed_none _ _ (row_hashed (number_in c.args.scratch.now c.args.rows) c.args.work.now c.args.rows) (replicate bucket_count 0) (replicate link_count 0) refl refl)

pub row_hash-hash-requires : goal.row_hash-hash-requires
row_hash-hash-requires c = record {
  placed = placed c.args.scratch.now c.loop-c.scratch c.args.work.now c.args.rows c.loop-c.c c.loop-c.fresh c.requires c.loop-c.invariant.1 (omega arith);
  c_lt_count = omega arith;
}

pub offset_bounds-buckets-hash : goal.offset_bounds-buckets-hash
offset_bounds-buckets-hash c =
    let small : c.row_hash-hash.result < bucket_count = hash_small c.args.scratch.now c.loop-c.scratch c.args.work.now c.args.rows c.loop-c.c c.loop-c.fresh c.requires c.loop-c.invariant.1 (omega arith) c.row_hash-hash.result c.row_hash-hash.ensures in
    omega (arith, small)

pub bounds-buckets-hash : goal.bounds-buckets-hash
bounds-buckets-hash c =
    hash_small c.args.scratch.now c.loop-c.scratch c.args.work.now c.args.rows c.loop-c.c c.loop-c.fresh c.requires c.loop-c.invariant.1 (omega arith) c.row_hash-hash.result c.row_hash-hash.ensures

pub seek-g-requires : goal.seek-g-requires
seek-g-requires c = record {
  placed = placed c.args.scratch.now c.loop-c.scratch c.args.work.now c.args.rows c.loop-c.c c.loop-c.fresh c.requires c.loop-c.invariant.1 (omega arith);
  c_lt_count = omega arith;
  linked = linked c.args.scratch.now c.loop-c.scratch c.args.work.now c.args.rows c.loop-c.c c.loop-c.fresh c.requires c.loop-c.invariant.1 (omega arith) c.row_hash-hash.result c.row_hash-hash.ensures c.loop-c.buckets c.loop-c.links c.loop-c.invariant.2;
  start_value = started c.args.scratch.now c.loop-c.scratch c.args.work.now c.args.rows c.loop-c.c c.loop-c.fresh c.requires c.loop-c.invariant.1 (omega arith) c.row_hash-hash.result c.row_hash-hash.ensures c.loop-c.buckets c.loop-c.links c.loop-c.invariant.2;
}

pub bounds-scratch-numbers-then-g-c : goal.bounds-scratch-numbers-then-g-c
bounds-scratch-numbers-then-g-c c =
    let long : length (set c.loop-c.scratch (c.args.rows.copy + c.loop-c.c) (number_in c.loop-c.scratch c.args.rows c.loop-c.c)) ≡ length c.args.scratch.now = copied_long c.args.scratch.now c.loop-c.scratch c.args.work.now c.args.rows c.loop-c.c c.loop-c.fresh c.requires (omega arith) c.loop-c.invariant.1 in
    omega (arith, long, c.requires)

pub overflow_add-fresh : goal.overflow_add-fresh
overflow_add-fresh c =
    let small : c.loop-c.fresh ≤ c.loop-c.c = few c.args.scratch.now c.loop-c.scratch c.args.work.now c.args.rows c.loop-c.c c.loop-c.fresh c.requires c.loop-c.invariant.1 in
    omega (arith, small, c.requires)

pub offset_bounds-buckets-hash-else-g-c : goal.offset_bounds-buckets-hash-else-g-c
offset_bounds-buckets-hash-else-g-c c =
    let small : c.row_hash-hash.result < bucket_count = hash_small c.args.scratch.now c.loop-c.scratch c.args.work.now c.args.rows c.loop-c.c c.loop-c.fresh c.requires c.loop-c.invariant.1 (omega arith) c.row_hash-hash.result c.row_hash-hash.ensures in
    omega (arith, small)

pub bounds-buckets-hash-else-g-c : goal.bounds-buckets-hash-else-g-c
bounds-buckets-hash-else-g-c c =
    hash_small c.args.scratch.now c.loop-c.scratch c.args.work.now c.args.rows c.loop-c.c c.loop-c.fresh c.requires c.loop-c.invariant.1 (omega arith) c.row_hash-hash.result c.row_hash-hash.ensures

pub bounds-scratch-numbers-in-loop-c : goal.bounds-scratch-numbers-in-loop-c
bounds-scratch-numbers-in-loop-c c =
    let long : length (set c.loop-c.scratch (c.args.rows.copy + c.loop-c.c) (number_in c.loop-c.scratch c.args.rows c.loop-c.c)) ≡ length c.args.scratch.now = copied_long c.args.scratch.now c.loop-c.scratch c.args.work.now c.args.rows c.loop-c.c c.loop-c.fresh c.requires (omega arith) c.loop-c.invariant.1 in
    omega (arith, long, c.requires)

pub loop-c-preserved : goal.loop-c-preserved
loop-c-preserved c =
    let inside : c.loop-c.c < c.args.rows.count = omega arith in
    let room : c.loop-c.c < 32768 = omega (arith, c.requires) in
    let found : c.seek-g.result ≡ first_same (same_row (number_in c.args.scratch.now c.args.rows) c.args.work.now c.args.rows) c.loop-c.c =
    sought c.args.scratch.now c.loop-c.scratch c.args.work.now c.args.rows c.loop-c.c c.loop-c.fresh c.requires c.loop-c.invariant.1 inside c.seek-g.result c.seek-g.ensures
    in
    elim c.if-g-c.branch [
      | then-g-c w ↦
          let N = turn_later c.args.scratch.now c.loop-c.scratch c.args.work.now c.args.rows c.loop-c.c c.loop-c.fresh c.requires inside c.loop-c.invariant.1 c.seek-g.result c.if-g-c.number found w.number-is w.if-g-c.true in
          let B = buckets_later c.args.scratch.now c.loop-c.scratch c.args.work.now c.args.rows c.loop-c.c c.loop-c.fresh c.requires c.loop-c.invariant.1 inside c.row_hash-hash.result c.row_hash-hash.ensures c.loop-c.buckets c.loop-c.links c.loop-c.invariant.2 room c.seek-g.result c.seek-g.ensures w.if-g-c.true in
          (omega arith, rw w.fresh-is N, rw (w.buckets-is, w.links-is) B)
      | else-g-c w ↦
          let N = turn_new c.args.scratch.now c.loop-c.scratch c.args.work.now c.args.rows c.loop-c.c c.loop-c.fresh c.requires inside c.loop-c.invariant.1 c.seek-g.result c.if-g-c.number found w.number-is w.if-g-c.false in
          let B = buckets_new c.args.scratch.now c.loop-c.scratch c.args.work.now c.args.rows c.loop-c.c c.loop-c.fresh c.requires c.loop-c.invariant.1 inside c.row_hash-hash.result c.row_hash-hash.ensures c.loop-c.buckets c.loop-c.links c.loop-c.invariant.2 room c.seek-g.result c.seek-g.ensures w.if-g-c.false in
          (omega arith, rw w.fresh-is N, rw (w.buckets-is, w.links-is) B)
    ]

pub overflow_cast-result : goal.overflow_cast-result
overflow_cast-result c =
    let small : c.loop-c.fresh ≤ c.loop-c.c = few c.args.scratch.now c.loop-c.scratch c.args.work.now c.args.rows c.loop-c.c c.loop-c.fresh c.requires c.loop-c.invariant.1 in
    omega (arith, small, c.requires)

pub returns : goal.returns
returns c =
    numbered_all c.args.scratch.now _ _ (c.args.rows) c.loop-c.c _ (omega arith) c.loop-c.invariant.1
