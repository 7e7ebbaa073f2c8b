-- Words whose lanes are values at neighbouring numbers. Assumes nothing.
use mathlib.Core.Path.{◌≡◌, sym, ap, ◌∙◌}
use mathlib.Core.Bool.{Bool}
use Prim.Native.Nat.{ℕ, ◌+◌, ◌-◌, ◌%◌, ◌^◌, ◌<◌}
use native.Mathlib.Omega.{arith}
use Rattle.circuit.specs.Lists.{bit, block_start}
use Rattle.circuit.proofs.Bits.{bits_apart}
use Rattle.lanes.specs.Limits.{lane_count}
use Rattle.blocks.specs.Blocks.{Holds}
use Rattle.blocks.proofs.Blocks.{start_at_most, start_after, not_zero, start_before}

-- ---- each lane as the first of its block of p lanes has it

module _ (bits : ℕ) {p : ℕ} (ep : p ≡ 2 ^ bits) (at : ℕ) (v : ℕ → Bool) where
  -- `at` begins a block: the lanes of r are those of w, each as the first of its block of 2 ^ within lanes has it
  pub holds-first : (w r within : ℕ) → at % p ≡ 0 → ((j : ℕ) → j < lane_count → block_start within j ≡ block_start bits j)
      → ((j : ℕ) → j < lane_count → bit r j ≡ bit w (block_start within j)) → Holds w at v → Holds r at (λ x. v (block_start bits x))
  unfolding Holds
  holds-first w r within e same spread hold j h =
      spread j h ∙ hold (block_start within j) (omega (arith, start_at_most within j))
      ∙ ap v (ap (λ y. at + y) (same j h) ∙ sym (start_after bits at j (rw ep at e)))

  -- `at` begins no block: the lanes go on with those before them
  pub holds_on : (w : ℕ) → at % lane_count ≡ 0 → ¬ (at % p ≡ 0)
      → (0 < at → Holds w (at - lane_count) (λ x. v (block_start bits x))) → Holds w at (λ x. v (block_start bits x))
  unfolding Holds
  holds_on w e n hold j h = let m : ¬ (at % 2 ^ bits ≡ 0) = rw ep at n in hold (not_zero bits at m) j h ∙ ap v (start_before bits at m e j h)

-- ---- words that are the same, and words that are not

module _ (w u at : ℕ) (v x : ℕ → Bool) (hw : w < 2 ^ lane_count) (hu : u < 2 ^ lane_count) (W : Holds w at v) (U : Holds u at x) where
  -- a lane in which they differ
  pub holds_apart : ¬ (w ≡ u) → (j : ℕ) × (j < lane_count) × ¬ (v (at + j) ≡ x (at + j))
  unfolding Holds
  holds_apart d =
      let r = bits_apart lane_count w u hw hu d in
      let j = r.0 in
      (j, r.1, λ e. r.2 (W j r.1 ∙ e ∙ sym (U j r.1)))
