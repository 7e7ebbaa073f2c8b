-- A part of neighbouring sequences: the comparison of one output, and what is kept. Assumes nothing.
use mathlib.Core.Path.{◌≡◌, refl, sym, ap, ◌∙◌, subst}
use mathlib.Core.Bool.{Bool, true, false}
use mathlib.Core.List.{List}
use Prim.Native.Nat.{ℕ, suc, ◌+◌, ◌*◌, ◌-◌, ◌/◌, ◌^◌, ◌≤◌, ◌<◌}
use native.Mathlib.Nat.{mul-le-mul, mul-le-mul_left}
use native.Mathlib.Decide.{dec_lt}
use native.Mathlib.Omega.{arith}
use lib.ListN.{length, get_or, set}
use lib.Seq.{get_or-set_same, get_or-set_other}
use Rattle.sizes.specs.Limits.{most_bits}
use Rattle.sizes.specs.Sizes.{inputs, frames}
use Rattle.layered.specs.Search.{every}
use Rattle.layered.proofs.Search.{every_true, every_each}
use Rattle.circuit.specs.Lists.{bit, block_start}
use Rattle.circuit.specs.Circuit.{all_outputs, frame_of, output_on, later_inputs, as_first}
use Rattle.circuit.specs.WellFormed.{CircuitHeaded, HeadOf}
use Rattle.circuit.specs.declared.Head.{Head}
use Rattle.circuit.proofs.Ahead.{beq_same, same_beq, output_parts}
use Rattle.lanes.specs.Limits.{lane_count}
use Rattle.blocks.specs.Blocks.{Holds}
use Rattle.blocks.proofs.Holds.{holds_apart}
use Rattle.causal.specs.Limits.{most_all_outputs}
use Rattle.causal.specs.Played.{Firsts, part_as_first}

-- ---- an output's place, and the inputs of the frames after its own

module _ (b : List ℕ) (H : CircuitHeaded b) (s : Head) (O : HeadOf b s) (q : ℕ) (h : q < all_outputs b) where
  pub output_few : q < most_all_outputs
  unfolding all_outputs
  output_few = omega (arith, mul-le-mul H.sizes.outputs_to H.sizes.frames_to)

  module _ (f : ℕ) (ef : f ≡ frame_of s.outputs q) where
    pub frame_in : f ≤ s.frames
    unfolding frame_of
    frame_in = omega (arith, ef ∙ ap (λ m. suc (q / m)) O.outputs_is, O.frames_is, (output_parts b H q h).0)

    pub later_is : s.inputs * (s.frames - f) ≡ later_inputs b q
    unfolding later_inputs
    later_is = rw (ef, O.inputs_is, O.frames_is, O.outputs_is)

    pub later_to : s.inputs * (s.frames - f) ≤ most_bits
    later_to =
        let l : inputs b * (frames b - f) ≤ inputs b * frames b = mul-le-mul_left (inputs b) (omega arith) in
        rw (O.inputs_is, O.frames_is) (omega (arith, H.sizes.bits_to))

-- ---- one output on a part

-- what its lanes are due to be: those of the first sequences
pub due_holds : (b : List ℕ) (at q bits seen due kept : ℕ) → bits ≡ later_inputs b q → Holds seen at (output_on b q)
    → (0 < at → Holds kept (at - lane_count) (λ x. output_on b q (block_start (later_inputs b q) x)))
    → ((v : ℕ → Bool) → Holds seen at v → (0 < at → Holds kept (at - lane_count) (λ x. v (block_start bits x))) → Holds due at (λ x. v (block_start bits x)))
    → Holds due at (λ x. output_on b q (block_start (later_inputs b q) x))
due_holds b at q bits seen due kept e S K f =
    subst (λ k. Holds due at (λ x. output_on b q (block_start k x))) e
    (f (output_on b q) S (λ p. subst (λ k. Holds kept (at - lane_count) (λ x. output_on b q (block_start k x))) (sym e) (K p)))

module _ (b : List ℕ) (at q seen due : ℕ) (S : Holds seen at (output_on b q)) (D : Holds due at (λ x. output_on b q (block_start (later_inputs b q) x))) where
  -- its lanes are those of the first sequences
  pub part_same : seen ≡ due → part_as_first b at q ≡ true
  unfolding part_as_first as_first Holds
  part_same e = every_true (λ j. as_first b q (at + j)) lane_count (λ j l. same_beq _ _ (sym (S j l) ∙ ap (λ w. bit w j) e ∙ D j l))

  -- they are not
  pub part_apart : seen < 2 ^ lane_count → due < 2 ^ lane_count → ¬ (seen ≡ due) → part_as_first b at q ≡ false
  unfolding part_as_first as_first
  part_apart hs hd n = go (part_as_first b at q) refl (holds_apart seen due at (output_on b q) (λ x. output_on b q (block_start (later_inputs b q) x)) hs hd S D n)
    where
      go : (t : Bool) → every lane_count (λ j. as_first b q (at + j)) ≡ t → (j : ℕ) × (j < lane_count) × ¬ (output_on b q (at + j) ≡ output_on b q (block_start (later_inputs b q) (at + j))) → t ≡ false
      go true e (j, l, d) = absurd (d (beq_same _ _ (every_each (λ j. as_first b q (at + j)) lane_count e j l)))
      go false e r = refl

-- ---- what is kept

module _ (b : List ℕ) (at : ℕ) (k : List ℕ) (q due : ℕ) where
  -- one output more
  pub firsts_more : (from : ℕ) → q < length k → Firsts b at k from q → Holds due at (λ x. output_on b q (block_start (later_inputs b q) x)) → Firsts b at (set k q due) from (q + 1)
  unfolding Firsts
  firsts_more from room F D i lo hi = go (dec_lt i q)
    where
      go : Dec (i < q) → Holds (get_or (set k q due) i 0) at (λ x. output_on b i (block_start (later_inputs b i) x))
      go (yes l) = rw (get_or-set_other k q i due 0 (λ e. omega arith)) (F i lo l)
      go (no n) =
          let e : i ≡ q = omega arith in
          rw (e, get_or-set_same k q due 0 room) D

  -- the others stay
  pub firsts_rest : (to : ℕ) → Firsts b at k q to → Firsts b at (set k q due) (q + 1) to
  unfolding Firsts
  firsts_rest to F i lo hi = rw (get_or-set_other k q i due 0 (λ e. omega arith)) (F i (omega arith) hi)
