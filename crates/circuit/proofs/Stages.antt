-- The stages of the head's judgement, and the products of its sizes. Assumes nothing.
use mathlib.Core.Path.{◌≡◌, sym, ap, ap₂, ◌∙◌, subst}
use mathlib.Core.Bool.{true, false}
use mathlib.Core.List.{List}
use Prim.Native.Nat.{ℕ, ◌+◌, ◌*◌, ◌≤◌, ◌<◌}
use native.Mathlib.Nat.{mul-le-mul}
use lib.Dec.{ltb}
use lib.ListN.{length}
use borrow.Author.Tests.{lt-ltb, le-ltb, eq-eqb, ne_eqb}
use Rattle.circuit.specs.Limits.{most_gates, circuit_head}
use Rattle.words.specs.Words.{word_at}
use Rattle.verdict.specs.Judgements.{Verdict, answer, refusal_figures, figures}
use Rattle.verdict.specs.declared.Figures.{Figures}
use Rattle.std.specs.Prelude.{IsErrAnd}
use Rattle.verdict.specs.declared.Refusal.{Refusal}
use Rattle.verdict.proofs.Laws.{stop, go_on}
use Rattle.sizes.specs.Sizes.{inputs, outputs, frames, outside, sizes_checked}
use Rattle.sizes.specs.Sized.{sizes_of}
use Rattle.sizes.specs.declared.Sizes.{Sizes}
use Rattle.sizes.proofs.Laws.{sized}
use Rattle.circuit.specs.Circuit.{gates, all_inputs, all_outputs, circuit_length, head_checked}

-- the products of sizes that were read
module _ (s : Sizes) (b : List ℕ) (e : s ≡ sizes_of b) where
  pub inputs_product : s.inputs * s.frames ≡ all_inputs b
  unfolding all_inputs
  inputs_product = ap (λ (s : Sizes). s.inputs * s.frames) e

  pub outputs_product : s.outputs * s.frames ≡ all_outputs b
  unfolding all_outputs
  outputs_product = ap (λ (s : Sizes). s.outputs * s.frames) e

module _ (most long : ℕ) (b : List ℕ) where
  pub head_short : length b < circuit_head → answer 1 (length b) ≡ head_checked most long b
  unfolding head_checked
  head_short h = simp (lt-ltb _ _ h)

  module _ (h : circuit_head ≤ length b) (s : Sizes) (es : s ≡ sizes_of b) where
    of_b : (f : Figures) → f ≡ sizes_checked most s.inputs s.outputs s.frames → f ≡ sizes_checked most (inputs b) (outputs b) (frames b)
    of_b f e = e ∙ ap (λ (s : Sizes). sizes_checked most s.inputs s.outputs s.frames) es

    pub head_sizes : (x : Verdict) (r : Refusal) → IsErrAnd x (λ y. y ≡ r) → refusal_figures r ≡ sizes_checked most s.inputs s.outputs s.frames
        → figures x ≡ head_checked most long b
    unfolding head_checked
    head_sizes x r i e = rw (le-ltb _ _ h) (stop x r _ _ i (of_b _ e))

    module _ (p : ℕ) (q : answer 0 p ≡ sizes_checked most s.inputs s.outputs s.frames) where
      -- the number of outputs fits
      pub product_small : s.outputs * s.frames ≤ 256
      product_small =
          let z = sized most s.inputs s.outputs s.frames p (sym q) in
          mul-le-mul z.outputs_to z.frames_to

      -- too many frames
      pub head_long : long < s.frames → answer 2 4 ≡ head_checked most long b
      unfolding head_checked
      head_long l = rw (le-ltb _ _ h) (go_on _ _ _ p (of_b _ q) (rw (lt-ltb long (frames b) (subst (λ (s : Sizes). long < s.frames) es l))))

      module _ (k : s.frames ≤ long) (g : ℕ) (eg : g ≡ word_at b 6) where
        few : ltb long (frames b) ≡ false
        few = le-ltb long (frames b) (subst (λ (s : Sizes). s.frames ≤ long) es k)

        asked : outside (s.outputs * s.frames) most_gates g ≡ outside (all_outputs b) most_gates (gates b)
        unfolding gates
        asked = ap₂ (λ (t g : ℕ). outside t most_gates g) (outputs_product s b es) eg

        pub head_gates : outside (s.outputs * s.frames) most_gates g ≡ true → answer 2 6 ≡ head_checked most long b
        unfolding head_checked
        head_gates t = rw (le-ltb _ _ h) (go_on _ _ _ p (of_b _ q) (rw (few, sym asked ∙ t)))

        module _ (t : outside (s.outputs * s.frames) most_gates g ≡ false) where
          pub head_length_lem : ¬ (length b ≡ circuit_head + 4 * g) → answer 1 (length b) ≡ head_checked most long b
          unfolding head_checked circuit_length gates
          head_length_lem n = rw (le-ltb _ _ h) (go_on _ _ _ p (of_b _ q) (rw (few, sym asked ∙ t, ne_eqb (length b) (circuit_head + 4 * word_at b 6) (λ e. n (e ∙ ap (λ (g : ℕ). circuit_head + 4 * g) (sym eg))))))

          pub head_whole : length b ≡ circuit_head + 4 * g → answer 0 0 ≡ head_checked most long b
          unfolding head_checked circuit_length gates
          head_whole e = rw (le-ltb _ _ h) (go_on _ _ _ p (of_b _ q) (rw (few, sym asked ∙ t, eq-eqb (length b) (circuit_head + 4 * word_at b 6) (e ∙ ap (λ (g : ℕ). circuit_head + 4 * g) eg))))
