-- The scratch that is needed. Assumes nothing.
use mathlib.Core.Path.{◌≡◌, refl, ap, ap₂, ◌∙◌}
use mathlib.Core.Bool.{Bool, true, false, cond}
use mathlib.Core.List.{List, ◌++◌}
use Prim.Native.Nat.{ℕ, ◌*◌, ◌^◌, ◌≤◌, ◌<◌}
use native.Mathlib.Omega.{arith}
use lib.Dec.{ltb, eqb}
use lib.ListN.{length, take, drop, replicate, length-take}
use borrow.Author.Tests.{lt-ltb, le-ltb}
use Rattle.verdict.specs.Judgements.{Verdict, answer, figures, refusal_figures}
use Rattle.verdict.specs.declared.Refusal.{Refusal}
use Rattle.verdict.proofs.Laws.{refusal_number}
use Rattle.circuit.specs.Circuit.{all_inputs, checked}
use Rattle.circuit.specs.WellFormed.{CircuitHeaded, HeadOf}
use Rattle.source.specs.Source.{head_of}
use Rattle.source.specs.declared.Source.{Source}
use Rattle.folded.specs.Folded.{scratch_needed, six_checked, scratch_checked, cleared_to, cleared, scratch_after}
use Rattle.lent.specs.Lent.{Takes}

-- what is needed, by the sizes of a source
pub needed_is : (b : List ℕ) (s : Source) → HeadOf b (head_of s) → 2 * 2 ^ (s.inputs * s.frames) ≡ scratch_needed b
unfolding scratch_needed all_inputs
needed_is b s O = ap₂ (λ (n T : ℕ). 2 * 2 ^ (n * T)) O.inputs_is O.frames_is

pub bits_fit : (b : List ℕ) (s : Source) → CircuitHeaded b → HeadOf b (head_of s) → s.inputs * s.frames ≤ 16
bits_fit b s H O = rw (O.inputs_is, O.frames_is) H.sizes.bits_to

-- the circuit is refused, and the scratch left
module _ (b s : List ℕ) (r : Refusal) (e : refusal_figures r ≡ checked b) where
  pub circuit_refused : refusal_figures r ≡ scratch_checked b (length s)
  unfolding scratch_checked
  circuit_refused = rw (← e, refusal_number r)

  pub scratch_kept : s ≡ scratch_after b s
  unfolding scratch_after
  scratch_kept = rw (← circuit_refused, refusal_number r)

-- so the circuit and the scratch are judged
module _ (b s s' : List ℕ) (p : ℕ) (c : checked b ≡ answer 0 p) (v : Verdict) (needed : ℕ) (e : needed ≡ scratch_needed b) (T : Takes needed s s' v) where
  pub both_judged : figures v ≡ scratch_checked b (length s)
  unfolding scratch_checked
  both_judged = rw c (T.answered ∙ ap (λ k. six_checked k (length s)) e)

  pub scratch_left : s' ≡ scratch_after b s
  unfolding scratch_after scratch_checked cleared
  scratch_left = rw c (T.left ∙ ap (λ k. cond (ltb (length s) k) s (cleared_to k s)) e ∙ go (ltb (length s) (scratch_needed b)))
    where
      go : (t : Bool) → cond t s (cleared_to (scratch_needed b) s) ≡ cond (eqb (cond t (answer 6 (scratch_needed b)) (answer 0 0)).number 0) (cleared_to (scratch_needed b) s) s
      go true = refl
      go false = refl
