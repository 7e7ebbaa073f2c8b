-- The stages of a simulation: each outcome gives the figures and the result of the definition. Assumes nothing.
use mathlib.Core.Path.{◌≡◌, sym, ap, ap₂, ◌∙◌}
use mathlib.Core.List.{List, ◌++◌}
use Prim.Native.Nat.{ℕ, ◌*◌}
use lib.ListN.{length, drop}
use Rattle.verdict.specs.Judgements.{Verdict, answer, figures, refusal_figures}
use Rattle.verdict.specs.declared.Figures.{Figures}
use Rattle.std.specs.Prelude.{IsErrAnd}
use Rattle.verdict.specs.declared.Refusal.{Refusal}
use Rattle.verdict.proofs.Laws.{refusal_number, told, go_on, kept, left}
use Rattle.sizes.specs.Sizes.{inputs, frames}
use Rattle.circuit.specs.Circuit.{checked}
use Rattle.circuit.specs.WellFormed.{HeadOf}
use Rattle.circuit.specs.declared.Head.{Head}
use Rattle.simulate.specs.Simulate.{all_output_words, sequences_checked, simulated, simulation_result}
use Rattle.simulate.specs.Theorems.{EachAlone}
use Rattle.simulate.proofs.Judged.{SequencesFed, all_fed}
use Rattle.simulate.proofs.Theorems.{each_alone}

-- the figures and the result of a simulation, and that each sequence gets what it gets alone
abbrev pub Outcome : (b : List ℕ) (count : ℕ) (words before : List ℕ) → Figures → (after : List ℕ) → Type 0
Outcome b count words before f after = (f ≡ simulated b count words (length before)) × ((after ≡ simulation_result b count words before) × EachAlone b)

module _ (b : List ℕ) (count : ℕ) (words before : List ℕ) where
  -- a refusal leaves the result as it was
  refused : (x : Verdict) (r : Refusal) → IsErrAnd x (λ y. y ≡ r) → refusal_figures r ≡ simulated b count words (length before) → Outcome b count words before (figures x) before
  unfolding simulation_result
  refused x r i e = (told x r _ i e, (kept (simulated b count words (length before)) r (all_output_words b count words) before e, each_alone b))

  pub refused_circuit : (x : Verdict) (r : Refusal) → IsErrAnd x (λ y. y ≡ r) → refusal_figures r ≡ checked b → Outcome b count words before (figures x) before
  unfolding simulated
  refused_circuit x r i e = refused x r i (rw (← e, refusal_number r))

  module _ (p : ℕ) (ep : answer 0 p ≡ checked b) (h : Head) (H : HeadOf b h) where
    goes_on : (f : Figures) → f ≡ sequences_checked h.inputs h.frames count words (length before) → f ≡ simulated b count words (length before)
    unfolding simulated
    goes_on f e = go_on _ _ _ p ep (e ∙ ap₂ (λ (n t : ℕ). sequences_checked n t count words (length before)) H.inputs_is H.frames_is)

    pub refused_sequences : (x : Verdict) (r : Refusal) → IsErrAnd x (λ y. y ≡ r) → refusal_figures r ≡ sequences_checked h.inputs h.frames count words (length before)
        → Outcome b count words before (figures x) before
    refused_sequences x r i e = refused x r i (goes_on _ e)

    module _ (q : ℕ) (eq : answer 0 q ≡ sequences_checked h.inputs h.frames count words (length before)) where
      -- what is known of the sequences, and that there is room for their outputs
      pub sequences_fed : SequencesFed (inputs b) (frames b) count words (length before) q
      sequences_fed =
          all_fed (inputs b) (frames b) count words (length before) q
          (sym (eq ∙ ap₂ (λ (n t : ℕ). sequences_checked n t count words (length before)) H.inputs_is H.frames_is))

      pub accepted_all : (after : List ℕ) → after ≡ all_output_words b count words ++ drop (count * frames b) before → Outcome b count words before (answer 0 q) after
      unfolding simulation_result
      accepted_all after e = (
        goes_on _ eq,
        (
          left (simulated b count words (length before)) q (all_output_words b count words) before after (goes_on _ eq)
              (e ∙ ap (λ (t : ℕ). all_output_words b count words ++ drop t before) (sym sequences_fed.place_is)),
          each_alone b,
        ),
      )
