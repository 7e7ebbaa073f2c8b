-- The statements of specs/Theorems. Assumes nothing.
use mathlib.Core.Path.{◌≡◌, sym, ◌∙◌, subst, subst₂, subst₃}
use mathlib.Core.List.{List}
use Prim.Native.Nat.{ℕ, ◌^◌, ◌<◌}
use native.Mathlib.Omega.{arith}
use lib.ListN.{take}
use lib.Pow.{pow_pos}
use Rattle.sizes.specs.Sizes.{inputs, outputs, frames}
use Rattle.layered.specs.States.{Words}
use Rattle.layered.specs.Machines.{Legal}
use Rattle.circuit.specs.Circuit.{connected_outputs, output_words}
use Rattle.table.specs.Table.{machine}
use Rattle.table.proofs.Accepted.{sound}
use Rattle.folded.specs.Theorems.{Folding, Canonical, Foldings}
use Rattle.folded.proofs.Theorems.{foldings}
use Rattle.price.proofs.Theorems.{costs_no_less}
use Rattle.prefix.specs.FirstFrames.{FirstFrames}
use Rattle.prefix.specs.Theorems.{Stages, FoldedStages, OneTable}
use Rattle.prefix.proofs.Classes.{first_outputs, one_state, unions, no_more_states}

pub stages : Stages
unfolding Stages
stages b d t s F G H =
    let K : ℕ = 2 ^ inputs b in
    let G' : Folding K (outputs b) (frames d) d s = subst₂ (λ n m. Folding (2 ^ n) m (frames d) d s) H.same_inputs H.same_outputs G in
    let L : Legal K (outputs b) (frames b) (machine t) =
    subst₃ (λ n m T. Legal (2 ^ n) m T (machine t)) F.same_inputs F.same_outputs F.same_frames (sound t 0 F.legal).legal in
    let fewer = no_more_states K (frames b) (frames d) b d (pow_pos (inputs b)) H.no_longer H.same_words (outputs b) t s F G' L in
    record {
      no_more_states = fewer;
      one_state = one_state K (frames b) (frames d) b d (pow_pos (inputs b)) H.no_longer H.same_words (outputs b) t s F G' L;
      unions = unions K (frames b) (frames d) b d (pow_pos (inputs b)) H.no_longer H.same_words (outputs b) t s F G' L;
      both_pass = (G.legal, F.legal);
      no_dearer = costs_no_less s t 0 0 G.legal F.legal (omega (arith, G.same_frames, F.same_frames, H.no_longer)) (λ k l. fewer k (omega (arith, G.same_frames)));
    }

pub folded_stages : FoldedStages
unfolding FoldedStages Stages Foldings
folded_stages b before room nodes p e d before' room' nodes' q f H =
    stages b d _ _ (foldings b before room nodes p e).0 (foldings d before' room' nodes' q f).0 H

-- two circuits that are the same first frames of b agree on every sequence
module _ (b d e : List ℕ) (H : FirstFrames b d) (J : FirstFrames b e) (f : frames e ≡ frames d) where
  agree : (c : List ℕ) → Words (2 ^ inputs d) (frames d) c → output_words d c ≡ output_words e c
  agree c W =
      let K : ℕ = 2 ^ inputs b in
      let U : Words K (frames d) c = subst (λ n. Words (2 ^ n) (frames d) c) H.same_inputs W in
      let E = subst (λ r. (c : List ℕ) → Words K (frames b) c → output_words e (take r c) ≡ take r (output_words b c)) f J.same_words in
      first_outputs K (frames b) (frames d) b d (pow_pos (inputs b)) H.no_longer H.same_words U
      ∙ sym (first_outputs K (frames b) (frames d) b e (pow_pos (inputs b)) H.no_longer E U)

  connect_alike : (k : ℕ) → k < frames d → connected_outputs d k ≡ connected_outputs e k
  connect_alike k l = H.same_connected k l ∙ sym (J.same_connected k (omega arith))

pub one_table : OneTable
unfolding OneTable Foldings Canonical
one_table b d before room nodes p g H e before' room' nodes' q g' J f =
    ((foldings d before room nodes p g).1 e before' room' nodes' q (J.same_inputs ∙ sym H.same_inputs) (J.same_outputs ∙ sym H.same_outputs) f g'
    ).1 (agree b d e H J f, connect_alike b d e H J f)
