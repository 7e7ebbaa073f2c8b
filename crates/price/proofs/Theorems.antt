-- The statements of specs/Theorems.
use mathlib.Core.Path.{◌≡◌, refl, sym, ◌∙◌, subst₃}
use mathlib.Core.List.{List}
use Prim.Native.Nat.{ℕ, ◌^◌, ◌≤◌, ◌<◌}
use native.Mathlib.Nat.{le_trans}
use native.Mathlib.Omega.{arith}
use Rattle.verdict.specs.Judgements.{answer}
use Rattle.sizes.specs.Sizes.{inputs, outputs, frames}
use Rattle.layered.specs.Search.{total}
use Rattle.layered.specs.Machines.{Legal}
use Rattle.layered.proofs.Lists.{total_le, total_mono}
use Rattle.circuit.specs.Theorems.{AcceptedCausal}
use Rattle.circuit.proofs.Causal.{causal}
use Rattle.table.specs.Table.{states, states_below, machine, checked}
use Rattle.table.proofs.Accepted.{sound}
use Rattle.folded.specs.Folded.{folded_bytes}
use Rattle.folded.proofs.Outcomes.{circuit_sized}
use Rattle.folded.proofs.Theorems.{folding}
use Rattle.price.specs.Price.{charged, state_cents, states_cents, rise, risen, price, priced}
use Rattle.price.specs.Theorems.{Quoted, NeverFalls, FoldedCheapest}
use Rattle.price.proofs.Prices.{price_le, cents_are}

pub quoted : Quoted
unfolding Quoted price risen rise states_cents state_cents total
quoted = (refl, refl)

-- no fewer frames, and as many states at each layer that both charge: so as many charged states
more_charged : (b d : List ℕ) → frames b ≤ frames d → ((t : ℕ) → t < frames b → states b t ≤ states d t) → charged b ≤ charged d
unfolding charged states_below
more_charged b d f h = le_trans (total_mono (frames b) (states b) (states d) h) (total_le (frames b) (frames d) (states d) f)

pub costs_no_less : (b d : List ℕ) (p q : ℕ) → checked b ≡ answer 0 p → checked d ≡ answer 0 q → frames b ≤ frames d → ((t : ℕ) → t < frames b → states b t ≤ states d t)
    → (priced b).cents ≤ (priced d).cents
costs_no_less b d p q e g f h = rw (cents_are b p e, cents_are d q g) (price_le (frames b) (frames d) (charged b) (charged d) f (more_charged b d f h))

pub never_falls : (b : List ℕ) → NeverFalls b
unfolding NeverFalls
never_falls b d p q e g f h = costs_no_less b d p q e g (omega arith) h

pub folded_cheapest : (b : List ℕ) → FoldedCheapest b
unfolding FoldedCheapest NeverFalls AcceptedCausal
folded_cheapest b c p q e g i o f G =
    let F = folding c (causal c p e) (circuit_sized c p e) in
    let L : Legal (2 ^ inputs c) (outputs c) (frames c) (machine b) = subst₃ (λ n m T. Legal (2 ^ n) m T (machine b)) i o f (sound b q g).legal in
    let s : frames (folded_bytes c) ≡ frames c = F.same_frames in
    (F.legal, never_falls (folded_bytes c) b 0 q F.legal g (f ∙ sym s) (λ t h. F.fewest (machine b) L G t (omega arith)))
