-- What an accepted circuit is known to be. Assumes nothing.
use mathlib.Core.Path.{◌≡◌, refl}
use mathlib.Core.Bool.{true, false, not}
use mathlib.Core.List.{List}
use Prim.Native.Nat.{ℕ, ◌+◌, ◌*◌, ◌≤◌, ◌<◌, zero-le}
use native.Mathlib.Omega.{arith}
use lib.ListN.{length}
use lib.Dec.{ltb, eqb}
use borrow.Author.Tests.{eqb-true, not-false, ltb-false}
use Rattle.circuit.specs.Limits.{most_gates, circuit_head}
use Rattle.verdict.specs.Judgements.{answer}
use Rattle.verdict.proofs.Laws.{both_accept, passed, none_found}
use Rattle.sizes.specs.Sizes.{inputs, outputs, frames, outside, sizes_checked}
use Rattle.sizes.specs.Sized.{Sized}
use Rattle.sizes.proofs.Laws.{inside, sized}
use Rattle.circuit.specs.Circuit.{gates, lefts_at, rights_at, circuit_length, literal_at, all_inputs, all_outputs, admissible, head_checked, literals_checked, look_ahead_checked, looks_ahead, form_within, form_checked, checked}
use Rattle.circuit.specs.WellFormed.{CircuitHeaded, HeadOf, LegalGates, WellFormed, Formed, Accepted}
use Rattle.circuit.specs.declared.Head.{Head}

-- the limits hold for a larger limit on n
widen : {a c n m T : ℕ} → a ≤ c → Sized a n m T → Sized c n m T
widen h z = record {
  inputs_from = z.inputs_from;
  inputs_to = omega arith;
  outputs_from = z.outputs_from;
  outputs_to = z.outputs_to;
  frames_from = z.frames_from;
  frames_to = z.frames_to;
  bits_to = z.bits_to;
}

-- what remains of the head's judgement once the sizes are accepted
module _ (b : List ℕ) (p : ℕ) where
  pub headed : (most long : ℕ) → most ≤ 16 → head_checked most long b ≡ answer 0 p → CircuitHeaded b × Sized most (inputs b) (outputs b) (frames b) × (frames b ≤ long)
  unfolding head_checked circuit_length all_inputs
  headed most long h e =
      let e₁ = passed (ltb (length b) circuit_head) 1 (length b) _ p refl e in
      let e₂ = both_accept (sizes_checked most (inputs b) (outputs b) (frames b)) _ p e₁.1 in
      let e₀ = passed (ltb long (frames b)) 2 4 _ p refl e₂.2 in
      let e₃ = passed (outside (all_outputs b) most_gates (gates b)) 2 6 _ p refl e₀.1 in
      let e₄ = passed (not (eqb (length b) (circuit_head + 4 * gates b))) 1 (length b) _ p refl e₃.1 in
      let z = sized most _ _ _ e₂.0 e₂.1 in
      let g = inside (all_outputs b) most_gates (gates b) e₃.0 in (
        record { sizes = widen h z; inputs_to = z.bits_to; outputs_to = g.0; gates_to = omega (arith, g.1); whole = eqb-true _ _ (not-false _ e₄.0) },
        z,
        ltb-false long _ e₀.0,
      )

-- each literal of an array that is accepted is admissible
all_admissible : (b : List ℕ) (start p : ℕ) → literals_checked b start ≡ answer 0 p → (g : ℕ) → g < gates b → admissible b g (literal_at b start g) ≡ true
unfolding literals_checked
all_admissible b start p e g h =
    not-false _
    ((none_found (λ g. not (admissible b g (literal_at b start g))) 3 _ (answer 0 0) p 0 (gates b) refl e).0 g zero-le (omega arith))

pub legal : (b : List ℕ) (p q : ℕ) → literals_checked b (lefts_at b) ≡ answer 0 p → literals_checked b (rights_at b) ≡ answer 0 q → LegalGates b
legal b p q el er = record { left = all_admissible b (lefts_at b) p el; right = all_admissible b (rights_at b) q er }

-- no output looks ahead
pub none_ahead : (b : List ℕ) (p : ℕ) → look_ahead_checked b ≡ answer 0 p → (q : ℕ) → q < all_outputs b → looks_ahead b q ≡ false
unfolding look_ahead_checked
none_ahead b p e q h = (none_found (looks_ahead b) 4 _ (answer 0 0) p 0 (all_outputs b) refl e).0 q zero-le (omega arith)

-- a circuit that is given has no more gates than that
pub few_gates : (b : List ℕ) (p most long : ℕ) → form_within most long b ≡ answer 0 p → gates b ≤ most_gates
unfolding form_within head_checked
few_gates b p most long e =
    let a = both_accept (head_checked most long b) _ p e in
    let e₁ = passed (ltb (length b) circuit_head) 1 (length b) _ a.0 refl a.1 in
    let e₂ = both_accept (sizes_checked most (inputs b) (outputs b) (frames b)) _ a.0 e₁.1 in
    let e₀ = passed (ltb long (frames b)) 2 4 _ a.0 refl e₂.2 in
    (inside (all_outputs b) most_gates (gates b) (passed (outside (all_outputs b) most_gates (gates b)) 2 6 _ a.0 refl e₀.1).0).1

-- what the head and the literals tell
pub within : (b : List ℕ) (p most long : ℕ) → most ≤ 16 → form_within most long b ≡ answer 0 p → CircuitHeaded b × Sized most (inputs b) (outputs b) (frames b) × (frames b ≤ long) × LegalGates b
unfolding form_within
within b p most long h e =
    let a = both_accept (head_checked most long b) _ p e in
    let l = both_accept (literals_checked b (lefts_at b)) (literals_checked b (rights_at b)) p a.2 in
    let k = headed b a.0 most long h a.1 in
    (k.0, k.1, k.2, legal b l.0 p l.1 l.2)

pub formed : (b : List ℕ) (p : ℕ) → form_checked b ≡ answer 0 p → Formed b
unfolding form_checked
formed b p e =
    let k = within b p 8 16 (omega arith) e in
    record { head = k.0; sizes = k.1; literals = k.3 }

pub well_formed : {b : List ℕ} {h : Head} → Formed b → HeadOf b h → WellFormed b h
well_formed F H = record { headed = F.head; head_is = H; legal = F.literals }

pub accepted : (b : List ℕ) (p : ℕ) → checked b ≡ answer 0 p → Accepted b
unfolding checked
accepted b p e =
    let f = both_accept (form_checked b) (look_ahead_checked b) p e in
    record { form = formed b f.0 f.1; causal = none_ahead b p f.2 }
