-- `write::put_head` meets its contract: sizes, counts and connected outputs are stored one behind the other.
-- Assumes nothing.
use mathlib.Core.Path.{◌≡◌, ap, ap₂, ◌∙◌}
use mathlib.Core.List.{List, [], ◌∷◌}
use Prim.Native.Nat.{ℕ, ◌+◌}
use native.Mathlib.Omega.{arith}
use lib.ListN.{length-take}
use Rattle.words.specs.Words.{stored}
use Rattle.sizes.specs.Sizes.{inputs, outputs, frames}
use Rattle.table.specs.Table.{connected_at}
use Rattle.table.proofs.Offsets.{connected-at, head_length_lem}
use Rattle.write.proofs.Heads.{head_stored}
use Rattle.circuit.specs.WellFormed.{WellFormed}
use Rattle.source.specs.Source.{head_of, sourced}
use Rattle.source.proofs.Sources.{well}
use Rattle.write.proofs.put_head.Goals as goal

-- the sizes are the circuit's
first-words : (n m t : ℕ) (b : List ℕ) → n ≡ inputs b → m ≡ outputs b → t ≡ frames b → n ∷ m ∷ t ∷ [] ≡ inputs b ∷ outputs b ∷ frames b ∷ []
first-words n m t b e f g = ap₂ (λ (x : ℕ) (l : List ℕ). x ∷ l) e (ap₂ (λ (x y : ℕ). x ∷ y ∷ []) f g)

pub store_all-requires : goal.store_all-requires
store_all-requires c =
    omega (arith, head_length_lem (frames (sourced c.args.source c.args.circuit.now)), c.requires.circuit_in_bounds)

pub store_all-requires-2 : goal.store_all-requires-2
store_all-requires-2 c =
    let b₀ : List ℕ =
    sourced c.args.source c.args.circuit.now
    in
    let known : WellFormed ((sourced c.args.source c.args.circuit.now)) (head_of c.args.source) =
    well _ _ c.requires.source_of
    in
    rw length-take (omega (arith, head_length_lem (frames (sourced c.args.source c.args.circuit.now)), c.requires.circuit_in_bounds, c.store_all.auto.bytes, known.head_is))

pub put_connected-requires : goal.put_connected-requires
put_connected-requires c =
    record {
      source_of = c.requires.source_of;
      circuit_in_bounds = omega (arith, c.requires.circuit_in_bounds, c.store_all-2.auto.bytes, c.store_all.auto.bytes);
    }

pub returns : goal.returns
returns c =
    let b₀ : List ℕ =
    sourced c.args.source c.args.circuit.now
    in
    let known : WellFormed ((sourced c.args.source c.args.circuit.now)) (head_of c.args.source) =
    well _ _ c.requires.source_of
    in
    let b = (sourced c.args.source c.args.circuit.now) in
    let h = (known).head_is in
    head_stored b c.args.res.now c.args.counts.now (omega (arith, head_length_lem (frames b), c.requires.circuit_in_bounds)) c.requires.counts_to (known).headed.sizes.frames_to
    c.store_all.new.bytes c.store_all-2.new.bytes c.put_connected.new.res (c.args.source.frames + 1) (connected_at (frames b) 0)
    (ap (λ (t : ℕ). t + 1) h.frames_is) (omega (arith, connected-at (frames b) 0))
    (c.store_all.ensures ∙ ap (stored 2 c.args.res.now 0) (first-words _ _ _ b h.inputs_is h.outputs_is h.frames_is))
    c.store_all-2.ensures
    c.put_connected.ensures
