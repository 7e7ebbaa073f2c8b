-- `write::put_connected` meets its contract. The invariant: the words of the first t frames are stored.
-- Assumes nothing.
use mathlib.Core.Path.{◌≡◌, sym, ap, ◌∙◌}
use mathlib.Core.List.{List, [], ◌∷◌, ◌++◌}
use Prim.Native.Nat.{ℕ, ◌+◌, ◌*◌, ◌≤◌}
use native.Mathlib.Numerals.{add-one}
use native.Mathlib.Omega.{arith}
use lib.ListN.{length}
use Rattle.words.specs.Words.{stored}
use Rattle.words.proofs.Laws.{stored_none, stored_length, stored_behind}
use Rattle.sizes.specs.Sizes.{frames}
use Rattle.layered.specs.Search.{join, tabulate}
use Rattle.layered.proofs.Lists.{tabulate_length}
use Rattle.circuit.specs.Circuit.{connected_outputs}
use Rattle.circuit.specs.WellFormed.{WellFormed}
use Rattle.source.specs.Source.{head_of, sourced}
use Rattle.source.proofs.Sources.{well}
use Rattle.table.specs.Table.{connected_at}
use Rattle.table.proofs.Offsets.{connected-at, head_length_lem}
use Rattle.write.proofs.put_connected.Goals as goal

-- the words of the first t frames
abbrev first : List ℕ → (t : ℕ) → List ℕ
first b t = tabulate t (connected_outputs b)

pub loop-t-init : goal.loop-t-init
unfolding join tabulate
loop-t-init c =
    (omega arith, sym (stored_none 2 _ _))

pub connected_outputs-word-requires : goal.connected_outputs-word-requires
connected_outputs-word-requires c =
    (c.requires.source_of, omega (arith, c.loop-t-test.true))

pub connected_at-requires : goal.connected_at-requires
connected_at-requires c =
    let b₀ : List ℕ =
    sourced c.args.source c.args.circuit.now
    in
    let known : WellFormed ((sourced c.args.source c.args.circuit.now)) (head_of c.args.source) =
    well _ _ c.requires.source_of
    in
    (omega (arith, known), omega arith)

pub store-requires : goal.store-requires
store-requires c =
    let b₀ : List ℕ =
    sourced c.args.source c.args.circuit.now
    in
    let known : WellFormed ((sourced c.args.source c.args.circuit.now)) (head_of c.args.source) =
    well _ _ c.requires.source_of
    in
    let room : connected_at (frames ((sourced c.args.source c.args.circuit.now))) 0 + 2 * length (first ((sourced c.args.source c.args.circuit.now)) c.loop-t.t) ≤ length c.args.res.now =
    let b = (sourced c.args.source c.args.circuit.now) in
    omega (arith, connected-at (frames b) 0, head_length_lem (frames b), tabulate_length c.loop-t.t (connected_outputs b), c.loop-t.invariant.0, (known).head_is, c.requires.circuit_in_bounds)
    in
    let len : length c.loop-t.res ≡ length c.args.res.now =
    ap length c.loop-t.invariant.1 ∙ stored_length 2 _ _ _ (room)
    in
    let place : c.connected_at.result ≡ connected_at (frames ((sourced c.args.source c.args.circuit.now))) 0 + 2 * c.loop-t.t =
    let b = (sourced c.args.source c.args.circuit.now) in
    c.connected_at.ensures ∙ omega (arith, connected-at c.args.source.frames c.loop-t.t, connected-at (frames b) 0, (known).head_is.frames_is)
    in
    let b = (sourced c.args.source c.args.circuit.now) in
    omega (arith, place, len, connected-at (frames b) 0, head_length_lem (frames b), c.loop-t-test.true, (known).head_is, c.requires.circuit_in_bounds)

pub loop-t-preserved : goal.loop-t-preserved
unfolding join tabulate
loop-t-preserved c =
    let b₀ : List ℕ =
    sourced c.args.source c.args.circuit.now
    in
    let known : WellFormed ((sourced c.args.source c.args.circuit.now)) (head_of c.args.source) =
    well _ _ c.requires.source_of
    in
    let room : connected_at (frames ((sourced c.args.source c.args.circuit.now))) 0 + 2 * length (first ((sourced c.args.source c.args.circuit.now)) c.loop-t.t) ≤ length c.args.res.now =
    let b = (sourced c.args.source c.args.circuit.now) in
    omega (arith, connected-at (frames b) 0, head_length_lem (frames b), tabulate_length c.loop-t.t (connected_outputs b), c.loop-t.invariant.0, (known).head_is, c.requires.circuit_in_bounds)
    in
    let place : c.connected_at.result ≡ connected_at (frames ((sourced c.args.source c.args.circuit.now))) 0 + 2 * c.loop-t.t =
    let b = (sourced c.args.source c.args.circuit.now) in
    c.connected_at.ensures ∙ omega (arith, connected-at c.args.source.frames c.loop-t.t, connected-at (frames b) 0, (known).head_is.frames_is)
    in
    let b = (sourced c.args.source c.args.circuit.now) in
    let t : ℕ = c.loop-t.t in (
      omega arith,
      c.store.ensures
          ∙ stored_behind 2 c.args.res.now c.loop-t.res (connected_at (frames b) 0) (first b t) _ c.connected_at.result c.loop-t.invariant.1
          (place ∙ omega (arith, tabulate_length t (connected_outputs b))) (room)
          ∙ ap (λ (x : ℕ). stored 2 c.args.res.now (connected_at (frames b) 0) (first b t ++ (x ∷ []))) c.connected_outputs-word.ensures.0
          ∙ ap (λ (t : ℕ). stored 2 c.args.res.now (connected_at (frames b) 0) (first b t)) (sym (add-one t)),
    )

pub returns : goal.returns
returns c =
    let b₀ : List ℕ =
    sourced c.args.source c.args.circuit.now
    in
    let known : WellFormed ((sourced c.args.source c.args.circuit.now)) (head_of c.args.source) =
    well _ _ c.requires.source_of
    in
    let b = (sourced c.args.source c.args.circuit.now) in
    let e : c.loop-t.t ≡ frames b = omega (arith, (known).head_is) in
    c.loop-t.invariant.1 ∙ ap (λ t. stored 2 c.args.res.now (connected_at (frames b) 0) (first b t)) e
