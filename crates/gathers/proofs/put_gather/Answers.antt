-- `gathers::put_gather` meets its contract. The invariant: the gates of the edges so far are stored.
-- Assumes nothing.
use mathlib.Core.Path.{◌≡◌, refl, sym, ap, ◌∙◌}
use mathlib.Core.Bool.{Bool, true}
use mathlib.Core.List.{List}
use Prim.Native.Nat.{◌<◌, ℕ, ◌+◌, ◌*◌, ◌/◌, ◌≤◌}
use native.Mathlib.Omega.{arith}
use lib.ListN.{length}
use Rattle.unfolded.specs.Unfolded.{chain, inverted_edges}
use Rattle.chains.specs.Chains.{gates_stored}
use Rattle.chains.proofs.Stored.{gates_none, chain_more}
use Rattle.gathers.specs.Gathers.{chosen, gather_edges}
use Rattle.gathers.proofs.Edges.{belongs, edge_taken, edge_passed, taken_length, edges_most, edge_room, all_edges}
use Rattle.gathers.proofs.put_gather.Goals as goal
use Rattle.gathers.proofs.put_gather.Goals.{Start, then-is_chosen, else-is_chosen}

-- where the edges lie, and which of them the chain gathers
abbrev edges_at : Start → ℕ
edges_at s = s.args.target.base + s.args.gathering.edges

abbrev joins : Start → ℕ → Bool
joins s = belongs s.args.gathering.key s.args.entries.now s.args.i

abbrev taken : Start → ℕ → List ℕ
taken s = inverted_edges (edges_at s) (joins s)

all_are : (s : Start) → taken s (length s.args.entries.now / 2) ≡ gather_edges s.args.target s.args.gathering s.args.entries.now s.args.i
all_are s = all_edges s.args.target s.args.gathering _ _ _ refl

all_fit : (s : Start) → s.args.k + length (taken s (length s.args.entries.now / 2)) ≤ s.args.target.gates
all_fit s = omega (arith, ap length (all_are s), s.requires.i_bound)

within : (s : Start) (e : ℕ) → e ≤ length s.args.entries.now / 2 → s.args.k + length (taken s e) ≤ s.args.target.gates
within s e h = omega (arith, all_fit s, edges_most (edges_at s) (joins s) e (length s.args.entries.now / 2) h)

-- one edge more has room
next : (s : Start) (e : ℕ) → e < length s.args.entries.now / 2 → joins s e ≡ true → s.args.k + length (taken s e) + 1 ≤ s.args.target.gates
next s e h q = omega (arith, all_fit s, edge_room (edges_at s) (joins s) e (length s.args.entries.now / 2) h q)

pub loop-e-init : goal.loop-e-init
unfolding chain inverted_edges
loop-e-init c =
    (omega arith, omega arith, sym (gates_none _ _ _))

pub chain_end-left-requires : goal.chain_end-left-requires
chain_end-left-requires c =
    (c.requires.fits.base_to, omega (arith, c.loop-e.invariant.1), omega (arith, c.loop-e.invariant.1, within (goal.at.chain_end-left-requires c).Start _ c.loop-e.invariant.0, c.requires.fits))

pub put_gate-requires-clause-k_lt_gates : goal.put_gate-requires-clause-k_lt_gates
put_gate-requires-clause-k_lt_gates c =
    let s = (goal.at.put_gate-requires-clause-k_lt_gates c).Start in
    let t : joins s c.loop-e.e ≡ true = sym (c.is_chosen.ensures ∙ ap (chosen c.args.gathering.key c.args.i) c.read.ensures.0) ∙ c.if-is_chosen.true in (
      omega (arith, c.loop-e.invariant.1, next s c.loop-e.e c.loop-e-test.true t),
      omega (arith, c.chain_end-left.ensures.1),
      omega (arith, c.loop-e-test.true, c.requires.fits, c.requires.entries_bound),
    )

pub overflow_add-end : goal.overflow_add-end
overflow_add-end c = omega (arith, c.loop-e.invariant.1, within (goal.at.overflow_add-end c).Start _ c.loop-e.invariant.0, c.requires.fits)

pub loop-e-preserved : goal.loop-e-preserved
loop-e-preserved c =
    let s = (goal.at.loop-e-preserved c).Start in
    let e : ℕ = c.loop-e.e in
    let found : joins s e ≡ c.is_chosen.result = sym (c.is_chosen.ensures ∙ ap (chosen c.args.gathering.key c.args.i) c.read.ensures.0) in
    elim c.if-is_chosen.branch [
      | then-is_chosen w ↦
          let t : joins s e ≡ true = found ∙ w.if-is_chosen.true in (
            omega arith,
            w.end-is ∙ omega (arith, c.loop-e.invariant.1, taken_length (edges_at s) (joins s) e t),
            w.res-is
                ∙ w.put_gate.ensures
                ∙ chain_more c.args.target.gates c.args.target.base c.args.k c.args.res.now c.loop-e.res (taken s e) (taken s (e + 1)) c.loop-e.end
                _ (2 * (edges_at s + e) + 1) c.loop-e.invariant.2 c.loop-e.invariant.1 w.chain_end-left.ensures.0 (edge_taken (edges_at s) (joins s) e t)
                (omega (arith, c.loop-e.invariant.1, next s e c.loop-e-test.true t)) c.requires.fits.room,
          )
      | else-is_chosen w ↦
          let q = edge_passed (edges_at s) (joins s) e (found ∙ w.if-is_chosen.false) in (
            omega arith,
            w.end-is ∙ c.loop-e.invariant.1 ∙ ap (λ (rs : List ℕ). c.args.k + length rs) q,
            w.res-is ∙ c.loop-e.invariant.2 ∙ ap (λ (rs : List ℕ). gates_stored c.args.target.gates c.args.k c.args.res.now (chain (c.args.target.base + c.args.k) 1 rs)) q,
          )
    ]

pub returns : goal.returns
returns c =
    let s = (goal.at.returns c).Start in
    let e : c.loop-e.e ≡ length c.args.entries.now / 2 = omega (arith, c.loop-e-test.false) in
    let q = ap (taken s) e ∙ all_are s in record {
      gates = c.loop-e.invariant.2 ∙ ap (λ (rs : List ℕ). gates_stored c.args.target.gates c.args.k c.args.res.now (chain (c.args.target.base + c.args.k) 1 rs)) q;
      end = c.loop-e.invariant.1 ∙ ap (λ (rs : List ℕ). c.args.k + length rs) q;
    }
