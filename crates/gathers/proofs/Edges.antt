-- Laws of gather chains: one edge more, and how many there are. Assumes nothing.
use mathlib.Core.Path.{◌≡◌, sym, ap, ◌∙◌}
use mathlib.Core.Bool.{Bool, true, false}
use mathlib.Core.List.{List, [], ◌∷◌, ◌++◌, append-nil}
use Prim.Native.Nat.{ℕ, ◌+◌, ◌*◌, ◌/◌, ◌≤◌, ◌<◌}
use native.Mathlib.Numerals.{add-one}
use native.Mathlib.Omega.{arith}
use lib.ListN.{length, length-append}
use Rattle.words.specs.Words.{word_at}
use Rattle.layered.proofs.Search.{tally_le}
use Rattle.unfolded.specs.Unfolded.{inverted_edges}
use Rattle.unfolded.proofs.Counts.{edges_length}
use Rattle.chains.specs.declared.Target.{Target}
use Rattle.gathers.specs.Gathers.{chosen, gather_edges}
use Rattle.gathers.specs.declared.Key.{Key}
use Rattle.gathers.specs.declared.Gathering.{Gathering}

-- which edges chain i gathers
abbrev pub belongs : Key → List ℕ → (i e : ℕ) → Bool
belongs key entries i e = chosen key i (word_at entries (2 * e))

module _ (at : ℕ) (test : ℕ → Bool) where
  pub edge_taken : (e : ℕ) → test e ≡ true → inverted_edges at test e ++ ((2 * (at + e) + 1) ∷ []) ≡ inverted_edges at test (e + 1)
  unfolding inverted_edges
  edge_taken e h = rw (add-one e, h)

  pub edge_passed : (e : ℕ) → test e ≡ false → inverted_edges at test e ≡ inverted_edges at test (e + 1)
  unfolding inverted_edges
  edge_passed e h = rw (add-one e, h) (sym (append-nil (inverted_edges at test e)))

  -- one edge is one gate more
  pub taken_length : (e : ℕ) → test e ≡ true → length (inverted_edges at test (e + 1)) ≡ length (inverted_edges at test e) + 1
  taken_length e h = ap length (sym (edge_taken e h)) ∙ length-append (inverted_edges at test e) _

  -- the edges so far are no more than all
  pub edges_most : (e c : ℕ) → e ≤ c → length (inverted_edges at test e) ≤ length (inverted_edges at test c)
  edges_most e c h = omega (arith, edges_length at test e, edges_length at test c, tally_le test e c h)

  pub edge_room : (e c : ℕ) → e < c → test e ≡ true → length (inverted_edges at test e) + 1 ≤ length (inverted_edges at test c)
  edge_room e c h q = omega (arith, taken_length e q, edges_most (e + 1) c (omega arith))

-- all edges
pub all_edges : (target : Target) (g : Gathering) (entries : List ℕ) (i c : ℕ) → c ≡ length entries / 2
    → inverted_edges (target.base + g.edges) (belongs g.key entries i) c ≡ gather_edges target g entries i
unfolding gather_edges
all_edges target g entries i c e = rw e
