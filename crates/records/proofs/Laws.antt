-- Laws of records as nodes.
use mathlib.Core.Path.{◌≡◌, sym, ap, ◌∙◌}
use mathlib.Core.Logic.{◌⊎◌, inl, inr, ⊎_elim, ◌≢◌}
use mathlib.Core.List.{List}
use Prim.Native.Nat.{ℕ, zero, suc, ◌-◌, ◌≤◌, ◌<◌}
use native.Mathlib.Omega.{arith}
use lib.Dec.{ltb, ltb→lt, lt→ltb}
use lib.ListN.{length, get_or, set}
use lib.Seq.{get_or-set_same, get_or-set_other}
use Rattle.diagrams.specs.Making.{Added}
use Rattle.diagrams.proofs.Laws.{cond_no, cond_yes}
use Rattle.diagrams.proofs.Growth.{decide}
use Rattle.nodes.specs.declared.Node.{Node}
use Rattle.nodes.specs.Nodes.{Shows}
use Rattle.records.specs.Records.{none, node_of, nodes_in}

-- the node of a record
pub of_record : (ns : List Node) (f : ℕ) → 2 ≤ f → node_of ns f ≡ get_or ns (f - 2) none
unfolding node_of
of_record ns f h = cond_no (record { level = 4294967295; low = 0; high = 0 }) (get_or ns (f - 2) none) (ltb f 2) (λ t. omega (arith, ltb→lt f 2 t))

pub of_constant : (ns : List Node) (f : ℕ) → f < 2 → node_of ns f ≡ record { level = 4294967295; low = 0; high = 0 }
unfolding node_of
of_constant ns f h = cond_yes (record { level = 4294967295; low = 0; high = 0 }) (get_or ns (f - 2) none) (ltb f 2) (lt→ltb f 2 h)

pub shows_of : (ns : List Node) (f : ℕ) (x : Node) → x ≡ node_of ns f → Shows (nodes_in ns) f x
unfolding nodes_in
shows_of ns f x d = record { level_is = ap (λ x. x.level) d; low_is = ap (λ x. x.low) d; high_is = ap (λ x. x.high) d }

-- a record that is stored
module _ (ns : List Node) (i : ℕ) (x : Node) (two : 2 ≤ i) (h : i - 2 < length ns) where
  stored_here : node_of (set ns (i - 2) x) i ≡ x
  stored_here = of_record (set ns (i - 2) x) i two ∙ get_or-set_same ns (i - 2) x none h

  stored_else : (f : ℕ) → f ≢ i → node_of (set ns (i - 2) x) f ≡ node_of ns f
  stored_else f n = ⊎_elim
      (λ b. of_constant (set ns (i - 2) x) f b ∙ sym (of_constant ns f b))
      (λ b. of_record (set ns (i - 2) x) f b ∙ get_or-set_other ns (i - 2) (f - 2) x none (λ e. n (omega arith)) ∙ sym (of_record ns f b))
      (small f)
    where
      small : (f : ℕ) → (f < 2) ⊎ (2 ≤ f)
      small zero = inl (omega arith)
      small (suc zero) = inl (omega arith)
      small (suc (suc f)) = inr (omega arith)

  pub stored_added : Added (nodes_in ns) (nodes_in (set ns (i - 2) x)) i x.level x.low x.high
  unfolding nodes_in
  stored_added = record {
    here_level = ap (λ x. x.level) stored_here;
    here_low = ap (λ x. x.low) stored_here;
    here_high = ap (λ x. x.high) stored_here;
    else_level = λ f n. ap (λ x. x.level) (stored_else f n);
    else_low = λ f n. ap (λ x. x.low) (stored_else f n);
    else_high = λ f n. ap (λ x. x.high) (stored_else f n);
  }

  -- where it stands already, nothing changes
  pub stored_same : (nodes_in ns).level i ≡ x.level → (nodes_in ns).low i ≡ x.low → (nodes_in ns).high i ≡ x.high → nodes_in (set ns (i - 2) x) ≡ nodes_in ns
  unfolding nodes_in
  stored_same a b c =
      let here : node_of ns i ≡ x = λ k. record { level = a k; low = b k; high = c k } in
      let each : (f : ℕ) → node_of (set ns (i - 2) x) f ≡ node_of ns f = λ f. ⊎_elim (λ e. ap (node_of (set ns (i - 2) x)) e ∙ stored_here ∙ sym here ∙ ap (node_of ns) (sym e)) (stored_else f) (decide f i) in
      λ k. record { level = λ f. (each f k).level; low = λ f. (each f k).low; high = λ f. (each f k).high }
