-- A turn of building, on lists: what making a signal may be asked, and what follows from what it says.
use mathlib.Core.Path.{◌≡◌, refl, sym, ap, ◌∙◌, subst}
use mathlib.Core.Bool.{Bool, cond}
use mathlib.Core.Logic.{◌⊎◌, inl, inr, ⊎_elim, ◌≢◌}
use mathlib.Core.List.{List}
use Prim.Native.Nat.{ℕ, suc, ◌+◌, ◌*◌, ◌-◌, ◌≤◌, ◌<◌}
use native.Mathlib.Omega.{arith}
use lib.Dec.{T, ltb, ltb→lt, lt→ltb}
use lib.ListN.{length, get_or, set, length-set}
use lib.Seq.{get_or-set_same, get_or-set_other}
use Rattle.sizes.specs.Limits.{most_bits}
use Rattle.circuit.specs.Limits.{most_signals}
use Rattle.circuit.specs.Circuit.{gates, lefts_at, rights_at, all_inputs, operand}
use Rattle.circuit.specs.WellFormed.{WellFormed}
use Rattle.circuit.specs.declared.Head.{Head}
use Rattle.diagrams.specs.Diagrams.{Nodes, Denotes}
use Rattle.diagrams.specs.Making.{Conjoined, Joined, no_id}
use Rattle.diagrams.specs.Theorems.{Holds}
use Rattle.diagrams.specs.Building.{Family, Built, first_over}
use Rattle.diagrams.specs.Counts.{nodes_of}
use Rattle.diagrams.proofs.Growth.{decide}
use Rattle.diagrams.proofs.Building.{Outcome, operand_level, built_none, built_few, built_over, outcome_built, input_outcome, gate_outcome, over_start, over_gate, over_none, nodes_grow}
use Rattle.functions.specs.Functions.{signal_on}
use Rattle.functions.specs.Theorems.{SignalsFamily}
use Rattle.functions.proofs.Signals.{signals_family}
use Rattle.circuit.proofs.Literals.{operand_before}
use Rattle.build.proofs.Laws.{is_input, is_and, number_input, number_gate}
use Rattle.nodes.specs.declared.Pair.{Pair}
use Rattle.nodes.specs.declared.Node.{Node}
use Rattle.layered.proofs.Search.{below_or}
use Rattle.records.specs.Records.{nodes_in}
use Rattle.conjoin.specs.Cache.{cache_length, Cached}
use Rattle.conjoin.proofs.Laws.{cached_kept, cached_none, cached_same}
use Rattle.build.specs.Build
use Rattle.build.specs.Build.{operands_in, origin_of, Makeable, Makes, Signals}
use Rattle.build.specs.declared.Origin.{Origin}
use Rattle.build.specs.declared.Origin.TheVariants.{Input, And}

-- ---- the ids of the first signals

pub same_built : (N M R : ℕ) (F : ℕ → List Bool → Bool) (D : Nodes) (ids vs : List ℕ) → ((i : ℕ) → i ≤ M → get_or vs i 0 ≡ get_or ids i 0) → Built N M R F D ids → Built N M R F D vs
unfolding Holds
same_built N M R F D ids vs e B = record {
  table = B.table;
  within = B.within;
  holds = λ s h. subst (λ f. (0 < D.level f) × Denotes N D 1 f (F s)) (sym (e (suc s) (omega arith))) (B.holds s h);
  false_is = e 0 (omega arith) ∙ B.false_is;
}

module _ (b : List ℕ) (h : Head) (W : WellFormed b h) where
  abbrev N : ℕ
  N = all_inputs b

  few : N ≤ most_bits
  few = W.headed.inputs_to

  family : Family N (gates b) (operand b (lefts_at b)) (operand b (rights_at b)) (signal_on b)
  unfolding SignalsFamily
  family = signals_family b h W

  -- nothing is built yet
  pub none_built : (R : ℕ) (ns : List Node) (ws : List ℕ) → (N < (nodes_in ns).level 0) × (N < (nodes_in ns).level 1) → ((f : ℕ) → 2 ≤ f → (nodes_in ns).level f ≡ 0) → ((i : ℕ) → get_or ws i 0 ≡ 0)
      → R ≤ length ns → R + 2 < no_id → most_signals + cache_length ≤ length ws → Signals b R 0 ns ws
  none_built R ns ws c z w l r sp =
      let B = built_none N R (signal_on b) (nodes_in ns) ws c z (w 0) in
      record { built = B; cached = cached_none N (nodes_in ns) most_signals ws B.table.reduced (λ i _. w i); within = l; room = r; space = sp }

  module _ (R s : ℕ) (ns : List Node) (ws : List ℕ) (S : Signals b R s ns ws) where
    -- all are built
    pub all_built : s ≡ N + gates b → gates b + 1 ≡ first_over N R (gates b) (signal_on b)
    all_built e = over_none N R (gates b) (signal_on b) (subst (λ s. nodes_of N s (signal_on b) ≤ R) e (built_few N s R (signal_on b) (nodes_in ns) ws S.built))

    module _ (inside : s < N + gates b) (m : Origin) (O : m ≡ origin_of b ws s) where
      an_input : (l : ℕ) → m ≡ Input l → (s < N) × (l ≡ s + 1)
      an_input l e = let t = is_input (ltb s N) l (s + 1) (operands_in b ws (s - N)) (sym e ∙ O) in (ltb→lt s N (subst T (sym t.0) tt), t.1)

      a_gate : (p : Pair) → m ≡ And p → (N ≤ s) × (p ≡ operands_in b ws (s - N))
      a_gate p e =
          let t = is_and (ltb s N) p (operands_in b ws (s - N)) (s + 1) (sym e ∙ O) in
          (⊎_elim (λ l. absurd (subst T t.0 (lt→ltb s N l))) (λ l. l) (below_or s N), t.1)

      signals_in : suc s < most_signals
      signals_in = omega (arith, few, W.headed.gates_to)

      module _ (g : ℕ) (at : s ≡ N + g) where
        gate_in_lem : g < gates b
        gate_in_lem = omega arith

        left_in : operand b (lefts_at b) g < 2 * suc s
        left_in = omega (arith, operand_before b (lefts_at b) g (1 + N + g) (W.legal.left g gate_in_lem) refl)

        right_in : operand b (rights_at b) g < 2 * suc s
        right_in = omega (arith, operand_before b (rights_at b) g (1 + N + g) (W.legal.right g gate_in_lem) refl)

      pub makeable : Makeable N R most_signals ns ws m
      makeable = record {
        kept = record { table = S.built.table; within = S.within; room = S.room };
        level = λ l e. omega (arith, an_input l e);
        pair = λ p e.
            let l = (a_gate p e).0 in
            let q : s ≡ N + (s - N) = omega arith in
            let n : suc N - N ≡ 1 = omega arith in
            let p = (a_gate p e).1 in
            record {
              kept = record { table = S.built.table; within = S.within; room = S.room };
              most = omega arith;
              small = omega (arith, few);
              first = subst (λ p. suc N - N ≤ (nodes_in ns).level p.f) (sym p) (omega (arith, operand_level N s R (signal_on b) (nodes_in ns) ws S.built (operand b (lefts_at b) (s - N)) (left_in (s - N) q)));
              second = subst (λ p. suc N - N ≤ (nodes_in ns).level p.g) (sym p) (omega (arith, operand_level N s R (signal_on b) (nodes_in ns) ws S.built (operand b (rights_at b) (s - N)) (right_in (s - N) q)));
              cached = S.cached;
              space = S.space;
              near = omega arith;
            };
      }

      module _ (r : ℕ) (es : List Node) (vs : List ℕ) (es-as : length es ≡ length ns) (vs-as : length vs ≡ length ws) (M : Makes N R most_signals m (nodes_in ns) (nodes_in es) ws vs r) where
        outcome : Makes N R most_signals m (nodes_in ns) (nodes_in es) ws vs r → Outcome N R 1 (signal_on b s) (nodes_in ns) (nodes_in es) r
        outcome (Build.an_input l e J d) =
            input_outcome N R (signal_on b) (gates b) (operand b (lefts_at b)) (operand b (rights_at b)) family (nodes_in ns) ws s (nodes_in es) r S.built S.room (an_input l e).0
            (subst (λ l. Joined R (nodes_in ns) (nodes_in es) l 0 1 r) (an_input l e).1 J)
        outcome (Build.an_and p e A) =
            let l = (a_gate p e).0 in
            let q : s ≡ N + (s - N) = omega arith in
            let p = (a_gate p e).1 in
            subst (λ s. Outcome N R 1 (signal_on b s) (nodes_in ns) (nodes_in es) r) (sym q)
            (gate_outcome N R (signal_on b) (gates b) (operand b (lefts_at b)) (operand b (rights_at b)) family (nodes_in ns) ws (s - N) (nodes_in es) r (subst (λ s. Built N s R (signal_on b) (nodes_in ns) ws) q S.built) (gate_in_lem (s - N) q)
            (operand b (lefts_at b) (s - N)) (operand b (rights_at b) (s - N)) refl refl (subst (λ t. operand b (lefts_at b) (s - N) < 2 * suc t) q (left_in (s - N) q)) (subst (λ t. operand b (rights_at b) (s - N) < 2 * suc t) q (right_in (s - N) q))
            (subst (λ p. Conjoined N R (suc N - N) (nodes_in ns) (nodes_in es) p.f p.a p.g p.b r) p A.and))

        same_before : Makes N R most_signals m (nodes_in ns) (nodes_in es) ws vs r → (i : ℕ) → i < most_signals → get_or vs i 0 ≡ get_or ws i 0
        same_before (Build.an_input k e J d) i l = ap (λ v. get_or v i 0) d
        same_before (Build.an_and p e A) i l = A.before i l

        still_cached : Makes N R most_signals m (nodes_in ns) (nodes_in es) ws vs r → r ≢ no_id → Cached N (nodes_in es) most_signals vs
        still_cached (Build.an_input l e J d) n =
            let G = ((outcome (Build.an_input l e J d)).made n).grown in
            subst (Cached N (nodes_in es) most_signals) (sym d) (cached_kept N 1 (signal_on b s) (nodes_in ns) (nodes_in es) most_signals ws S.built.table.reduced G S.cached)
        still_cached (Build.an_and p e A) n = A.still n

        -- one signal more is built
        pub more_built : r ≢ no_id → Signals b R (suc s) es (set vs (s + 1) r)
        more_built n =
            let O' = outcome M in
            let t : s + 1 ≡ suc s = omega arith in
            let B = outcome_built N R (signal_on b) (gates b) (operand b (lefts_at b)) (operand b (rights_at b)) family (nodes_in ns) ws s (s + 1) (suc s) (nodes_in es) r S.built t refl (omega (arith, signals_in, S.space)) O' n in
            record {
              built = same_built N (suc s) R (signal_on b) (nodes_in es) (set ws (s + 1) r) (set vs (s + 1) r) (λ i l. same_set i l (decide i (s + 1))) B;
              cached = cached_after n;
              within = omega (arith, S.within);
              room = S.room;
              space = omega (arith, S.space, length-set vs (s + 1) r);
            }
          where
            same_set : (i : ℕ) → i ≤ suc s → (i ≡ s + 1) ⊎ (i ≢ s + 1) → get_or (set vs (s + 1) r) i 0 ≡ get_or (set ws (s + 1) r) i 0
            same_set i l (inl e) =
                ap (λ i. get_or (set vs (s + 1) r) i 0) e ∙ get_or-set_same vs (s + 1) r 0 (omega (arith, signals_in, S.space)) ∙ sym (get_or-set_same ws (s + 1) r 0 (omega (arith, signals_in, S.space)))
                ∙ ap (λ i. get_or (set ws (s + 1) r) i 0) (sym e)
            same_set i l (inr d) = get_or-set_other vs (s + 1) i r 0 d ∙ same_before M i (omega (arith, signals_in)) ∙ sym (get_or-set_other ws (s + 1) i r 0 d)

            cached_after : r ≢ no_id → Cached N (nodes_in es) most_signals (set vs (s + 1) r)
            cached_after n = cached_same N (nodes_in es) most_signals vs (set vs (s + 1) r) (λ i l. get_or-set_other vs (s + 1) i r 0 (λ e. omega (arith, signals_in))) (still_cached M n)

        -- or the records are too few for it
        pub too_few : r ≡ no_id → cond (ltb s N) 0 (s - N + 1) ≡ first_over N R (gates b) (signal_on b)
        too_few e =
            let over : R < nodes_of N (suc s) (signal_on b) = built_over N s R (signal_on b) (nodes_in ns) ws S.built ((outcome M).full e) in
            ⊎_elim
            (λ l. sym (number_input s N l) ∙ over_start N R (gates b) (signal_on b) (omega (arith, over, nodes_grow N (suc s) N (signal_on b) l)))
            (λ l.
            let q : s ≡ N + (s - N) = omega arith in
            sym (number_gate s N l)
            ∙ over_gate N R (gates b) (signal_on b) (s - N) (omega arith) (subst (λ s. nodes_of N s (signal_on b) ≤ R) q (built_few N s R (signal_on b) (nodes_in ns) ws S.built)) (subst (λ t. R < nodes_of N (suc t) (signal_on b)) q over))
            (below_or s N)
