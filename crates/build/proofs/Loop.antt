-- Building as a loop over the signals, on lists: how it begins, goes on and ends.
use mathlib.Core.Path.{◌≡◌, refl, sym, ap, ◌∙◌, subst}
use mathlib.Core.Bool.{cond}
use mathlib.Core.Logic.{⊎_elim, ◌≢◌}
use mathlib.Core.List.{List}
use Prim.Native.Nat.{ℕ, zero, suc, ◌+◌, ◌-◌, ◌≤◌, ◌<◌}
use native.Mathlib.Omega.{arith}
use Rattle.std.specs.Prelude.{Result, Ok, Err}
use Rattle.verdict.specs.declared.Refusal.{Refusal}
use Rattle.verdict.specs.declared.Refusal.TheVariants.{Nodes as TooManyNodes}
use Rattle.diagrams.specs.Building.{first_over}
use Rattle.functions.specs.Functions.{signal_on}
use lib.Dec.{ltb}
use lib.ListN.{length, get_or, set, replicate, length-set}
use Rattle.circuit.specs.Limits.{most_signals}
use Rattle.circuit.specs.Circuit.{gates, all_inputs}
use Rattle.circuit.specs.declared.Head.{Head}
use Rattle.diagrams.specs.Making.{no_id}
use Rattle.nodes.specs.declared.Node.{Node}
use Rattle.layered.proofs.Search.{below_or}
use Rattle.records.specs.Records.{none, nodes_in}
use Rattle.records.proofs.Laws.{of_record, of_constant}
use Rattle.conjoin.specs.declared.Shape.{Shape}
use Rattle.build.specs.Build.{origin_of, Makeable, Makes, Signals, Buildable, Building}
use Rattle.build.specs.declared.Origin.{Origin}
use Rattle.build.proofs.Laws.{number_input, number_gate}
use Rattle.build.proofs.Turn.{makeable, more_built, too_few, all_built, none_built}

-- ---- an empty list
none_there : (n i : ℕ) → get_or (replicate n none) i none ≡ none
none_there zero i = refl
none_there (suc n) zero = refl
none_there (suc n) (suc i) = none_there n i

module _ (ns : List Node) where
  constant_level : (f : ℕ) → f < 2 → (nodes_in ns).level f ≡ 4294967295
  unfolding nodes_in
  constant_level f h = ap (λ x. x.level) (of_constant ns f h)

  empty_level : ns ≡ replicate (length ns) none → (f : ℕ) → 2 ≤ f → (nodes_in ns).level f ≡ 0
  unfolding nodes_in
  empty_level e f h = ap (λ x. x.level) (of_record ns f h ∙ ap (λ ns. get_or ns (f - 2) none) e ∙ none_there (length ns) (f - 2))

told : (x y : Refusal) → ◌≡◌ {A = Result (Unit {0}) Refusal} (Err x) (Err y) → y ≡ x
told x y e = cc

-- ---- a turn: the first s signals are built, in lists as long as the first
pub record Turning (b : List ℕ) (R n n' s : ℕ) (zs : List Node) (us : List ℕ) : Type 0 where
  pub most : s ≤ all_inputs b + gates b
  pub signals : Signals b R s zs us
  pub nodes_as : length zs ≡ n
  pub work_as : length us ≡ n'

module _ (b : List ℕ) (h : Head) (ns : List Node) (ws : List ℕ) (m : Shape) (P : Buildable b h ns ws m) where
  abbrev N : ℕ
  N = all_inputs b

  abbrev pub At : ℕ → List Node → List ℕ → Type 0
  At = Turning b m.room (length ns) (length ws)

  -- the number of signals, as the code has it
  pub count_is : h.base - 1 + h.gates ≡ N + gates b
  count_is = omega (arith, P.formed.head_is.base_is, P.formed.head_is.gates_is)

  pub count_few : N + gates b < most_signals
  count_few = omega (arith, P.formed.headed.inputs_to, P.formed.headed.gates_to)

  pub begins : At 0 ns ws
  begins = record {
    most = omega arith;
    signals = none_built b h P.formed m.room ns ws (omega (arith, constant_level ns 0 (omega arith), P.formed.headed.inputs_to), omega (arith, constant_level ns 1 (omega arith), P.formed.headed.inputs_to)) (empty_level ns P.empty) P.zeros P.within P.room P.space;
    nodes_as = refl;
    work_as = refl;
  }

  module _ (s : ℕ) (zs : List Node) (us : List ℕ) (t : At s zs us) where
    pub ends : N + gates b ≤ s → Building b m.room zs us (Ok tt)
    ends over =
        let q : s ≡ N + gates b = omega (arith, t.most) in
        record { short = λ f e. cc; whole = λ u e. (sym (all_built b h P.formed m.room s zs us t.signals q), subst (λ s. Signals b m.room s zs us) q t.signals) }

    module _ (less : s < N + gates b) where
      pub inside : (s + 1 < length us) × (s < 4294967296)
      inside = (omega (arith, count_few, t.signals.space), omega (arith, count_few))

      module _ (o : Origin) (O : o ≡ origin_of b us s) where
        pub can : Makeable m.inputs m.room m.cache zs us o
        can = subst (λ N. Makeable N m.room m.cache zs us o) (sym P.inputs_is) (subst (λ c. Makeable N m.room c zs us o) (sym P.cache_is) (makeable b h P.formed m.room s zs us t.signals less o O))

        module _ (r : ℕ) (es : List Node) (vs : List ℕ) (es-as : length es ≡ length ns) (vs-as : length vs ≡ length ws) (M : Makes m.inputs m.room m.cache o (nodes_in zs) (nodes_in es) us vs r) where
          es_zs : length es ≡ length zs
          es_zs = es-as ∙ sym t.nodes_as

          vs_us : length vs ≡ length us
          vs_us = vs-as ∙ sym t.work_as

          made : Makes N m.room most_signals o (nodes_in zs) (nodes_in es) us vs r
          made = subst (λ N. Makes N m.room most_signals o (nodes_in zs) (nodes_in es) us vs r) P.inputs_is (subst (λ c. Makes m.inputs m.room c o (nodes_in zs) (nodes_in es) us vs r) P.cache_is M)

          pub goes_on : r ≢ no_id → At (s + 1) es (set vs (s + 1) r)
          goes_on n =
              let q : suc s ≡ s + 1 = omega arith in
              record {
                most = omega arith;
                signals = subst (λ s'. Signals b m.room s' es (set vs (s + 1) r)) q (more_built b h P.formed m.room s zs us t.signals less o O r es vs es_zs vs_us made n);
                nodes_as = es-as;
                work_as = length-set vs (s + 1) r ∙ vs-as;
              }

          pub stops : r ≡ no_id → (k : ℕ) → k ≡ cond (ltb s m.inputs) 0 (s - m.inputs + 1) → Building b m.room es vs (Err (TooManyNodes k))
          stops e k d =
              let c : k ≡ cond (ltb s N) 0 (s - N + 1) = d ∙ ap (λ N. cond (ltb s N) 0 (s - N + 1)) P.inputs_is in
              let f : k ≡ first_over N m.room (gates b) (signal_on b) = c ∙ too_few b h P.formed m.room s zs us t.signals less o O r es vs es_zs vs_us made e in
              let few : k ≤ gates b = ⊎_elim (λ l. omega (arith, c, number_input s N l)) (λ l. omega (arith, c, number_gate s N l)) (below_or s N) in
              record {
                short = λ x q. (told (TooManyNodes k) x q ∙ ap {B = Refusal} (λ k. TooManyNodes k) f, omega (arith, f, few));
                whole = λ u q. cc;
              }
