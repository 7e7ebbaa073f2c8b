-- A survey's stages, on lists: what each may be asked, and what follows from what it says. Assumes nothing.
use mathlib.Core.Path.{◌≡◌, refl, sym, ap, ap₂, ◌∙◌, subst}
use mathlib.Core.List.{List}
use Prim.Native.Nat.{ℕ, ◌+◌, ◌*◌, ◌-◌, ◌^◌, ◌≤◌}
use native.Mathlib.Omega.{arith}
use Rattle.std.specs.Prelude.{Ok, Err}
use Rattle.std.specs.Result.{IsErrAnd}
use Rattle.std.proofs.lemmas.Result.{err_from_is_err_and}
use Rattle.verdict.specs.declared.Refusal.{Refusal}
use Rattle.verdict.specs.declared.Refusal.TheVariants.{Nodes}
use lib.ListN.{length, replicate}
use Rattle.sizes.specs.Sizes.{inputs, outputs, frames}
use Rattle.circuit.specs.Circuit.{gates, all_inputs}
use Rattle.circuit.specs.WellFormed.{CircuitHeaded, HeadOf, WellFormed, Formed}
use Rattle.circuit.specs.Theorems.{response}
use Rattle.circuit.specs.declared.Head.{Head}
use Rattle.circuit.proofs.Accepted.{well_formed}
use Rattle.diagrams.specs.Building.{first_over}
use Rattle.functions.specs.Functions.{signal_on}
use Rattle.nodes.specs.declared.Node.{Node}
use Rattle.records.specs.Records.{none, nodes_in}
use Rattle.conjoin.specs.declared.Shape.{Shape}
use Rattle.build.specs.Build.{Signals, Buildable, Building}
use Rattle.build.proofs.Turn.{same_built}
use Rattle.explore.specs.Explore.{Explored, CountsTo, Explorable, Ended, Ends}
use Rattle.explore.specs.declared.Layout.{Layout}
use Rattle.explore.specs.declared.Cursor.{Cursor}
use Rattle.survey.specs.Survey.{Survey, ShapeOf, LayoutOf, subject_of, Surveyable, Known, Surveyed}
use Rattle.survey.proofs.Subject.{bits, frames_are, outputs_are, laid, startable, standing}

-- what holds of four numbers holds of their equals
moved : (P : ℕ → ℕ → ℕ → ℕ → Type 0) (n m T k n' m' T' k' : ℕ) → n ≡ n' → m ≡ m' → T ≡ T' → k ≡ k' → P n m T k → P n' m' T' k'
moved P n m T k n' m' T' k' e f g h p = subst (λ x. P x m' T' k') e (subst (λ x. P n x T' k') f (subst (λ x. P n m x k') g (subst (P n m T) h p)))

same_error : {f g : Refusal} → ◌≡◌ {A = Survey} (Err f) (Err g) → f ≡ g
same_error e = cc

module _ (b s ws : List ℕ) (P : Surveyable b s ws) where
  formed : Formed b
  formed = P.accepted.form

  pub headed : CircuitHeaded b
  headed = formed.head

  module _ (h : Head) (O : HeadOf b h) where
    well : WellFormed b h
    well = well_formed formed O

    pub shapeable : (1 ≤ h.base) × (h.base ≤ 17)
    shapeable = (omega (arith, O.base_is), omega (arith, O.base_is, headed.inputs_to))

    pub layable : (h.inputs ≤ 16) × (h.inputs * h.frames ≤ 16) × (h.total ≤ h.gates) × (h.gates ≤ 4352) × (h.base ≤ 17)
    unfolding all_inputs
    layable =
        let all : h.inputs * h.frames ≡ all_inputs b = ap₂ ◌*◌ O.inputs_is O.frames_is in
        (omega (arith, O.inputs_is, headed.sizes.inputs_to), omega (arith, all, headed.inputs_to), omega (arith, O.total_is, O.gates_is, headed.outputs_to), omega (arith, O.gates_is, headed.gates_to), shapeable.1)

    module _ (k : ℕ) (m : Shape) (S : ShapeOf h k m) where
      pub buildable : (ns : List Node) → length ns ≡ k → ns ≡ replicate k none → Buildable b h ns ws m
      buildable ns long e = record {
        formed = well;
        inputs_is = S.inputs_is ∙ omega (arith, O.base_is);
        cache_is = S.cache_is;
        within = omega (arith, S.room_is);
        room = omega (arith, S.room_is);
        empty = e ∙ ap (λ k. replicate k none) (sym long);
        zeros = P.zeros;
        space = omega (arith, P.space);
      }

      module _ (zs : List Node) (us : List ℕ) where
        -- the records are too few: nothing is explored
        pub refused : (f : Refusal) → Building b m.room zs us (Err f) → (a : Survey) → IsErrAnd a (λ y. y ≡ f) → Surveyed b k zs s s us a
        refused f B a is =
            let e = err_from_is_err_and a is in
            let few = subst (λ R. (f ≡ Nodes (first_over (all_inputs b) R (gates b) (signal_on b))) × (first_over (all_inputs b) R (gates b) (signal_on b) ≤ gates b)) S.room_is (B.short f refl) in
            record { short = λ g q. (same_error (sym q ∙ e.1) ∙ e.2 ∙ few.0, few.1); whole = λ cs q. absurd (apart (sym q ∙ e.1)); beyond = λ j _. refl }
          where
            apart : {cs : List ℕ} {g : Refusal} → ◌≡◌ {A = Survey} (Ok cs) (Err g) → ⊥
            apart e = cc

        -- they are enough
        module _ (u : Unit {0}) (B : Building b m.room zs us (Ok u)) where
          signals : Signals b m.room (all_inputs b + gates b) zs us
          signals = (B.whole u refl).1

          module _ (y : Layout) (L : LayoutOf h y) (long : length us ≡ length ws) where
            half_is : y.half ≡ (2 ^ inputs b) ^ frames b
            half_is = (laid b h well y L).half_is ∙ ap₂ ◌^◌ ((laid b h well y L).fan_is ∙ ap (λ n. 2 ^ n) (bits b h well y L)) (frames_are b h well y L)

            pub explorable : Explorable y zs s us
            explorable = record {
              subject = subject_of b zs us;
              startable = startable b h well y L P.accepted m.room zs us signals.built s (omega (arith, half_is, P.room)) (omega (arith, long, P.space)) (λ j i. P.clean j (omega (arith, i, half_is)));
              diagrams = refl;
              standing = standing b h well y L P.accepted m.room zs us signals.built signals.within signals.room;
            }

            module _ (t vs : List ℕ) (c : Cursor) (E : Ends y zs s t us vs c) where
              ended : Ended y (subject_of b zs us) s t us vs c
              unfolding explorable
              ended = E (subject_of b zs us) explorable.startable refl

              in_b : (P : ℕ → ℕ → ℕ → ℕ → Type 0) → P y.bits y.outputs y.frames y.half → P (inputs b) (outputs b) (frames b) ((2 ^ inputs b) ^ frames b)
              in_b P = moved P y.bits y.outputs y.frames y.half (inputs b) (outputs b) (frames b) ((2 ^ inputs b) ^ frames b) (bits b h well y L) (outputs_are b h well y L) (frames_are b h well y L) half_is

              known : (counts : List ℕ) → counts ≡ c.counts → Known b m.room zs t vs counts
              known counts e = record {
                built = same_built (all_inputs b) (all_inputs b + gates b) m.room (signal_on b) (nodes_in zs) us vs (λ i l. ended.before i (omega (arith, l, L.columns_is, headed.inputs_to, headed.gates_to))) signals.built;
                within = signals.within;
                room = signals.room;
                explored = in_b (λ n o T k. Explored n o T (response b) k t (T - 1)) ended.explored;
                counted = subst (λ cs. CountsTo (inputs b) (outputs b) (frames b) (response b) cs (frames b - 1)) (sym e) (in_b (λ n o T k. CountsTo n o T (response b) c.counts (T - 1)) ended.counted);
              }

              pub surveyed : Surveyed b k zs s t vs (Ok c.counts)
              surveyed = record {
                short = λ f q. cc;
                whole = λ cs q. (subst (λ R. first_over (all_inputs b) R (gates b) (signal_on b) ≡ gates b + 1) S.room_is (B.whole u refl).0, subst (λ R. Known b R zs t vs cs) S.room_is (known cs (same_counts (sym q))));
                beyond = λ j l. ended.beyond j (omega (arith, l, half_is));
              }
                where
                  same_counts : {x y : List ℕ} → ◌≡◌ {A = Survey} (Ok x) (Ok y) → x ≡ y
                  same_counts e = cc
