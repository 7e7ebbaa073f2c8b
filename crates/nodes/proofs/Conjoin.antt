-- Laws of a turn of the recursive AND, whatever holds the records.
use mathlib.Core.Path.{◌≡◌, refl, sym, ap, ap₂, ◌∙◌, subst}
use mathlib.Core.Bool.{Bool, cond}
use mathlib.Core.Logic.{◌⊎◌, inl, inr, ⊎_elim, ◌≢◌}
use Prim.Native.Nat.{ℕ, suc, ◌+◌, ◌-◌, ◌≤◌, ◌<◌, min}
use native.Mathlib.Omega.{arith}
use lib.Dec.{eqb}
use Rattle.diagrams.specs.Diagrams.{Nodes, branch, Grown, conjunction}
use mathlib.Core.List.{List}
use Rattle.diagrams.specs.Making
use Rattle.diagrams.specs.Making.{Table, Known, Halved, Conjoined, Joined, no_id}
use Rattle.diagrams.proofs.Conjoining.{known_conjoined, unknown_node, low_levels, conjoined_none, high_ready, conjoined, conjoined_up, joined_grown}
use Rattle.nodes.specs.declared.Node.{Node}
use Rattle.nodes.specs.declared.Pair.{Pair}
use Rattle.nodes.specs.declared.Halves.{Halves}
use Rattle.nodes.specs.Nodes.{Shows, halves_of}
use Rattle.layered.proofs.Search.{below_or}

halved_by : (D : Nodes) (l : ℕ) (p : Pair) (x y : Node) → Shows D p.f x → Shows D p.g y → (h : Halves) → h ≡ halves_of x y l p → Halved D l p.f p.g h.low.f h.high.f h.low.g h.high.g
unfolding branch
halved_by D l p x y X Y h e = record {
  f_low_is = ap (λ h. h.low.f) e ∙ ap₂ (λ k z. cond (eqb k l) z p.f) X.level_is X.low_is;
  f_high_is = ap (λ h. h.high.f) e ∙ ap₂ (λ k z. cond (eqb k l) z p.f) X.level_is X.high_is;
  g_low_is = ap (λ h. h.low.g) e ∙ ap₂ (λ k z. cond (eqb k l) z p.g) Y.level_is Y.low_is;
  g_high_is = ap (λ h. h.high.g) e ∙ ap₂ (λ k z. cond (eqb k l) z p.g) Y.level_is Y.high_is;
}

-- what the AND of a pair does, as a function of the inputs from level l on
abbrev pub Anded : (N R l : ℕ) (D E : Nodes) → Pair → (r : ℕ) → Type 0
Anded N R l D E p r = Conjoined N R l D E p.f p.a p.g p.b r

module _ (N R left : ℕ) (p : Pair) (D : Nodes) (table : Table N R D) (room : R + 2 < no_id) (most : left ≤ N)
    (uf : suc N - left ≤ D.level p.f) (ug : suc N - left ≤ D.level p.g) where
  pub step_known : (r : ℕ) → Known p.f p.a p.g p.b r → r ≢ no_id → Anded N R (suc N - left) D D p r
  step_known r K n = known_conjoined N R (suc N - left) D table (omega arith) p.f p.a p.g p.b uf ug room r (omega arith) K n

  module _ (K : Known p.f p.a p.g p.b no_id) (x y : Node) (X : Shows D p.f x) (Y : Shows D p.g y) (l : ℕ) (l-is : l ≡ min x.level y.level) where
    -- the level is the higher of the two
    pub first_of : l ≤ D.level p.f
    first_of = omega (arith, l-is, X.level_is)

    pub second_of : l ≤ D.level p.g
    second_of = omega (arith, l-is, Y.level_is)

    pub one_of : (D.level p.f ≡ l) ⊎ (D.level p.g ≡ l)
    one_of = ⊎_elim (λ h. inl (omega (arith, l-is, X.level_is, Y.level_is))) (λ h. inr (omega (arith, l-is, X.level_is, Y.level_is))) (below_or x.level y.level)

    pub from_level : suc N - left ≤ l
    from_level = omega (arith, l-is, X.level_is, Y.level_is)

    pub to_level : l ≤ N
    to_level = ⊎_elim (λ h. omega (arith, first_of, table.reduced.inner p.f h)) (λ h. omega (arith, second_of, table.reduced.inner p.g h)) (unknown_node N R (suc N - left) D table (omega arith) p.f p.a p.g p.b uf ug room no_id K refl)

    level_pos : 0 < l
    level_pos = omega (arith, from_level)

    -- fewer levels are left
    pub left_falls : N - l < left
    left_falls = omega (arith, from_level, to_level)

    next : suc N - (N - l) ≡ suc l
    next = omega (arith, to_level)

    whole : (E : Nodes) (r : ℕ) → Anded N R l D E p r → Anded N R (suc N - left) D E p r
    whole E r C =
        let e : suc N - left + (l - (suc N - left)) ≡ l = omega (arith, from_level) in
        conjoined_up N R D E table p.f p.a p.g p.b r (l - (suc N - left)) (suc N - left) (omega arith) (omega (arith, to_level)) (omega (arith, first_of)) (omega (arith, second_of)) (subst (λ l. Anded N R l D E p r) (sym e) C)

    module _ (h : Halves) (h-is : h ≡ halves_of x y l p) where
      halved : Halved D l p.f p.g h.low.f h.high.f h.low.g h.high.g
      halved = halved_by D l p x y X Y h h-is

      flags : (h.low.a ≡ p.a) × (h.low.b ≡ p.b) × (h.high.a ≡ p.a) × (h.high.b ≡ p.b)
      flags = (ap (λ h. h.low.a) h-is, ap (λ h. h.low.b) h-is, ap (λ h. h.high.a) h-is, ap (λ h. h.high.b) h-is)

      pub low_levels_are : (suc N - (N - l) ≤ D.level h.low.f) × (suc N - (N - l) ≤ D.level h.low.g)
      low_levels_are =
          let u = low_levels N R l D table level_pos p.f p.a p.g p.b first_of second_of to_level h.low.f h.high.f h.low.g h.high.g halved in
          (omega (arith, u.0), omega (arith, u.1))

      module _ (C : Nodes) (low : ℕ) (L : Anded N R (suc N - (N - l)) D C h.low low) where
        L' : Conjoined N R (suc l) D C h.low.f p.a h.low.g p.b low
        L' = subst (λ a. Conjoined N R (suc l) D C h.low.f a h.low.g p.b low) flags.0 (subst (λ b. Conjoined N R (suc l) D C h.low.f h.low.a h.low.g b low) flags.1 (subst (λ k. Anded N R k D C h.low low) next L))

        pub step_none : low ≡ no_id → Anded N R (suc N - left) D C p low
        step_none e = whole C low (conjoined_none N R l D table level_pos p.f p.a p.g p.b first_of second_of to_level h.low.f h.high.f h.low.g h.high.g halved C low L' e)

        module _ (is : low ≢ no_id) where
          pub high_levels_are : (suc N - (N - l) ≤ C.level h.high.f) × (suc N - (N - l) ≤ C.level h.high.g)
          high_levels_are =
              let u = high_ready N R l D table level_pos p.f p.a p.g p.b first_of second_of to_level h.low.f h.high.f h.low.g h.high.g halved C low L' is in
              (omega (arith, u.0), omega (arith, u.1))

          module _ (E : Nodes) (high : ℕ) (H : Anded N R (suc N - (N - l)) C E h.high high) where
            H' : Conjoined N R (suc l) C E h.high.f p.a h.high.g p.b high
            H' = subst (λ a. Conjoined N R (suc l) C E h.high.f a h.high.g p.b high) flags.2 (subst (λ b. Conjoined N R (suc l) C E h.high.f h.high.a h.high.g b high) flags.3 (subst (λ k. Anded N R k C E h.high high) next H))

            joined_at : (G : Nodes) (r : ℕ) → Joined R E G l low high r → Anded N R l D G p r
            joined_at G r J = conjoined N R l D table level_pos p.f p.a p.g p.b first_of second_of to_level h.low.f h.high.f h.low.g h.high.g halved C low L' is E high H' room G r J

            pub step_joined : (G : Nodes) (r : ℕ) → Joined R E G l low high r → Anded N R (suc N - left) D G p r
            step_joined G r J = whole G r (joined_at G r J)

            -- what a cache may keep of it
            pub step_at : (G : Nodes) (r : ℕ) → Joined R E G l low high r → Anded N R l D G p r
            step_at G r J = joined_at G r J

            pub step_grown : (G : Nodes) (r : ℕ) → Joined R E G l low high r → r ≢ no_id → (H : List Bool → Bool) × Grown N l H E G
            step_grown G r J n = (
              conjunction D l p.f p.a p.g p.b,
              joined_grown N R l D table level_pos p.f p.a p.g p.b first_of second_of to_level h.low.f h.high.f h.low.g h.high.g halved C low L' is E high H' G r J n,
            )

            -- where the join is an id, so is the high half
            pub step_high : (G : Nodes) (r : ℕ) → Joined R E G l low high r → r ≢ no_id → high ≢ no_id
            step_high G r (Making.nothing e d) n = absurd (n d)
            step_high G r (Making.one n e d z) q = n
            step_high G r (Making.found n m z i j k) q = n
            step_high G r (Making.added n p two m z t P A) q = n
            step_high G r (Making.lacking n p d f t) q = n
