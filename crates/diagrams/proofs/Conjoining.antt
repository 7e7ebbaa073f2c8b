-- Laws of the recursive AND.
use mathlib.Core.Path.{◌≡◌, refl, sym, ap, ap₂, ◌∙◌, subst}
use mathlib.Core.Bool.{Bool, true, false, cond, not, ◌&&◌}
use mathlib.Core.Logic.{◌⊎◌, ◌≢◌}
use mathlib.Core.List.{List, ◌∷◌}
use Prim.Native.Nat.{ℕ, zero, suc, ◌+◌, ◌≤◌, ◌<◌}
use native.Mathlib.Omega.{arith}
use lib.Dec.{eqb}
use lib.ListN.{length}
use Rattle.diagrams.specs.Diagrams.{Nodes, value, Reduced, Denotes, Grown, conjunction}
use Rattle.diagrams.specs.Making
use Rattle.diagrams.specs.Making.{Made, Table, no_id, Joined, Known, Halved, Conjoined}
use Rattle.diagrams.proofs.Laws.{branch_below}
use Rattle.diagrams.proofs.Growth.{grown_none, added_grown}
use Rattle.diagrams.proofs.Making.{made_same, made_down, overfull_same, overfull_down, overfull_low, overfull_high, low_under, low_is, made_one, made_found, made_added, made_lacking, constant_value, conjunction_past, conjunction_kept}
use Rattle.diagrams.proofs.Probing.{table_added}

-- ---- what is known at once

-- a literal of a constant
literal : Bool → Bool → Bool
literal a x = cond a (not x) x

literal_false : (f : ℕ) (a : Bool) → f ≡ cond a 1 0 → (f < 2) × (literal a (eqb f 1) ≡ false)
unfolding literal
literal_false f true e = (omega arith, ap (λ f. not (eqb f 1)) e)
literal_false f false e = (omega arith, ap (λ f. eqb f 1) e)

literal_true : (f : ℕ) (a : Bool) → f < 2 → f ≢ cond a 1 0 → literal a (eqb f 1) ≡ true
unfolding literal
literal_true zero true b n = refl
literal_true zero false b n = absurd (n refl)
literal_true (suc zero) true b n = absurd (n refl)
literal_true (suc zero) false b n = refl
literal_true (suc (suc f)) a b n = absurd (omega arith)

false_second : (x : Bool) → x && false ≡ false
false_second true = refl
false_second false = refl

true_second : (x : Bool) → x && true ≡ x
true_second true = refl
true_second false = refl

opposites : (a b x : Bool) → a ≢ b → literal a x && literal b x ≡ false
unfolding literal
opposites true true x n = absurd (n refl)
opposites true false true n = refl
opposites true false false n = refl
opposites false true true n = refl
opposites false true false n = refl
opposites false false x n = absurd (n refl)

self : (x : Bool) → x && x ≡ x
self true = refl
self false = refl

module _ (N R l : ℕ) (D : Nodes) (table : Table N R D) (pos : 0 < l) (f : ℕ) (a : Bool) (g : ℕ) (b : Bool) (uf : l ≤ D.level f) (ug : l ≤ D.level g) where
  red : Reduced N D
  red = table.reduced

  -- an id that is there, and is the AND
  there_already : (r : ℕ) → r ≢ no_id → l ≤ D.level r → Denotes N D l r (conjunction D l f a g b) → Conjoined N R l D D f a g b r
  there_already r n u d = record { table = λ _. table; made = λ _. record { grown = grown_none N l _ D table.reduced; under = u; is = d }; full = λ e. absurd (n e) }

  constant_under : (r : ℕ) → r < 2 → l ≤ suc N → l ≤ D.level r
  constant_under zero b m = omega (arith, table.reduced.constants)
  constant_under (suc zero) b m = omega (arith, table.reduced.constants)
  constant_under (suc (suc r)) b m = absurd (omega arith)

  -- an id that is there is not the answer for none
  module _ (room : R + 2 < no_id) where
    is_id : (r h : ℕ) → r ≡ h → 0 < D.level h → r ≢ no_id
    is_id r h e u d = omega (arith, table.below h u)

    pub known_conjoined : (r : ℕ) → l ≤ suc N → Known f a g b r → r ≢ no_id → Conjoined N R l D D f a g b r
    unfolding Denotes conjunction literal
    known_conjoined r e (Making.first_false d z) n =
        let q = literal_false f a d in
        there_already r n (subst (λ r. l ≤ D.level r) (sym z) (constant_under 0 (omega arith) (omega arith)))
        (λ vs m.
        ap (value D l vs) z ∙ constant_value N D table.reduced vs l 0 (omega arith) pos m
        ∙ sym (ap (λ x. literal a x && literal b (value D l vs g)) (constant_value N D table.reduced vs l f q.0 pos m) ∙ ap (λ x. x && literal b (value D l vs g)) q.1))
    known_conjoined r e (Making.second_false d z) n =
        let q = literal_false g b d in
        there_already r n (subst (λ r. l ≤ D.level r) (sym z) (constant_under 0 (omega arith) (omega arith)))
        (λ vs m.
        ap (value D l vs) z ∙ constant_value N D table.reduced vs l 0 (omega arith) pos m
        ∙ sym (ap (λ x. literal a (value D l vs f) && literal b x) (constant_value N D table.reduced vs l g q.0 pos m) ∙ ap (λ x. literal a (value D l vs f) && x) q.1 ∙ false_second (literal a (value D l vs f))))
    known_conjoined r e (Making.both_true nf ng cf cg d) n =
        there_already r n (subst (λ r. l ≤ D.level r) (sym d) (constant_under 1 (omega arith) (omega arith)))
        (λ vs m.
        ap (value D l vs) d ∙ constant_value N D table.reduced vs l 1 (omega arith) pos m
        ∙ sym (ap₂ (λ x y. literal a x && literal b y) (constant_value N D table.reduced vs l f cf pos m) (constant_value N D table.reduced vs l g cg pos m)
        ∙ ap₂ (λ x y. x && y) (literal_true f a cf nf) (literal_true g b cg ng)))
    known_conjoined r e (Making.first_true nf c z d) n =
        there_already r n (subst (λ r. l ≤ D.level r) (sym d) ug)
        (λ vs m.
        ap (value D l vs) d
        ∙ sym (ap₂ (λ x b. literal a x && literal b (value D l vs g)) (constant_value N D table.reduced vs l f c pos m) z ∙ ap (λ x. x && value D l vs g) (literal_true f a c nf)))
    known_conjoined r e (Making.second_true ng c z d) n =
        there_already r n (subst (λ r. l ≤ D.level r) (sym d) uf)
        (λ vs m.
        ap (value D l vs) d
        ∙ sym (ap₂ (λ x a. literal a (value D l vs f) && literal b x) (constant_value N D table.reduced vs l g c pos m) z ∙ ap (λ x. value D l vs f && x) (literal_true g b c ng) ∙ true_second (value D l vs f)))
    known_conjoined r e (Making.opposite d z q) n =
        there_already r n (subst (λ r. l ≤ D.level r) (sym q) (constant_under 0 (omega arith) (omega arith)))
        (λ vs m.
        ap (value D l vs) q ∙ constant_value N D table.reduced vs l 0 (omega arith) pos m
        ∙ sym (ap (λ f. literal a (value D l vs f) && literal b (value D l vs g)) d ∙ opposites a b (value D l vs g) z))
    known_conjoined r e (Making.same d z y q) n =
        there_already r n (subst (λ r. l ≤ D.level r) (sym q) uf)
        (λ vs m.
        ap (value D l vs) q
        ∙ sym (ap₂ (λ a b. literal a (value D l vs f) && literal b (value D l vs g)) z y ∙ ap (λ g. value D l vs f && value D l vs g) (sym d) ∙ self (value D l vs f)))
    known_conjoined r e (Making.unknown z d) n = absurd (n d)

    -- where it is not known, one of the two is no constant
    pub unknown_node : (r : ℕ) → Known f a g b r → r ≡ no_id → (2 ≤ f) ⊎ (2 ≤ g)
    unknown_node r (Making.first_false d z) e = absurd (omega arith)
    unknown_node r (Making.second_false d z) e = absurd (omega arith)
    unknown_node r (Making.both_true nf ng cf cg d) e = absurd (omega arith)
    unknown_node r (Making.first_true nf c z d) e = absurd (is_id r g d (omega arith) e)
    unknown_node r (Making.second_true ng c z d) e = absurd (is_id r f d (omega arith) e)
    unknown_node r (Making.opposite d z q) e = absurd (omega arith)
    unknown_node r (Making.same d z y q) e = absurd (is_id r f q (omega arith) e)
    unknown_node r (Making.unknown z d) e = z

  -- ---- the two halves

  module _ (most : l ≤ N) (fl fh gl gh : ℕ) (halved : Halved D l f g fl fh gl gh) where
    pub low_levels : (l < D.level fl) × (l < D.level gl)
    low_levels =
        (subst (λ f. l < D.level f) (sym halved.f_low_is) (branch_below N D table.reduced l f false pos most uf), subst (λ f. l < D.level f) (sym halved.g_low_is) (branch_below N D table.reduced l g false pos most ug))

    high_levels : (l < D.level fh) × (l < D.level gh)
    high_levels =
        (subst (λ f. l < D.level f) (sym halved.f_high_is) (branch_below N D table.reduced l f true pos most uf), subst (λ f. l < D.level f) (sym halved.g_high_is) (branch_below N D table.reduced l g true pos most ug))

    module _ (C : Nodes) (x : ℕ) (low : Conjoined N R (suc l) D C fl a gl b x) where
      low_half : (vs : List Bool) → length vs + suc l ≡ suc N → conjunction D (suc l) fl a gl b vs ≡ conjunction D l f a g b (false ∷ vs)
      unfolding conjunction value
      low_half vs e = ap₂ (λ f g. conjunction D (suc l) f a g b vs) halved.f_low_is halved.g_low_is

      -- there are too few records
      pub conjoined_none : x ≡ no_id → Conjoined N R l D C f a g b x
      conjoined_none e = record {
        table = λ n. absurd (n e);
        made = λ n. absurd (n e);
        full = λ _. overfull_low N R l (conjunction D l f a g b) D (overfull_same N R (suc l) _ _ D low_half (low.full e));
      }

      -- the low half is made
      module _ (is : x ≢ no_id) where
        low_made : Made N (suc l) (λ vs. conjunction D l f a g b (false ∷ vs)) D C x
        low_made = made_same N (suc l) _ _ D C x low_half (low.made is)

        pub high_ready : (l < C.level fh) × (l < C.level gh)
        high_ready =
            let h = high_levels in
            let k = (low.made is).grown in
            (omega (arith, k.level_kept fh (omega arith)), omega (arith, k.level_kept gh (omega arith)))

        module _ (E : Nodes) (y : ℕ) (high : Conjoined N R (suc l) C E fh a gh b y) where
          high_half : (vs : List Bool) → length vs + suc l ≡ suc N → conjunction C (suc l) fh a gh b vs ≡ conjunction D l f a g b (true ∷ vs)
          unfolding conjunction value
          high_half vs e =
              let h = high_levels in
              conjunction_kept N (suc l) _ D C table.reduced (low.made is).grown (suc l) fh a gh b (omega arith) (omega arith) (omega arith) vs e
              ∙ ap₂ (λ f g. conjunction D (suc l) f a g b vs) halved.f_high_is halved.g_high_is

          high_made : y ≢ no_id → Made N (suc l) (λ vs. conjunction D l f a g b (true ∷ vs)) C E y
          high_made n = made_same N (suc l) _ _ C E y high_half (high.made n)

          -- what is needed to join the two
          pub join_ready : y ≢ no_id → (Table N R E) × (l < E.level x) × (l < E.level y)
          join_ready n = (high.table n, low_under N l pos most (conjunction D l f a g b) D C x low_made E y (high_made n), (high_made n).under)

          pub conjoined : (room : R + 2 < no_id) (G : Nodes) (r : ℕ) → Joined R E G l x y r → Conjoined N R l D G f a g b r
          conjoined room G r (Making.nothing e d) = record {
            table = λ n. absurd (n d);
            made = λ n. absurd (n d);
            full = λ _. overfull_high N l pos most (conjunction D l f a g b) D C x low_made R (overfull_same N R (suc l) _ _ C high_half (high.full e));
          }
          conjoined room G r (Making.one n e d q) =
              subst (λ G. Conjoined N R l D G f a g b r) (sym q)
              (record {
                table = λ _. high.table n;
                made = λ _. subst (Made N l (conjunction D l f a g b) D E) (sym d) (made_one N l pos most (conjunction D l f a g b) D C x low_made E y (high_made n) e);
                full = λ z. absurd (n (sym d ∙ z));
              })
          conjoined room G r (Making.found n m q i j k) =
              subst (λ G. Conjoined N R l D G f a g b r) (sym q)
              (record {
                table = λ _. high.table n;
                made = λ _. made_found N l pos most (conjunction D l f a g b) D C x low_made E y (high_made n) r i j k;
                full = λ z. absurd (omega arith);
              })
          conjoined room G r (Making.added n p two m z t P A) =
              let J = join_ready n in
              record {
                table = λ _. table_added N R E G r l x y J.0 A two m z pos most J.1 J.2 p t P;
                made = λ _. made_added N l pos most (conjunction D l f a g b) D C x low_made E y (high_made n) p t G r A two z;
                full = λ z. absurd (omega arith);
              }
          conjoined room G r (Making.lacking n p d full t) = record {
            table = λ n. absurd (n d);
            made = λ n. absurd (n d);
            full = λ _. made_lacking N l pos most (conjunction D l f a g b) D C x low_made E y (high_made n) p t R full (high.table n).below;
          }

          -- the list that was joined to has grown
          pub joined_grown : (G : Nodes) (r : ℕ) → Joined R E G l x y r → r ≢ no_id → Grown N l (conjunction D l f a g b) E G
          joined_grown G r (Making.nothing e d) q = absurd (q d)
          joined_grown G r (Making.one n e d z) q = subst (Grown N l (conjunction D l f a g b) E) (sym z) (grown_none N l _ E (high.table n).reduced)
          joined_grown G r (Making.found n m z i j k) q = subst (Grown N l (conjunction D l f a g b) E) (sym z) (grown_none N l _ E (high.table n).reduced)
          joined_grown G r (Making.added n p two m z t P A) q =
              let J = join_ready n in
              added_grown N E G J.0.reduced r l x y A two z pos most J.1 J.2 p t (conjunction D l f a g b) (low_is N l pos most (conjunction D l f a g b) D C x low_made E y (high_made n)) (high_made n).is
          joined_grown G r (Making.lacking n p d f t) q = absurd (q d)

-- ---- seen from a level above

module _ (N R : ℕ) (D E : Nodes) (table : Table N R D) (f : ℕ) (a : Bool) (g : ℕ) (b : Bool) (r : ℕ) where
  one_up : (l : ℕ) → 0 < l → l ≤ N → l < D.level f → l < D.level g → Conjoined N R (suc l) D E f a g b r → Conjoined N R l D E f a g b r
  one_up l pos most uf ug C =
      let both : (v : Bool) (vs : List Bool) → length vs + suc l ≡ suc N → conjunction D l f a g b (v ∷ vs) ≡ conjunction D (suc l) f a g b vs = λ v vs e.
      conjunction_past N D table.reduced l f a g b (λ d. omega arith) (λ d. omega arith) v vs in
      record {
        table = C.table;
        made = λ m. made_down N l pos most (conjunction D l f a g b) (conjunction D (suc l) f a g b) both D E r (C.made m);
        full = λ e. overfull_down N l pos most (conjunction D l f a g b) (conjunction D (suc l) f a g b) both R D (C.full e);
      }

  -- no node of f or g stands between
  pub conjoined_up : (j l : ℕ) → 0 < l → l + j ≤ suc N → l + j ≤ D.level f → l + j ≤ D.level g → Conjoined N R (l + j) D E f a g b r → Conjoined N R l D E f a g b r
  conjoined_up zero l pos most uf ug C = let e : l + 0 ≡ l = omega arith in subst (λ l. Conjoined N R l D E f a g b r) e C
  conjoined_up (suc j) l pos most uf ug C =
      let e : l + suc j ≡ suc l + j = omega arith in
      one_up l pos (omega arith) (omega arith) (omega arith)
      (conjoined_up j (suc l) (omega arith) (omega arith) (omega arith) (omega arith) (subst (λ l. Conjoined N R l D E f a g b r) e C))
