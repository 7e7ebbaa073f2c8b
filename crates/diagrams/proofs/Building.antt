-- Laws of building the diagrams of a circuit.
use mathlib.Core.Path.{◌≡◌, refl, sym, ap, ap₂, ◌∙◌, subst}
use mathlib.Core.Bool.{Bool, true, false, cond, not, ◌&&◌}
use mathlib.Core.Logic.{◌⊎◌, inl, inr, ◌≢◌}
use mathlib.Core.List.{List, ◌∷◌}
use Prim.Native.Nat.{ℕ, zero, suc, ◌+◌, ◌*◌, ◌-◌, ◌/◌, ◌%◌, ◌^◌, ◌≤◌, ◌<◌}
use native.Mathlib.Nat.{le_refl, mul-le-mul_right}
use native.Mathlib.Omega.{arith}
use lib.Dec.{T, eqb, ltb, ltb→lt, lt→ltb}
use lib.ListN.{length, get_or, set}
use lib.Seq.{get_or-set_same, get_or-set_other}
use Rattle.layered.specs.Search.{tally}
use Rattle.layered.proofs.Search.{tally_at_most, tally_le, tally_more, least_here, least_none}
use Rattle.layered.proofs.Lists.{total_mono}
use Rattle.diagrams.specs.Diagrams.{Nodes, value, Denotes, Cofactor, Grown, conjunction}
use Rattle.diagrams.specs.Making
use Rattle.diagrams.specs.Making.{Made, Overfull, Table, Laid, Joined, Conjoined, no_id}
use Rattle.diagrams.specs.Counts.{is_node, nodes_at, nodes_of}
use Rattle.diagrams.specs.Theorems.{used, Holds, Within}
use Rattle.diagrams.specs.Building.{signal, literal, Family, first_over, Built}
use Rattle.diagrams.proofs.Growth.{decide, value_kept, cofactor_kept, grown_none}
use Rattle.diagrams.proofs.Making.{made_same, made_down, overfull_same, overfull_down, made_found, made_added, made_lacking, low_under, constant_value}
use Rattle.diagrams.proofs.Probing.{table_added}
use Rattle.diagrams.proofs.Counted.{counted_fewer, counted_more}

-- ---- the outcome of making the function H from level l on

pub record Outcome (N R l : ℕ) (H : List Bool → Bool) (D E : Nodes) (r : ℕ) : Type 0 where
  pub table : r ≢ no_id → Table N R E
  pub made : r ≢ no_id → Made N l H D E r
  pub full : r ≡ no_id → Overfull N R l H D

outcome_down : (N R l : ℕ) → 0 < l → l ≤ N → (H J : List Bool → Bool) → ((v : Bool) (vs : List Bool) → length vs + suc l ≡ suc N → H (v ∷ vs) ≡ J vs)
    → (D E : Nodes) (r : ℕ) → Outcome N R (suc l) J D E r → Outcome N R l H D E r
outcome_down N R l p m H J b D E r O =
    record { table = O.table; made = λ n. made_down N l p m H J b D E r (O.made n); full = λ e. overfull_down N l p m H J b R D (O.full e) }

-- the AND is such a function
pub outcome_of_lem : (N R l : ℕ) (H : List Bool → Bool) (D E : Nodes) (f : ℕ) (a : Bool) (g : ℕ) (b : Bool) (r : ℕ)
    → ((vs : List Bool) → length vs + l ≡ suc N → conjunction D l f a g b vs ≡ H vs) → Conjoined N R l D E f a g b r → Outcome N R l H D E r
outcome_of_lem N R l H D E f a g b r s C =
    record { table = C.table; made = λ n. made_same N l _ H D E r s (C.made n); full = λ e. overfull_same N R l _ H D s (C.full e) }

-- ---- an input

module _ (N R : ℕ) (D : Nodes) (table : Table N R D) (room : R + 2 < no_id) where
  constant_made : (k r : ℕ) → 0 < k → k ≤ suc N → r < 2 → Made N k (λ vs. eqb r 1) D D r
  unfolding Denotes
  constant_made k r p m b = record { grown = grown_none N k _ D table.reduced; under = under r b; is = λ vs e. constant_value N D table.reduced vs k r b p e }
    where
      under : (r : ℕ) → r < 2 → k ≤ D.level r
      under zero b = omega (arith, table.reduced.constants)
      under (suc zero) b = omega (arith, table.reduced.constants)
      under (suc (suc r)) b = absurd (omega arith)

  module _ (l : ℕ) (pos : 0 < l) (most : l ≤ N) where
    low : Made N (suc l) (λ vs. get_or (false ∷ vs) 0 false) D D 0
    low = constant_made (suc l) 0 (omega arith) (omega arith) (omega arith)

    high : Made N (suc l) (λ vs. get_or (true ∷ vs) 0 false) D D 1
    high = constant_made (suc l) 1 (omega arith) (omega arith) (omega arith)

    -- a node of two constants
    input_node : (E : Nodes) (r : ℕ) → Joined R D E l 0 1 r → Outcome N R l (λ vs. get_or vs 0 false) D E r
    input_node E r (Making.nothing e d) = absurd (omega arith)
    input_node E r (Making.one n e d q) = absurd (omega arith)
    input_node E r (Making.found n b q i j k) =
        subst (λ E. Outcome N R l (λ vs. get_or vs 0 false) D E r) (sym q)
        (record { table = λ _. table; made = λ _. made_found N l pos most (λ vs. get_or vs 0 false) D D 0 low D 1 high r i j k; full = λ e. absurd (omega arith) })
    input_node E r (Making.added n p two b z t P A) = record {
      table = λ _. table_added N R D E r l 0 1 table A two b z pos most (low_under N l pos most (λ vs. get_or vs 0 false) D D 0 low D 1 high) high.under p t P;
      made = λ _. made_added N l pos most (λ vs. get_or vs 0 false) D D 0 low D 1 high p t E r A two z;
      full = λ e. absurd (omega arith);
    }
    input_node E r (Making.lacking n p d f t) = record {
      table = λ m. absurd (m d);
      made = λ m. absurd (m d);
      full = λ _. made_lacking N l pos most (λ vs. get_or vs 0 false) D D 0 low D 1 high p t R f table.below;
    }

  -- seen from level 1
  pub input_from : (s l : ℕ) → 0 < l → l + s ≤ N → (E : Nodes) (r : ℕ) → Joined R D E (l + s) 0 1 r → Outcome N R l (λ vs. get_or vs s false) D E r
  input_from zero l p m E r J = input_node l p (omega arith) E r (let e : l + 0 ≡ l = omega arith in subst (λ k. Joined R D E k 0 1 r) e J)
  input_from (suc s) l p m E r J =
      outcome_down N R l p (omega arith) (λ vs. get_or vs (suc s) false) (λ vs. get_or vs s false) (λ v vs e. refl) D E r
      (input_from s (suc l) (omega arith) (omega arith) E r (let e : l + suc s ≡ suc l + s = omega arith in subst (λ k. Joined R D E k 0 1 r) e J))

-- ---- one function more

all_taken : (p : ℕ → Bool) (n : ℕ) → ((i : ℕ) → i < n → T (p i)) → tally n p ≡ n
unfolding tally
all_taken p zero f = refl
all_taken p (suc n) f = omega (arith, tally_more p n (f n (le_refl _)), all_taken p n (λ i h. f i (omega arith)))

module _ (N M R : ℕ) (F : ℕ → List Bool → Bool) (D : Nodes) (ids : List ℕ) (B : Built N M R F D ids) where
  -- what a list that has grown by F M holds
  within_more : (E : Nodes) → Grown N 1 (F M) D E → Within N (suc M) F E
  unfolding Within
  within_more E G f t h = go (decide (D.level f) 0)
    where
      go : (D.level f ≡ 0) ⊎ (D.level f ≢ 0) → (s : ℕ) × (s < suc M) × Cofactor N E 1 (F s) f
      go (inl z) = (M, le_refl _, G.only f z h)
      go (inr n) =
          let w = B.within f t (omega arith) in
          (w.0, omega (arith, w.1), cofactor_kept N 1 (F M) D E B.table.reduced G 1 (F w.0) f (omega arith) w.2)

  pub built_more : (E : Nodes) (r : ℕ) → suc M < length ids → Table N R E → Made N 1 (F M) D E r → Built N (suc M) R F E (set ids (suc M) r)
  unfolding Holds Denotes
  built_more E r h T m = record {
    table = T;
    within = within_more E m.grown;
    holds = λ s b. go s b (decide s M);
    false_is = get_or-set_other ids (suc M) 0 r 0 (λ e. omega arith) ∙ B.false_is;
  }
    where
      go : (s : ℕ) → s < suc M → (s ≡ M) ⊎ (s ≢ M) → (0 < E.level (get_or (set ids (suc M) r) (suc s) 0)) × ((vs : List Bool) → length vs + 1 ≡ suc N → value E 1 vs (get_or (set ids (suc M) r) (suc s) 0) ≡ F s vs)
      go s b (inl e) =
          let q : get_or (set ids (suc M) r) (suc s) 0 ≡ r = ap (λ s. get_or (set ids (suc M) r) (suc s) 0) e ∙ get_or-set_same ids (suc M) r 0 h in
          (subst (λ f. 0 < E.level f) (sym q) m.under, λ vs d. ap (value E 1 vs) q ∙ m.is vs d ∙ ap (λ s. F s vs) (sym e))
      go s b (inr n) =
          let q : get_or (set ids (suc M) r) (suc s) 0 ≡ get_or ids (suc s) 0 = get_or-set_other ids (suc M) (suc s) r 0 (λ e. n (omega arith)) in
          let o = B.holds s (omega arith) in (
            subst (λ f. 0 < E.level f) (sym q) (omega (arith, m.grown.level_kept (get_or ids (suc s) 0) o.0, o.0)),
            λ vs d. ap (value E 1 vs) q ∙ value_kept N 1 (F M) D E B.table.reduced m.grown vs 1 (get_or ids (suc s) 0) (omega arith) d o.0 ∙ o.1 vs d,
          )

  -- the first M functions have no more nodes than there are records
  pub built_few : nodes_of N M F ≤ R
  unfolding used
  built_few = omega (arith, counted_fewer N M R F D B.table.reduced B.table.below (λ s. get_or ids (suc s) 0) B.holds, tally_at_most (λ i. ltb 0 (D.level (i + 2))) R)

  -- and where a node of F M has no room, one function more has more
  pub built_over : Overfull N R 1 (F M) D → R < nodes_of N (suc M) F
  unfolding used
  built_over O =
      let w = within_more O.nodes O.grown in
      omega (arith, counted_more N (suc M) (suc R) F O.nodes O.grown.reduced w, all_taken (λ i. ltb 0 (O.nodes.level (i + 2))) (suc R) (λ i h. lt→ltb 0 (O.nodes.level (i + 2)) (O.many (i + 2) (omega arith))))

-- ---- the first gate with too many nodes

pub nodes_grow : (N M K : ℕ) (F : ℕ → List Bool → Bool) → M ≤ K → nodes_of N M F ≤ nodes_of N K F
unfolding nodes_of nodes_at
nodes_grow N M K F h = total_mono N _ _ (λ k _. tally_le (is_node F k (N - suc k)) (M * 2 ^ k) (K * 2 ^ k) (mul-le-mul_right (2 ^ k) h))

module _ (N R G : ℕ) (F : ℕ → List Bool → Bool) where
  -- gate g is the first
  pub over_gate : (g : ℕ) → g < G → nodes_of N (N + g) F ≤ R → R < nodes_of N (suc (N + g)) F → g + 1 ≡ first_over N R G F
  unfolding first_over
  over_gate g h few l =
      let e : N + (g + 1) ≡ suc (N + g) = omega arith in
      sym (least_here (suc G) (g + 1) _ (omega arith) (lt→ltb R _ (subst (λ M. R < nodes_of N M F) (sym e) l))
      (λ k b t. omega (arith, ltb→lt R (nodes_of N (N + k) F) t, nodes_grow N (N + k) (N + g) F (omega arith))))

  -- none is
  pub over_none : nodes_of N (N + G) F ≤ R → G + 1 ≡ first_over N R G F
  unfolding first_over
  over_none few =
      let e : G + 1 ≡ suc G = omega arith in
      e ∙ sym (least_none (suc G) _ (λ k b t. omega (arith, ltb→lt R (nodes_of N (N + k) F) t, nodes_grow N (N + k) (N + G) F (omega arith))))

-- ---- a gate

module _ (N M R : ℕ) (F : ℕ → List Bool → Bool) (D : Nodes) (ids : List ℕ) (B : Built N M R F D ids) where
  -- the id of a signal
  operand : (s : ℕ) → s < suc M → (0 < D.level (get_or ids s 0)) × ((vs : List Bool) → length vs + 1 ≡ suc N → value D 1 vs (get_or ids s 0) ≡ signal F vs s)
  unfolding signal Holds Denotes
  operand zero h =
      let e = B.false_is in
      (subst (λ f. 0 < D.level f) (sym e) (omega (arith, B.table.reduced.constants)), λ vs d. ap (value D 1 vs) e ∙ constant_value N D B.table.reduced vs 1 0 (omega arith) (omega arith) d)
  operand (suc s) h = B.holds s (omega arith)

  pub operand_level : (p : ℕ) → p < 2 * suc M → 1 ≤ D.level (get_or ids (p / 2) 0)
  operand_level p h = (operand (p / 2) (omega arith)).0

  -- the AND of the ids is the AND of the literals
  pub operands : (p q : ℕ) → p < 2 * suc M → q < 2 * suc M → (vs : List Bool) → length vs + 1 ≡ suc N
      → conjunction D 1 (get_or ids (p / 2) 0) (eqb (p % 2) 1) (get_or ids (q / 2) 0) (eqb (q % 2) 1) vs ≡ literal F vs p && literal F vs q
  unfolding conjunction literal
  operands p q hp hq vs e =
      ap₂ (λ x y. cond (eqb (p % 2) 1) (not x) x && cond (eqb (q % 2) 1) (not y) y) ((operand (p / 2) (omega arith)).1 vs e) ((operand (q / 2) (omega arith)).1 vs e)

-- ---- no nodes yet

pub built_none : (N R : ℕ) (F : ℕ → List Bool → Bool) (D : Nodes) (ids : List ℕ) → (N < D.level 0) × (N < D.level 1) → ((f : ℕ) → 2 ≤ f → D.level f ≡ 0) → get_or ids 0 0 ≡ 0 → Built N 0 R F D ids
unfolding Laid Within Holds
built_none N R F D ids c none e = record {
  table = record {
    reduced = record {
      constants = c;
      inner = λ f t. omega (arith, none f t);
      lows = λ f t h. absurd (omega (arith, none f t));
      highs = λ f t h. absurd (omega (arith, none f t));
      differ = λ f t h. absurd (omega (arith, none f t));
      single = λ f g s t h. absurd (omega (arith, none f s));
    };
    below = below;
    laid = λ i h. absurd (omega (arith, none (i + 2) (omega arith)));
  };
  within = λ f t h. absurd (omega (arith, none f t));
  holds = λ s h. absurd (omega arith);
  false_is = e;
}
  where
    below : (f : ℕ) → 0 < D.level f → f < R + 2
    below zero h = omega arith
    below (suc zero) h = omega arith
    below (suc (suc f)) h = absurd (omega (arith, none (suc (suc f)) (omega arith)))

pub outcome_same : (N R l : ℕ) (H J : List Bool → Bool) (D E : Nodes) (r : ℕ) → ((vs : List Bool) → length vs + l ≡ suc N → H vs ≡ J vs) → Outcome N R l H D E r → Outcome N R l J D E r
outcome_same N R l H J D E r s O =
    record { table = O.table; made = λ n. made_same N l H J D E r s (O.made n); full = λ e. overfull_same N R l H J D s (O.full e) }

-- ---- an input more, and a gate more

module _ (N R : ℕ) (F : ℕ → List Bool → Bool) (G : ℕ) (left right : ℕ → ℕ) (family : Family N G left right F) (D : Nodes) (ids : List ℕ) where
  pub outcome_built : (M i k : ℕ) (E : Nodes) (r : ℕ) → Built N M R F D ids → i ≡ suc M → k ≡ suc M → i < length ids → Outcome N R 1 (F M) D E r → r ≢ no_id
      → Built N k R F E (set ids i r)
  outcome_built M i k E r B e d h O n =
      subst (λ i. Built N k R F E (set ids i r)) (sym e) (subst (λ k. Built N k R F E (set ids (suc M) r)) (sym d) (built_more N M R F D ids B E r (omega arith) (O.table n) (O.made n)))

  -- of input s
  pub input_outcome : (s : ℕ) (E : Nodes) (r : ℕ) → Built N s R F D ids → R + 2 < no_id → s < N → Joined R D E (s + 1) 0 1 r → Outcome N R 1 (F s) D E r
  input_outcome s E r B room h J =
      let e : s + 1 ≡ 1 + s = omega arith in
      outcome_same N R 1 (λ vs. get_or vs s false) (F s) D E r (λ vs d. sym (family.inputs s h vs (omega arith)))
      (input_from N R D B.table room s 1 (omega arith) (omega arith) E r (subst (λ k. Joined R D E k 0 1 r) e J))

  -- of gate g
  pub gate_outcome : (g : ℕ) (E : Nodes) (r : ℕ) → Built N (N + g) R F D ids → g < G → (p q : ℕ) → p ≡ left g → q ≡ right g → p < 2 * suc (N + g) → q < 2 * suc (N + g)
      → Conjoined N R (suc N - N) D E (get_or ids (p / 2) 0) (eqb (p % 2) 1) (get_or ids (q / 2) 0) (eqb (q % 2) 1) r → Outcome N R 1 (F (N + g)) D E r
  gate_outcome g E r B h p q ep eq hp hq C =
      let e : suc N - N ≡ 1 = omega arith in
      outcome_of_lem N R 1 (F (N + g)) D E _ _ _ _ r
      (λ vs d. operands N (N + g) R F D ids B p q hp hq vs d ∙ ap₂ (λ p q. literal F vs p && literal F vs q) ep eq ∙ sym (family.gates g h vs (omega arith)))
      (subst (λ l. Conjoined N R l D E (get_or ids (p / 2) 0) (eqb (p % 2) 1) (get_or ids (q / 2) 0) (eqb (q % 2) 1) r) e C)

-- the inputs alone have too many
pub over_start : (N R G : ℕ) (F : ℕ → List Bool → Bool) → R < nodes_of N N F → 0 ≡ first_over N R G F
unfolding first_over
over_start N R G F l =
    let e : N ≡ N + 0 = omega arith in
    sym (least_here (suc G) 0 _ (omega arith) (lt→ltb R _ (subst (λ M. R < nodes_of N M F) e l)) (λ k b. absurd (omega arith)))
