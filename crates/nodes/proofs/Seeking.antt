-- Laws of the search for a record, whatever holds the records.
use mathlib.Core.Path.{◌≡◌, refl, sym, ap, ◌∙◌, subst}
use mathlib.Core.Bool.{Bool, true, false}
use mathlib.Core.Logic.{◌⊎◌, inl, inr, ⊎_elim, ◌≢◌}
use Rattle.std.specs.Prelude.{Option, None, Some}
use Prim.Native.Nat.{ℕ, suc, ◌+◌, ◌-◌, ◌≤◌, ◌<◌}
use native.Mathlib.Nat.{mod-lt}
use native.Mathlib.Omega.{arith}
use Rattle.diagrams.specs.Diagrams.{Nodes}
use Rattle.diagrams.specs.Making
use Rattle.diagrams.specs.Making.{home, place, Laid, Sought, Joined, Added, no_id}
use Rattle.diagrams.proofs.Probing.{Other, Passed, passed_more, sought_free, sought_end, place_is}
use Rattle.nodes.specs.declared.Node.{Node}
use Rattle.nodes.specs.Nodes.{Stops, Shows, SoughtId, next_id}
use Rattle.nodes.proofs.Laws.{scaled_below, next_is}

pub home_below : (R l x y : ℕ) → 0 < R → home R l x y < R
unfolding home
home_below R l x y h = scaled_below _ R (mod-lt _ (omega arith)) h

module _ (R : ℕ) (D : Nodes) (l p q : ℕ) (j at : ℕ) (x : Node) (is : at ≡ place R (home R l p q) j) (shows : Shows D (at + 2) x) (passed : Passed R D l p q j) where
  -- the search goes on
  pub goes_on : Stops x l p q false → Passed R D l p q (suc j)
  unfolding Other
  goes_on s =
      let n = s.no refl in
      passed_more R D l p q j passed
      (subst (Other R D l p q) is
      (omega (arith, shows.level_is, n.0), λ a b c. n.1 (shows.level_is ∙ a) (shows.low_is ∙ b) (shows.high_is ∙ c)))

  -- or ends
  pub ends_here : Laid R D → 0 < l → j < R → at < R → Stops x l p q true → Sought R D l p q at
  ends_here laid pos h b s = ⊎_elim
      (λ z. subst (Sought R D l p q) (sym is) (sought_free R D l p q laid pos j h passed (ap (λ i. D.level (i + 2)) (sym is) ∙ sym shows.level_is ∙ z) (omega arith)))
      (λ e. Making.there b (sym shows.level_is ∙ e.0) (sym shows.low_is ∙ e.1) (sym shows.high_is ∙ e.2))
      (s.yes refl)

-- the record is put where the search ended
pub joined_found : (R : ℕ) (D E : Nodes) (l x y at r : ℕ) → y ≢ no_id → x ≢ y → r ≡ at + 2 → at ≢ R → Sought R D l x y at
    → (D.level (at + 2) ≡ l → D.low (at + 2) ≡ x → D.high (at + 2) ≡ y → E ≡ D) → Added D E (at + 2) l x y → Joined R D E l x y r
joined_found R D E l x y at r n d e m (Making.there b i j k) same A =
    subst (Joined R D E l x y) (sym e) (Making.found n (omega arith) (same i j k) i j k)
joined_found R D E l x y at r n d e m (Making.free b z a P) same A =
    let w : at ≡ at + 2 - 2 = omega arith in
    subst (Joined R D E l x y) (sym e) (Making.added n d (omega arith) (omega arith) z a (subst (Making.Path R D (home R l x y)) w P) A)
joined_found R D E l x y at r n d e m (Making.no_room z f a) same A = absurd (m z)

-- or there is no room
pub joined_lacking : (R : ℕ) (D E : Nodes) (l x y at : ℕ) → y ≢ no_id → x ≢ y → at ≡ R → Sought R D l x y at → Joined R D E l x y no_id
joined_lacking R D E l x y at n d e (Making.there b i j k) = absurd (omega arith)
joined_lacking R D E l x y at n d e (Making.free b z a P) = absurd (omega arith)
joined_lacking R D E l x y at n d e (Making.no_room z f a) = Making.lacking n d refl f a

-- what is found lies inside
pub sought_inside : (R : ℕ) (D : Nodes) (l x y at : ℕ) → at ≢ R → Sought R D l x y at → at < R
sought_inside R D l x y at n (Making.there b i j k) = b
sought_inside R D l x y at n (Making.free b z a P) = b
sought_inside R D l x y at n (Making.no_room z f a) = absurd (n z)

-- ---- the search by ids

-- the id after a place is that of the next place
pub next_place : (R h j i : ℕ) → h < R → suc j < R → i ≡ place R h j + 2 → next_id R i ≡ place R h (suc j) + 2
next_place R h j i a b e = go (place_is R h j) (place_is R h (suc j)) (next_is R i)
  where
    go : ((h + j < R) × (place R h j ≡ h + j)) ⊎ ((R ≤ h + j) × (place R h j ≡ h + j - R)) → ((h + suc j < R) × (place R h (suc j) ≡ h + suc j)) ⊎ ((R ≤ h + suc j) × (place R h (suc j) ≡ h + suc j - R))
        → ((i + 1 < R + 2) × (next_id R i ≡ i + 1)) ⊎ ((R + 2 ≤ i + 1) × (next_id R i ≡ 2)) → next_id R i ≡ place R h (suc j) + 2
    go (inl p) (inl q) (inl r) = omega arith
    go (inl p) (inl q) (inr r) = absurd (omega arith)
    go (inl p) (inr q) (inl r) = absurd (omega arith)
    go (inl p) (inr q) (inr r) = omega arith
    go (inr p) (inl q) r = absurd (omega arith)
    go (inr p) (inr q) (inl r) = omega arith
    go (inr p) (inr q) (inr r) = absurd (omega arith)

module _ (R : ℕ) (D : Nodes) (l p q : ℕ) (laid : Laid R D) (pos : 0 < l) (small : R + 2 < no_id) where
  module _ (j : ℕ) (b : j < R) (id : ℕ) (id_is : id ≡ place R (home R l p q) j + 2) where
    place_in : place R (home R l p q) j < R
    place_in = ⊎_elim (λ e. omega (arith, e)) (λ e. omega (arith, e, home_below R l p q (omega arith))) (place_is R (home R l p q) j)

    pub id_in : (2 ≤ id) × (id < R + 2)
    id_in = (omega arith, omega (arith, place_in))

    -- the search moves on
    pub id_next : suc j < R → next_id R id ≡ place R (home R l p q) (suc j) + 2
    id_next c = next_place R (home R l p q) j id (home_below R l p q (omega arith)) c id_is

    module _ (x : Node) (shows : Shows D id x) (passed : Passed R D l p q j) where
      at_is : id - 2 ≡ place R (home R l p q) j
      at_is = omega (arith, id_is)

      shown : Shows D (id - 2 + 2) x
      shown = let e : id ≡ id - 2 + 2 = omega (arith, id_is) in subst (λ f. Shows D f x) e shows

      pub id_goes_on : (t : Bool) → Stops x l p q t → t ≡ false → Passed R D l p q (suc j)
      id_goes_on t s e = goes_on R D l p q j (id - 2) x at_is shown passed (subst (Stops x l p q) e s)

      pub id_ends : (t : Bool) → Stops x l p q t → t ≡ true → SoughtId R D l p q (Some id)
      id_ends t s e = record {
        none_is = λ z. cc;
        one_is = λ i e'. subst (λ i. (2 ≤ i) × (i < R + 2) × Sought R D l p q (i - 2)) (some-is e')
            (id_in.0, id_in.1, ends_here R D l p q j (id - 2) x at_is shown passed laid pos b (omega (arith, id_in)) (subst (Stops x l p q) e s));
      }
        where
          some-is : {i : ℕ} → ◌≡◌ {A = Option ℕ} (Some id) (Some i) → id ≡ i
          some-is e = cc

  pub id_none : (j : ℕ) → j ≡ R → Passed R D l p q j → SoughtId R D l p q None
  id_none j e passed = record {
    none_is = λ _. sought_end R D l p q laid pos (subst (Passed R D l p q) e passed) (home_below R l p q);
    one_is = λ i e. cc;
  }

-- ---- the join by ids

pub join_one : (R : ℕ) (D E : Nodes) (l x y : ℕ) → y ≢ no_id → x ≢ y → (id : ℕ) → SoughtId R D l x y (Some id)
    → (D.level id ≡ l → D.low id ≡ x → D.high id ≡ y → E ≡ D) → Added D E id l x y → Joined R D E l x y id
join_one R D E l x y n d id s same A =
    let o = s.one_is id refl in
    let w : id ≡ id - 2 + 2 = omega (arith, o.0) in
    joined_found R D E l x y (id - 2) id n d w (λ z. omega (arith, o.0, o.1)) o.2
    (subst (λ id. D.level id ≡ l → D.low id ≡ x → D.high id ≡ y → E ≡ D) w same) (subst (λ id. Added D E id l x y) w A)
