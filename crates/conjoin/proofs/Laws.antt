-- Laws of the cache.
use mathlib.Core.Path.{◌≡◌, refl, sym, ap, ◌∙◌, subst}
use mathlib.Core.Bool.{Bool, false}
use mathlib.Core.Logic.{◌⊎◌, inl, inr, ◌≢◌}
use mathlib.Core.List.{List}
use Prim.Native.Nat.{ℕ, ◌+◌, ◌*◌, ◌≤◌, ◌<◌}
use native.Mathlib.Omega.{arith}
use lib.ListN.{get_or}
use Rattle.std.specs.Prelude.{Some}
use Rattle.std.proofs.lemmas.Option.{same_Some}
use Rattle.diagrams.specs.Diagrams.{Nodes, Reduced, Grown}
use Rattle.diagrams.specs.Caching.{AndIs, flags_of}
use Rattle.diagrams.proofs.Growth.{decide}
use Rattle.diagrams.proofs.Caching.{flags_apart, and_kept, and_none}
use Rattle.nodes.specs.declared.Pair.{Pair}
use Rattle.conjoin.specs.Cache
use Rattle.conjoin.specs.Cache.{Cached, Slot, Looked, KeptIn}

-- true entries stay true when the list grows
pub cached_kept : (N k : ℕ) (H : List Bool → Bool) (D E : Nodes) (c : ℕ) (ws : List ℕ) → Reduced N D → Grown N k H D E → Cached N D c ws → Cached N E c ws
unfolding Cached
cached_kept N k H D E c ws red G C i h a b e = and_kept N k H D E red G _ a _ b _ (C i h a b e)

-- what is found is the AND
pub looked_and : (N : ℕ) (D : Nodes) (c : ℕ) (ws : List ℕ) (s : ℕ) (p : Pair) (r : ℕ) → Cached N D c ws → Slot c s → Looked ws s p (Some r) → AndIs N D p.f p.a p.g p.b r
unfolding Cached
looked_and N D c ws s p r C S (Cache.hit x y z q) =
    let at : (j : ℕ) → get_or ws (s + j) 0 ≡ get_or ws (c + 4 * S.entry + j) 0 = λ j. ap (λ s. get_or ws (s + j) 0) S.is in
    let at₀ : get_or ws s 0 ≡ get_or ws (c + 4 * S.entry) 0 = ap (λ s. get_or ws s 0) S.is in
    subst (λ r. AndIs N D p.f p.a p.g p.b r) (sym (same_Some _ _ q ∙ at 3))
    (subst (λ f. AndIs N D f p.a p.g p.b (get_or ws (c + 4 * S.entry + 3) 0)) (sym at₀ ∙ x)
    (subst (λ g. AndIs N D (get_or ws (c + 4 * S.entry) 0) p.a g p.b (get_or ws (c + 4 * S.entry + 3) 0)) (sym (at 1) ∙ y) (C S.entry S.small p.a p.b (sym (at 2) ∙ z))))
looked_and N D c ws s p r C S (Cache.missed q) = cc

-- an AND may be kept at any place
pub cached_set : (N : ℕ) (D : Nodes) (c : ℕ) (ws vs : List ℕ) (s : ℕ) (p : Pair) (r : ℕ) → Cached N D c ws → Slot c s → KeptIn ws vs s p r → AndIs N D p.f p.a p.g p.b r → Cached N D c vs
unfolding Cached
cached_set N D c ws vs s p r C S K A j l x y q = go (decide j S.entry)
  where
    go : (j ≡ S.entry) ⊎ (j ≢ S.entry) → AndIs N D (get_or vs (c + 4 * j) 0) x (get_or vs (c + 4 * j + 1) 0) y (get_or vs (c + 4 * j + 3) 0)
    go (inl z) =
        let at : c + 4 * j ≡ s = omega (arith, S.is) in
        let to : (i : ℕ) → get_or vs (c + 4 * j + i) 0 ≡ get_or vs (s + i) 0 = λ i. ap (λ s. get_or vs (s + i) 0) at in
        let t = flags_apart p.a p.b x y (sym (K.flags) ∙ sym (to 2) ∙ q) in
        subst (λ f. AndIs N D f x (get_or vs (c + 4 * j + 1) 0) y (get_or vs (c + 4 * j + 3) 0)) (sym (ap (λ s. get_or vs s 0) at ∙ K.first))
        (subst (λ g. AndIs N D p.f x g y (get_or vs (c + 4 * j + 3) 0)) (sym (to 1 ∙ K.second))
        (subst (λ r. AndIs N D p.f x p.g y r) (sym (to 3 ∙ K.result))
        (subst (λ x. AndIs N D p.f x p.g y r) t.0 (subst (λ y. AndIs N D p.f p.a p.g y r) t.1 A))))
    go (inr d) =
        let e : (i : ℕ) → i < 4 → get_or vs (c + 4 * j + i) 0 ≡ get_or ws (c + 4 * j + i) 0 = λ i h. K.else_is (c + 4 * j + i) (λ m. omega (arith, S.is, d, m)) in
        let e₀ : get_or vs (c + 4 * j) 0 ≡ get_or ws (c + 4 * j) 0 = K.else_is (c + 4 * j) (λ m. omega (arith, S.is, d, m)) in
        subst (λ f. AndIs N D f x (get_or vs (c + 4 * j + 1) 0) y (get_or vs (c + 4 * j + 3) 0)) (sym e₀)
        (subst (λ g. AndIs N D (get_or ws (c + 4 * j) 0) x g y (get_or vs (c + 4 * j + 3) 0)) (sym (e 1 (omega arith)))
        (subst (λ r. AndIs N D (get_or ws (c + 4 * j) 0) x (get_or ws (c + 4 * j + 1) 0) y r) (sym (e 3 (omega arith))) (C j l x y (sym (e 2 (omega arith)) ∙ q))))

-- a cache of zeros is true
pub cached_none : (N : ℕ) (D : Nodes) (c : ℕ) (ws : List ℕ) → Reduced N D → ((i : ℕ) → c ≤ i → get_or ws i 0 ≡ 0) → Cached N D c ws
unfolding Cached flags_of
cached_none N D c ws red zero i h a b e =
    let z : flags_of false false ≡ 0 = refl in
    let s = flags_apart false false a b (z ∙ sym (zero (c + 4 * i + 2) (omega arith)) ∙ e) in
    subst (λ f. AndIs N D f a (get_or ws (c + 4 * i + 1) 0) b (get_or ws (c + 4 * i + 3) 0)) (sym (zero (c + 4 * i) (omega arith)))
    (subst (λ g. AndIs N D 0 a g b (get_or ws (c + 4 * i + 3) 0)) (sym (zero (c + 4 * i + 1) (omega arith)))
    (subst (λ r. AndIs N D 0 a 0 b r) (sym (zero (c + 4 * i + 3) (omega arith))) (subst (λ a. AndIs N D 0 a 0 b 0) s.0 (subst (λ b. AndIs N D 0 false 0 b 0) s.1 (and_none N D red)))))

-- the cache alone counts
pub cached_same : (N : ℕ) (D : Nodes) (c : ℕ) (ws vs : List ℕ) → ((i : ℕ) → c ≤ i → get_or vs i 0 ≡ get_or ws i 0) → Cached N D c ws → Cached N D c vs
unfolding Cached
cached_same N D c ws vs e C j l x y q =
    subst (λ f. AndIs N D f x (get_or vs (c + 4 * j + 1) 0) y (get_or vs (c + 4 * j + 3) 0)) (sym (e (c + 4 * j) (omega arith)))
    (subst (λ g. AndIs N D (get_or ws (c + 4 * j) 0) x g y (get_or vs (c + 4 * j + 3) 0)) (sym (e (c + 4 * j + 1) (omega arith)))
    (subst (λ r. AndIs N D (get_or ws (c + 4 * j) 0) x (get_or ws (c + 4 * j + 1) 0) y r) (sym (e (c + 4 * j + 3) (omega arith))) (C j l x y (sym (e (c + 4 * j + 2) (omega arith)) ∙ q))))
