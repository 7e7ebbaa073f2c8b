-- Laws of buckets: a walk along the bucket of a candidate's hash finds the first that is the same. Assumes nothing.
use mathlib.Core.Path.{◌≡◌, refl, sym, ap, ◌∙◌, subst}
use mathlib.Core.Bool.{Bool, true, false, cond}
use mathlib.Core.Logic.{◌⊎◌, inl, inr, ⊎_elim}
use mathlib.Core.List.{List}
use Prim.Native.Nat.{ℕ, zero, suc, ◌+◌, ◌-◌, ◌≤◌, ◌<◌, zero-le}
use native.Mathlib.Nat.{le_refl}
use native.Mathlib.Numerals.{add-one}
use native.Mathlib.Omega.{arith}
use lib.Dec.{T, eqb, eqb→eq, eqb_refl}
use lib.ListN.{length, get_or, set, replicate, length-set, length-replicate, get_or-replicate}
use lib.Seq.{get_or-set_same, get_or-set_other}
use Rattle.layered.proofs.Search.{case, both, eq-eqb, below_suc}
use Rattle.diagrams.specs.Numbering.{first_same, is_new}
use Rattle.refine.specs.Limits.{bucket_count, link_count}
use Rattle.refine.specs.Buckets.{latest, in_bucket, bucket, Linked}
use Rattle.diagrams.proofs.Numbering.{new_own}
use Rattle.refine.proofs.Numbers.{Transitive, first_new, first_found, none_first}

-- ---- the latest of which a test holds

module _ (p : ℕ → Bool) where
  latest_here : (n : ℕ) → T (p n) → latest (suc n) p ≡ suc n
  unfolding latest
  latest_here n t = go (p n) t
    where
      go : (b : Bool) → T b → cond b (suc n) (latest n p) ≡ suc n
      go true t = refl
      go false t = absurd t

  latest_past : (n : ℕ) → (T (p n) → ⊥) → latest (suc n) p ≡ latest n p
  unfolding latest
  latest_past n f = go (p n) f
    where
      go : (b : Bool) → (T b → ⊥) → cond b (suc n) (latest n p) ≡ latest n p
      go true f = absurd (f tt)
      go false f = refl

  -- what it is: no more than n, p holds of the number before it, and of none from it to n
  record Latest (n x : ℕ) : Type 0 where
    pub below : x ≤ n
    pub holds : 0 < x → T (p (x - 1))
    pub none : (i : ℕ) → x ≤ i → i < n → T (p i) → ⊥

  latest_is : (n : ℕ) → Latest n (latest n p)
  unfolding latest
  latest_is zero = record { below = zero-le; holds = λ l. absurd (omega arith); none = λ i l b t. omega arith }
  latest_is (suc n) = go (latest_is n) (case (p n))
    where
      go : Latest n (latest n p) → T (p n) ⊎ (T (p n) → ⊥) → Latest (suc n) (latest (suc n) p)
      go L (inl t) =
          let e : n ≡ suc n - 1 = omega arith in
          subst (Latest (suc n)) (sym (latest_here n t))
          (record { below = le_refl _; holds = λ l. subst (λ i. T (p i)) e t; none = λ i l b s. omega arith })
      go L (inr f) =
          subst (Latest (suc n)) (sym (latest_past n f))
          (record { below = omega arith; holds = L.holds; none = λ i l b. below_suc {P = λ i. latest n p ≤ i → T (p i) → ⊥} (λ i b l. L.none i l b) (λ l. f) i b l })

-- a list of zeros
zeros : (n : ℕ) (l : List ℕ) → l ≡ replicate n 0 → (length l ≡ n) × ((k : ℕ) → k < n → get_or l k 0 ≡ 0)
zeros n l e = (ap length e ∙ length-replicate n 0, λ k b. ap (λ l. get_or l k 0) e ∙ get_or-replicate n k 0 0 b)

-- what a test and a hash must be for the search: candidates that are the same have equal hashes
pub record Hashed (same : ℕ → ℕ → Bool) (hash : ℕ → ℕ) : Type 0 where
  pub back : (d c : ℕ) → T (same d c) → T (same c d)
  pub on : Transitive same
  pub equal : (d c : ℕ) → T (same d c) → hash d ≡ hash c
  pub small : (c : ℕ) → hash c < bucket_count

module _ (same : ℕ → ℕ → Bool) (hash : ℕ → ℕ) where
  -- the walk for c, where `rest` is where the bucket goes on: what is passed is not the same
  pub record Walk (c rest : ℕ) : Type 0 where
    pub below : rest ≤ c
    pub ahead : 0 < rest → T (in_bucket same hash (hash c) (rest - 1))
    pub passed : (g : ℕ) → rest ≤ g → g < c → T (is_new same g) → T (same g c) → ⊥

  -- buckets and links are those of the candidates below c
  pub record Bucketed (buckets links : List ℕ) (c : ℕ) : Type 0 where
    pub count : length buckets ≡ bucket_count
    pub start : (k : ℕ) → k < bucket_count → get_or buckets k 0 ≡ bucket same hash k c
    pub long : length links ≡ link_count
    pub linked : Linked same hash links c

module _ (same : ℕ → ℕ → Bool) (hash : ℕ → ℕ) (H : Hashed same hash) where
  -- ---- the walk

  -- from a candidate n on, where no new one from n to c is the same as c
  pub walk_from : (c n : ℕ) → n ≤ c → ((g : ℕ) → n ≤ g → g < c → T (is_new same g) → T (same g c) → ⊥) → Walk same hash c (bucket same hash (hash c) n)
  unfolding bucket in_bucket
  walk_from c n l none =
      let L = latest_is (in_bucket same hash (hash c)) n in
      record {
        below = omega arith;
        ahead = L.holds;
        passed = λ g a b f t.
            let d : ¬ (g < n) = λ d. L.none g a d ((both (is_new same g) (eqb (hash g) (hash c))).1 (f, eq-eqb (H.equal g c t))) in
            none g (omega arith) b f t;
      }

  -- it ends where no candidate before c is the same
  pub walk_ended : (c rest : ℕ) → Walk same hash c rest → rest ≤ 0 → c ≡ first_same same c
  walk_ended c rest W l = none_first same H.on c λ g b. W.passed g (omega arith) b

  -- a turn: the candidate before `rest` is compared with c
  module _ (links : List ℕ) (c rest : ℕ) (L : Linked same hash links c) (W : Walk same hash c rest) (l : 0 < rest) where
    ahead : T (is_new same (rest - 1)) × T (eqb (hash (rest - 1)) (hash c))
    unfolding in_bucket
    ahead = (both (is_new same (rest - 1)) (eqb (hash (rest - 1)) (hash c))).0 (W.ahead l)

    goes_on : get_or links (rest - 1) 0 ≡ bucket same hash (hash c) (rest - 1)
    goes_on =
        L.link (rest - 1) (omega (arith, W.below)) ahead.0
        ∙ ap (λ k. bucket same hash k (rest - 1)) (eqb→eq (hash (rest - 1)) (hash c) ahead.1)

    pub walk_falls : get_or links (rest - 1) 0 < rest
    unfolding bucket
    walk_falls = omega (arith, goes_on, (latest_is (in_bucket same hash (hash c)) (rest - 1)).below)

    pub walk_on : (T (same (rest - 1) c) → ⊥) → Walk same hash c (get_or links (rest - 1) 0)
    walk_on differ =
        let passed : (g : ℕ) → g < rest → rest - 1 ≤ g → T (same g c) → ⊥ =
        λ g b a. subst (λ g. T (same g c) → ⊥) (omega arith) differ in
        let none : (g : ℕ) → rest - 1 ≤ g → g < c → T (is_new same g) → T (same g c) → ⊥ =
        λ g a b f t. let d : ¬ (g < rest) = λ d. passed g d a t in W.passed g (omega arith) b f t in
        rw goes_on (walk_from c (rest - 1) (omega (arith, W.below)) none)

    pub walk_found : T (same (rest - 1) c) → rest - 1 ≡ first_same same c
    walk_found t = first_found same H.on H.back (rest - 1) c (omega (arith, W.below)) ahead.0 t

  -- ---- the buckets while candidates are numbered

  pub bucketed_none : (buckets links : List ℕ) → buckets ≡ replicate bucket_count 0 → links ≡ replicate link_count 0 → Bucketed same hash buckets links 0
  unfolding bucket latest
  bucketed_none buckets links e f = record {
    count = (zeros bucket_count buckets e).0;
    start = (zeros bucket_count buckets e).1;
    long = (zeros link_count links f).0;
    linked = record { room = zero-le; link = λ g l. absurd (omega arith) };
  }

  bucket_here : (c : ℕ) → T (is_new same c) → bucket same hash (hash c) (c + 1) ≡ c + 1
  unfolding bucket in_bucket
  bucket_here c f =
      rw (add-one c)
      (latest_here (in_bucket same hash (hash c)) c
      ((both (is_new same c) (eqb (hash c) (hash c))).1 (f, eqb_refl (hash c))))

  bucket_past : (k c : ℕ) → (T (is_new same c) → hash c ≡ k → ⊥) → bucket same hash k (c + 1) ≡ bucket same hash k c
  unfolding bucket in_bucket
  bucket_past k c apart =
      rw (add-one c)
      (latest_past (in_bucket same hash k) c
      (λ t. let b = (both (is_new same c) (eqb (hash c) k)).0 t in apart b.0 (eqb→eq (hash c) k b.1)))

  -- one candidate more
  module _ (buckets links : List ℕ) (c : ℕ) (B : Bucketed same hash buckets links c) (room : c < link_count) where
    -- one that is not new is in no bucket
    pub bucketed_later : first_same same c < c → Bucketed same hash buckets links (c + 1)
    bucketed_later l =
        let later : T (is_new same c) → ⊥ = λ f. omega (arith, new_own same c f) in
        record {
          count = B.count;
          start = λ k b. B.start k b ∙ sym (bucket_past k c (λ f _. later f));
          long = B.long;
          linked = record {
            room = omega (arith, B.long);
            link = rw (add-one c) (below_suc {P = λ g. T (is_new same g) → get_or links g 0 ≡ bucket same hash (hash g) g} B.linked.link (λ f. absurd (later f)));
          };
        }

    -- a new one starts the bucket of its hash
    pub bucketed_new : (h : ℕ) → h ≡ hash c → first_same same c ≡ c → Bucketed same hash (set buckets h (c + 1)) (set links c (get_or buckets h 0)) (c + 1)
    bucketed_new h e l =
        let below : h < bucket_count = omega (arith, e, H.small c) in
        let link : (g : ℕ) → g < c → T (is_new same g) → get_or (set links c (get_or buckets h 0)) g 0 ≡ bucket same hash (hash g) g =
        λ g b f. get_or-set_other links c g (get_or buckets h 0) 0 (λ e. omega arith) ∙ B.linked.link g b f in
        record {
          count = length-set buckets h (c + 1) ∙ B.count;
          start = λ k b. ⊎_elim
              (λ t. let q = eqb→eq h k t in
              ap (λ k. get_or (set buckets h (c + 1)) k 0) (sym q) ∙ get_or-set_same buckets h (c + 1) 0 (omega (arith, B.count))
              ∙ sym (bucket_here c (first_new same c l)) ∙ ap (λ k. bucket same hash k (c + 1)) (sym e ∙ q))
              (λ n. get_or-set_other buckets h k (c + 1) 0 (λ q. n (eq-eqb (sym q))) ∙ B.start k b ∙ sym (bucket_past k c (λ _ q. n (eq-eqb (e ∙ q)))))
              (case (eqb h k));
          long = length-set links c (get_or buckets h 0) ∙ B.long;
          linked = record {
            room = simp length-set (omega (arith, B.long));
            link = rw (add-one c) (below_suc {P = λ g. T (is_new same g) → get_or (set links c (get_or buckets h 0)) g 0 ≡ bucket same hash (hash g) g} link
                (λ _. get_or-set_same links c (get_or buckets h 0) 0 (omega (arith, B.long)) ∙ B.start h below ∙ ap (λ k. bucket same hash k c) e));
          };
        }
