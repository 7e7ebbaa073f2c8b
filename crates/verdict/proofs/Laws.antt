-- Laws of judgements: one after the other, the first that refuses, and what acceptance tells. Assumes nothing.
use mathlib.Core.Path.{◌≡◌, refl, sym, ap, ap₂, ◌∙◌}
use mathlib.Core.Bool.{Bool, true, false, cond}
use mathlib.Core.List.{List, ◌++◌}
use Prim.Native.Nat.{ℕ, zero, suc, ◌+◌, ◌-◌, ◌≤◌, ◌<◌}
use native.Mathlib.Nat.{le_refl}
use native.Mathlib.Numerals.{add-one}
use native.Mathlib.Omega.{arith}
use native.Mathlib.Decide.{dec_lt}
use lib.Dec.{eqb}
use lib.ListN.{drop}
use borrow.Author.Tests.{eqb-true, eqb-false}
use Rattle.verdict.specs.Judgements.{Verdict, answer, refusal_figures, figures, refuse, and_then, refuse_first, first_refusal, result_after}
use Rattle.verdict.specs.declared.Figures.{Figures}
use Rattle.std.specs.Prelude.{Ok, Err, IsErrAnd}
use Rattle.std.proofs.lemmas.Result.{err_from_is_err_and}
use Rattle.verdict.specs.declared.Refusal.{Refusal}
use Rattle.verdict.specs.declared.Refusal.TheVariants.{Length, Size, Literal, LookAhead, Entry, Scratch, Room, Gates, Word, End, Position, Count, Sequences, Plan, Window, Minute, Mask, Nodes, Outside, Taken, Unmatched}

-- ---- stages one after the other

-- the number of a refusal is not 0
pub refusal_number : (r : Refusal) → eqb (refusal_figures r).number 0 ≡ false
refusal_number (Length p) = refl
refusal_number (Size p) = refl
refusal_number (Literal p) = refl
refusal_number (LookAhead p) = refl
refusal_number (Entry p) = refl
refusal_number (Scratch p) = refl
refusal_number (Room p) = refl
refusal_number (Gates p) = refl
refusal_number (Word p) = refl
refusal_number (End p) = refl
refusal_number (Position p) = refl
refusal_number (Count p) = refl
refusal_number (Sequences p) = refl
refusal_number (Plan p) = refl
refusal_number (Window p) = refl
refusal_number (Minute p) = refl
refusal_number (Mask p) = refl
refusal_number (Nodes p) = refl
refusal_number (Outside p) = refl
refusal_number (Taken p) = refl
refusal_number (Unmatched p) = refl

-- no refusal is an acceptance
pub never : (r : Refusal) (p : ℕ) → refusal_figures r ≡ answer 0 p → ⊥
never r p e = eqb-false _ 0 (refusal_number r) (ap (λ (f : Figures). f.number) e)

-- what the exit of a `?` returns is the refusal that came
pub told : (x : Verdict) (r : Refusal) (f : Figures) → IsErrAnd x (λ y. y ≡ r) → refusal_figures r ≡ f → figures x ≡ f
told x r f h e = let p = err_from_is_err_and x h in ap figures p.1 ∙ ap refusal_figures p.2 ∙ e

-- a stage that refuses is the verdict
pub stop : (x : Verdict) (r : Refusal) (f g : Figures) → IsErrAnd x (λ y. y ≡ r) → refusal_figures r ≡ f → figures x ≡ and_then f g
stop x r f g h e = told x r (and_then f g) h (rw (← e, refusal_number r))

-- after a stage that accepts, the next one is
pub go_on : (f g y : Figures) (p : ℕ) → answer 0 p ≡ f → y ≡ g → y ≡ and_then f g
go_on f g y p e h = rw (← e) h

-- ---- what acceptance tells

-- both stages accept
pub both_accept : (f g : Figures) (p : ℕ) → and_then f g ≡ answer 0 p → (q : ℕ) × (f ≡ answer 0 q) × (g ≡ answer 0 p)
both_accept f g p e = go (eqb f.number 0) refl e
  where
    go : (t : Bool) → eqb f.number 0 ≡ t → cond t g f ≡ answer 0 p → (q : ℕ) × (f ≡ answer 0 q) × (g ≡ answer 0 p)
    go true q h = (f.place, ap (λ (n : ℕ). answer n f.place) (eqb-true _ 0 q), h)
    go false q h = absurd (eqb-false _ 0 q (ap (λ (f : Figures). f.number) h))

-- the second of two judgements matters only where the first accepts
pub then_cong : (f g h : Figures) → ((p : ℕ) → f ≡ answer 0 p → g ≡ h) → and_then f g ≡ and_then f h
then_cong f g h k = go (eqb f.number 0) refl
  where
    go : (t : Bool) → eqb f.number 0 ≡ t → cond t g f ≡ cond t h f
    go true e = k f.place (ap (λ (n : ℕ). answer n f.place) (eqb-true f.number 0 e))
    go false e = refl

-- three one after the other
pub then_assoc : (f g h : Figures) → and_then (and_then f g) h ≡ and_then f (and_then g h)
then_assoc f g h = go (eqb f.number 0) refl
  where
    go : (t : Bool) → eqb f.number 0 ≡ t → and_then (cond t g f) h ≡ cond t (and_then g h) f
    go true e = refl
    go false e = rw e

-- where only the first of two judgements can answer k, it does
pub then-first : (f g : Figures) (k p : ℕ) → ¬ (g.number ≡ k) → and_then f g ≡ answer k p → f ≡ answer k p
then-first f g k p n e = go (eqb f.number 0) e
  where
    go : (t : Bool) → cond t g f ≡ answer k p → f ≡ answer k p
    go true h = absurd (n (ap (λ (f : Figures). f.number) h))
    go false h = h

-- and where only the second can, the first accepts and it does
pub then_second : (f g : Figures) (k p : ℕ) → ¬ (f.number ≡ k) → and_then f g ≡ answer k p → (f ≡ answer 0 f.place) × (g ≡ answer k p)
then_second f g k p n e = go (eqb f.number 0) refl e
  where
    go : (t : Bool) → eqb f.number 0 ≡ t → cond t g f ≡ answer k p → (f ≡ answer 0 f.place) × (g ≡ answer k p)
    go true q h = (ap (λ (n : ℕ). answer n f.place) (eqb-true _ 0 q), h)
    go false q h = absurd (n (ap (λ (f : Figures). f.number) h))

-- the test of a judgement that accepts fails
pub passed : (t : Bool) (k p : ℕ) (f : Figures) (q : ℕ) → eqb k 0 ≡ false → refuse t k p f ≡ answer 0 q → (t ≡ false) × (f ≡ answer 0 q)
passed true k p f q z e = absurd (eqb-false k 0 z (ap (λ (f : Figures). f.number) e))
passed false k p f q z e = (refl, e)

-- one judgement and then others
pub refuse_then : (t : Bool) (k p : ℕ) (f : Figures) → eqb k 0 ≡ false → and_then (refuse t k p (answer 0 0)) f ≡ refuse t k p f
refuse_then true k p f z = rw z
refuse_then false k p f z = refl

-- ---- the first index at which a test holds: a loop that looks from k on, of n in all

module _ (test : ℕ → Bool) (number : ℕ) (place : ℕ → ℕ) (rest : Figures) where
  step : (k c c' : ℕ) → c ≡ suc c' → refuse_first test number place rest k c ≡ refuse (test k) number (place k) (refuse_first test number place rest (suc k) c')
  unfolding refuse_first
  step k c c' e = rw e

  pub first_here : (k n : ℕ) → k < n → test k ≡ true → refuse_first test number place rest k (n - k) ≡ answer number (place k)
  first_here k n h t = step k (n - k) (n - suc k) (omega arith) ∙ rw t

  pub first_later : (k n : ℕ) → k < n → test k ≡ false → refuse_first test number place rest k (n - k) ≡ refuse_first test number place rest (k + 1) (n - (k + 1))
  first_later k n h t = step k (n - k) (n - suc k) (omega arith) ∙ rw (t, add-one)

  pub first-none : (k n : ℕ) → n ≤ k → refuse_first test number place rest k (n - k) ≡ rest
  unfolding refuse_first
  first-none k n h = let z : n - k ≡ 0 = omega arith in rw z

  -- where the test fails before k, it is looked for from k on
  from : (k n : ℕ) → k ≤ n → ((j : ℕ) → j < k → test j ≡ false) → refuse_first test number place rest 0 n ≡ refuse_first test number place rest k (n - k)
  from zero n h f = ap (refuse_first test number place rest 0) (omega arith)
  from (suc k) n h f = rw (← add-one k) (from k n (omega arith) (λ j l. f j (omega arith)) ∙ first_later k n h (f k (omega arith)))

  -- k is the first index at which it holds
  pub first_is : (k n : ℕ) → k < n → ((j : ℕ) → j < k → test j ≡ false) → test k ≡ true → refuse_first test number place rest 0 n ≡ answer number (place k)
  first_is k n h f t = from k n (omega arith) f ∙ first_here k n h t

  -- where it accepts, the test fails at each index, and the rest accepts
  pub none_found : (p k c : ℕ) → eqb number 0 ≡ false → refuse_first test number place rest k c ≡ answer 0 p
      → ((j : ℕ) → k ≤ j → j < k + c → test j ≡ false) × (rest ≡ answer 0 p)
  unfolding refuse_first
  none_found p k zero z e = ((λ j lo hi. absurd (omega arith)), e)
  none_found p k (suc c) z e =
      let s = passed (test k) number (place k) _ p z e in
      let r = none_found p (suc k) c z s.1 in
      ((λ j lo hi. at j (dec_lt k j) lo hi s.0 r.0), r.1)
    where
      at : (j : ℕ) → Dec (k < j) → k ≤ j → j < k + suc c → test k ≡ false → ((j : ℕ) → suc k ≤ j → j < suc k + c → test j ≡ false) → test j ≡ false
      at j (yes l) lo hi q f = f j l (omega arith)
      at j (no l) lo hi q f = let e : j ≡ k = omega arith in rw e q

-- ---- the first judgement of a row that refuses: a loop that judges from k on, of n in all

module _ (f : ℕ → Figures) where
  turn : (k c c' : ℕ) → c ≡ suc c' → first_refusal f k c ≡ and_then (f k) (first_refusal f (suc k) c')
  unfolding first_refusal
  turn k c c' e = rw e

  pub row_stop : (x : Verdict) (r : Refusal) (k n : ℕ) → k < n → IsErrAnd x (λ y. y ≡ r) → refusal_figures r ≡ f k → figures x ≡ first_refusal f k (n - k)
  row_stop x r k n h i e = stop x r (f k) _ i e ∙ sym (turn k (n - k) (n - suc k) (omega arith))

  pub row_on : (p k n : ℕ) → k < n → answer 0 p ≡ f k → first_refusal f k (n - k) ≡ first_refusal f (k + 1) (n - (k + 1))
  row_on p k n h e = turn k (n - k) (n - suc k) (omega arith) ∙ rw (← e, add-one)

  pub row_end : (k n : ℕ) → n ≤ k → first_refusal f k (n - k) ≡ answer 0 0
  unfolding first_refusal
  row_end k n h = let z : n - k ≡ 0 = omega arith in rw z

  -- where the row accepts, each judgement does
  pub row_accepts : (p k c : ℕ) → first_refusal f k c ≡ answer 0 p → (j : ℕ) → k ≤ j → j < k + c → (q : ℕ) × (f j ≡ answer 0 q)
  unfolding first_refusal
  row_accepts p k zero e j lo hi = absurd (omega arith)
  row_accepts p k (suc c) e j lo hi =
      let b = both_accept (f k) (first_refusal f (suc k) c) p e in
      one (dec_lt k j) (b.0, b.1) (row_accepts p (suc k) c b.2 j)
    where
      one : Dec (k < j) → (q : ℕ) × (f k ≡ answer 0 q) → (suc k ≤ j → j < suc k + c → (q : ℕ) × (f j ≡ answer 0 q)) → (q : ℕ) × (f j ≡ answer 0 q)
      one (yes l) a g = g l (omega arith)
      one (no l) a g = let e : j ≡ k = omega arith in rw e a

-- ---- result buffers

-- a refusal leaves the result as it was
pub kept : (f : Figures) (r : Refusal) (defined before : List ℕ) → refusal_figures r ≡ f → before ≡ result_after f defined before
kept f r defined before e = rw (← e, refusal_number r)

-- an acceptance leaves what is defined, and the rest as it was
pub left : (f : Figures) (p : ℕ) (defined before after : List ℕ) → answer 0 p ≡ f → after ≡ defined ++ drop p before → after ≡ result_after f defined before
left f p defined before after e h = rw (← e) h

-- ---- judgements that find nothing

-- where the test fails at each index, the rest is the verdict
pub finds_none : (test : ℕ → Bool) (number : ℕ) (place : ℕ → ℕ) (rest : Figures) (k c : ℕ) → ((j : ℕ) → k ≤ j → j < k + c → test j ≡ false)
    → refuse_first test number place rest k c ≡ rest
unfolding refuse_first
finds_none test number place rest k zero e = refl
finds_none test number place rest k (suc c) e =
    ap (λ (t : Bool). refuse t number (place k) (refuse_first test number place rest (suc k) c)) (e k (le_refl k) (omega arith))
    ∙ finds_none test number place rest (suc k) c (λ j lo hi. e j (omega arith) (omega arith))

-- tests that agree at each index find the same
pub first_cong : (f g : ℕ → Bool) (number : ℕ) (place : ℕ → ℕ) (rest : Figures) (k c : ℕ) → ((j : ℕ) → k ≤ j → j < k + c → f j ≡ g j)
    → refuse_first f number place rest k c ≡ refuse_first g number place rest k c
unfolding refuse_first
first_cong f g number place rest k zero e = refl
first_cong f g number place rest k (suc c) e =
    ap₂ (λ t r. refuse t number (place k) r) (e k (le_refl k) (omega arith)) (first_cong f g number place rest (suc k) c (λ j lo hi. e j (omega arith) (omega arith)))

-- the first of a + c indices is the first of a, and where they have none of the c behind them
pub first_parts : (test : ℕ → Bool) (number : ℕ) (place : ℕ → ℕ) (k a c : ℕ) → eqb number 0 ≡ false → refuse_first test number place (answer 0 0) k (a + c)
    ≡ and_then (refuse_first test number place (answer 0 0) k a) (refuse_first test number place (answer 0 0) (k + a) c)
unfolding refuse_first
first_parts test number place k zero c z =
    let p : 0 + c ≡ c = omega arith in
    let q : k ≡ k + 0 = omega arith in
    ap₂ (refuse_first test number place (answer 0 0)) q p
first_parts test number place k (suc a) c z =
    let p : suc a + c ≡ suc (a + c) = omega arith in
    let q : suc k + a ≡ k + suc a = omega arith in
    ap (refuse_first test number place (answer 0 0) k) p
    ∙ ap (refuse (test k) number (place k)) (first_parts test number place (suc k) a c z ∙ ap (λ i. and_then (refuse_first test number place (answer 0 0) (suc k) a) (refuse_first test number place (answer 0 0) i c)) q)
    ∙ within (test k) (place k) (refuse_first test number place (answer 0 0) (suc k) a) (refuse_first test number place (answer 0 0) (k + suc a) c)
  where
    within : (t : Bool) (p : ℕ) (f g : Figures) → refuse t number p (and_then f g) ≡ and_then (refuse t number p f) g
    within true p f g = rw z
    within false p f g = refl

-- where each judgement accepts with place 0, the row does
pub all_accept : (f : ℕ → Figures) (k c : ℕ) → ((j : ℕ) → k ≤ j → j < k + c → f j ≡ answer 0 0) → first_refusal f k c ≡ answer 0 0
unfolding first_refusal
all_accept f k zero e = refl
all_accept f k (suc c) e =
    ap (λ (g : Figures). and_then g (first_refusal f (suc k) c)) (e k (le_refl k) (omega arith))
    ∙ all_accept f (suc k) c (λ j lo hi. e j (omega arith) (omega arith))

-- ---- numbers below a bound

module _ (k : ℕ) where
  pub under_refuse : (t : Bool) (number place : ℕ) (f : Figures) → number < k → f.number < k → (refuse t number place f).number < k
  under_refuse true number place f l m = l
  under_refuse false number place f l m = m

  pub under_then : (f g : Figures) → f.number < k → g.number < k → (and_then f g).number < k
  under_then f g l m = go (eqb f.number 0)
    where
      go : (t : Bool) → (cond t g f).number < k
      go true = m
      go false = l

  pub under_first : (test : ℕ → Bool) (number : ℕ) (place : ℕ → ℕ) (rest : Figures) (i c : ℕ) → number < k → rest.number < k
      → (refuse_first test number place rest i c).number < k
  unfolding refuse_first
  under_first test number place rest i zero l m = m
  under_first test number place rest i (suc c) l m = under_refuse (test i) number (place i) _ l (under_first test number place rest (suc i) c l m)

-- ---- numbers other than one

module _ (k : ℕ) where
  pub other_refuse : (t : Bool) (number place : ℕ) (f : Figures) → ¬ (number ≡ k) → ¬ (f.number ≡ k) → ¬ ((refuse t number place f).number ≡ k)
  other_refuse true number place f n m = n
  other_refuse false number place f n m = m

  pub other_then : (f g : Figures) → ¬ (f.number ≡ k) → ¬ (g.number ≡ k) → ¬ ((and_then f g).number ≡ k)
  other_then f g n m = go (eqb f.number 0)
    where
      go : (t : Bool) → ¬ ((cond t g f).number ≡ k)
      go true = m
      go false = n

  pub other_first : (test : ℕ → Bool) (number : ℕ) (place : ℕ → ℕ) (rest : Figures) (i c : ℕ) → ¬ (number ≡ k) → ¬ (rest.number ≡ k)
      → ¬ ((refuse_first test number place rest i c).number ≡ k)
  unfolding refuse_first
  other_first test number place rest i zero n m = m
  other_first test number place rest i (suc c) n m = other_refuse (test i) number (place i) _ n (other_first test number place rest (suc i) c n m)
