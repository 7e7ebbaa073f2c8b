-- Gates that are appended to what is known of the signals before them: what is read of earlier signals stays, and literals are of earlier signals.
-- Assumes nothing.
use mathlib.Core.Path.{◌≡◌, refl, sym, ap, ap₂, ◌∙◌}
use mathlib.Core.Logic.{⊎_elim}
use mathlib.Core.Bool.{Bool, true, false, cond}
use mathlib.Core.List.{List, [], ◌∷◌, ◌++◌}
use Prim.Native.Nat.{ℕ, zero, suc, ◌+◌, ◌*◌, ◌<◌}
use native.Mathlib.Nat.{le_of_suc-le-suc, eq-or-lt_of_le, le-suc, le_trans, le_refl}
use native.Mathlib.Omega.{arith}
use lib.ListN.{length, get_or, length-append, get_or-append}
use lib.Seq.{get_or-append-add}
use Rattle.circuit.specs.Lists.{grown, listed}
use Rattle.circuit.proofs.Lists.{listed_length, listed_at}

-- ---- literals are of earlier signals

-- the gates from signal `at` on
pub data Admitted : ℕ → List (ℕ × ℕ) → Type 0 where
  no_gate : {at : ℕ} → Admitted at []
  gate : {at l r : ℕ} {gs : List (ℕ × ℕ)} → l < 2 * at → r < 2 * at → Admitted (suc at) gs → Admitted at ((l, r) ∷ gs)

pub admitted_append : {at : ℕ} {gs hs : List (ℕ × ℕ)} → Admitted at gs → Admitted (at + length gs) hs → Admitted at (gs ++ hs)
admitted_append {at} {gs} {hs} no_gate B = let e : at + 0 ≡ at = omega arith in rw e at B
admitted_append {at} {gs} {hs} (gate {gs = rest} p q A) B = let e : at + suc (length rest) ≡ suc at + length rest = omega arith in gate p q (admitted_append A (rw e at B))

-- ---- what is read

-- `read vs l` is what is known of literal l, where vs is what is known of the signals; `meet` is what a gate makes of its two literals
module _ {A : Type 0} (meet : A → A → A) (read : List A → ℕ → A) where
  -- what is known of the signals after gates are appended
  unfoldable pub run : List A → List (ℕ × ℕ) → List A
  run vs [] = vs
  run vs (g ∷ gs) = run (vs ++ (meet (read vs g.0) (read vs g.1) ∷ [])) gs

  pub run-append : (vs : List A) (gs hs : List (ℕ × ℕ)) → run vs (gs ++ hs) ≡ run (run vs gs) hs
  unfolding run
  run-append vs [] hs = refl
  run-append vs (g ∷ gs) hs = run-append (vs ++ (meet (read vs g.0) (read vs g.1) ∷ [])) gs hs

  pub run_length : (vs : List A) (gs : List (ℕ × ℕ)) → length (run vs gs) ≡ length vs + length gs
  unfolding run
  run_length vs [] = omega arith
  run_length vs (g ∷ gs) = run_length (vs ++ (meet (read vs g.0) (read vs g.1) ∷ [])) gs ∙ omega (arith, length-append vs (meet (read vs g.0) (read vs g.1) ∷ []))

-- an earlier signal's literal reads the same in a longer list, and a new signal's as that signal
pub record Reads {A : Type 0} (read : List A → ℕ → A) : Type 0 where
  pub kept : (vs ws : List A) (l : ℕ) → l < 2 * length vs → read (vs ++ ws) l ≡ read vs l
  pub new : (vs : List A) (x : A) → read (vs ++ (x ∷ [])) (2 * length vs) ≡ x

module _ {A : Type 0} (meet : A → A → A) (read : List A → ℕ → A) (R : Reads read) where
  pub run_read : (vs : List A) (gs : List (ℕ × ℕ)) (l : ℕ) → l < 2 * length vs → read (run meet read vs gs) l ≡ read vs l
  unfolding run
  run_read vs [] l h = refl
  run_read vs (g ∷ gs) l h =
      let x : A = meet (read vs g.0) (read vs g.1) in
      run_read (vs ++ (x ∷ [])) gs l (omega (arith, length-append vs (x ∷ []))) ∙ R.kept vs (x ∷ []) l h

  -- gates of earlier signals only, one for each i below k
  module _ (vs : List A) (g : ℕ → ℕ × ℕ) where
    pub each_reads : (k i : ℕ) → i < k → ((i : ℕ) → i < k → ((g i).0 < 2 * length vs) × ((g i).1 < 2 * length vs))
        → read (run meet read vs (listed [] g k)) (2 * (length vs + i)) ≡ meet (read vs (g i).0) (read vs (g i).1)
    unfolding grown run
    each_reads zero i h U = absurd (omega arith)
    each_reads (suc k) i h U =
        let gs : List (ℕ × ℕ) = listed [] g k in
        let ws : List A = run meet read vs gs in
        let x : A = meet (read ws (g k).0) (read ws (g k).1) in
        let l : length ws ≡ length vs + k = run_length meet read vs gs ∙ omega (arith, listed_length g k) in
        ap (λ v. read v (2 * (length vs + i))) (run-append meet read vs gs (g k ∷ []))
        ∙ ⊎_elim
        (λ (q : i ≡ k).
        ap (λ j. read (ws ++ (x ∷ [])) (2 * j)) (let s : length vs + i ≡ length ws = omega arith in s)
        ∙ R.new ws x
        ∙ ap₂ meet (run_read vs gs (g k).0 (U k (le_refl (suc k))).0) (run_read vs gs (g k).1 (U k (le_refl (suc k))).1)
        ∙ ap (λ j. meet (read vs (g j).0) (read vs (g j).1)) (sym q))
        (λ (q : i < k). R.kept ws (x ∷ []) (2 * (length vs + i)) (omega arith) ∙ each_reads k i q (λ i l. U i (le_trans l (le-suc k))))
        (eq-or-lt_of_le (le_of_suc-le-suc h))

pub each_admitted : (at : ℕ) (g : ℕ → ℕ × ℕ) (k : ℕ) → ((i : ℕ) → i < k → ((g i).0 < 2 * at) × ((g i).1 < 2 * at)) → Admitted at (listed [] g k)
unfolding grown
each_admitted at g zero U = no_gate
each_admitted at g (suc k) U =
    let u = U k (le_refl (suc k)) in
    admitted_append (each_admitted at g k (λ i l. U i (le_trans l (le-suc k)))) (gate {l = (g k).0} {r = (g k).1} (omega arith) (omega arith) no_gate)

-- gates of signals before each, one for each i below k
pub growing_admitted : (at : ℕ) (g : ℕ → ℕ × ℕ) (k : ℕ) → ((i : ℕ) → i < k → ((g i).0 < 2 * (at + i)) × ((g i).1 < 2 * (at + i))) → Admitted at (listed [] g k)
unfolding grown
growing_admitted at g zero U = no_gate
growing_admitted at g (suc k) U =
    let u = U k (le_refl (suc k)) in
    let long = listed_length g k in
    admitted_append (growing_admitted at g k (λ i l. U i (le_trans l (le-suc k)))) (gate {l = (g k).0} {r = (g k).1} (omega (arith, u.0, long)) (omega (arith, u.1, long)) no_gate)

-- ---- output gates behind other gates

-- output q: where it is connected the literal that is given and literal 1, else `blank` twice
unfoldable pub closing : (c : ℕ → Bool) (left : ℕ → ℕ) (blank q : ℕ) → ℕ × ℕ
closing c left blank q = cond (c q) (left q, 1) (blank, blank)

-- gates, and k outputs
unfoldable pub closed : (gs : List (ℕ × ℕ)) (c : ℕ → Bool) (left : ℕ → ℕ) (k blank : ℕ) → List (ℕ × ℕ)
unfolding closing
closed gs c left k blank = gs ++ listed [] (closing c left blank) k

module _ (gs : List (ℕ × ℕ)) (c : ℕ → Bool) (left : ℕ → ℕ) (k blank : ℕ) where
  pub closed_length : length (closed gs c left k blank) ≡ length gs + k
  unfolding closed
  closed_length = length-append gs _ ∙ ap (λ i. length gs + i) (listed_length (closing c left blank) k)

  pub closed_inner : (g : ℕ) → g < length gs → get_or (closed gs c left k blank) g (0, 0) ≡ get_or gs g (0, 0)
  unfolding closed
  closed_inner g h = get_or-append gs _ (0, 0) g h

  pub closed_output : (q : ℕ) → q < k → get_or (closed gs c left k blank) (length gs + q) (0, 0) ≡ closing c left blank q
  unfolding closed
  closed_output q h = get_or-append-add gs _ q (0, 0) ∙ listed_at (closing c left blank) (0, 0) k q h

module _ (c : ℕ → Bool) (left : ℕ → ℕ) (blank q : ℕ) where
  pub closing_connected : c q ≡ true → closing c left blank q ≡ (left q, 1)
  unfolding closing
  closing_connected e = ap (λ x. cond x (left q, 1) (blank, blank)) e

  pub closing_blank : c q ≡ false → closing c left blank q ≡ (blank, blank)
  unfolding closing
  closing_blank e = ap (λ x. cond x (left q, 1) (blank, blank)) e

  pub closing_either : (P : ℕ × ℕ → Type 0) → (c q ≡ true → P (left q, 1)) → (c q ≡ false → P (blank, blank)) → P (closing c left blank q)
  unfolding closing
  closing_either P f g = go (c q) refl
    where
      go : (x : Bool) → c q ≡ x → P (cond x (left q, 1) (blank, blank))
      go true e = f e
      go false e = g e
