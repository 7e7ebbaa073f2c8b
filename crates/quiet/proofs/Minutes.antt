-- Windows: those that are looked at so far, and the week that comes round. Assumes nothing.
use mathlib.Core.Path.{◌≡◌, refl, sym, ap, ap₂, ◌∙◌}
use mathlib.Core.Bool.{Bool, false, ◌||◌, ◌&&◌, cond}
use mathlib.Core.List.{List, [], ◌∷◌, ◌++◌}
use Prim.Native.Nat.{ℕ, ◌+◌, ◌*◌, ◌-◌, ◌<◌, min}
use native.Mathlib.Omega.{arith}
use native.Mathlib.Decide.{dec_lt}
use lib.Dec.{ltb, leb, eqb}
use lib.ListN.{length, drop, get_or, length-drop, get_or-append}
use Rattle.std.proofs.Common.{get_or-drop}
use lib.Seq.{drop-drop}
use borrow.Author.Tests.{lt-ltb, le-ltb, le-leb, lt-leb}
use Rattle.quiet.specs.Limits.{week_minutes, most_windows}
use Rattle.verdict.specs.Judgements.{answer, refuse}
use Rattle.verdict.specs.declared.Figures.{Figures}
use Rattle.quiet.specs.Windows.{window_count, first, last, is_bad, holds, is_quiet, until, HoldsRound}

-- ---- bad windows

-- where none is bad
abbrev pub none_bad : List ℕ → Figures
none_bad ws = refuse (ltb most_windows (window_count ws)) 15 most_windows (answer 0 0)

-- a number above 10,079, or two that are equal
abbrev bad_pair : (a b : ℕ) → Bool
bad_pair a b = (leb week_minutes a || leb week_minutes b) || eqb a b

-- two numbers at most are in front
two : (pair rest : List ℕ) → length pair ≡ min 2 (length (pair ++ rest)) → 0 < length (pair ++ rest) → drop 2 (pair ++ rest) ≡ rest
two [] rest l s = absurd (omega arith)
two (x ∷ []) [] l s = refl
two (x ∷ []) (y ∷ r) l s = absurd (omega arith)
two (x ∷ y ∷ []) rest l s = refl
two (x ∷ y ∷ z ∷ p) rest l s = absurd (omega arith)

-- window k, and what is behind it
module _ (ws pair rest : List ℕ) (k : ℕ) (at : drop (2 * k) ws ≡ pair ++ rest) (size : length pair ≡ min 2 (length (drop (2 * k) ws))) (some : 0 < length (drop (2 * k) ws)) where
  here : (j : ℕ) → j < length pair → get_or pair j 0 ≡ get_or ws (2 * k + j) 0
  here j h = sym (get_or-append pair rest 0 j h) ∙ ap (λ (l : List ℕ). get_or l j 0) (sym at) ∙ get_or-drop (2 * k) ws j 0

  pub pair_bad : is_bad pair 0 ≡ is_bad ws k
  unfolding is_bad first last
  pair_bad = go (dec_lt (length pair) 2)
    where
      go : Dec (length pair < 2) → (leb (length pair) (2 * 0 + 1) || bad_pair (get_or pair (2 * 0) 0) (get_or pair (2 * 0 + 1) 0)) ≡ (leb (length ws) (2 * k + 1) || bad_pair (get_or ws (2 * k) 0) (get_or ws (2 * k + 1) 0))
      go (yes l) = rw (le-leb (length pair) 1 (omega arith), le-leb (length ws) (2 * k + 1) (omega (arith, length-drop (2 * k) ws)))
      go (no l) =
          let e : 2 * k + 0 ≡ 2 * k = omega arith in
          let p : get_or pair 0 0 ≡ get_or ws (2 * k) 0 = here 0 (omega arith) ∙ ap (λ (j : ℕ). get_or ws j 0) e in
          rw (lt-leb (length pair) 1 (omega arith), lt-leb (length ws) (2 * k + 1) (omega (arith, length-drop (2 * k) ws))) (ap₂ bad_pair p (here 1 (omega arith)))

  pub behind : rest ≡ drop (2 * (k + 1)) ws
  behind =
      let n : length (drop (2 * k) ws) ≡ length (pair ++ rest) = ap length at in
      let e : 2 * k + 2 ≡ 2 * (k + 1) = omega arith in
      sym (two pair rest (omega arith) (omega arith)) ∙ ap (drop 2) (sym at) ∙ drop-drop 2 (2 * k) ws ∙ ap (λ (n : ℕ). drop n ws) e

-- ---- quiet minutes

-- a window in front, and those behind it
pub window : (pair rest : List ℕ) (m : ℕ) → length pair ≡ 2 → is_quiet (pair ++ rest) m ≡ (holds (get_or pair 0 0) (get_or pair 1 0) m || is_quiet rest m)
unfolding is_quiet
window [] rest m h = absurd (cc)
window (x ∷ []) rest m h = absurd (omega arith)
window (x ∷ y ∷ []) rest m h = refl
window (x ∷ y ∷ z ∷ l) rest m h = absurd (omega arith)

-- a number that is left alone, and none, hold nothing
pub no_more : (ws : List ℕ) (m : ℕ) → length ws < 2 → is_quiet ws m ≡ false
unfolding is_quiet
no_more [] m h = refl
no_more (x ∷ []) m h = refl
no_more (x ∷ y ∷ l) m h = absurd (omega arith)

-- ---- round the week

pub holds_round : HoldsRound
unfolding HoldsRound holds
holds_round f l m hf hl hm = go (dec_lt l f) (dec_lt m f) (dec_lt m l)
  where
    go : Dec (l < f) → Dec (m < f) → Dec (m < l) → cond (ltb l f) (leb f m || ltb m l) (leb f m && ltb m l) ≡ ltb (until f m) (until f l)
    go (yes a) (yes b) (yes c) = rw (lt-ltb l f a, lt-leb f m b, lt-ltb m l c, lt-leb f l a, lt-ltb (week_minutes - f + m) (week_minutes - f + l) (omega arith))
    go (yes a) (yes b) (no c) = rw (lt-ltb l f a, lt-leb f m b, le-ltb m l (omega arith), lt-leb f l a, le-ltb (week_minutes - f + m) (week_minutes - f + l) (omega arith))
    go (yes a) (no b) c = rw (lt-ltb l f a, le-leb f m (omega arith), lt-leb f l a, lt-ltb (m - f) (week_minutes - f + l) (omega arith))
    go (no a) (yes b) c = rw (le-ltb l f (omega arith), lt-leb f m b, le-leb f l (omega arith), le-ltb (week_minutes - f + m) (l - f) (omega arith))
    go (no a) (no b) (yes c) = rw (le-ltb l f (omega arith), le-leb f m (omega arith), lt-ltb m l c, le-leb f l (omega arith), lt-ltb (m - f) (l - f) (omega arith))
    go (no a) (no b) (no c) = rw (le-ltb l f (omega arith), le-leb f m (omega arith), le-ltb m l (omega arith), le-leb f l (omega arith), le-ltb (m - f) (l - f) (omega arith))
