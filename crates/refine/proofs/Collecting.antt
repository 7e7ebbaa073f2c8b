-- Laws of paths while they are collected. Assumes nothing.
use mathlib.Core.Path.{◌≡◌, refl, sym, ap, ap₂, ◌∙◌, subst}
use mathlib.Core.Bool.{Bool}
use mathlib.Core.Logic.{⊎_elim}
use mathlib.Core.List.{List}
use Prim.Native.Nat.{ℕ, ◌+◌, ◌*◌, ◌/◌, ◌%◌, ◌^◌, ◌≤◌, ◌<◌}
use native.Mathlib.Nat.{eq-or-lt_of_le, div-lt_iff_lt-mul, mul-le-mul_right}
use native.Mathlib.Numerals.{add-one}
use native.Mathlib.Omega.{arith}
use lib.Arith.{digits_lt, digits_div, digits_mod}
use lib.Dec.{T}
use lib.ListN.{length, get_or, set, length-set}
use lib.Seq.{get_or-set_same, get_or-set_other}
use Rattle.layered.specs.Search.{tally}
use Rattle.layered.proofs.Search.{below_suc}
use Rattle.diagrams.specs.Numbering.{first_same, is_new, number_same, count_same}
use Rattle.refine.specs.Rows.{number_in, same_row, Outside, Refined}
use Rattle.refine.specs.Collecting.{path_in, Collectable, NumberedBy, Collecting, Collected}
use Rattle.refine.specs.declared.Rows.{Rows}
use Rattle.refine.proofs.Same.{same_on}
use Rattle.diagrams.proofs.Numbering.{first_le, new_own}
use Rattle.refine.proofs.Numbers.{new_number, later_count, number_below}

-- numbers that `refine` gave
pub refined_by : (s r w : List ℕ) (rows : Rows) (k : ℕ) → Refined s r w rows k → NumberedBy (same_row (number_in s rows) w rows) r rows
refined_by s r w rows k R = record { on = same_on (number_in s rows) w rows; number = R.numbered }

-- the path of word w after state k
pub path_is : (s : List ℕ) (from fan bits k w : ℕ) → w < fan → path_in s from fan bits (k * fan + w) ≡ get_or s (from + k) 0 + w * 2 ^ bits
path_is s from fan bits k w l = ap₂ (λ i v. get_or s (from + i) 0 + v * 2 ^ bits) (digits_div k l) (digits_mod k l)

pub collecting_none : (s : List ℕ) (rows : Rows) (from fan bits c : ℕ) → c ≡ 0 → Collecting s s rows from fan bits c 0
unfolding count_same tally
collecting_none s rows from fan bits c e = subst (λ c. Collecting s s rows from fan bits c 0) (sym e) (record {
  few = omega arith;
  counted = λ same N. refl;
  paths = λ same N d l. absurd (omega arith);
  kept = λ j o. refl;
  long = refl;
})

pub collecting_all : (s r : List ℕ) (rows : Rows) (from fan bits c fresh : ℕ) → c ≡ rows.count → Collecting s r rows from fan bits c fresh
    → Collected s r rows from fan bits
collecting_all s r rows from fan bits c fresh e C = record { paths = λ same N d l. C.paths same N d (omega arith); kept = C.kept; long = C.long }

-- ---- one candidate more

module _ (s r : List ℕ) (rows : Rows) (from fan bits c fresh : ℕ) (P : Collectable s rows from fan bits) (b : c < rows.count)
    (C : Collecting s r rows from fan bits c fresh) where
  number_kept : number_in r rows c ≡ number_in s rows c
  number_kept = C.kept (rows.numbers + c) (λ _. omega (arith, P.copy_before))

  -- one whose number is `fresh` is new
  module _ (e : number_in r rows c ≡ fresh) where
    is_new_lem : (same : ℕ → ℕ → Bool) → NumberedBy same s rows → first_same same c ≡ c
    is_new_lem same N =
        ⊎_elim (λ (q : first_same same c ≡ c). q)
        (λ (l : first_same same c < c). absurd (omega (arith, number_below same N.on c c l, N.number c b, number_kept, C.counted same N)))
        (eq-or-lt_of_le (first_le same c))

    pub collect_new : (x c' : ℕ) → x ≡ path_in s from fan bits c → c' ≡ c + 1 → Collecting s (set r (rows.copy + fresh) x) rows from fan bits c' (fresh + 1)
    collect_new x c' q f = subst (λ c. Collecting s (set r (rows.copy + fresh) x) rows from fan bits c (fresh + 1)) (sym f) (record {
      few = omega (arith, C.few);
      counted = λ same N. ap (λ k. k + 1) (C.counted same N) ∙ sym (new_number same c (is_new_lem same N)).1;
      paths = λ same N. rw (add-one c) (below_suc {P = λ d. T (is_new same d) → get_or (set r (rows.copy + fresh) x) (rows.copy + number_same same d) 0 ≡ path_in s from fan bits d}
          (λ d l t. get_or-set_other r (rows.copy + fresh) (rows.copy + number_same same d) x 0 (λ q. omega (arith, number_below same N.on d c (omega (arith, first_le same d)), C.counted same N)) ∙ C.paths same N d l t)
          (λ t. ap (λ k. get_or (set r (rows.copy + fresh) x) (rows.copy + k) 0) (sym (N.number c b) ∙ sym number_kept ∙ e)
          ∙ get_or-set_same r (rows.copy + fresh) x 0 (omega (arith, C.few, C.long, P.copy_before, P.numbers_in)) ∙ q));
      kept = λ j o. get_or-set_other r (rows.copy + fresh) j x 0 (λ q. omega (arith, o (omega arith), C.few)) ∙ C.kept j o;
      long = length-set r (rows.copy + fresh) x ∙ C.long;
    })

  -- another is not
  pub collect_old : (c' : ℕ) → (number_in r rows c ≡ fresh → ⊥) → c' ≡ c + 1 → Collecting s r rows from fan bits c' fresh
  collect_old c' n f = subst (λ c. Collecting s r rows from fan bits c fresh) (sym f) (record {
    few = omega (arith, C.few);
    counted = λ same N. C.counted same N ∙ sym (later_count same c (later same N));
    paths = λ same N. rw (add-one c) (below_suc {P = λ d. T (is_new same d) → get_or r (rows.copy + number_same same d) 0 ≡ path_in s from fan bits d}
        (C.paths same N)
        (λ t. absurd (omega (arith, later same N, new_own same c t))));
    kept = C.kept;
    long = C.long;
  })
    where
      later : (same : ℕ → ℕ → Bool) → NumberedBy same s rows → first_same same c < c
      later same N =
          ⊎_elim
          (λ (q : first_same same c ≡ c). absurd (n (number_kept ∙ N.number c b ∙ (new_number same c q).0 ∙ sym (C.counted same N))))
          (λ (l : first_same same c < c). l)
          (eq-or-lt_of_le (first_le same c))

-- ---- what was stored in the copy changes neither numbers nor paths

module _ (s t : List ℕ) (rows : Rows) (from fan bits : ℕ) (P : Collectable s rows from fan bits)
    (K : (j : ℕ) → Outside rows.copy rows.count j → get_or t j 0 ≡ get_or s j 0) (L : length t ≡ length s) where
  path_kept : (c : ℕ) → c < rows.count → path_in t from fan bits c ≡ path_in s from fan bits c
  path_kept c l =
      let i : c / fan < rows.count / fan = (div-lt_iff_lt-mul P.words).1 (omega (arith, P.whole)) in
      ap (λ x. x + c % fan * 2 ^ bits) (K (from + c / fan) (P.apart (c / fan) i))

  numbered_kept : (same : ℕ → ℕ → Bool) → NumberedBy same t rows → NumberedBy same s rows
  numbered_kept same N = record { on = N.on; number = λ c l. sym (K (rows.numbers + c) (λ _. omega (arith, P.copy_before))) ∙ N.number c l }

  pub collectable_kept : Collectable t rows from fan bits
  collectable_kept = record {
    copy_before = P.copy_before;
    numbers_in = omega (arith, P.numbers_in);
    paths_in = omega (arith, P.paths_in);
    apart = P.apart;
    words = P.words;
    whole = P.whole;
    shift = P.shift;
    short = λ c l. rw (path_kept c l) (P.short c l);
  }

  -- seen from t as from s
  pub collecting_from : (r : List ℕ) (c fresh : ℕ) → c ≤ rows.count → Collecting s r rows from fan bits c fresh → Collecting t r rows from fan bits c fresh
  collecting_from r c fresh b C = record {
    few = C.few;
    counted = λ same N. C.counted same (numbered_kept same N);
    paths = λ same N d l n. C.paths same (numbered_kept same N) d l n ∙ sym (path_kept d (omega arith));
    kept = λ j o. C.kept j o ∙ sym (K j o);
    long = C.long ∙ sym L;
  }

-- ---- word w after state k

module _ (s : List ℕ) (rows : Rows) (from fan bits k w : ℕ) (P : Collectable s rows from fan bits) (l : k < rows.count / fan) (b : w < fan) where
  pub word_in : k * fan + w < rows.count
  word_in = omega (arith, digits_lt {m = rows.count / fan} l b, P.whole)

  pub word_short : get_or s (from + k) 0 + w * 2 ^ bits < 65536
  word_short = omega (arith, P.short (k * fan + w) word_in, path_is s from fan bits k w b)

  -- its path, with the shift at 64 bits
  pub word_path : get_or s (from + k) 0 + w * 2 ^ bits % 18446744073709551616 ≡ path_in s from fan bits (k * fan + w)
  word_path = omega (arith, word_short, path_is s from fan bits k w b)

-- the candidates of the states up to k are some of all
pub states_in : (s : List ℕ) (rows : Rows) (from fan bits k : ℕ) → Collectable s rows from fan bits → k ≤ rows.count / fan → k * fan ≤ rows.count
states_in s rows from fan bits k P l = omega (arith, mul-le-mul_right fan l, P.whole)
