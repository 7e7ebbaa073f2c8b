-- What the search for the first list of so many words finds, turn by turn. Assumes nothing.
use mathlib.Core.Path.{◌≡◌, sym, ap, ap₂, ◌∙◌, subst}
use mathlib.Core.Bool.{false, not}
use mathlib.Core.List.{List}
use Prim.Native.Nat.{ℕ, suc, ◌+◌, ◌-◌, ◌*◌, ◌/◌, ◌^◌, ◌≤◌, ◌<◌}
use native.Mathlib.Nat.{mul_comm, mul-le-mul_left, pow-zero, pow-suc, mul-div_cancel}
use native.Mathlib.Numerals.{add-one}
use native.Mathlib.Omega.{arith}
use lib.Arith.{digits_lt}
use lib.Dec.{eqb}
use Rattle.std.specs.Prelude.{Option, Some, None}
use lib.Pow.{pow_mono, pow_pos}
use Rattle.words.specs.Words.{word_at}
use Rattle.sizes.specs.Sizes.{inputs, frames}
use Rattle.layered.specs.Search.{least}
use Rattle.layered.specs.Histories.{history_words}
use Rattle.layered.proofs.Search.{least_cong}
use Rattle.layered.proofs.Rows.{pow-mul}
use Rattle.table.specs.Table.{states, entry_count, machine}
use Rattle.table.specs.Sound.{Sound, layout_of}
use Rattle.table.specs.declared.Layout.{Layout}
use Rattle.table.proofs.Offsets.{Laid, laid}
use Rattle.distinguish.specs.Distinguish.{separates, below, first_list}
use Rattle.distinguish.specs.Pairs.{PairOf}
use Rattle.distinguish.specs.declared.Pair.{Pair}
use Rattle.distinguish.proofs.Below.{is_below, not_below, below_some, below_none}
use Rattle.distinguish.proofs.Separating.{first-same, first_one, none_more, found_with, found_none}
use Rattle.distinguish.proofs.Entries.{row_at, row_in, output_at_lem}

-- there are few lists
pub lists_few : (b : List ℕ) → Sound b → (k : ℕ) → k ≤ frames b → (2 ^ inputs b) ^ k ≤ 65536
lists_few b Z k h =
    let m : inputs b * k ≤ 16 = omega (arith, mul-le-mul_left (inputs b) h, Z.headed.sized.bits_to) in
    let p : 2 ^ (inputs b * k) ≤ 2 ^ 16 = pow_mono m in
    omega (arith, pow-mul 2 (inputs b) k, p)

-- the lists that begin with each word, taken together
pub all_lists : (K count words rest : ℕ) → 1 ≤ count → words ≡ K → rest ≡ K ^ (count - 1) → words * rest ≡ K ^ count
all_lists K count words rest h w r =
    let e : suc (count - 1) ≡ count = omega arith in
    ap₂ ◌*◌ w r ∙ mul_comm K (K ^ (count - 1)) ∙ sym (pow-suc K (count - 1)) ∙ ap (λ k. K ^ k) e

-- what the search knows of a table, two states of a layer, and a number of words
pub record Seeking (b : List ℕ) (l : Layout) (p : Pair) (count rest : ℕ) : Type 0 where
  pub sound : Sound b
  pub layout_is : l ≡ layout_of b
  pub pair_is : PairOf b p
  pub some : 1 ≤ count
  pub within : p.layer + count ≤ frames b
  pub rest_is : rest ≡ (2 ^ inputs b) ^ (count - 1)

module _ {b : List ℕ} {l : Layout} {p : Pair} {count rest : ℕ} (S : Seeking b l p count rest) where
  abbrev K : ℕ
  K = 2 ^ inputs b

  pub in_frames : p.layer < frames b
  in_frames = omega (arith, S.some, S.within)

  abbrev pub row_of : (start s : ℕ) → ℕ
  row_of = row_at b l p S.sound S.layout_is S.pair_is in_frames

  pub row_of_lem : (s : ℕ) → s < states b p.layer → p.below + s * l.words + l.words ≤ entry_count b
  row_of_lem = row_in b l p S.sound S.layout_is S.pair_is in_frames

  pub laid_of : Laid b l
  laid_of = laid b l S.sound.headed S.layout_is

  words_is : l.words ≡ K
  words_is = laid_of.words_is

  pub words_some : 0 < l.words
  words_some = omega (arith, words_is, pow_pos (inputs b))

  abbrev found : ℕ
  found = first_list K (machine b) p.layer p.first p.second count

  abbrev pub Answer : Option ℕ → Type 0
  Answer x = x ≡ below (K ^ count) found

  pub all_are : l.words * rest ≡ K ^ count
  all_are = all_lists K count l.words rest S.some words_is S.rest_is

  pub all_few : l.words * rest ≤ 65536
  all_few = omega (arith, all_are, lists_few b S.sound count (omega (arith, S.within)))

  -- equal states
  pub same_answer : p.first ≡ p.second → Answer None
  same_answer q =
      let e : found ≡ K ^ count = ap (λ s. first_list K (machine b) p.layer s p.second count) q ∙ first-same (machine b) K p.layer p.second count in
      not_below (K ^ count) found (omega arith)

  -- one word
  pub one_answer : (x : Option ℕ) (f g : ℕ) → count ≡ 1 → f ≡ row_of l.outputs p.first → g ≡ row_of l.outputs p.second
      → x ≡ below l.words (least l.words (λ w. not (eqb (word_at b (f + 2 * w)) (word_at b (g + 2 * w))))) → Answer x
  one_answer x f g one i j a =
      let k : l.words ≡ K ^ count = words_is ∙ sym (ap (λ n. K ^ n) one ∙ pow-suc K 0 ∙ ap (λ x. x * K) (pow-zero K) ∙ omega arith) in
      a
      ∙ ap₂ below k
      (ap (λ n. least n (λ w. not (eqb (word_at b (f + 2 * w)) (word_at b (g + 2 * w))))) words_is
      ∙ least_cong K _ _ (λ w _. ap₂ (λ x y. not (eqb x y))
      (ap (λ n. word_at b (n + 2 * w)) i ∙ output_at_lem b l p S.sound S.layout_is S.pair_is in_frames p.first S.pair_is.first_to w)
      (ap (λ n. word_at b (n + 2 * w)) j ∙ output_at_lem b l p S.sound S.layout_is S.pair_is in_frames p.second S.pair_is.second_to w))
      ∙ sym (first_one (machine b) K p.layer p.first p.second)
      ∙ ap (first_list K (machine b) p.layer p.first p.second) (sym one))

  -- ---- more words

  -- no list that begins with a word below w separates them
  abbrev pub NoneTo : ℕ → Type 0
  NoneTo w = (h : ℕ) → h < w * rest → separates (machine b) p.layer p.first p.second (history_words K count h) ≡ false

  module _ (more : ¬ (count ≡ 1)) where
    count_is : suc (count - 1) ≡ count
    count_is = omega (arith, S.some)

    rest_from : 1 ≤ count - 1
    rest_from = omega (arith, S.some)

    -- the lists that begin with the same two words
    pub fewer_is : rest / l.words ≡ K ^ (count - 1 - 1)
    fewer_is =
        let k : suc (count - 1 - 1) ≡ count - 1 = omega (arith, S.some) in
        ap₂ ◌/◌ (S.rest_is ∙ ap (λ i. K ^ i) (sym k) ∙ pow-suc K (count - 1 - 1)) words_is ∙ mul-div_cancel (K ^ (count - 1 - 1)) (pow_pos (inputs b))

    there : (w h : ℕ) → separates (machine b) p.layer p.first p.second (history_words K (suc (count - 1)) h) ≡ false
        → separates (machine b) p.layer p.first p.second (history_words K count h) ≡ false
    there w h = subst (λ k. separates (machine b) p.layer p.first p.second (history_words K k h) ≡ false) count_is

    back : (w : ℕ) → NoneTo w → (h : ℕ) → h < w * K ^ (count - 1) → separates (machine b) p.layer p.first p.second (history_words K (suc (count - 1)) h) ≡ false
    back w f h g =
        subst (λ k. separates (machine b) p.layer p.first p.second (history_words K k h) ≡ false) (sym count_is)
        (f h (omega (arith, g, ap (λ r. w * r) S.rest_is)))

    -- a turn: the states that follow by the word w, and the first list that separates them
    module _ (w : ℕ) (q : Pair) (h : w < l.words) (layer_is : q.layer ≡ p.layer + 1) (first_is : q.first ≡ (machine b).next p.layer p.first w)
        (second_is : q.second ≡ (machine b).next p.layer p.second w) where
      abbrev then : ℕ
      then = first_list K (machine b) q.layer q.first q.second (count - 1)

      then_is : then ≡ first_list K (machine b) (suc p.layer) ((machine b).next p.layer p.first w) ((machine b).next p.layer p.second w) (count - 1)
      then_is =
          ap (λ t. first_list K (machine b) t q.first q.second (count - 1)) (layer_is ∙ add-one p.layer)
          ∙ ap₂ (λ r s. first_list K (machine b) (suc p.layer) r s (count - 1)) first_is second_is

      pub number_few : (n : ℕ) → Some n ≡ below (K ^ (count - 1)) then → w * rest + n < l.words * rest
      number_few n e =
          let t = below_some (K ^ (count - 1)) then n e in
          let m : n < rest = omega (arith, t, S.rest_is) in
          digits_lt h m

      pub found_answer : (n : ℕ) → Some n ≡ below (K ^ (count - 1)) then → NoneTo w → Answer (Some (w * rest + n))
      found_answer n e f =
          let t = below_some (K ^ (count - 1)) then n e in
          let a : w * rest + n ≡ found =
          ap (λ r. w * r + n) S.rest_is
          ∙ found_with (machine b) K p.layer p.first p.second (count - 1) rest_from w n (omega (arith, words_is)) (t.0 ∙ then_is) (omega (arith, t)) (back w f)
          ∙ ap (first_list K (machine b) p.layer p.first p.second) count_is
          in
          is_below (K ^ count) (w * rest + n) (omega (arith, number_few n e, all_are)) ∙ ap (below (K ^ count)) a

      pub none_further : None ≡ below (K ^ (count - 1)) then → NoneTo w → NoneTo (w + 1)
      none_further e f g i =
          there w g
          (none_more (machine b) K p.layer p.first p.second (count - 1) rest_from w then (omega (arith, words_is)) then_is (below_none (K ^ (count - 1)) then e) (back w f) g
          (omega (arith, i, ap (λ r. (w + 1) * r) S.rest_is)))

    pub none_answer : NoneTo l.words → Answer None
    none_answer f =
        let a : l.words * rest ≡ found =
        ap₂ ◌*◌ words_is S.rest_is
        ∙ found_none (machine b) K p.layer p.first p.second (count - 1) rest_from
        (λ h g. back l.words f h (omega (arith, g, ap (λ k. k * K ^ (count - 1)) words_is)))
        ∙ ap (first_list K (machine b) p.layer p.first p.second) count_is
        in
        not_below (K ^ count) found (omega (arith, a, all_are))
