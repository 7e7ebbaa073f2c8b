-- A history followed word by word. Assumes nothing.
use mathlib.Core.Path.{◌≡◌, refl, sym, ap, ap₂, ◌∙◌, subst}
use mathlib.Core.List.{List}
use Prim.Native.Nat.{ℕ, zero, suc, ◌+◌, ◌*◌, ◌-◌, ◌/◌, ◌%◌, ◌^◌, ◌≤◌, ◌<◌}
use native.Mathlib.Nat.{mod-lt, pow-zero, pow-suc, div-one, div-div-eq-div-mul, div-add-mod', div-eq_of_lt, div-lt_iff_lt-mul, mul-le-mul_left, mul-suc}
use native.Mathlib.Omega.{arith}
use lib.ListN.{length, get_or}
use Rattle.words.specs.Words.{word_at}
use Rattle.layered.proofs.Rows.{pow-mul}
use Rattle.table.specs.Table.{states}
use Rattle.merged.specs.Merged.{Target}
use Rattle.merged.specs.Demands.{target_after, state_after, Within}
use Rattle.merged.proofs.Histories.{word_below, before_below, target_more, state_more, within_more, within_longer}
use Rattle.trial.specs.Tried.{target_of, Held, Candidate, Leads, Comes}
use Rattle.trial.specs.declared.Sought.{Sought}
use Rattle.trial.specs.declared.Place.{Place}
use Rattle.trial.specs.declared.Visit.{Visit}
use Rattle.trial.proofs.Places.{words_some, few_bits, few_entries, entry_in, start_in, next_below, next_inside, out_at, next_at}

-- ---- where histories lead

module _ (a : Sought) (bytes starts chosen : List ℕ) (H : Held bytes starts a) (C : Candidate a chosen) where
  abbrev B : Target
  B = target_of a.words a.frames bytes

  abbrev next : ℕ → ℕ
  next e = get_or chosen e 0

  pub target_below : (t h : ℕ) → t ≤ a.frames → h < a.words ^ t → target_after B t h < states bytes t
  unfolding target_after
  target_below zero h l b = start_in a bytes starts H
  target_below (suc t) h l b = next_below a bytes starts H t _ _ (omega arith) (target_below t (h / a.words) (omega arith) (before_below a.words t h b)) (word_below a.words t h b)

  pub state_below : (t h : ℕ) → h < a.words ^ t → state_after B next t h < a.states
  unfolding state_after
  state_below zero h b = omega (arith, H.some_states)
  state_below (suc t) h b = C.small _ (entry_in a bytes starts H _ _ (state_below t (h / a.words) (before_below a.words t h b)) (word_below a.words t h b))

-- ---- a turn

-- after i of t words of the history h
pub record Along (a : Sought) (bytes starts chosen : List ℕ) (t h i shift target state used before : ℕ) : Type 0 where
  pub turns : i ≤ t
  pub shift_is : shift ≡ a.inputs * (t - i)
  pub before_is : before ≡ h / a.words ^ (t - i)
  pub target_is : target ≡ target_after (target_of a.words a.frames bytes) i before
  pub state_is : state ≡ state_after (target_of a.words a.frames bytes) (λ e. get_or chosen e 0) i before
  pub within : Within (target_of a.words a.frames bytes) (λ e. get_or chosen e 0) used i before
  pub used_in : used ≤ a.entries

-- a history of t words, cut after i of them
prefix_below : (K t i h : ℕ) → 0 < K → i ≤ t → h < K ^ t → h / K ^ (t - i) < K ^ i
prefix_below K t zero h pos l b = let j : t - 0 ≡ t = omega arith in let z : h / K ^ (t - 0) ≡ 0 = ap (λ j. h / K ^ j) j ∙ div-eq_of_lt b in rw (pow-zero K) (omega (arith, z))
prefix_below K t (suc i) h pos l b =
    let r = t - suc i in
    let I = prefix_below K t i h pos (omega arith) b in
    let j : t - i ≡ suc r = omega arith in
    let e : h / K ^ (t - i) ≡ h / K ^ r / K = ap (λ j. h / K ^ j) j ∙ ap (λ d. h / d) (pow-suc K r) ∙ sym (div-div-eq-div-mul h (K ^ r) K) in
    rw (pow-suc K i) ((div-lt_iff_lt-mul pos).0 (subst (λ x. x < K ^ i) e I))

-- what a turn needs
pub record Turn (a : Sought) (bytes starts : List ℕ) (i shift target state before prefix : ℕ) : Type 0 where
  pub shift_low : a.inputs ≤ shift
  pub shift_high : shift ≤ 16
  pub word_starts : before * a.words ≤ prefix
  pub entry_fits : state * a.words + (prefix - before * a.words) < a.entries
  pub entries_few : a.entries ≤ 12
  pub target_fits : a.gap + (get_or starts i 0 + 2 * (target * a.words + (prefix - before * a.words))) + 1 < length bytes
  pub starts_fit : i < length starts

module _ (a : Sought) (bytes starts chosen : List ℕ) (H : Held bytes starts a) (C : Candidate a chosen) (t h : ℕ) (lt : t ≤ a.frames) (lh : h < a.words ^ t) where
  pub along_start : (shift : ℕ) → shift ≡ a.inputs * t → Along a bytes starts chosen t h 0 shift 0 0 0 0
  unfolding target_after state_after Within
  along_start shift e = let j : t - 0 ≡ t = omega arith in record {
    turns = omega arith;
    shift_is = e ∙ ap (λ j. a.inputs * j) (sym j);
    before_is = sym (ap (λ j. h / a.words ^ j) j ∙ div-eq_of_lt lh);
    target_is = refl;
    state_is = refl;
    within = tt;
    used_in = omega arith;
  }

  pub shift_small : a.inputs * t ≤ 16
  shift_small = omega (arith, mul-le-mul_left a.inputs lt, few_bits a bytes starts H)

  module _ (i shift target state used before : ℕ) (A : Along a bytes starts chosen t h i shift target state used before) (l : i < t) where
    pub shift_on : shift ≡ a.inputs * (t - suc i) + a.inputs
    shift_on =
        let j : t - i ≡ suc (t - suc i) = omega arith in
        A.shift_is ∙ ap (λ j. a.inputs * j) j ∙ mul-suc a.inputs (t - suc i)

    pub shift_most : shift ≤ 16
    shift_most =
        let j : t - i ≤ t = omega arith in
        omega (arith, A.shift_is, mul-le-mul_left a.inputs j, shift_small)

    -- the history up to the next word, and this word
    module _ (prefix word : ℕ) (ep : prefix ≡ h / 2 ^ (shift - a.inputs)) where
      prefix_is : prefix ≡ h / a.words ^ (t - suc i)
      prefix_is =
          let j : shift - a.inputs ≡ a.inputs * (t - suc i) = omega (arith, shift_on) in
          ep ∙ ap (λ j. h / 2 ^ j) j ∙ ap (λ d. h / d) (pow-mul 2 a.inputs (t - suc i) ∙ ap (λ k. k ^ (t - suc i)) (sym H.words_are))

      before_is : prefix / a.words ≡ before
      before_is =
          let j : suc (t - suc i) ≡ t - i = omega arith in
          ap (λ x. x / a.words) prefix_is ∙ div-div-eq-div-mul h (a.words ^ (t - suc i)) a.words ∙ ap (λ d. h / d) (sym (pow-suc a.words (t - suc i)) ∙ ap (λ j. a.words ^ j) j) ∙ sym A.before_is

      pub splits : before * a.words + prefix % a.words ≡ prefix
      splits = ap (λ q. q * a.words + prefix % a.words) (sym before_is) ∙ div-add-mod' prefix a.words

      pub prefix_in : prefix < a.words ^ suc i
      prefix_in = rw prefix_is (prefix_below a.words t (suc i) h (words_some a bytes starts H) l lh)

      pub before_in : before < a.words ^ i
      before_in = subst (λ x. x < a.words ^ i) before_is (before_below a.words i prefix prefix_in)

      module _ (ew : word ≡ prefix - before * a.words) where
        word_is : before * a.words + word ≡ prefix
        word_is = omega (arith, splits)

        pub word_in : word < a.words
        word_in = omega (arith, splits, mod-lt prefix (words_some a bytes starts H))

        pub state_in : state < a.states
        state_in = rw A.state_is (state_below a bytes starts chosen H C i before before_in)

        pub chosen_inside : state * a.words + word < a.entries
        chosen_inside = entry_in a bytes starts H state word state_in word_in

        pub target_in : target < states bytes i
        target_in = rw A.target_is (target_below a bytes starts chosen H C i before (omega arith) before_in)

        pub along_next : (shift' target' state' used' : ℕ) → shift' ≡ shift - a.inputs → target' ≡ word_at bytes (a.gap + (get_or starts i 0 + 2 * (target * a.words + word)))
            → state' ≡ get_or chosen (state * a.words + word) 0 → used ≤ used' → state * a.words + word < used' → used' ≤ a.entries
            → Along a bytes starts chosen t h (i + 1) shift' target' state' used' prefix
        along_next shift' target' state' used' es et est u v x =
            let Bt = target_of a.words a.frames bytes in
            let nx : ℕ → ℕ = λ e. get_or chosen e 0 in
            let j : suc i ≡ i + 1 = omega arith in
            subst (λ j. Along a bytes starts chosen t h j shift' target' state' used' prefix) j
            (record {
              turns = l;
              shift_is = omega (arith, shift_on);
              before_is = prefix_is;
              target_is = et ∙ next_at a bytes starts H i target word (omega arith) target_in word_in ∙ ap (λ q. Bt.machine.next i q word) A.target_is ∙ sym (target_more Bt i before word word_in) ∙ ap (target_after Bt (suc i)) word_is;
              state_is = est ∙ ap (λ s. nx (s * a.words + word)) A.state_is ∙ sym (state_more Bt nx i before word word_in) ∙ ap (state_after Bt nx (suc i)) word_is;
              within = subst (Within Bt nx used' (suc i)) word_is
                  (within_more Bt nx used' i before word word_in (within_longer Bt nx used used' i before (λ e b. omega arith) A.within) (subst (λ s. s * a.words + word < used') A.state_is v));
              used_in = x;
            })

    pub turn : Turn a bytes starts i shift target state before (h / 2 ^ (shift - a.inputs))
    turn = record {
      shift_low = omega (arith, shift_on);
      shift_high = shift_most;
      word_starts = omega (arith, splits (h / 2 ^ (shift - a.inputs)) 0 refl);
      entry_fits = chosen_inside (h / 2 ^ (shift - a.inputs)) _ refl refl;
      entries_few = few_entries a bytes starts H;
      target_fits =
          next_inside a bytes starts H i target _ (omega arith) (target_in (h / 2 ^ (shift - a.inputs)) _ refl refl) (word_in (h / 2 ^ (shift - a.inputs)) _ refl refl);
      starts_fit = omega (arith, H.starts_long);
    }

  pub along_end : (i shift target state used before : ℕ) → Along a bytes starts chosen t h i shift target state used before → t ≤ i
      → (r : Place) → r ≡ record { target = target; state = state; used = used } → Leads (target_of a.words a.frames bytes) (λ e. get_or chosen e 0) t h r × ((r.state < a.states) × (r.used ≤ a.entries))
  along_end i shift target state used before A l r er =
      let Bt = target_of a.words a.frames bytes in
      let nx : ℕ → ℕ = λ e. get_or chosen e 0 in
      let j : i ≡ t = omega (arith, A.turns) in
      let z : t - i ≡ 0 = omega arith in
      let b : before ≡ h = A.before_is ∙ ap (λ j. h / a.words ^ j) z ∙ ap (λ d. h / d) (pow-zero a.words) ∙ div-one h in
      let s : state ≡ state_after Bt nx t h = A.state_is ∙ ap₂ (state_after Bt nx) j b in
      rw er (
        record {
          target_is = A.target_is ∙ ap₂ (target_after Bt) j b;
          state_is = s;
          within = subst (λ h. Within Bt nx used t h) b (subst (λ i. Within Bt nx used i before) j A.within);
        },
        (rw s (state_below a bytes starts chosen H C t h lh), A.used_in),
      )

-- ---- the last word

-- what a history of t + 1 words needs that led to `target` and `state` before its last word
pub record Last (a : Sought) (bytes starts : List ℕ) (t h target state : ℕ) : Type 0 where
  pub entry_fits : state * a.words + (h - h / 2 ^ a.inputs * a.words) < a.entries
  pub entries_few : a.entries ≤ 12
  pub starts_fit : t < length starts
  pub target_fits : get_or starts t 0 + 2 * (target * a.words + (h - h / 2 ^ a.inputs * a.words)) + 1 < length bytes

module _ (a : Sought) (bytes starts chosen : List ℕ) (H : Held bytes starts a) (C : Candidate a chosen) (t h : ℕ) (lt : t < a.frames) (lh : h < a.words ^ suc t) where
  pub before_word : h / 2 ^ a.inputs ≡ h / a.words
  before_word = ap (λ k. h / k) (sym H.words_are)

  pub word_from : h / 2 ^ a.inputs * a.words ≤ h
  word_from = omega (arith, ap (λ q. q * a.words) before_word, div-add-mod' h a.words)

  last_word : h - h / 2 ^ a.inputs * a.words ≡ h % a.words
  last_word = omega (arith, ap (λ q. q * a.words) before_word, div-add-mod' h a.words)

  pub before_small : h / 2 ^ a.inputs < a.words ^ t
  before_small = rw before_word (before_below a.words t h lh)

  module _ (r : Place) (R : Leads (target_of a.words a.frames bytes) (λ e. get_or chosen e 0) t (h / 2 ^ a.inputs) r) where
    led_in : r.target < states bytes t
    led_in = rw R.target_is (target_below a bytes starts chosen H C t _ (omega arith) before_small)

    pub last : Last a bytes starts t h r.target r.state
    last =
        let w : h - h / 2 ^ a.inputs * a.words < a.words = rw last_word (word_below a.words t h lh) in
        record {
          entry_fits = entry_in a bytes starts H _ _ (rw R.state_is (state_below a bytes starts chosen H C t _ before_small)) w;
          entries_few = few_entries a bytes starts H;
          target_fits = omega (arith, next_inside a bytes starts H t r.target _ lt led_in w);
          starts_fit = omega (arith, H.starts_long);
        }

    pub comes : (v : Visit) → v.entry ≡ r.state * a.words + (h - h / 2 ^ a.inputs * a.words)
        → v.out ≡ word_at bytes (get_or starts t 0 + 2 * (r.target * a.words + (h - h / 2 ^ a.inputs * a.words))) → v.used ≡ r.used
        → Comes (target_of a.words a.frames bytes) (λ e. get_or chosen e 0) t (h / a.words) (h % a.words) v
    comes v ee eo eu =
        let Bt = target_of a.words a.frames bytes in
        let nx : ℕ → ℕ = λ e. get_or chosen e 0 in
        record {
          entry_is = ee ∙ ap₂ (λ s w. s * a.words + w) (R.state_is ∙ ap (state_after Bt nx t) before_word) last_word;
          out_is =
              eo ∙ out_at a bytes starts H t r.target _ lt led_in (rw last_word (word_below a.words t h lh))
              ∙ ap₂ (λ q w. Bt.machine.out t q w) (R.target_is ∙ ap (target_after Bt t) before_word) last_word;
          within = subst (λ u. Within Bt nx u t (h / a.words)) (sym eu) (subst (Within Bt nx r.used t) before_word R.within);
        }
