-- From searches for one state count each to the fewest states. Assumes nothing.
use mathlib.Core.Path.{◌≡◌, refl, sym, ap, ap₂, ◌∙◌, subst}
use mathlib.Core.Bool.{false}
use mathlib.Core.Logic.{⊎_elim}
use mathlib.Core.List.{List}
use Prim.Native.Nat.{ℕ, suc, ◌+◌, ◌*◌, ◌-◌, ◌/◌, ◌%◌, ◌^◌, ◌≤◌, ◌<◌}
use native.Mathlib.Nat.{le_refl, eq-or-lt_of_le}
use native.Mathlib.Numerals.{add-one}
use native.Mathlib.Omega.{arith}
use borrow.Author.Tests.{lt-ltb, le-ltb}
use lib.Arith.{digits_lt, digits_div, digits_mod}
use lib.ListN.{length, get_or}
use lib.Pow.{pow_pos}
use Rattle.sizes.specs.Sizes.{inputs, outputs, frames}
use Rattle.layered.proofs.Search.{least_is}
use Rattle.table.specs.Table.{connected}
use Rattle.table.specs.Sound.{Sound, layout_of}
use Rattle.table.specs.declared.Layout.{Layout}
use Rattle.table.proofs.Offsets.{Laid, laid}
use Rattle.merged.specs.Merged.{Target, Same, entries_of, digit_of, output_choices, machine_count, numbered, first_match, matched, most_merged, fewest_states, first_machine}
use Rattle.merged.specs.Demands.{Contradicted, Ones, pack_to}
use Rattle.merged.specs.Theorems.{InOrder}
use Rattle.merged.proofs.Numbers.{in_order_all}
use Rattle.merged.proofs.Chosen.{found_first, all_refuted}
use Rattle.trial.specs.Tried.{target_of, Held}
use Rattle.trial.specs.declared.Sought.{Sought}
use Rattle.refute.specs.Searched.{Digits, Searched}
use Rattle.refute.specs.Searched as told
use Rattle.refute.specs.declared.Found.{Found}
use Rattle.std.specs.Prelude.{Option, None, Some}
use Rattle.merge.specs.Merge.{target}
use Rattle.merge.specs.Found.{StartsOf, FewestIs, FewestOf}
use Rattle.merge.specs.declared.Fewest.{Fewest}

-- what the search is asked for, of a machine of k states
abbrev pub sought_of : (layout : Layout) (n k : ℕ) → Sought
sought_of layout n k = record {
  inputs = n;
  words = layout.words;
  frames = layout.frames;
  gap = layout.nexts - layout.outputs;
  states = k;
  entries = k * layout.words;
}

module _ (b : List ℕ) (Z : Sound b) (layout : Layout) (el : layout ≡ layout_of b) where
  abbrev B : Target
  B = target b

  stands : Laid b layout
  stands = laid b layout Z.headed el

  -- what is sought is the target of the definitions
  target_is : target_of layout.words layout.frames b ≡ target b
  target_is = ap₂ (λ w l. target_of w l b) stands.words_is stands.frames_is

  entries_are : (k : ℕ) → k * layout.words ≡ entries_of B k
  unfolding entries_of
  entries_are k = ap (λ w. k * w) stands.words_is

  masks : (t : ℕ) → t < frames b → connected b t < 2 ^ outputs b
  masks = Z.headed.connected_to

  pub held : (starts : List ℕ) (n k : ℕ) → n ≡ inputs b → n ≤ 2 → StartsOf b starts → 1 ≤ k → k ≤ 3 → Held b starts (sought_of layout n k)
  held starts n k en few S some most = record {
    sound = Z;
    inputs_are = en;
    few_inputs = few;
    words_are = stands.words_is ∙ ap (λ n. 2 ^ n) (sym en);
    frames_are = stands.frames_is;
    gap_is = omega (arith, stands.nexts-at);
    starts_long = omega (arith, stands.frames_is, S.long);
    starts_are = λ t l. S.are t (omega (arith, stands.frames_is));
    some_states = some;
    few_states = most;
    entries_are = refl;
  }

  -- ---- one state count

  module _ (k : ℕ) (pos : 0 < k) where
    pub unmatched : (r : Option Found) → Searched B k (entries_of B k) r → r ≡ None → first_match B k ≡ machine_count B k
    unmatched r (told.Searched.found f e _ _ _ _ _) q = absurd (cc)
    unmatched r (told.Searched.none e R) q = all_refuted B k pos R

    -- the machine that is found is the first
    module _ (number : ℕ) (ones nexts : List ℕ) (l : number < k ^ entries_of B k) (before : (d : ℕ) → d < number → Contradicted B (digit_of k (entries_of B k) d) (entries_of B k))
        (O : Ones B (digit_of k (entries_of B k) number) (entries_of B k) (λ e. get_or ones e 0)) (free : Contradicted B (digit_of k (entries_of B k) number) (entries_of B k) → ⊥)
        (D : Digits k (entries_of B k) number nexts) where
      packed : pack_to (2 ^ outputs b) (λ e. get_or ones e 0) (entries_of B k) < output_choices B k
      unfolding InOrder output_choices
      packed = (in_order_all (2 ^ outputs b) (entries_of B k) (pow_pos (outputs b))).pack_below (λ e. get_or ones e 0) O.small

      first_is : first_match B k ≡ number * output_choices B k + pack_to (2 ^ outputs b) (λ e. get_or ones e 0) (entries_of B k)
      first_is = found_first B k pos masks number (λ e. get_or ones e 0) l before O free

      pub is_below : first_match B k < machine_count B k
      unfolding machine_count
      is_below = subst (λ x. x < machine_count B k) (sym first_is) (digits_lt l packed)

      pub outs_found : Same (entries_of B k) (λ e. get_or ones e 0) (numbered B k (first_match B k)).out
      unfolding InOrder Same
      outs_found e h =
          sym (ap (λ x. digit_of (2 ^ outputs b) (entries_of B k) (x % output_choices B k) e) first_is
          ∙ ap (λ x. digit_of (2 ^ outputs b) (entries_of B k) x e) (digits_mod number packed)
          ∙ (in_order_all (2 ^ outputs b) (entries_of B k) (pow_pos (outputs b))).digits_packed (λ e. get_or ones e 0) O.small e h)

      pub nexts_found : Same (entries_of B k) (λ e. get_or nexts e 0) (numbered B k (first_match B k)).next
      unfolding Same
      nexts_found e h = D e h ∙ sym (ap (λ x. digit_of k (entries_of B k) (x / output_choices B k) e) first_is ∙ ap (λ x. digit_of k (entries_of B k) x e) (digits_div number packed))

  -- ---- the fewest

  -- no machine of k states or fewer matches
  unfoldable pub Fewer : (k : ℕ) → Type 0
  Fewer k = (j : ℕ) → j < k → first_match B (suc j) ≡ machine_count B (suc j)

  not_matched : (k : ℕ) → Fewer k → (j : ℕ) → j < k → matched B (suc j) ≡ false
  unfolding Fewer matched
  not_matched k F j l = le-ltb (first_match B (suc j)) (machine_count B (suc j)) (omega (arith, F j l))

  fewest_is : (k : ℕ) → k ≤ most_merged → Fewer k → (k < most_merged → first_match B (suc k) < machine_count B (suc k)) → fewest_states B ≡ suc k
  unfolding fewest_states matched
  fewest_is k l F m = ap suc (least_is most_merged k (λ i. matched B (suc i)) l (not_matched k F) (λ h. lt-ltb (first_match B (suc k)) (machine_count B (suc k)) (m h)))

  pub fewer_none : Fewer 0
  unfolding Fewer
  fewer_none j l = absurd (omega arith)

  -- the search for k + 1 states, as the code numbers them
  module _ (k : ℕ) (f : Option Found) (F : Fewer k) (S : Searched (target_of layout.words layout.frames b) (k + 1) ((k + 1) * layout.words) f) where
    entries_next : (k + 1) * layout.words ≡ entries_of B (suc k)
    entries_next = ap (λ j. j * layout.words) (add-one k) ∙ entries_are (suc k)

    searched : Searched B (suc k) (entries_of B (suc k)) f
    searched =
        subst (λ C. Searched C (suc k) (entries_of B (suc k)) f) target_is
        (subst (λ L. Searched (target_of layout.words layout.frames b) (suc k) L f) entries_next
        (subst (λ j. Searched (target_of layout.words layout.frames b) j ((k + 1) * layout.words) f) (add-one k) S))

    pub fewer_more : f ≡ None → Fewer (k + 1)
    unfolding Fewer
    fewer_more q j l = ⊎_elim (λ e. ap (λ j. first_match B (suc j)) e ∙ unmatched (suc k) (omega arith) f searched q ∙ ap (λ j. machine_count B (suc j)) (sym e)) (F j) (eq-or-lt_of_le {n = j} {m = k} (omega arith))

    pub found_fewest : (g : Found) (nexts : List ℕ) → f ≡ Some g → k < most_merged → Digits (k + 1) ((k + 1) * layout.words) g.number nexts → length nexts ≡ 12
        → FewestOf b (Some (record { states = k + 1; outs = g.ones; nexts = nexts }))
    found_fewest g nexts q few D ln = go searched
      where
        r : Fewest
        r = record { states = k + 1; outs = g.ones; nexts = nexts }

        D' : Digits (suc k) (entries_of B (suc k)) g.number nexts
        D' = subst (λ L. Digits (suc k) L g.number nexts) entries_next (subst (λ j. Digits j ((k + 1) * layout.words) g.number nexts) (add-one k) D)

        is : length g.ones ≡ 12 → g.number < suc k ^ entries_of B (suc k) → ((d : ℕ) → d < g.number → Contradicted B (digit_of (suc k) (entries_of B (suc k)) d) (entries_of B (suc k)))
            → Ones B (digit_of (suc k) (entries_of B (suc k)) g.number) (entries_of B (suc k)) (λ e. get_or g.ones e 0) → (Contradicted B (digit_of (suc k) (entries_of B (suc k)) g.number) (entries_of B (suc k)) → ⊥)
            → FewestIs b r
        is lo h before O free =
            let fewest : fewest_states B ≡ suc k = fewest_is k (omega arith) F (λ _. is_below (suc k) (omega arith) g.number g.ones nexts h before O free D') in
            record {
              few = omega arith;
              states_are = add-one k ∙ sym fewest;
              outs_are = subst (λ j. Same (entries_of B j) (λ e. get_or g.ones e 0) (first_machine B).out) (sym (add-one k))
                  (subst (λ j. Same (entries_of B (suc k)) (λ e. get_or g.ones e 0) (numbered B j (first_match B j)).out) (sym fewest)
                  (outs_found (suc k) (omega arith) g.number g.ones nexts h before O free D'));
              nexts_are = subst (λ j. Same (entries_of B j) (λ e. get_or nexts e 0) (first_machine B).next) (sym (add-one k))
                  (subst (λ j. Same (entries_of B (suc k)) (λ e. get_or nexts e 0) (numbered B j (first_match B j)).next) (sym fewest)
                  (nexts_found (suc k) (omega arith) g.number g.ones nexts h before O free D'));
              outs_long = lo;
              nexts_long = ln;
            }

        go : Searched B (suc k) (entries_of B (suc k)) f → FewestOf b (Some r)
        go (told.Searched.none e R) = absurd (cc)
        go (told.Searched.found h e lo l before O free) =
            let s : h ≡ g = cc in
            record { one = λ x ex. let z : r ≡ x = cc in subst (FewestIs b) z (is' h s lo l before O free); none = λ ex. absurd (cc) }
          where
            is' : (h : Found) → h ≡ g → length h.ones ≡ 12 → h.number < suc k ^ entries_of B (suc k) → ((d : ℕ) → d < h.number → Contradicted B (digit_of (suc k) (entries_of B (suc k)) d) (entries_of B (suc k)))
                → Ones B (digit_of (suc k) (entries_of B (suc k)) h.number) (entries_of B (suc k)) (λ e. get_or h.ones e 0) → (Contradicted B (digit_of (suc k) (entries_of B (suc k)) h.number) (entries_of B (suc k)) → ⊥)
                → FewestIs b r
            is' h s = rw s is

  pub none_fewest : Fewer most_merged → FewestOf b None
  none_fewest F = record {
    one = λ f e. absurd (cc);
    none = omega (arith, fewest_is most_merged (le_refl _) F (λ h. absurd (omega arith)));
  }
