-- The test of matching, what machines it depends on, and machines by their numbers.
use mathlib.Core.Path.{◌≡◌, refl, sym, ap, ◌∙◌, subst}
use mathlib.Core.Bool.{true}
use Prim.Native.Nat.{ℕ, ◌+◌, ◌*◌, ◌/◌, ◌%◌, ◌^◌, ◌<◌}
use native.Mathlib.Nat.{mod-lt, div-lt_iff_lt-mul}
use lib.Arith.{digits_lt, digits_div, digits_mod}
use lib.Bits.{bit_and}
use lib.Dec.{T as Yes}
use lib.Pow.{pow_pos}
use Rattle.layered.specs.Histories.{history_number}
use Rattle.layered.specs.Machines.{Legal, Gives, masked}
use Rattle.layered.proofs.Search.{every_true, every_each, equal_lists, equal_true}
use Rattle.layered.proofs.Histories.{history_below, number_words, words_number}
use Rattle.layered.proofs.Machines.{masked_legal}
use Rattle.layered.proofs.Agreement.{agree_gives}
use Rattle.merged.specs.Merged.{Target, Merged, Proper, entries_of, layers_of, seen, Matches, matches, Same, digit_of, output_choices, machine_count, numbered}
use Rattle.merged.specs.Demands.{pack_to}
use Rattle.merged.specs.Theorems.{Tested, InOrder}
use Rattle.merged.proofs.Numbers.{in_order_all, pow_some, number_back}

pub tested : Tested
unfolding Tested Matches matches
tested B G = (
  (λ e c W.
      let same = every_each _ (B.K ^ B.T) e (history_number B.K 0 c) (history_below W) in
      subst (λ d. seen B (layers_of B.K G) d ≡ seen B B.machine d) (words_number W) (equal_lists _ _ (subst Yes (sym same) tt))),
  λ M. every_true _ (B.K ^ B.T) (λ h l. equal_true _ _ (M _ (number_words B.K B.T h l).0)),
)

-- a machine is a legal layered one
layers_legal : (B : Target) (G : Merged) → Proper B G → Legal B.K B.m B.T (layers_of B.K G)
unfolding entries_of
layers_legal B G P = record {
  start_is = P.some;
  out_is = λ t s w h l b. P.out_is _ (digits_lt l b);
  next_is = λ t s w h l b. P.next_is _ (digits_lt l b);
}

-- machines with the same entries match alike
pub matches_same : (B : Target) (G H : Merged) → Proper B G → G.states ≡ H.states → Same (entries_of B G.states) G.next H.next → Same (entries_of B G.states) G.out H.out
    → Matches B G → Matches B H
unfolding Matches seen Same entries_of Gives
matches_same B G H P e N O M =
    agree_gives (masked B.connected (layers_of B.K G)) (masked B.connected (layers_of B.K H)) (masked_legal B.connected _ (layers_legal B G P))
    (record {
      states_are = λ t l. e;
      start_is = refl;
      outs_are = λ t s w h l b. ap (λ x. bit_and x (B.connected t)) (O _ (digits_lt l b));
      nexts_are = λ t s w h l b. N _ (digits_lt l b);
    })
    (seen B B.machine) M

-- ---- numbers of machines

pub proper_same : (B : Target) (G H : Merged) → Proper B G → G.states ≡ H.states → Same (entries_of B G.states) G.next H.next → Same (entries_of B G.states) G.out H.out → Proper B H
unfolding Same
proper_same B G H P e N O = record {
  some = subst (λ k. 0 < k) e P.some;
  next_is = λ i l. let l' = subst (λ k. i < entries_of B k) (sym e) l in subst (λ x. x < H.states) (N i l') (subst (λ k. G.next i < k) e (P.next_is i l'));
  out_is = λ i l. let l' = subst (λ k. i < entries_of B k) (sym e) l in subst (λ x. x < 2 ^ B.m) (O i l') (P.out_is i l');
}

module _ (B : Target) (k : ℕ) (pos : 0 < k) where
  abbrev L : ℕ
  L = entries_of B k

  pub choices_some : 0 < output_choices B k
  unfolding output_choices
  choices_some = pow_some (2 ^ B.m) (pow_pos B.m) (entries_of B k)

  pub numbered_proper : (x : ℕ) → Proper B (numbered B k x)
  unfolding InOrder
  numbered_proper x = record { some = pos; next_is = λ e l. (in_order_all k L pos).digits_below _ e; out_is = λ e l. (in_order_all (2 ^ B.m) L (pow_pos B.m)).digits_below _ e }

  -- its digits give its number back
  pub nexts_back : (x : ℕ) → x < machine_count B k → pack_to k (numbered B k x).next L ≡ x / output_choices B k
  unfolding machine_count
  nexts_back x l = number_back k pos L (x / output_choices B k) ((div-lt_iff_lt-mul choices_some).1 l)

  pub outs_back : (x : ℕ) → pack_to (2 ^ B.m) (numbered B k x).out L ≡ x % output_choices B k
  unfolding output_choices
  outs_back x = number_back (2 ^ B.m) (pow_pos B.m) L (x % output_choices B k) (mod-lt x choices_some)

  -- the number of a machine of k states, and the machine that it numbers
  module _ (H : Merged) (P : Proper B H) (e : H.states ≡ k) where
    unfoldable pub number_of : ℕ
    number_of = pack_to k H.next L * output_choices B k + pack_to (2 ^ B.m) H.out L

    pub nexts_below : (i : ℕ) → i < L → H.next i < k
    nexts_below i l = subst (λ n. H.next i < n) e (P.next_is i (subst (λ n. i < entries_of B n) (sym e) l))

    pub outs_below : (i : ℕ) → i < L → H.out i < 2 ^ B.m
    outs_below i l = P.out_is i (subst (λ n. i < entries_of B n) (sym e) l)

    pub outs_packed : pack_to (2 ^ B.m) H.out L < output_choices B k
    unfolding InOrder output_choices
    outs_packed = (in_order_all (2 ^ B.m) L (pow_pos B.m)).pack_below H.out outs_below

    pub number_in : number_of < machine_count B k
    unfolding InOrder machine_count number_of
    number_in = digits_lt ((in_order_all k L pos).pack_below H.next nexts_below) outs_packed

    pub same_nexts : Same L H.next (numbered B k number_of).next
    unfolding InOrder Same number_of
    same_nexts i l = sym (ap (λ c. digit_of k L c i) (digits_div (pack_to k H.next L) outs_packed) ∙ (in_order_all k L pos).digits_packed H.next nexts_below i l)

    pub same_outs : Same L H.out (numbered B k number_of).out
    unfolding InOrder Same number_of
    same_outs i l =
        sym (ap (λ c. digit_of (2 ^ B.m) L c i) (digits_mod (pack_to k H.next L) outs_packed) ∙ (in_order_all (2 ^ B.m) L (pow_pos B.m)).digits_packed H.out outs_below i l)

    -- the machine of its number matches where it does
    pub number_matches : Matches B H → matches B (numbered B k number_of) ≡ true
    unfolding Tested
    number_matches M =
        (tested B (numbered B k number_of)).1
        (matches_same B H (numbered B k number_of) P e (subst (λ n. Same (entries_of B n) H.next (numbered B k number_of).next) (sym e) same_nexts)
        (subst (λ n. Same (entries_of B n) H.out (numbered B k number_of).out) (sym e) same_outs) M)
