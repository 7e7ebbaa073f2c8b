-- A pair of histories that contradict each other. Assumes nothing.
use mathlib.Core.Path.{◌≡◌, refl, sym, ap, ◌∙◌, subst}
use mathlib.Core.Bool.{Bool, true, false}
use mathlib.Core.List.{List}
use Prim.Native.Nat.{ℕ, suc, ◌+◌, ◌*◌, ◌-◌, ◌/◌, ◌%◌, ◌^◌, ◌≤◌, ◌<◌}
use native.Mathlib.Nat.{mul-le-mul_left}
use native.Mathlib.Numerals.{add-one}
use native.Mathlib.Omega.{arith}
use lib.Bits.{bit_and, and_lt, and_le_r}
use lib.ListN.{get_or}
use Rattle.layered.proofs.Rows.{pow-mul}
use Rattle.sizes.specs.Sizes.{outputs}
use Rattle.circuit.specs.Lists.{bit}
use Rattle.circuit.proofs.Bits.{bit_and_lem}
use Rattle.table.specs.Table.{connected}
use Rattle.merged.specs.Demands.{target_after, state_after, Within, Demand, Contradicted}
use Rattle.merged.proofs.Histories.{word_below, before_below, within_longer}
use Rattle.trial.specs.Tried.{target_of, Held, Comes}
use Rattle.trial.specs.declared.Sought.{Sought}
use Rattle.trial.specs.declared.Visit.{Visit}
use Rattle.trial.proofs.Bits.{ones_mask, zeros_mask, and_both, some_bit}
use Rattle.trial.proofs.Places.{few_bits, few_outputs, masks}

-- a number below two to the power of a frame's bits is a history of it
pub history_small : (a : Sought) (bytes starts : List ℕ) → Held bytes starts a → (t h : ℕ) → h < 2 ^ (a.inputs * (t + 1)) → h < a.words ^ suc t
history_small a bytes starts H t h l =
    let e : 2 ^ (a.inputs * (t + 1)) ≡ a.words ^ suc t = pow-mul 2 a.inputs (t + 1) ∙ ap (λ k. k ^ (t + 1)) (sym H.words_are) ∙ ap (λ j. a.words ^ j) (add-one t) in
    omega (arith, l, e)

-- and its bits are few
pub shift_few : (a : Sought) (bytes starts : List ℕ) → Held bytes starts a → (t : ℕ) → t < a.frames → a.inputs * (t + 1) ≤ 16
shift_few a bytes starts H t l =
    let b : t + 1 ≤ a.frames = omega arith in
    omega (arith, mul-le-mul_left a.inputs b, few_bits a bytes starts H)

module _ (a : Sought) (bytes starts chosen : List ℕ) (H : Held bytes starts a) (t g s h : ℕ) (lt : t < a.frames) (ls : s < a.frames)
    (lg : g < a.words ^ suc t) (lh : h < a.words ^ suc s) (x y : Visit)
    (X : Comes (target_of a.words a.frames bytes) (λ e. get_or chosen e 0) t (g / a.words) (g % a.words) x)
    (Y : Comes (target_of a.words a.frames bytes) (λ e. get_or chosen e 0) s (h / a.words) (h % a.words) y) (by : y.out < 65536) where
  of : (t h used out i : ℕ) (v : Bool) → t < a.frames → h < a.words ^ suc t → Within (target_of a.words a.frames bytes) (λ e. get_or chosen e 0) used t (h / a.words)
      → out ≡ (target_of a.words a.frames bytes).machine.out t (target_after (target_of a.words a.frames bytes) t (h / a.words)) (h % a.words) → bit (connected bytes t) i ≡ true → bit out i ≡ v → (u : ℕ) → used ≤ u
      → Demand (target_of a.words a.frames bytes) (λ e. get_or chosen e 0) u (state_after (target_of a.words a.frames bytes) (λ e. get_or chosen e 0) t (h / a.words) * a.words + h % a.words) i v
  of t h used out i v l b W o c q u m = record {
    t = t;
    h = h / a.words;
    w = h % a.words;
    frame_in = l;
    history_in = before_below a.words t h b;
    word_in = word_below a.words t h b;
    within = within_longer (target_of a.words a.frames bytes) (λ e. get_or chosen e 0) used u t (h / a.words) (λ e k. omega arith) W;
    comes = refl;
    counts = c;
    is = ap (λ o. bit o i) (sym o) ∙ q;
  }

  both_clash : x.entry ≡ y.entry → 0 < bit_and (bit_and x.out (connected bytes t)) (bit_and (65535 - y.out) (connected bytes s)) → (u : ℕ) → x.used ≤ u → y.used ≤ u
      → Contradicted (target_of a.words a.frames bytes) (λ e. get_or chosen e 0) u
  both_clash same p u lx ly =
      let one = bit_and x.out (connected bytes t) in
      let zero = bit_and (65535 - y.out) (connected bytes s) in
      let small : one < 2 ^ outputs bytes = omega (arith, and_le_r x.out (connected bytes t), masks a bytes starts H t lt) in
      let small' : zero < 2 ^ outputs bytes = omega (arith, and_le_r (65535 - y.out) (connected bytes s), masks a bytes starts H s ls) in
      let f = some_bit (outputs bytes) (bit_and one zero) (and_lt (outputs bytes) one zero small small') p in
      let i = f.0 in
      let q = and_both (bit one i) (bit zero i) (sym (bit_and_lem one zero i) ∙ f.2) in
      let m = (ones_mask x.out (connected bytes t) i).0 q.0 in
      let n = (zeros_mask y.out (connected bytes s) i (omega (arith, few_outputs a bytes starts H, f.1)) by).0 q.1 in
      record {
        e = x.entry;
        i = i;
        bit_in = f.1;
        one = subst (λ e. Demand (target_of a.words a.frames bytes) (λ e. get_or chosen e 0) u e i true) (sym X.entry_is) (of t g x.used x.out i true lt lg X.within X.out_is m.0 m.1 u lx);
        zero = subst (λ e. Demand (target_of a.words a.frames bytes) (λ e. get_or chosen e 0) u e i false) (sym (same ∙ Y.entry_is)) (of s h y.used y.out i false ls lh Y.within Y.out_is n.0 n.1 u ly);
      }

  -- the same with the masks as the code reads them
  pub pair_clashes : (mt ms : ℕ) → mt ≡ connected bytes t → ms ≡ connected bytes s → x.entry ≡ y.entry → 0 < bit_and (bit_and x.out mt) (bit_and (65535 - y.out) ms)
      → (u : ℕ) → x.used ≤ u → y.used ≤ u → Contradicted (target_of a.words a.frames bytes) (λ e. get_or chosen e 0) u
  pair_clashes mt ms et es same p =
      both_clash same (subst (λ m. 0 < bit_and (bit_and x.out m) (bit_and (65535 - y.out) (connected bytes s))) et (subst (λ m. 0 < bit_and (bit_and x.out mt) (bit_and (65535 - y.out) m)) es p))
