-- Demands, collected. Assumes nothing.
use mathlib.Core.Path.{◌≡◌, refl, sym, ap, ap₂, ◌∙◌, subst}
use mathlib.Core.Bool.{Bool, true, false, false≢true, ◌&&◌}
use mathlib.Core.Logic.{◌⊎◌, inl, inr, ⊎_elim, ◌↔◌}
use mathlib.Core.List.{List}
use Prim.Native.Nat.{ℕ, zero, suc, ◌+◌, ◌*◌, ◌-◌, ◌/◌, ◌%◌, ◌^◌, ◌≤◌, ◌<◌}
use native.Mathlib.Nat.{eq-or-lt_of_le, mul-le-mul_left}
use native.Mathlib.Omega.{arith}
use lib.Arith.{digits_div, digits_mod}
use lib.Bits.{bit_and, bit_or, or_lt, and_lt, and_le_r, and_zero_l}
use lib.ListN.{length, get_or, set, length-set, replicate, get_or-replicate}
use lib.Pow.{pow_mono, pow_pos}
use lib.Seq.{get_or-set_same, get_or-set_other}
use Rattle.layered.proofs.States.{digit_below}
use Rattle.layered.proofs.Rows.{pow-mul}
use Rattle.sizes.specs.Sizes.{outputs}
use Rattle.circuit.specs.Lists.{bit}
use Rattle.circuit.proofs.Bits.{bit_none, bit_and_lem}
use Rattle.table.specs.Table.{connected}
use Rattle.merged.specs.Merged.{Target}
use Rattle.merged.specs.Demands.{target_after, state_after, Within, Demand, Contradicted, Ones}
use Rattle.merged.proofs.Histories.{word_below, before_below, within_longer}
use Rattle.trial.specs.Tried.{target_of, Held, Candidate, Comes}
use Rattle.trial.specs.Collected.{Half, Halves, Collected, Walked, Judged, fits}
use Rattle.trial.specs.Collected as told
use Rattle.std.specs.Prelude.{Option, None, Some, Ok}
use Rattle.trial.specs.declared.Sought.{Sought}
use Rattle.trial.specs.declared.Spot.{Spot}
use Rattle.trial.specs.declared.Visit.{Visit}
use Rattle.trial.proofs.Bits.{ones_mask, zeros_mask, bit_or_lem, or_one, or_left, or_right, and_both, some_bit}
use Rattle.trial.proofs.Places.{few_bits, few_outputs, few_entries, masks, entry_in}
use Rattle.trial.proofs.Following.{state_below}

decide : (a b : ℕ) → (a ≡ b) ⊎ ((a ≡ b) → ⊥)
decide zero zero = inl refl
decide zero (suc b) = inr (λ e. omega arith)
decide (suc a) zero = inr (λ e. omega arith)
decide (suc a) (suc b) = ⊎_elim (λ e. inl (ap suc e)) (λ n. inr (λ e. n (omega arith))) (decide a b)

module _ (B : Target) (next : ℕ → ℕ) (L : ℕ) where
  -- one history more: x has the bits that it demands v
  pub half_step : (v : Bool) (list : List ℕ) (t h e x : ℕ) → Half B next L v list t h → t < B.T → h < B.K ^ suc t → e < L
      → e ≡ state_after B next t (h / B.K) * B.K + h % B.K → Within B next L t (h / B.K) → x < 2 ^ B.m
      → ((i : ℕ) → i < B.m → (bit x i ≡ true) ↔ ((bit (B.connected t) i ≡ true) × (bit (B.machine.out t (target_after B t (h / B.K)) (h % B.K)) i ≡ v)))
      → Half B next L v (set list e (bit_or (get_or list e 0) x)) t (suc h)
  half_step v list t h e x F lt lh le ee W sx X = record {
    long = rw (length-set list e y) F.long;
    small = λ d l. ⊎_elim (λ q. rw (at d q) (or_lt B.m _ _ (F.small e le) sx)) (λ n. rw (off d n) (F.small d l)) (decide d e);
    sound = λ d i l li b. ⊎_elim
        (λ q. ⊎_elim (λ o. F.sound d i l li (ap (λ d. bit (get_or list d 0) i) q ∙ o)) (λ o. demand d i q ((X i li).0 o)) (or_one (bit (get_or list e 0) i) (bit x i) (sym (bit_or_lem (get_or list e 0) x i) ∙ ap (λ z. bit z i) (sym (at d q)) ∙ b)))
        (λ n. F.sound d i l li (ap (λ z. bit z i) (sym (off d n)) ∙ b))
        (decide d e);
    whole = whole;
  }
    where
      y : ℕ
      y = bit_or (get_or list e 0) x

      at : (d : ℕ) → d ≡ e → get_or (set list e y) d 0 ≡ y
      at d q = ap (λ d. get_or (set list e y) d 0) q ∙ get_or-set_same list e y 0 (omega (arith, F.long))

      off : (d : ℕ) → ((d ≡ e) → ⊥) → get_or (set list e y) d 0 ≡ get_or list d 0
      off d n = get_or-set_other list e d y 0 n

      demand : (d i : ℕ) → d ≡ e → (bit (B.connected t) i ≡ true) × (bit (B.machine.out t (target_after B t (h / B.K)) (h % B.K)) i ≡ v) → Demand B next L d i v
      demand d i q p = record {
        t = t;
        h = h / B.K;
        w = h % B.K;
        frame_in = lt;
        history_in = before_below B.K t h lh;
        word_in = word_below B.K t h lh;
        within = W;
        comes = sym (q ∙ ee);
        counts = p.0;
        is = p.1;
      }

      kept : (d i : ℕ) → bit (get_or list d 0) i ≡ true → bit (get_or (set list e y) d 0) i ≡ true
      kept d i b = ⊎_elim
          (λ q. ap (λ z. bit z i) (at d q) ∙ bit_or_lem (get_or list e 0) x i ∙ or_left (bit (get_or list e 0) i) (bit x i) (ap (λ d. bit (get_or list d 0) i) (sym q) ∙ b))
          (λ n. ap (λ z. bit z i) (off d n) ∙ b)
          (decide d e)

      whole : (s g w i : ℕ) → g < B.K ^ s → w < B.K → (s < t) ⊎ ((s ≡ t) × (g * B.K + w < suc h)) → i < B.m
          → bit (B.connected s) i ≡ true → bit (B.machine.out s (target_after B s g) w) i ≡ v
          → bit (get_or (set list e y) (state_after B next s g * B.K + w) 0) i ≡ true
      whole s g w i lg lw (inl q) li c b = kept _ i (F.whole s g w i lg lw (inl q) li c b)
      whole s g w i lg lw (inr q) li c b = ⊎_elim here (λ l. kept _ i (F.whole s g w i lg lw (inr (q.0, l)) li c b)) (eq-or-lt_of_le {n = g * B.K + w} {m = h} (omega (arith, q.1)))
        where
          here : g * B.K + w ≡ h → bit (get_or (set list e y) (state_after B next s g * B.K + w) 0) i ≡ true
          here z =
              let eg : g ≡ h / B.K = sym (digits_div g lw) ∙ ap (λ h. h / B.K) z in
              let ew : w ≡ h % B.K = sym (digits_mod g lw) ∙ ap (λ h. h % B.K) z in
              let p : state_after B next s g * B.K + w ≡ e = ap₂ (λ s w. s * B.K + w) (ap₂ (state_after B next) q.0 eg) ew ∙ sym ee in
              let cx : bit (B.connected t) i ≡ true = ap (λ t. bit (B.connected t) i) (sym q.0) ∙ c in
              let bx : bit (B.machine.out t (target_after B t (h / B.K)) (h % B.K)) i ≡ v = ap₂ (λ s p. bit (B.machine.out s (target_after B s p) (h % B.K)) i) (sym q.0) (sym eg) ∙ ap (λ w. bit (B.machine.out s (target_after B s g) w) i) (sym ew) ∙ b in
              ap (λ z. bit z i) (at (state_after B next s g * B.K + w) p) ∙ bit_or_lem (get_or list e 0) x i ∙ or_right (bit (get_or list e 0) i) (bit x i) ((X i li).1 (cx, bx))

  -- a bit in both halves is a contradiction
  pub clashes : (ones zeros : List ℕ) (t h s g e : ℕ) → Half B next L true ones t h → Half B next L false zeros s g → e < L → 0 < bit_and (get_or ones e 0) (get_or zeros e 0) → Contradicted B next L
  clashes ones zeros t h s g e O Z l p =
      let b = some_bit B.m (bit_and (get_or ones e 0) (get_or zeros e 0)) (and_lt B.m _ _ (O.small e l) (Z.small e l)) p in
      let a = and_both _ _ (sym (bit_and_lem (get_or ones e 0) (get_or zeros e 0) b.0) ∙ b.2) in
      record { e = e; i = b.0; bit_in = b.1; one = O.sound e b.0 l b.1 a.0; zero = Z.sound e b.0 l b.1 a.1 }

  -- nothing is collected of no history
  pub half_none : (v : Bool) (list : List ℕ) → L ≤ length list → ((e : ℕ) → e < L → get_or list e 0 ≡ 0) → 0 < 2 ^ B.m → Half B next L v list 0 0
  half_none v list l z p = record {
    long = l;
    small = λ e b. rw (z e b) p;
    sound = λ e i b li q. absurd (false≢true (sym (bit_none i) ∙ ap (λ y. bit y i) (sym (z e b)) ∙ q));
    whole = λ s g w i lg lw q li c b. absurd (⊎_elim (λ l. omega arith) (λ p. omega (arith, p.1)) q);
  }

  -- after all histories of a frame comes the next frame
  half_next : (v : Bool) (list : List ℕ) (t h : ℕ) → B.K ^ suc t ≤ h → Half B next L v list t h → Half B next L v list (suc t) 0
  half_next v list t h l F = record {
    long = F.long;
    small = F.small;
    sound = F.sound;
    whole = λ s g w i lg lw q li c b. F.whole s g w i lg lw (⊎_elim (λ k. ⊎_elim (λ e. inr (e, here s g w lg lw e)) inl (eq-or-lt_of_le {n = s} {m = t} (omega arith))) (λ p. absurd (omega (arith, p.1))) q) li c b;
  }
    where
      here : (s g w : ℕ) → g < B.K ^ s → w < B.K → s ≡ t → g * B.K + w < h
      here s g w lg lw e = omega (arith, subst (λ s. g * B.K + w < B.K ^ suc s) e (digit_below s lg lw))

  -- a frame in which no bit counts demands nothing
  half_skip : (v : Bool) (list : List ℕ) (t : ℕ) → B.connected t ≡ 0 → Half B next L v list t 0 → Half B next L v list (suc t) 0
  half_skip v list t z F = record {
    long = F.long;
    small = F.small;
    sound = F.sound;
    whole = λ s g w i lg lw q li c b. ⊎_elim
        (λ k. ⊎_elim (λ e. absurd (false≢true (sym (bit_none i) ∙ ap (λ m. bit m i) (sym (ap B.connected e ∙ z)) ∙ c))) (λ l. F.whole s g w i lg lw (inl l) li c b) (eq-or-lt_of_le {n = s} {m = t} (omega arith)))
        (λ p. absurd (omega (arith, p.1))) q;
  }

  pub halves_skip : (ones zeros : List ℕ) (t : ℕ) → B.connected t ≡ 0 → Halves B next L ones zeros t 0 → Halves B next L ones zeros (suc t) 0
  halves_skip ones zeros t z H = record { one = half_skip true ones t z H.one; zero = half_skip false zeros t z H.zero; apart = H.apart }

  pub halves_next : (ones zeros : List ℕ) (t h : ℕ) → B.K ^ suc t ≤ h → Halves B next L ones zeros t h → Halves B next L ones zeros (suc t) 0
  halves_next ones zeros t h l H = record { one = half_next true ones t h l H.one; zero = half_next false zeros t h l H.zero; apart = H.apart }

  -- where all is collected, nothing is contradicted, and the ones are the bits demanded 1
  pub all_ones : (ones zeros : List ℕ) → Halves B next L ones zeros B.T 0 → ((e i : ℕ) (v : Bool) → Demand B next L e i v → e < L)
      → (Contradicted B next L → ⊥) × Ones B next L (λ e. get_or ones e 0)
  all_ones ones zeros H inside = (
    (λ C.
        let l = inside C.e C.i true C.one in
        let a = met true ones H.one C.e C.i C.bit_in C.one in
        let b = met false zeros H.zero C.e C.i C.bit_in C.zero in
        false≢true (sym (bit_none C.i) ∙ ap (λ y. bit y C.i) (sym (H.apart C.e l)) ∙ bit_and_lem (get_or ones C.e 0) (get_or zeros C.e 0) C.i ∙ ap₂ ◌&&◌ a b)),
    record { small = H.one.small; are = λ e i l li. (H.one.sound e i l li, λ D. met true ones H.one e i li D) },
  )
    where
      met : (v : Bool) (list : List ℕ) → Half B next L v list B.T 0 → (e i : ℕ) → i < B.m → Demand B next L e i v → bit (get_or list e 0) i ≡ true
      met v list F e i li D = ap (λ e. bit (get_or list e 0) i) (sym D.comes) ∙ F.whole D.t D.h D.w i D.history_in D.word_in (inl D.frame_in) li D.counts D.is

-- ---- a turn

module _ (a : Sought) (bytes starts chosen : List ℕ) (H : Held bytes starts a) (t h : ℕ) (lt : t < a.frames) (lh : h < a.words ^ suc t) (mask : ℕ) (em : mask ≡ connected bytes t)
    (ones zeros : List ℕ) (S : Halves (target_of a.words a.frames bytes) (λ e. get_or chosen e 0) a.entries ones zeros t h)
    (v : Visit) (Y : Comes (target_of a.words a.frames bytes) (λ e. get_or chosen e 0) t (h / a.words) (h % a.words) v)
    (b : (v.entry < a.entries) × (v.used ≤ a.entries) × (v.out < 65536)) where
  abbrev one_now : ℕ
  one_now = bit_or (get_or ones v.entry 0) (bit_and v.out mask)

  abbrev zero_now : ℕ
  zero_now = bit_or (get_or zeros v.entry 0) (bit_and (65535 - v.out) mask)

  within_it : Within (target_of a.words a.frames bytes) (λ e. get_or chosen e 0) a.entries t (h / a.words)
  within_it = within_longer (target_of a.words a.frames bytes) (λ e. get_or chosen e 0) v.used a.entries t (h / a.words) (λ e l. omega (arith, b.1)) Y.within

  one_half : Half (target_of a.words a.frames bytes) (λ e. get_or chosen e 0) a.entries true (set ones v.entry one_now) t (suc h)
  one_half =
      half_step (target_of a.words a.frames bytes) (λ e. get_or chosen e 0) a.entries true ones t h v.entry (bit_and v.out mask) S.one lt lh b.0 Y.entry_is within_it
      (omega (arith, and_le_r v.out mask, masks a bytes starts H t lt, em))
      (λ i li. subst (λ o. (bit (bit_and v.out mask) i ≡ true) ↔ ((bit (connected bytes t) i ≡ true) × (bit o i ≡ true))) Y.out_is
      (subst (λ c. (bit (bit_and v.out mask) i ≡ true) ↔ ((bit c i ≡ true) × (bit v.out i ≡ true))) em (ones_mask v.out mask i)))

  zero_half : Half (target_of a.words a.frames bytes) (λ e. get_or chosen e 0) a.entries false (set zeros v.entry zero_now) t (suc h)
  zero_half =
      half_step (target_of a.words a.frames bytes) (λ e. get_or chosen e 0) a.entries false zeros t h v.entry (bit_and (65535 - v.out) mask) S.zero lt lh b.0 Y.entry_is within_it
      (omega (arith, and_le_r (65535 - v.out) mask, masks a bytes starts H t lt, em))
      (λ i li. subst (λ o. (bit (bit_and (65535 - v.out) mask) i ≡ true) ↔ ((bit (connected bytes t) i ≡ true) × (bit o i ≡ false))) Y.out_is
      (subst (λ c. (bit (bit_and (65535 - v.out) mask) i ≡ true) ↔ ((bit c i ≡ true) × (bit v.out i ≡ false))) em (zeros_mask v.out mask i (omega (arith, few_outputs a bytes starts H)) b.2)))

  one_at : get_or (set ones v.entry one_now) v.entry 0 ≡ one_now
  one_at = get_or-set_same ones v.entry one_now 0 (omega (arith, S.one.long, b.0))

  zero_at : get_or (set zeros v.entry zero_now) v.entry 0 ≡ zero_now
  zero_at = get_or-set_same zeros v.entry zero_now 0 (omega (arith, S.zero.long, b.0))

  pub turn_on : bit_and one_now zero_now ≡ 0
      → Halves (target_of a.words a.frames bytes) (λ e. get_or chosen e 0) a.entries (set ones v.entry one_now) (set zeros v.entry zero_now) t (suc h)
  turn_on z = record {
    one = one_half;
    zero = zero_half;
    apart = λ e l. ⊎_elim
        (λ q. ap (λ e. bit_and (get_or (set ones v.entry one_now) e 0) (get_or (set zeros v.entry zero_now) e 0)) q ∙ ap₂ bit_and one_at zero_at ∙ z)
        (λ n. ap₂ bit_and (get_or-set_other ones v.entry e one_now 0 n) (get_or-set_other zeros v.entry e zero_now 0 n) ∙ S.apart e l)
        (decide e v.entry);
  }

  pub turn_ends : 0 < bit_and one_now zero_now → Contradicted (target_of a.words a.frames bytes) (λ e. get_or chosen e 0) a.entries
  turn_ends p = clashes (target_of a.words a.frames bytes) (λ e. get_or chosen e 0) a.entries _ _ t (suc h) t (suc h) v.entry one_half zero_half b.0 (subst (λ x. 0 < x) (sym (ap₂ bit_and one_at zero_at)) p)

-- ---- answers

module _ (B : Target) (next : ℕ → ℕ) (L : ℕ) where
  pub clashed : (ones zeros : List ℕ) (t : ℕ) (r : Option ℕ) → Collected B next L ones zeros t r → (h : ℕ) → r ≡ Some h → Contradicted B next L
  clashed ones zeros t r (told.Collected.all e H) h q = absurd (cc)
  clashed ones zeros t r (told.Collected.clash h e b C) _ q = C

  pub gathered : (ones zeros : List ℕ) (t : ℕ) (r : Option ℕ) → Collected B next L ones zeros t r → r ≡ None → Halves B next L ones zeros (suc t) 0
  gathered ones zeros t r (told.Collected.all e H) q = H
  gathered ones zeros t r (told.Collected.clash h e b C) q = absurd (cc)

  pub walk_clashed : (ones zeros : List ℕ) (r : Option Spot) → Walked B next L ones zeros r → (spot : Spot) → r ≡ Some spot → Contradicted B next L
  walk_clashed ones zeros r (told.Walked.all e H) spot q = absurd (cc)
  walk_clashed ones zeros r (told.Walked.clash s e b C) spot q = C

  pub walk_gathered : (ones zeros : List ℕ) (r : Option Spot) → Walked B next L ones zeros r → r ≡ None → Halves B next L ones zeros B.T 0
  walk_gathered ones zeros r (told.Walked.all e H) q = H
  walk_gathered ones zeros r (told.Walked.clash s e b C) q = absurd (cc)

module _ (a : Sought) (bytes starts chosen : List ℕ) (H : Held bytes starts a) (C : Candidate a chosen) where
  -- the histories of a frame are few
  pub count_most : (t : ℕ) → t < a.frames → a.words ^ suc t ≤ 65536
  count_most t l =
      let e : a.words ^ suc t ≡ 2 ^ (a.inputs * suc t) = ap (λ k. k ^ suc t) H.words_are ∙ sym (pow-mul 2 a.inputs (suc t)) in
      let b : a.inputs * suc t ≤ 16 = omega (arith, mul-le-mul_left a.inputs l, few_bits a bytes starts H) in
      rw e (pow_mono b)

  pub none_yet : (v : Bool) (list : List ℕ) → list ≡ replicate 12 0 → Half (target_of a.words a.frames bytes) (λ e. get_or chosen e 0) a.entries v list 0 0
  none_yet v list e =
      half_none (target_of a.words a.frames bytes) (λ e. get_or chosen e 0) a.entries v list
      (rw e (few_entries a bytes starts H)) (λ i l. rw e (zeros i (omega (arith, few_entries a bytes starts H)))) (pow_pos (outputs bytes))
    where
      zeros : (i : ℕ) → i < 12 → ◌≡◌ {A = ℕ} (get_or (replicate 12 0) i 0) 0
      zeros i l = get_or-replicate 12 i 0 0 l

  pub none_both : (ones zeros : List ℕ) → ones ≡ replicate 12 0 → zeros ≡ replicate 12 0 → Halves (target_of a.words a.frames bytes) (λ e. get_or chosen e 0) a.entries ones zeros 0 0
  none_both ones zeros e f = record {
    one = none_yet true ones e;
    zero = none_yet false zeros f;
    apart = λ i l. ap (λ o. bit_and (get_or o i 0) (get_or zeros i 0)) e ∙ ap (λ x. bit_and x (get_or zeros i 0)) (get_or-replicate 12 i 0 0 (omega (arith, few_entries a bytes starts H))) ∙ and_zero_l (get_or zeros i 0);
  }

  pub judged : (ones zeros : List ℕ) (r : Option Spot) → Walked (target_of a.words a.frames bytes) (λ e. get_or chosen e 0) a.entries ones zeros r → r ≡ None
      → length ones ≡ 12 → Judged (target_of a.words a.frames bytes) (λ e. get_or chosen e 0) a.entries (Ok ones)
  judged ones zeros r W n l =
      let A = all_ones (target_of a.words a.frames bytes) (λ e. get_or chosen e 0) a.entries ones zeros (walk_gathered _ _ _ ones zeros r W n)
      (λ e i v D. subst (λ e. e < a.entries) D.comes (entry_in a bytes starts H _ _ (state_below a bytes starts chosen H C D.t D.h D.history_in) D.word_in)) in
      fits ones refl l A.0 A.1
