-- Laws of lanes: of the words that they are packed into, of the numbers of histories, of their inputs, and of signals. Assumes nothing.
use mathlib.Core.Path.{◌≡◌, refl, sym, ap, ap₂, ◌∙◌, subst}
use mathlib.Core.Bool.{Bool, true, false, not, ◌&&◌, cond, beq}
use mathlib.Core.List.{List, [], ◌∷◌, ◌++◌, map, append-nil}
use Prim.Native.Nat.{ℕ, zero, suc, ◌+◌, ◌*◌, ◌-◌, ◌/◌, ◌%◌, ◌^◌, ◌≤◌, ◌<◌, min, zero-le}
use native.Mathlib.Nat.{mul_comm, mul-le-mul_right}
use native.Mathlib.Decide.{ℕ_discrete, dec_lt}
use native.Mathlib.Omega.{arith}
use lib.Arith.{digits_div, digits_mod}
use lib.Dec.{ltb, eqb}
use lib.ListN.{length, get_or, set, replicate, length-map, length-set, get_or-replicate, get_or-map, get_or-append}
use lib.Seq.{get_or-take, get_or-append-add, get_or-set_same, get_or-set_other, set-get_or, take-set-le}
use borrow.Author.Tests.{eqb-true, lt-ltb}
use lib.Bits.{bit_and}
use Rattle.sizes.specs.Limits.{most_bits}
use Rattle.sizes.specs.Sizes.{inputs, frames}
use Rattle.layered.specs.Search.{every}
use Rattle.layered.specs.Histories.{history_words}
use Rattle.layered.proofs.Rows.{pow-mul}
use Rattle.layered.proofs.Search.{every_each}
use Rattle.layered.proofs.Histories.{history_length, history_word}
use Rattle.circuit.specs.Limits.{most_signals}
use Rattle.circuit.specs.Lists.{grown, listed, bit, packed}
use Rattle.circuit.specs.Circuit.{gates, lefts_at, rights_at, operand, all_inputs, gate_signal, input_values, literal_value, gate_value}
use Rattle.circuit.specs.WellFormed.{LegalGates}
use Rattle.circuit.proofs.Ahead.{beq_same}
use Rattle.circuit.proofs.Bits.{digit, bit_none, bit_packed, bit_and_lem, bit_not}
use Rattle.circuit.proofs.Literals.{operand_before}
use Rattle.circuit.proofs.Laws.{fill_grown, values_grow}
use Rattle.circuit.proofs.Lists.{listed_after, listed_at}
use Rattle.circuit.proofs.Frames.{ends, inputs_are, from_first, only_input}
use Rattle.lanes.specs.Limits.{lane_bits, lane_count}
use Rattle.lanes.specs.Lanes.{lane, literal_lanes, sequence, picked, Lanes, InputLanes, FrameLanes, Settled, Ready, Unnamed, FirstUses, SignalLanes}
use Rattle.lanes.proofs.Bits.{bit_part, bit_low, bit_high}

-- ---- a lane of a list

map-set : {A B : Type 0} (f : A → B) (l : List A) (j : ℕ) (x : A) → map f (set l j x) ≡ set (map f l) j (f x)
map-set f [] j x = refl
map-set f (y ∷ l) zero x = refl
map-set f (y ∷ l) (suc j) x = ap (λ s. f y ∷ s) (map-set f l j x)

lane_set : (v : List ℕ) (n x j : ℕ) → lane j (set v n x) ≡ set (lane j v) n (bit x j)
unfolding lane
lane_set v n x j = map-set (λ y. bit y j) v n x

pub lane_length : (v : List ℕ) (j : ℕ) → length (lane j v) ≡ length v
unfolding lane
lane_length v j = length-map v (λ y. bit y j)

pub lane_at : (v : List ℕ) (j s : ℕ) → get_or (lane j v) s false ≡ bit (get_or v s 0) j
unfolding lane
lane_at v j s = ap (get_or (map (λ y. bit y j) v) s) (sym (bit_none j)) ∙ get_or-map (λ y. bit y j) v s 0

-- the digit that is packed next, as the code has it
pub digit_is : (v : List ℕ) (i j : ℕ) → get_or v i 0 / 2 ^ j % 2 ≡ cond (get_or (lane j v) i false) 1 0
unfolding bit
digit_is v i j = sym (digit (get_or v i 0 / 2 ^ j)) ∙ ap (λ y. cond y 1 0) (sym (lane_at v j i))

-- ---- numbers in lanes

-- bit p of the numbers, one to a lane
pub gathered : (hs : List ℕ) (x p j : ℕ) → x ≡ packed (lane p hs) → bit x j ≡ bit (get_or hs j 0) p
gathered hs x p j e = ap (λ y. bit y j) e ∙ bit_packed (lane p hs) j ∙ lane_at hs p j

-- ---- neighbours: the numbers from a multiple of lane_count on

-- number p of the table has bit p of 0, 1, .. in its lanes
unfoldable pub Counts : (table : List ℕ) → Type 0
Counts table = every lane_bits (λ p. every lane_count (λ j. beq (bit (get_or table p 0) j) (bit j p))) ≡ true

pub counting_bit : (table : List ℕ) → Counts table → (p j : ℕ) → p < lane_bits → j < lane_count → bit (get_or table p 0) j ≡ bit j p
unfolding Counts
counting_bit table e p j lp lj = beq_same _ _ (every_each _ lane_count (every_each _ lane_bits e p lp) j lj)

-- a low bit is that of the lane's own number
pub near_low : (at j p : ℕ) → at % lane_count ≡ 0 → j < lane_count → p < lane_bits → bit (at + j) p ≡ bit j p
near_low at j p e lj lp = let r : (at + j) % lane_count ≡ j = omega arith in bit_low (at + j) lane_bits p lp ∙ ap (λ x. bit x p) r

-- a higher bit is that of the first
pub near_high : (at j p : ℕ) → at % lane_count ≡ 0 → j < lane_count → lane_bits ≤ p → bit (at + j) p ≡ bit at p
near_high at j p e lj lp =
    let d : p ≡ lane_bits + (p - lane_bits) = omega arith in
    let q : (at + j) / lane_count ≡ at / lane_count = omega arith in
    ap (bit (at + j)) d ∙ bit_high (at + j) lane_bits (p - lane_bits) ∙ ap (λ x. bit x (p - lane_bits)) q ∙ sym (ap (bit at) d ∙ bit_high at lane_bits (p - lane_bits))

-- ---- inputs

-- input k of frame f of a history is a bit of its number
module _ (n T t h f k : ℕ) (hf : 1 ≤ f) (hk : k < n) (ht : t ≤ T) where
  pub input_bit_lem : f ≤ t → bit (get_or (sequence (2 ^ n) T t h) (f - 1) 0) k ≡ bit h ((t - f) * n + k)
  input_bit_lem hi =
      let K = 2 ^ n in
      ap (λ w. bit w k)
      (get_or-append (history_words K t h) (replicate (T - t) 0) 0 (f - 1) (omega (arith, history_length K t h))
      ∙ history_word K (t - f) t h (f - 1) (omega arith) ∙ ap (λ p. h / p % K) (sym (pow-mul 2 n (t - f))))
      ∙ bit_part h (n * (t - f)) n k hk ∙ ap (λ p. bit h (p + k)) (mul_comm n (t - f))

  -- after the history come zero words
  pub input_none : t < f → bit (get_or (sequence (2 ^ n) T t h) (f - 1) 0) k ≡ false
  input_none hi =
      let c = history_words (2 ^ n) t h in
      let z : List ℕ = replicate (T - t) 0 in
      let d = f - 1 - t in
      let e : f - 1 ≡ length c + d = omega (arith, history_length (2 ^ n) t h) in
      ap (λ w. bit w k) (ap (λ x. get_or (c ++ z) x 0) e ∙ get_or-append-add c z d 0 ∙ zeros (T - t) d) ∙ bit_none k
    where
      zeros : (d k : ℕ) → get_or {A = ℕ} (replicate d 0) k 0 ≡ 0
      zeros zero k = refl
      zeros (suc d) zero = refl
      zeros (suc d) (suc k) = zeros d k

-- a whole sequence has no zero words after it
pub whole : (K T x : ℕ) → sequence K T T x ≡ history_words K T x
whole K T x =
    let z : T - T ≡ 0 = omega arith in
    ap (λ k. history_words K T x ++ replicate k 0) z ∙ append-nil (history_words K T x)

module _ (n T t : ℕ) (h : ℕ → ℕ) where
  -- only the constant is stored
  pub inputs_none : (v : List ℕ) → 0 < length v → InputLanes n T t h 0 (set v 0 0)
  unfolding Lanes lane input_values grown
  inputs_none [] p j hj = absurd (omega arith)
  inputs_none (x ∷ v) p j hj = ap (λ y. y ∷ []) (bit_none j)

  -- the lanes of input k of frame f are stored
  pub inputs_more : (v : List ℕ) (s f k x : ℕ) → s ≡ 1 + ((f - 1) * n + k) → k < n → s < length v → InputLanes n T t h ((f - 1) * n + k) v
      → ((j : ℕ) → j < lane_count → bit x j ≡ bit (get_or (sequence (2 ^ n) T t (h j)) (f - 1) 0) k) → InputLanes n T t h ((f - 1) * n + (k + 1)) (set v s x)
  unfolding Lanes input_values
  inputs_more v s f k x es hk room L ex j hj =
      let i = (f - 1) * n + k in
      rw (es, lane_set v (1 + i) x j)
      (fill_grown (false ∷ []) (λ _ i. bit (get_or (sequence (2 ^ n) T t (h j)) (i / n) 0) (i % n)) (lane j v) (1 + i) i (bit x j)
      (omega (arith, lane_length v j)) (L j hj)
      (rw (digits_div (f - 1) {m = n} {r = k} hk, digits_mod (f - 1) {m = n} {r = k} hk) (ex j hj)) (1 + ((f - 1) * n + (k + 1))) ((f - 1) * n + (k + 1)) (omega arith) (omega arith))

  -- what is stored of all inputs, by their frames
  pub inputs_framed : (v : List ℕ) → InputLanes n T t h (T * n) v → FrameLanes n T t h v
  unfolding Lanes input_values
  inputs_framed v L f s j hf S lj =
      let c = sequence (2 ^ n) T t (h j) in
      let k = s - 1 - (f - 1) * n in
      let i = (f - 1) * n + k in
      let e : s ≡ 1 + i = omega (arith, S) in
      let hk : k < n = omega (arith, S, ends f n (from_first n f (s - 1) (omega (arith, S)))) in
      let to : f * n ≤ T * n = mul-le-mul_right n hf in (
        sym (lane_at v j s)
            ∙ sym (get_or-take (1 + T * n) (lane j v) s false (omega (arith, S)))
            ∙ ap (λ l. get_or l s false) (L j lj)
            ∙ ap (λ x. get_or (input_values c n (T * n)) x false) e
            ∙ listed_after (false ∷ []) (λ i. bit (get_or c (i / n) 0) (i % n)) false (T * n) i (omega (arith, S))
            ∙ ap₂ (λ w p. bit (get_or c w 0) p) (digits_div (f - 1) {m = n} {r = k} hk) (digits_mod (f - 1) {m = n} {r = k} hk),
        only_input n f s S,
      )

-- ---- signals

-- lane j of a literal
literal_bit : (v : List ℕ) (l j x : ℕ) → get_or v (l / 2) 0 < 2 ^ lane_count → j < lane_count → x ≡ literal_lanes (get_or v (l / 2) 0) l → bit x j ≡ literal_value (lane j v) l
unfolding literal_lanes literal_value
literal_bit v l j x w hj ex =
    rw (ex, lane_at v j (l / 2)) (go (eqb (l % 2) 1))
  where
    go : (s : Bool) → bit (cond s (2 ^ lane_count - 1 - get_or v (l / 2) 0) (get_or v (l / 2) 0)) j ≡ cond s (not (bit (get_or v (l / 2) 0) j)) (bit (get_or v (l / 2) 0) j)
    go true = bit_not (get_or v (l / 2) 0) j lane_count hj w
    go false = refl

-- ---- gates

-- the first gate that may have another value never rises
pub lower : (before after k first : ℕ) {r n : ℕ} → r ≡ cond (eqb before after) k (min k first) → k ≤ n → r ≤ n
lower before after k first {r} {n} e h = go (eqb before after) e
  where
    go : (t : Bool) → r ≡ cond t k (min k first) → r ≤ n
    go true q = omega arith
    go false q = omega arith

module _ (b : List ℕ) where
  -- a gate that does not name a signal does not see it
  gate_other : (v : List Bool) (s g : ℕ) (x : Bool) → Unnamed b s g → gate_value b (set v s x) g ≡ gate_value b v g
  unfolding gate_value literal_value
  gate_other v s g x u = rw (get_or-set_other v s (operand b (lefts_at b) g / 2) x false u.0, get_or-set_other v s (operand b (rights_at b) g / 2) x false u.1)

  -- the lanes of its operands give a gate's
  gate_lanes : (v : List ℕ) (g l r x y j : ℕ) → j < lane_count → l ≡ operand b (lefts_at b) g → r ≡ operand b (rights_at b) g
      → get_or v (l / 2) 0 < 2 ^ lane_count → get_or v (r / 2) 0 < 2 ^ lane_count → x ≡ literal_lanes (get_or v (l / 2) 0) l → y ≡ literal_lanes (get_or v (r / 2) 0) r
      → bit (bit_and x y) j ≡ gate_value b (lane j v) g
  unfolding gate_value
  gate_lanes v g l r x y j lj el er wl wr ex ey =
      bit_and_lem x y j
      ∙ ap₂ ◌&&◌ (literal_bit v l j x wl lj ex ∙ ap (literal_value (lane j v)) el) (literal_bit v r j y wr lj ey ∙ ap (literal_value (lane j v)) er)

  -- a signal that is stored is none of the first k gates, nor do they name it
  settled_other : (v : List ℕ) (k s x : ℕ) → ((g : ℕ) → g < k → ¬ (gate_signal b g ≡ s)) → ((g : ℕ) → g < k → Unnamed b s g) → Settled b v k → Settled b (set v s x) k
  unfolding Settled
  settled_other v k s x none other S g j lg lj =
      rw (get_or-set_other v s (gate_signal b g) x 0 (none g lg), lane_set v s x j) (S g j lg lj ∙ sym (gate_other (lane j v) s g (bit x j) (other g lg)))

  settled_fewer : (v : List ℕ) (k i : ℕ) → i ≤ k → Settled b v k → Settled b v i
  unfolding Settled
  settled_fewer v k i h S g j lg lj = S g j (omega arith) lj

  -- the constant is stored: in room that was not used yet no gate is settled
  pub settled_used : (v : List ℕ) (k : ℕ) → Ready b v → k ≡ gates b → get_or v 0 0 ≡ 0 → Settled b (set v 0 0) k
  settled_used v k R e z = rw e (subst (λ l. Settled b l (gates b)) (sym (ap (set v 0) (sym z) ∙ set-get_or v 0 0)) (R z))

  pub settled_none : (v : List ℕ) → Settled b v 0
  unfolding Settled
  settled_none v g j lg lj = absurd (omega arith)

  -- an input is stored; r is the first gate that may have another value
  pub settled_input : (v firsts : List ℕ) (k s x r : ℕ) → s < 1 + all_inputs b → FirstUses b 0 firsts → r ≡ cond (eqb (get_or v s 0) x) k (min k (get_or firsts s 0))
      → Settled b v k → Settled b (set v s x) r
  unfolding FirstUses gate_signal
  settled_input v firsts k s x r hs F er S = go (eqb (get_or v s 0) x) refl er
    where
      go : (t : Bool) → eqb (get_or v s 0) x ≡ t → r ≡ cond t k (min k (get_or firsts s 0)) → Settled b (set v s x) r
      go true e q = rw (q, ← eqb-true (get_or v s 0) x e, set-get_or v s 0) S
      go false e q =
          settled_other v r s x (λ g l. λ y. omega arith) (λ g l. F s g hs (omega arith) (omega arith)) (settled_fewer v k r (omega arith) S)

  -- the lanes of one gate more are stored
  pub settled_more : LegalGates b → (v : List ℕ) (g n l r x y : ℕ) → g < gates b → n ≡ 1 + all_inputs b + g → n < length v → Settled b v g
      → l ≡ operand b (lefts_at b) g → r ≡ operand b (rights_at b) g
      → get_or v (l / 2) 0 < 2 ^ lane_count → get_or v (r / 2) 0 < 2 ^ lane_count → x ≡ literal_lanes (get_or v (l / 2) 0) l → y ≡ literal_lanes (get_or v (r / 2) 0) r
      → Settled b (set v n (bit_and x y)) (g + 1)
  unfolding Settled gate_signal
  settled_more L v g n l r x y hg en room S el er wl wr ex ey i j li lj = go (dec_lt i g)
    where
      -- no gate up to g names the signal of gate g
      unnamed : (i : ℕ) → i ≤ g → Unnamed b n i
      unnamed i h = (
        λ e. omega (arith, operand_before b (lefts_at b) i _ (L.left i (omega arith)) refl),
        λ e. omega (arith, operand_before b (rights_at b) i _ (L.right i (omega arith)) refl),
      )

      go : Dec (i < g) → bit (get_or (set v n (bit_and x y)) (1 + all_inputs b + i) 0) j ≡ gate_value b (lane j (set v n (bit_and x y))) i
      go (yes h) = settled_other v g n (bit_and x y) (λ k l q. omega arith) (λ k l. unnamed k (omega arith)) S i j h lj
      go (no h) =
          let e : i ≡ g = omega arith in
          rw (e, ← en, get_or-set_same v n (bit_and x y) 0 room, lane_set v n (bit_and x y) j) (gate_lanes v g l r x y j lj el er wl wr ex ey ∙ sym (gate_other (lane j v) n g (bit (bit_and x y) j) (unnamed g (omega arith))))

-- the values of all inputs on the history in lane j
abbrev pub inputs_of : List ℕ → (t : ℕ) (h : ℕ → ℕ) (j : ℕ) → List Bool
inputs_of b t h j = input_values (sequence (2 ^ inputs b) (frames b) t (h j)) (inputs b) (all_inputs b)

module _ (b : List ℕ) (t : ℕ) (h : ℕ → ℕ) (v : List ℕ) where
  -- as the code has them
  pub inputs_stored : (n T base : ℕ) → n ≡ inputs b → T ≡ frames b → base ≡ 1 + all_inputs b → InputLanes n T t h (T * n) v → Lanes v base (inputs_of b t h)
  inputs_stored n T base en eT eb L = rw eb (rw (inputs_are b n T en eT, en, eT) at L)

  -- a later signal is stored
  pub inputs_kept : (base n x : ℕ) → base ≤ n → Lanes v base (inputs_of b t h) → Lanes (set v n x) base (inputs_of b t h)
  unfolding Lanes
  inputs_kept base n x e L j hj = rw (lane_set v n x j, take-set-le base (lane j v) n (bit x j) e) (L j hj)

-- once all gates are settled, each lane has the values of all signals
pub settled_signals : (b : List ℕ) → LegalGates b → (t : ℕ) (h : ℕ → ℕ) (v : List ℕ) → gate_signal b (gates b) ≤ length v → Settled b v (gates b)
    → (base : ℕ) → base ≡ 1 + all_inputs b → Lanes v base (inputs_of b t h) → SignalLanes b t h v
unfolding Settled Lanes
settled_signals b L t h v room S base eb I j lj =
    values_grow b (sequence (2 ^ inputs b) (frames b) t (h j)) (lane j v) L (omega (arith, lane_length v j)) (rw (← eb) (I j lj)) (gates b) (omega arith)
    (λ g l. lane_at v j (gate_signal b g) ∙ S g j l lj)

-- room that was not used yet is ready for any circuit
-- a bit of what is picked
pub picked_bit : (bits : List ℕ) (x p : ℕ) → p < most_bits → bit (picked bits x) p ≡ bit x (get_or bits p 0)
unfolding picked
picked_bit bits x p h = bit_packed (listed [] (λ p. bit x (get_or bits p 0)) most_bits) p ∙ listed_at (λ p. bit x (get_or bits p 0)) false most_bits p h

pub room_ready : (b v : List ℕ) → v ≡ replicate most_signals 1 → Ready b v
room_ready b v e z =
    let one : get_or v 0 0 ≡ 1 = ap (λ l. get_or l 0 0) e ∙ get_or-replicate most_signals 0 1 0 (omega arith) in
    absurd (omega arith)

-- ---- the first gates that name the inputs

-- gate g names the literal l
abbrev pub noted : (firsts : List ℕ) (base l g : ℕ) → List ℕ
noted firsts base l g = cond (ltb (l / 2) base) (set firsts (l / 2) g) firsts

module _ (f : List ℕ) (base l g s : ℕ) (hs : s < base) (room : base ≤ length f) where
  noted_named : l / 2 ≡ s → get_or (noted f base l g) s 0 ≡ g
  noted_named e = rw (lt-ltb (l / 2) base (omega arith), e) (get_or-set_same f s g 0 (omega arith))

  noted_other : ¬ (l / 2 ≡ s) → get_or (noted f base l g) s 0 ≡ get_or f s 0
  noted_other n = go (ltb (l / 2) base)
    where
      go : (t : Bool) → get_or (cond t (set f (l / 2) g) f) s 0 ≡ get_or f s 0
      go true = get_or-set_other f (l / 2) s g 0 (λ e. n (sym e))
      go false = refl

  pub noted_length : length (noted f base l g) ≡ length f
  noted_length = go (ltb (l / 2) base)
    where
      go : (t : Bool) → length (cond t (set f (l / 2) g) f) ≡ length f
      go true = length-set f (l / 2) g
      go false = refl

-- nothing is noted yet
pub uses_none : (b : List ℕ) (n from : ℕ) → FirstUses b from (replicate n from)
unfolding FirstUses
uses_none b n from s g hs lo hi = absurd (omega (arith, at_most n s))
  where
    at_most : (n s : ℕ) → get_or (replicate n from) s 0 ≤ from
    at_most zero s = zero-le
    at_most (suc n) zero = omega arith
    at_most (suc n) (suc s) = at_most n s

pub uses_more : (b f f' : List ℕ) (base l r g : ℕ) → base ≡ 1 + all_inputs b → base ≤ length f → l ≡ operand b (lefts_at b) g → r ≡ operand b (rights_at b) g
    → f' ≡ noted (noted f base l g) base r g → FirstUses b (suc g) f → FirstUses b g f'
unfolding FirstUses
uses_more b f f' base l r g eb room el er ef F s i hs lo hi = go (ℕ_discrete (l / 2) s) (ℕ_discrete (r / 2) s) (dec_lt g i)
  where
    in_base : s < base
    in_base = omega arith

    once : List ℕ
    once = noted f base l g

    long : base ≤ length once
    long = omega (arith, noted_length f base l g s in_base room)

    is : (x : ℕ) → get_or (noted once base r g) s 0 ≡ x → i < x
    is x e = subst (λ y. i < y) e (subst (λ k. i < get_or k s 0) ef hi)

    go : Dec (l / 2 ≡ s) → Dec (r / 2 ≡ s) → Dec (g < i) → Unnamed b s i
    go named (yes q) later = absurd (omega (arith, is g (noted_named once base r g s in_base long q)))
    go (yes p) (no q) later = absurd (omega (arith, is g (noted_other once base r g s in_base long q ∙ noted_named f base l g s in_base room p)))
    go (no p) (no q) (yes h) = F s i hs h (is _ (noted_other once base r g s in_base long q ∙ noted_other f base l g s in_base room p))
    go (no p) (no q) (no h) =
        let e : i ≡ g = omega arith in
        rw (e, ← el, ← er) (p, q)
