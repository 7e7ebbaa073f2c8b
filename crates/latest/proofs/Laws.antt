-- Laws of latest frames as the code has them. Assumes nothing.
use mathlib.Core.Path.{◌≡◌, refl, sym, ap, ap₂, ◌∙◌}
use mathlib.Core.Bool.{true, false}
use mathlib.Core.List.{List, [], ◌∷◌, ◌++◌}
use Prim.Native.Nat.{ℕ, zero, suc, ◌+◌, ◌*◌, ◌-◌, ◌/◌, ◌%◌, ◌≤◌, ◌<◌, max}
use native.Mathlib.Nat.{add-zero, mul_comm, mod-lt, div-add-mod, div-lt_iff_lt-mul}
use native.Mathlib.Numerals.{add-one}
use native.Mathlib.Decide.{dec_lt}
use native.Mathlib.Omega.{arith}
use lib.ListN.{length, get_or, take, set, length-set}
use lib.Arith.{digits_div, digits_mod}
use lib.Seq.{take-suc, get_or-take, get_or-set_same, get_or-set_other}
use Rattle.circuit.specs.Lists.{grown, listed}
use Rattle.circuit.specs.Circuit.{lefts_at, rights_at, operand, frame_of}
use Rattle.circuit.specs.Frames.{OnlyInputOf}
use Rattle.circuit.proofs.Laws.{fill_grown}
use Rattle.circuit.proofs.Frames.{frame_output, only_input}
use Rattle.source.specs.declared.Source.{Source}
use Rattle.latest.specs.Latest.{input_frames, InputsTo, later_frame, own_input_frames}

-- ---- inputs

-- only the constant is stored
pub inputs_none : (n T : ℕ) (v : List ℕ) → 0 < length v → InputsTo n T 0 (set v 0 0)
inputs_none n T v h = (get_or-set_same v 0 0 0 h, λ f j hf hj. absurd (omega arith))

-- two inputs of one place are the same
digits_same : (n f j g k : ℕ) → j < n → k < n → f * n + j ≡ g * n + k → (f ≡ g) × (j ≡ k)
digits_same n f j g k hj hk e =
    (sym (digits_div f hj) ∙ ap (λ x. x / n) e ∙ digits_div g hk, sym (digits_mod f hj) ∙ ap (λ x. x % n) e ∙ digits_mod g hk)

-- inputs 0 to k - 1 of every frame are stored, and input k of the first t
abbrev pub InputTo : (n T k t : ℕ) (v : List ℕ) → Type 0
InputTo n T k t v = InputsTo n T k v × ((f : ℕ) → f < t → get_or v (1 + (f * n + k)) 0 ≡ f + 1)

pub input_more : (n T k t s x : ℕ) (v : List ℕ) → k < n → s ≡ 1 + (t * n + k) → x ≡ t + 1 → s < length v → InputTo n T k t v → InputTo n T k (t + 1) (set v s x)
input_more n T k t s x v hk es ex room ((z, I), J) = (
  (
    get_or-set_other v s 0 x 0 (λ e. omega arith) ∙ z,
    λ f j hf hj. get_or-set_other v s (1 + (f * n + j)) x 0 (λ e. omega (arith, digits_same n f j t k (omega arith) hk (omega arith))) ∙ I f j hf hj,
  ),
  λ f hf. go f hf (dec_lt f t),
)
  where
    go : (f : ℕ) → f < t + 1 → Dec (f < t) → get_or (set v s x) (1 + (f * n + k)) 0 ≡ f + 1
    go f hf (yes l) = get_or-set_other v s (1 + (f * n + k)) x 0 (λ e. omega (arith, digits_same n f k t k hk hk (omega arith))) ∙ J f l
    go f hf (no m) =
        let e : f ≡ t = omega arith in
        rw (e, ← es) (get_or-set_same v s x 0 room ∙ ex)

pub input_all : (n T k : ℕ) (v : List ℕ) → InputTo n T k T v → InputsTo n T (k + 1) v
input_all n T k v ((z, I), J) = (z, λ f j hf hj. go f j hf (dec_lt j k) hj)
  where
    go : (f j : ℕ) → f < T → Dec (j < k) → j < k + 1 → get_or v (1 + (f * n + j)) 0 ≡ f + 1
    go f j hf (yes l) hj = I f j hf l
    go f j hf (no m) hj =
        let e : j ≡ k = omega arith in
        rw e (J f hf)

-- once all are stored, each has its frame
pub input_frame : (n T : ℕ) (v : List ℕ) → 1 ≤ n → InputsTo n T n v → (i : ℕ) → i < T * n → get_or v (1 + i) 0 ≡ frame_of n i
unfolding frame_of
input_frame n T v hn I i h =
    let e : i / n * n + i % n ≡ i = omega (arith, div-add-mod i n, mul_comm n (i / n)) in
    ap (λ x. get_or v (1 + x) 0) (sym e) ∙ I.1 (i / n) (i % n) ((div-lt_iff_lt-mul {k = n} hn).1 h) (mod-lt i hn) ∙ add-one (i / n)

inputs_listed : (n count : ℕ) (v : List ℕ) → count < length v → get_or v 0 0 ≡ 0 → ((i : ℕ) → i < count → get_or v (1 + i) 0 ≡ frame_of n i)
    → take (1 + count) v ≡ input_frames n count
unfolding input_frames grown
inputs_listed n zero v h z I = take-suc v 0 0 (omega arith) ∙ ap (λ x. x ∷ []) z
inputs_listed n (suc k) v h z I =
    let next : 1 + suc k ≡ suc (1 + k) = omega arith in
    ap (λ i. take i v) next ∙ take-suc v (1 + k) 0 (omega arith)
    ∙ ap₂ (λ (s : List ℕ) (x : ℕ). s ++ (x ∷ [])) (inputs_listed n k v (omega arith) z (λ i l. I i (omega arith))) (I k (omega arith))

pub inputs_all : (n T : ℕ) (v : List ℕ) → 1 ≤ n → T * n < length v → InputsTo n T n v → take (1 + T * n) v ≡ input_frames n (T * n)
inputs_all n T v hn h I = inputs_listed n (T * n) v h I.0 (input_frame n T v hn I)

-- what is stored of an input is its only frame
pub input_only : (n T : ℕ) (v : List ℕ) → 1 ≤ n → InputsTo n T n v → (s : ℕ) → 1 ≤ s → s ≤ T * n → OnlyInputOf n (get_or v s 0) s
input_only n T v hn I s h l =
    let i = s - 1 in
    let e : 1 + i ≡ s = omega arith in
    let stored : get_or v s 0 ≡ frame_of n i = ap (λ x. get_or v x 0) (sym e) ∙ input_frame n T v hn I i (omega arith) in
    rw stored (only_input n (frame_of n i) s (omega (arith, frame_output n i hn)))

-- ---- the inputs of a source

module _ (s : Source) where
  -- of a circuit as it stands
  pub own_inputs_whole : (v : List ℕ) (count : ℕ) → s.whole ≡ true → s.own.base ≡ 1 + count → take (1 + count) v ≡ input_frames s.inputs count → take s.own.base v ≡ own_input_frames s
  unfolding own_input_frames
  own_inputs_whole v count e b h =
      let p : count ≡ s.own.base - 1 = omega arith in
      rw e (ap (λ i. take i v) b ∙ h ∙ ap (input_frames s.inputs) p)

  -- of a network: of the constant and the first i inputs
  abbrev pub placed : (i : ℕ) → List ℕ
  placed i = listed (0 ∷ []) (λ i. frame_of s.inputs (get_or s.places i 0)) i

  pub placed_none : (v : List ℕ) → 0 < length v → take (1 + 0) (set v 0 0) ≡ placed 0
  unfolding grown
  placed_none v h = take-suc (set v 0 0) 0 0 (simp length-set h) ∙ ap (λ x. x ∷ []) (get_or-set_same v 0 0 0 h)

  pub placed_more : (v : List ℕ) (i x : ℕ) → 1 + i < length v → take (1 + i) v ≡ placed i → x ≡ frame_of s.inputs (get_or s.places i 0) → take (1 + (i + 1)) (set v (1 + i) x) ≡ placed (i + 1)
  placed_more v i x h e ex = fill_grown (0 ∷ []) (λ _ i. frame_of s.inputs (get_or s.places i 0)) v (1 + i) i x h e ex (1 + (i + 1)) (i + 1) (omega arith) refl

  pub placed_all : (v : List ℕ) (i : ℕ) → s.whole ≡ false → s.own.base ≡ 1 + i → take (1 + i) v ≡ placed i → take s.own.base v ≡ own_input_frames s
  unfolding own_input_frames
  placed_all v i e b h =
      let p : i ≡ s.own.base - 1 = omega arith in
      rw e (ap (λ i. take i v) b ∙ h ∙ ap placed p)

-- ---- gates

-- before the first gate there is what v begins with
pub latest_none : (b v : List ℕ) (n : ℕ) → take (n + 0) v ≡ grown (take n v) (later_frame b) 0
unfolding grown
latest_none b v n = ap (λ i. take i v) (add-zero n)

module _ (start b v : List ℕ) where
  -- one gate more, where v begins with what was grown of `start`
  pub latest_more : (g n l r : ℕ) → n < length v → take n v ≡ grown start (later_frame b) g
      → l ≡ operand b (lefts_at b) g → r ≡ operand b (rights_at b) g → l / 2 < n → r / 2 < n
      → (j : ℕ) → j ≡ n + 1 → take j (set v n (max (get_or v (l / 2) 0) (get_or v (r / 2) 0))) ≡ grown start (later_frame b) (g + 1)
  unfolding later_frame
  latest_more g n l r room e el er hl hr j ej =
      fill_grown start (later_frame b) v n g _ room e
      (rw (← e, ← el, ← er, get_or-take n v (l / 2) 0 hl, get_or-take n v (r / 2) 0 hr)) j (g + 1) ej refl
