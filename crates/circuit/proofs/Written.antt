-- The bytes of a circuit of given gates, read back: sizes and literals are those of the gates, and values those of the gates with 0 for the mark.
use mathlib.Core.Path.{◌≡◌, refl, sym, ap, ap₂, ◌∙◌, subst}
use mathlib.Core.Bool.{Bool, true, false, not, ◌&&◌, and-false}
use mathlib.Core.List.{List, [], ◌∷◌, ◌++◌, map}
use Prim.Native.Nat.{ℕ, zero, suc, ◌+◌, ◌*◌, ◌-◌, ◌≤◌, ◌<◌}
use native.Mathlib.Omega.{arith}
use lib.ListN.{length, get_or, take, length-append, length-map, get_or-append, get_or-map}
use lib.Seq.{get_or-append-add, take-suc, take-length}
use lib.Dec.{ltb, eqb}
use borrow.Author.Tests.{ltb-true, ltb-false, le-ltb, eq-eqb}
use Rattle.words.specs.Words.{word_at, word_bytes, Fit, more}
use Rattle.words.proofs.Laws.{all_bytes_length, fit_append, fit_at, word_back}
use Rattle.verdict.specs.Judgements.{answer}
use Rattle.sizes.specs.Limits.{most_inputs}
use Rattle.sizes.specs.Sizes.{inputs, outputs, frames}
use Rattle.sizes.specs.Sized.{Sized}
use Rattle.circuit.specs.Limits.{circuit_head, most_gates, most_wired, mark}
use Rattle.circuit.specs.Lists.{grown}
use Rattle.circuit.specs.Circuit.{circuit_words, gates, lefts_at, rights_at, circuit_length, literal_at, all_inputs, all_outputs, gate_signal, gate_of_output, output_signal, unconnected, admissible, head_checked, literals_checked, form_within, form_checked, input_values, literal_value, operand, gate_value, signal_values}
use Rattle.circuit.specs.WellFormed.{literals_of, Formed}
use Rattle.circuit.proofs.Literals.{output_gate_lem, unmarked, beyond, of_inner}
use Rattle.verdict.proofs.Laws.{finds_none}
use Rattle.sizes.proofs.Laws.{not_outside, sizes_pass}
use Rattle.circuit.proofs.Gates.{Admitted, no_gate, gate, run, run-append, closing, closed, closed_length, closed_inner, closed_output, closing_connected, closing_blank, closing_either}

-- ---- the literals of gates

pub lefts : List (ℕ × ℕ) → List ℕ
lefts gs = map (λ g. g.0) gs

pub rights : List (ℕ × ℕ) → List ℕ
rights gs = map (λ g. g.1) gs

lefts_length : (gs : List (ℕ × ℕ)) → length (lefts gs) ≡ length gs
unfolding lefts
lefts_length gs = length-map gs (λ g. g.0)

rights_length : (gs : List (ℕ × ℕ)) → length (rights gs) ≡ length gs
unfolding rights
rights_length gs = length-map gs (λ g. g.1)

left_at : (gs : List (ℕ × ℕ)) (g : ℕ) → get_or (lefts gs) g 0 ≡ (get_or gs g (0, 0)).0
unfolding lefts
left_at gs g = get_or-map (λ g. g.0) gs g (0, 0)

right_at : (gs : List (ℕ × ℕ)) (g : ℕ) → get_or (rights gs) g 0 ≡ (get_or gs g (0, 0)).1
unfolding rights
right_at gs g = get_or-map (λ g. g.1) gs g (0, 0)

-- each is of an earlier signal
admitted_at : {at : ℕ} {gs : List (ℕ × ℕ)} → Admitted at gs → (g : ℕ) → g < length gs → ((get_or gs g (0, 0)).0 < 2 * (at + g)) × ((get_or gs g (0, 0)).1 < 2 * (at + g))
admitted_at no_gate g h = absurd (omega arith)
admitted_at (gate p q A) zero h = (omega arith, omega arith)
admitted_at {at} (gate {gs = gs} p q A) (suc g) h =
    let r = admitted_at A g (omega arith) in
    let e : suc at + g ≡ at + suc g = omega arith in
    rw e at r

-- ---- what is grown of gates that are read is what they run to

module _
    {A : Type 0} (meet : A → A → A) (read : List A → ℕ → A) (start : List A) (next : List A → ℕ → A) (gs : List (ℕ × ℕ))
    (e : (vs : List A) (g : ℕ) → g < length gs → next vs g ≡ meet (read vs (get_or gs g (0, 0)).0) (read vs (get_or gs g (0, 0)).1))
  where
    grown_runs : (k : ℕ) → k ≤ length gs → grown start next k ≡ run meet read start (take k gs)
    unfolding grown run
    grown_runs zero h = refl
    grown_runs (suc k) h =
        let vs : List A = run meet read start (take k gs) in
        let g : ℕ × ℕ = get_or gs k (0, 0) in
        ap (λ v. v ++ (next v k ∷ [])) (grown_runs k (omega arith))
        ∙ ap (λ x. vs ++ (x ∷ [])) (e vs k h)
        ∙ sym (run-append meet read start (take k gs) (g ∷ []))
        ∙ ap (run meet read start) (sym (take-suc gs k (0, 0) h))

    grown_run : (k : ℕ) → k ≡ length gs → grown start next k ≡ run meet read start gs
    grown_run k q = grown_runs k (omega arith) ∙ ap (λ k. run meet read start (take k gs)) q ∙ ap (run meet read start) (take-length gs)

-- ---- the bytes

module _ (n m T : ℕ) (gs : List (ℕ × ℕ)) where
  unfoldable pub circuit_bytes : List ℕ
  circuit_bytes = word_bytes (circuit_words n m T gs)

  words_length : length (circuit_words n m T gs) ≡ 4 + 2 * length gs
  unfolding circuit_words lefts rights
  words_length = omega (arith, length-append (lefts gs) (rights gs), lefts_length gs, rights_length gs)

  bytes_length : length circuit_bytes ≡ 8 + 4 * length gs
  unfolding circuit_bytes word_bytes
  bytes_length = all_bytes_length 2 (circuit_words n m T gs) ∙ omega (arith, words_length)

-- sizes, the number of gates and literals are within the limits
pub record Fitting (n m T : ℕ) (gs : List (ℕ × ℕ)) : Type 0 where
  pub sizes : Sized most_inputs n m T
  pub gates_to : length gs ≤ most_wired
  pub gates_fit : (g : ℕ) → g < length gs → ((get_or gs g (0, 0)).0 < 65536) × ((get_or gs g (0, 0)).1 < 65536)

module _ {n m T : ℕ} {gs : List (ℕ × ℕ)} (F : Fitting n m T gs) where
  abbrev written : List ℕ
  written = circuit_bytes n m T gs

  words_fit : Fit 2 (circuit_words n m T gs)
  unfolding circuit_words lefts rights
  words_fit =
      let Z = F.sizes in
      let l : Fit 2 (lefts gs) = fit_at _ (λ g h. rw (left_at gs g) (F.gates_fit g (omega (arith, lefts_length gs))).0) in
      let r : Fit 2 (rights gs) = fit_at _ (λ g h. rw (right_at gs g) (F.gates_fit g (omega (arith, rights_length gs))).1) in
      more {x = n} (omega (arith, Z.inputs_to)) (more {x = m} (omega (arith, Z.outputs_to)) (more {x = T} (omega (arith, Z.frames_to))
      (more {x = length gs} (omega (arith, F.gates_to)) (fit_append l r))))

  word_at_lem : (i p : ℕ) → p ≡ 2 * i → i < 4 + 2 * length gs → word_at written p ≡ get_or (circuit_words n m T gs) i 0
  unfolding circuit_bytes
  word_at_lem i p e h = ap (word_at written) e ∙ word_back (circuit_words n m T gs) i words_fit (omega (arith, words_length n m T gs))

  pub inputs_back : inputs written ≡ n
  unfolding inputs circuit_words
  inputs_back = word_at_lem 0 0 refl (omega arith)

  pub outputs_back : outputs written ≡ m
  unfolding outputs circuit_words
  outputs_back = word_at_lem 1 2 refl (omega arith)

  pub frames_back : frames written ≡ T
  unfolding frames circuit_words
  frames_back = word_at_lem 2 4 refl (omega arith)

  pub gates_back : gates written ≡ length gs
  unfolding gates circuit_words
  gates_back = word_at_lem 3 6 refl (omega arith)

  pub all_inputs_back : all_inputs written ≡ n * T
  unfolding all_inputs
  all_inputs_back = ap₂ ◌*◌ inputs_back frames_back

  pub all_outputs_back : all_outputs written ≡ m * T
  unfolding all_outputs
  all_outputs_back = ap₂ ◌*◌ outputs_back frames_back

  lefts_back : (g : ℕ) → g < length gs → literal_at written (lefts_at written) g ≡ (get_or gs g (0, 0)).0
  unfolding literal_at lefts_at circuit_words lefts rights
  lefts_back g h =
      let p : 4 + g ≡ suc (suc (suc (suc g))) = omega arith in
      word_at_lem (4 + g) (8 + 2 * g) (omega arith) (omega arith)
      ∙ ap (λ i. get_or (circuit_words n m T gs) i 0) p
      ∙ get_or-append (lefts gs) (rights gs) 0 g (omega (arith, lefts_length gs))
      ∙ left_at gs g

  rights_back : (g : ℕ) → g < length gs → literal_at written (rights_at written) g ≡ (get_or gs g (0, 0)).1
  unfolding literal_at rights_at circuit_words lefts rights
  rights_back g h =
      let p : 4 + length gs + g ≡ suc (suc (suc (suc (length (lefts gs) + g)))) = omega (arith, lefts_length gs) in
      word_at_lem (4 + length gs + g) (8 + 2 * gates written + 2 * g) (omega (arith, gates_back)) (omega arith)
      ∙ ap (λ i. get_or (circuit_words n m T gs) i 0) p
      ∙ get_or-append-add (lefts gs) (rights gs) g 0
      ∙ right_at gs g

  module _ (enough : m * T ≤ length gs) (few : length gs ≤ most_gates) where
    head_passes : head_checked 8 16 written ≡ answer 0 0
    unfolding head_checked circuit_length
    head_passes =
        rw (
          le-ltb (length written) 8 (omega (arith, bytes_length n m T gs)),
          inputs_back,
          outputs_back,
          frames_back,
          sizes_pass 8 n m T F.sizes,
          le-ltb 16 T F.sizes.frames_to,
          all_outputs_back,
          gates_back,
          not_outside (m * T) most_gates (length gs) enough few,
          bytes_length n m T gs,
          eq-eqb (8 + 4 * length gs) (8 + 4 * length gs) refl,
        )

-- ---- the gates of a circuit

-- the literals of gate g are admissible, and r are its operands
pub record Judged (b : List ℕ) (g : ℕ) (r : ℕ × ℕ) : Type 0 where
  pub left_admissible : admissible b g (literal_at b (lefts_at b) g) ≡ true
  pub right_admissible : admissible b g (literal_at b (rights_at b) g) ≡ true
  pub left_operand : operand b (lefts_at b) g ≡ r.0
  pub right_operand : operand b (rights_at b) g ≡ r.1

module _ (b : List ℕ) (g : ℕ) (w : ℕ × ℕ) (l : literal_at b (lefts_at b) g ≡ w.0) (r : literal_at b (rights_at b) g ≡ w.1) where
  -- one whose literals are of earlier signals that are no outputs
  plain_gate : (x : ℕ) → x ≤ 1 + all_inputs b + g → x ≤ 1 + all_inputs b + (gates b - all_outputs b) → 2 * x ≤ mark → w.0 < 2 * x → w.1 < 2 * x → Judged b g w
  unfolding operand
  plain_gate x o i k p q =
      let u : unconnected b g ≡ false = unmarked b g (λ e. absurd (omega arith)) in
      record {
        left_admissible = of_inner b g (literal_at b (lefts_at b) g) (omega arith) (omega arith);
        right_admissible = of_inner b g (literal_at b (rights_at b) g) (omega arith) (omega arith);
        left_operand = rw (u, l);
        right_operand = rw (u, r);
      }

  -- an output is unconnected where both are the mark
  output_marked : gates b - all_outputs b ≤ g → unconnected b g ≡ (eqb w.0 mark && eqb w.1 mark)
  output_marked h = sym (output_gate_lem b g (literals_of b g) h refl) ∙ ap₂ (λ x y. eqb x mark && eqb y mark) l r

marked_gate : (b : List ℕ) (g : ℕ) → literal_at b (lefts_at b) g ≡ mark → literal_at b (rights_at b) g ≡ mark → gates b - all_outputs b ≤ g → 2 * (1 + all_inputs b + g) ≤ mark → Judged b g (0, 0)
unfolding operand
marked_gate b g l r h k =
    let u : unconnected b g ≡ true = output_marked b g (mark, mark) l r h in
    record {
      left_admissible = sym (beyond b g (literal_at b (lefts_at b) g) (omega arith)) ∙ u;
      right_admissible = sym (beyond b g (literal_at b (rights_at b) g) (omega arith)) ∙ u;
      left_operand = rw u;
      right_operand = rw u;
    }

-- ---- a circuit of inner gates and, behind them, outputs

-- a number below k, or one of m behind
inner_or_output : (P : ℕ → Type 0) (k m : ℕ) → ((g : ℕ) → g < k → P g) → ((q : ℕ) → q < m → P (k + q)) → (g : ℕ) → g < k + m → P g
inner_or_output P k m f o g h = go (ltb g k) refl
  where
    go : (t : Bool) → ltb g k ≡ t → P g
    go true e = f g (ltb-true g k e)
    go false e =
        let l : k ≤ g = ltb-false g k e in
        let p : k + (g - k) ≡ g = omega arith in
        subst P p (o (g - k) (omega arith))

-- inner gates gs, and m·T outputs behind them; c tells which are connected, and `left` the literals of those
pub record Drawable (n m T : ℕ) (gs : List (ℕ × ℕ)) (c : ℕ → Bool) (left : ℕ → ℕ) : Type 0 where
  pub sizes : Sized most_inputs n m T
  pub inner_admitted : Admitted (1 + n * T) gs
  pub lefts_low : (q : ℕ) → q < m * T → c q ≡ true → left q < 2 * (1 + n * T + length gs)
  pub gates_to : length gs + m * T ≤ most_wired

module _ {n m T : ℕ} {gs : List (ℕ × ℕ)} {c : ℕ → Bool} {left : ℕ → ℕ} (D : Drawable n m T gs c left) where
  -- the gates with `blank` twice for an unconnected output, and the circuit
  abbrev all : (blank : ℕ) → List (ℕ × ℕ)
  all blank = closed gs c left (m * T) blank

  abbrev circuit : List ℕ
  circuit = circuit_bytes n m T (all mark)

  all_length : length (all mark) ≡ length gs + m * T
  all_length = closed_length gs c left (m * T) mark

  pub fitting : Fitting n m T (all mark)
  fitting =
      let Below : ℕ × ℕ → Type 0 = λ g. (g.0 < 65536) × (g.1 < 65536) in
      let L : length gs + m * T ≤ most_wired = D.gates_to in
      record {
        sizes = D.sizes;
        gates_to = omega (arith, all_length);
        gates_fit = λ g h.
            inner_or_output (λ g. Below (get_or (all mark) g (0, 0))) (length gs) (m * T)
            (λ g l. rw (closed_inner gs c left (m * T) mark g l) (let a = admitted_at D.inner_admitted g l in (omega (arith, a.0, D.sizes.bits_to), omega (arith, a.1, D.sizes.bits_to))))
            (λ q l. rw (closed_output gs c left (m * T) mark q l)
            (closing_either c left mark q Below (λ e. (omega (arith, D.lefts_low q l e, D.sizes.bits_to), omega arith)) (λ e. (omega arith, omega arith))))
            g
            (omega (arith, all_length));
      }

  inner_is : gates circuit - all_outputs circuit ≡ length gs
  inner_is = omega (arith, gates_back fitting, all_outputs_back fitting, all_length)

  -- gate g is the pair w
  left_is : (g : ℕ) (w : ℕ × ℕ) → g < length gs + m * T → get_or (all mark) g (0, 0) ≡ w → literal_at circuit (lefts_at circuit) g ≡ w.0
  left_is g w h e = lefts_back fitting g (omega (arith, all_length)) ∙ ap (λ (w : ℕ × ℕ). w.0) e

  right_is : (g : ℕ) (w : ℕ × ℕ) → g < length gs + m * T → get_or (all mark) g (0, 0) ≡ w → literal_at circuit (rights_at circuit) g ≡ w.1
  right_is g w h e = rights_back fitting g (omega (arith, all_length)) ∙ ap (λ (w : ℕ × ℕ). w.1) e

  pub inner_judged : (g : ℕ) → g < length gs → Judged circuit g (get_or gs g (0, 0))
  inner_judged g h =
      let w : ℕ × ℕ = get_or gs g (0, 0) in
      let e : get_or (all mark) g (0, 0) ≡ w = closed_inner gs c left (m * T) mark g h in
      let a = admitted_at D.inner_admitted g h in
      let i = all_inputs_back fitting in
      plain_gate circuit g w (left_is g w (omega arith) e) (right_is g w (omega arith) e) (1 + n * T + g) (omega arith) (omega (arith, inner_is)) (omega (arith, D.sizes.bits_to, D.gates_to)) a.0 a.1

  pub output_judged : (q : ℕ) → q < m * T → Judged circuit (length gs + q) (closing c left 0 q)
  output_judged q h =
      let g : ℕ = length gs + q in
      let e = closed_output gs c left (m * T) mark q h in
      let i = all_inputs_back fitting in
      closing_either c left 0 q (Judged circuit g)
      (λ t.
      let w : ℕ × ℕ = (left q, 1) in
      let e' = e ∙ closing_connected c left mark q t in
      plain_gate circuit g w (left_is g w (omega arith) e') (right_is g w (omega arith) e') (1 + n * T + length gs) (omega arith) (omega (arith, inner_is)) (omega (arith, D.sizes.bits_to, D.gates_to)) (D.lefts_low q h t) (omega arith))
      (λ t.
      let w : ℕ × ℕ = (mark, mark) in
      let e' = e ∙ closing_blank c left mark q t in
      marked_gate circuit g (left_is g w (omega arith) e') (right_is g w (omega arith) e') (omega (arith, inner_is)) (omega (arith, D.sizes.bits_to, D.gates_to)))

  judged : (g : ℕ) → g < length gs + m * T → Judged circuit g (get_or (all 0) g (0, 0))
  judged =
      inner_or_output (λ g. Judged circuit g (get_or (all 0) g (0, 0))) (length gs) (m * T)
      (λ g h. rw (closed_inner gs c left (m * T) 0 g h) (inner_judged g h))
      (λ q h. rw (closed_output gs c left (m * T) 0 q h) (output_judged q h))

  -- ---- values

  pub values_run : (words : List ℕ) → signal_values circuit words (gates circuit) ≡ run ◌&&◌ literal_value (input_values words n (n * T)) (all 0)
  unfolding signal_values gate_value
  values_run words =
      let as_many = closed_length gs c left (m * T) 0 in
      ap₂ (λ n k. grown (input_values words n k) (gate_value circuit) (gates circuit)) (inputs_back fitting) (all_inputs_back fitting)
      ∙ grown_run ◌&&◌ literal_value (input_values words n (n * T)) (gate_value circuit) (all 0)
      (λ vs g h. let J = judged g (omega arith) in ap₂ (λ l r. literal_value vs l && literal_value vs r) J.left_operand J.right_operand)
      (gates circuit) (gates_back fitting ∙ all_length ∙ sym as_many)

  -- ---- the check

  literals_pass : (start : ℕ) → ((g : ℕ) → g < length gs + m * T → admissible circuit g (literal_at circuit start g) ≡ true) → literals_checked circuit start ≡ answer 0 0
  unfolding literals_checked
  literals_pass start f = finds_none _ 3 _ (answer 0 0) 0 _ (λ g lo hi. ap not (f g (omega (arith, gates_back fitting, all_length))))

  -- every check but 4, where the gates are few enough
  pub form_passes : length gs + m * T ≤ most_gates → form_checked circuit ≡ answer 0 0
  unfolding form_checked form_within
  form_passes few =
      rw (
        head_passes fitting (omega (arith, all_length)) (omega (arith, all_length)),
        literals_pass (lefts_at circuit) (λ g h. (judged g h).left_admissible),
        literals_pass (rights_at circuit) (λ g h. (judged g h).right_admissible),
      )

  -- and all that this tells, whatever their number
  pub is_formed : Formed circuit
  is_formed =
      let few = fitting.gates_to in
      let wide : n * T ≤ 16 = D.sizes.bits_to in
      let sized : Sized most_inputs (inputs circuit) (outputs circuit) (frames circuit) = rw (inputs_back fitting, outputs_back fitting, frames_back fitting) D.sizes in
      record {
        head = record {
          sizes = record { inputs_from = sized.inputs_from; inputs_to = omega (arith, sized.inputs_to); outputs_from = sized.outputs_from; outputs_to = sized.outputs_to; frames_from = sized.frames_from; frames_to = sized.frames_to; bits_to = sized.bits_to };
          inputs_to = omega (arith, all_inputs_back fitting);
          outputs_to = omega (arith, all_outputs_back fitting, gates_back fitting, all_length);
          gates_to = omega (arith, gates_back fitting);
          whole = bytes_length n m T (all mark) ∙ ap (λ k. circuit_head + 4 * k) (sym (gates_back fitting));
        };
        sizes = sized;
        literals = record {
          left = λ g h. (judged g (omega (arith, gates_back fitting, all_length))).left_admissible;
          right = λ g h. (judged g (omega (arith, gates_back fitting, all_length))).right_admissible;
        };
      }

  -- ---- the outputs

  -- the signal of output q
  pub output_at_lem : (q : ℕ) → output_signal circuit q ≡ 1 + n * T + length gs + q
  unfolding output_signal gate_signal
  output_at_lem q = omega (arith, all_inputs_back fitting, inner_is)

  -- it is unconnected where c tells so
  pub unconnected_is : (q : ℕ) → q < m * T → unconnected circuit (gate_of_output circuit q) ≡ not (c q)
  unconnected_is q h =
      let g : ℕ = length gs + q in
      let w : ℕ × ℕ = closing c left mark q in
      let e = closed_output gs c left (m * T) mark q h in
      ap (λ k. unconnected circuit (k + q)) inner_is
      ∙ output_marked circuit g w (left_is g w (omega arith) e) (right_is g w (omega arith) e) (omega (arith, inner_is))
      ∙ closing_either c left mark q (λ (w : ℕ × ℕ). (eqb w.0 mark && eqb w.1 mark) ≡ not (c q)) (λ t. and-false (eqb (left q) mark) ∙ sym (ap not t)) (λ t. sym (ap not t))
