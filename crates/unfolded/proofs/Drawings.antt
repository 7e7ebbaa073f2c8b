-- All frames: literals are of earlier signals, and whatever each frame hands on of what its literals read as holds at the end.
use mathlib.Core.Path.{◌≡◌, refl, sym, ap, ap₂, ◌∙◌}
use mathlib.Core.Bool.{false, cond}
use mathlib.Core.Logic.{⊎_elim}
use mathlib.Core.List.{List, [], ◌++◌}
use Prim.Native.Nat.{ℕ, zero, suc, ◌+◌, ◌*◌, ◌/◌, ◌%◌, ◌^◌, ◌≤◌, ◌<◌}
use native.Mathlib.Nat.{le_of_suc-le-suc, eq-or-lt_of_le, le_refl, mul_comm, mul-zero, mul-suc, mul-le-mul_left, div-lt_iff_lt-mul}
use native.Mathlib.Omega.{arith}
use lib.Arith.{digits_div, digits_mod}
use lib.Pow.{pow_pos}
use lib.ListN.{length, get_or, length-append, get_or-append}
use lib.Seq.{get_or-append-add}
use borrow.Author.Tests.{lt-ltb}
use Rattle.sizes.specs.Sizes.{inputs, outputs, frames}
use Rattle.circuit.specs.Limits.{mark}
use Rattle.circuit.specs.Lists.{listed, bit}
use Rattle.table.specs.Table.{states, connected}
use Rattle.unfolded.specs.Unfolded.{Frame, input_literal, frame_gates, next_literal, out_literal, Drawing, table_frame, with_frame, drawing, is_connected, drawn}
use Rattle.circuit.proofs.Lists.{listed_length, listed_at}
use Rattle.unfolded.proofs.Lists.{Under, none, under_more, under_widen, under_listed, under_at}
use Rattle.circuit.proofs.Gates.{Admitted, no_gate, admitted_append, Reads, run, run-append, run_length, run_read, each_reads, closing, closed, closed_length, closing_either}
use Rattle.unfolded.proofs.Frames.{input_half, Placed, frame_admitted, next_below, out_below}

-- ---- the output gates

-- the literal of output q
abbrev pub output_literal : List ℕ → (q : ℕ) → ℕ
output_literal b q = get_or (drawing b (frames b)).outputs q 0

-- output j of the frame from layer t is connected where that bit of its word is 1
pub connected-at : (b : List ℕ) (t j : ℕ) → j < outputs b → is_connected b (outputs b * t + j) ≡ bit (connected b t) j
unfolding is_connected
connected-at b t j h =
    let p : outputs b * t + j ≡ t * outputs b + j = omega (arith, mul_comm t (outputs b)) in
    ap (λ q. bit (connected b (q / outputs b)) (q % outputs b)) p ∙ ap₂ (λ t j. bit (connected b t) j) (digits_div t h) (digits_mod t h)

-- all gates, with `blank` twice for an unconnected output: it is drawn with the mark, and read with 0
abbrev pub all_gates : List ℕ → (blank : ℕ) → List (ℕ × ℕ)
all_gates b blank = closed (drawing b (frames b)).gates (is_connected b) (output_literal b) (outputs b * frames b) blank

pub drawn_marked : (b : List ℕ) → drawn b ≡ all_gates b mark
unfolding drawn closed closing
drawn_marked b = refl

pub drawn_length : (b : List ℕ) → length (drawn b) ≡ length (drawing b (frames b)).gates + outputs b * frames b
drawn_length b = ap length (drawn_marked b) ∙ closed_length (drawing b (frames b)).gates (is_connected b) (output_literal b) (outputs b * frames b) mark

-- ---- literals are of earlier signals

-- the first gate's signal
unfoldable pub base : List ℕ → ℕ
base b = 1 + inputs b * frames b

-- the signal behind the gates of a drawing
unfoldable pub behind : List ℕ → Drawing → ℕ
unfolding base
behind b d = base b + length d.gates

base_from : (b : List ℕ) → 1 ≤ base b
unfolding base
base_from b = omega arith

one_before : (b : List ℕ) (d : Drawing) (k : ℕ) → k ≡ behind b d → 1 < 2 * k
unfolding behind
one_before b d k e = omega (arith, base_from b)

-- an input's literal is below the gates
pub input_low : (b : List ℕ) (t w i : ℕ) → t < frames b → i < inputs b → input_literal (inputs b) t w i < 2 * base b
unfolding base
input_low b t w i h l = omega (arith, input_half (inputs b) t w i, mul_comm t (inputs b), mul-suc (inputs b) t, mul-le-mul_left (inputs b) h)

-- what holds of the drawing of t frames
record Drawn (b : List ℕ) (t : ℕ) (d : Drawing) : Type 0 where
  admitted : Admitted (base b) d.gates
  states_before : t < frames b → (s : ℕ) → s < states b t → get_or d.states s 0 < 2 * behind b d
  outputs_count : length d.outputs ≡ outputs b * t
  outputs_before : Under (2 * behind b d) d.outputs

module _ (b : List ℕ) (t : ℕ) (d : Drawing) where
  frame_at : (table_frame b t d).at ≡ behind b d
  unfolding table_frame behind base
  frame_at = refl

  pub frame_nexts : suc t < frames b → (table_frame b t d).nexts ≡ states b (suc t)
  unfolding table_frame
  frame_nexts h = ap (λ t'. cond t' (states b (suc t)) 0) (lt-ltb (suc t) (frames b) h)

  frame_placed : t < frames b → Drawn b t d → Placed (table_frame b t d)
  unfolding table_frame behind base
  frame_placed h D = record {
    inputs_before = omega (arith, mul-suc (inputs b) t, mul_comm t (inputs b), mul-le-mul_left (inputs b) h);
    states_before = λ e l. D.states_before h (e / 2 ^ inputs b) ((div-lt_iff_lt-mul (pow_pos (inputs b))).1 l);
  }

  behind_more : behind b (with_frame d (table_frame b t d)) ≡ (table_frame b t d).at + length (frame_gates (table_frame b t d))
  unfolding behind with_frame table_frame base
  behind_more = omega (arith, length-append d.gates (frame_gates (table_frame b t d)))

  -- one frame more
  drawn_more : t < frames b → Drawn b t d → Drawn b (suc t) (with_frame d (table_frame b t d))
  unfolding with_frame base table_frame
  drawn_more h D =
      let F : Frame = table_frame b t d in
      let P = frame_placed h D in
      let m = behind_more in
      let a = frame_at in
      record {
        admitted = admitted_append D.admitted (frame_admitted F P);
        states_before = λ l s k.
            let k' : s < F.nexts = omega (arith, frame_nexts l) in
            rw (listed_at (next_literal F) 0 F.nexts s k', m) (next_below F P s k');
        outputs_count = length-append d.outputs _ ∙ omega (arith, D.outputs_count, listed_length (out_literal F) F.outputs, mul-suc (outputs b) t);
        outputs_before = under_more (under_widen (omega (arith, m)) D.outputs_before) (under_listed _ (out_literal F) F.outputs (λ j l. rw m (out_below F P j l)));
      }

module _ (b : List ℕ) (one : states b 0 ≡ 1) where
  drawing_drawn : (t : ℕ) → t ≤ frames b → Drawn b t (drawing b t)
  unfolding drawing behind base
  drawing_drawn zero h = record {
    admitted = no_gate;
    states_before = λ l s k. let z : s ≡ 0 = omega arith in rw z (omega arith);
    outputs_count = sym (mul-zero (outputs b));
    outputs_before = none;
  }
  drawing_drawn (suc t) h = drawn_more b t (drawing b t) h (drawing_drawn t (omega arith))

  all_drawn : Drawn b (frames b) (drawing b (frames b))
  all_drawn = drawing_drawn (frames b) (le_refl (frames b))

  -- the gates of all frames, and the literals of all outputs
  pub gates_admitted : Admitted (base b) (drawing b (frames b)).gates
  gates_admitted = all_drawn.admitted

  pub outputs_low : (q : ℕ) → q < outputs b * frames b → output_literal b q < 2 * behind b (drawing b (frames b))
  outputs_low q h = under_at _ all_drawn.outputs_before q (omega (arith, all_drawn.outputs_count))

-- ---- what is read, frame by frame

-- OfState t s: what is known of state s of layer t. OfOutput t j: what is known of output j of the frame from layer t.
module _
    {A : Type 0} (meet : A → A → A) (read : List A → ℕ → A) (R : Reads read) (b : List ℕ) (start : List A)
    (OfState OfOutput : ℕ → ℕ → A → Type 0)
  where
    -- what one frame hands on
    pub record HandsOn (t : ℕ) (d : Drawing) (vs : List A) : Type 0 where
      pub nexts : (s : ℕ) → s < (table_frame b t d).nexts → OfState (suc t) s (read (run meet read vs (frame_gates (table_frame b t d))) (next_literal (table_frame b t d) s))
      pub outs : (j : ℕ) → j < outputs b → OfOutput t j (read (run meet read vs (frame_gates (table_frame b t d))) (out_literal (table_frame b t d) j))

    pub record Step : Type 0 where
      pub from : length start ≡ base b
      pub first : OfState 0 0 (read start 1)
      pub on : (t : ℕ) (d : Drawing) (vs : List A) → t < frames b → Placed (table_frame b t d) → length vs ≡ (table_frame b t d).at
          → ((l : ℕ) → l < 2 * base b → read vs l ≡ read start l)
          → ((s : ℕ) → s < states b t → OfState t s (read vs (get_or d.states s 0)))
          → HandsOn t d vs

    -- what is known after t frames
    pub record Known (t : ℕ) (d : Drawing) : Type 0 where
      of_states_lem : t < frames b → (s : ℕ) → s < states b t → OfState t s (read (run meet read start d.gates) (get_or d.states s 0))
      of_outputs : (u j : ℕ) → u < t → j < outputs b → OfOutput u j (read (run meet read start d.gates) (get_or d.outputs (outputs b * u + j) 0))

    module _ (one : states b 0 ≡ 1) (S : Step) where
      run_behind : (d : Drawing) → length (run meet read start d.gates) ≡ behind b d
      unfolding behind
      run_behind d = run_length meet read start d.gates ∙ ap (λ k. k + length d.gates) S.from

      known_more : (t : ℕ) (d : Drawing) → t < frames b → Drawn b t d → Known t d → Known (suc t) (with_frame d (table_frame b t d))
      unfolding with_frame run table_frame
      known_more t d h D k =
          let F : Frame = table_frame b t d in
          let vs : List A = run meet read start d.gates in
          let a : length vs ≡ F.at = run_behind d ∙ sym (frame_at b t d) in
          let H = S.on t d vs h (frame_placed b t d h D) a (λ l q. run_read meet read R start d.gates l (omega (arith, S.from))) (k.of_states_lem h) in
          let e : run meet read start (d.gates ++ frame_gates F) ≡ run meet read vs (frame_gates F) = run-append meet read start d.gates (frame_gates F) in
          let old : List ℕ = d.outputs in
          let new : List ℕ = listed [] (out_literal F) F.outputs in
          record {
            of_states_lem = λ l s q.
                let q' : s < F.nexts = omega (arith, frame_nexts b t d l) in
                rw (e, listed_at (next_literal F) 0 F.nexts s q') (H.nexts s q');
            of_outputs = λ u j l q.
                rw e
                (⊎_elim
                (λ (i : u ≡ t).
                let w : outputs b * u + j ≡ length old + j = rw i (omega (arith, D.outputs_count)) in
                rw (w, get_or-append-add old new j 0, listed_at (out_literal F) 0 (outputs b) j q, i) (H.outs j q))
                (λ (i : u < t).
                let w : outputs b * u + j < length old = omega (arith, D.outputs_count, mul-suc (outputs b) u, mul-le-mul_left (outputs b) i) in
                rw (get_or-append old new 0 (outputs b * u + j) w, run_read meet read R vs (frame_gates F) (get_or old (outputs b * u + j) 0) (omega (arith, run_behind d, under_at old D.outputs_before (outputs b * u + j) w)))
                (k.of_outputs u j i q))
                (eq-or-lt_of_le (le_of_suc-le-suc l)));
          }

      known : (t : ℕ) → t ≤ frames b → Known t (drawing b t)
      unfolding drawing run
      known zero h = record {
        of_states_lem = λ l s k. let z : s ≡ 0 = omega arith in rw z S.first;
        of_outputs = λ u j l q. absurd (omega arith);
      }
      known (suc t) h = known_more t (drawing b t) h (drawing_drawn b one t (omega arith)) (known t (omega arith))

      -- the output gates: together with literal 1 where they are connected, else literal 0 twice
      pub outputs_read : (meets : (t j : ℕ) (a : A) → OfOutput t j a → OfOutput t j (meet a (read start 1)))
          (nothing : (t j : ℕ) → t < frames b → j < outputs b → is_connected b (outputs b * t + j) ≡ false → OfOutput t j (meet (read start 0) (read start 0)))
          (t j : ℕ) → t < frames b → j < outputs b
          → OfOutput t j (read (run meet read start (all_gates b 0)) (2 * (behind b (drawing b (frames b)) + (outputs b * t + j))))
      unfolding closed
      outputs_read meets nothing t j h l =
          let d : Drawing = drawing b (frames b) in
          let vs : List A = run meet read start d.gates in
          let last : ℕ → ℕ × ℕ = closing (is_connected b) (output_literal b) 0 in
          let q : ℕ = outputs b * t + j in
          let w : q < outputs b * frames b = omega (arith, mul-suc (outputs b) t, mul-le-mul_left (outputs b) h) in
          let n : length vs ≡ behind b d = run_behind d in
          let o : 1 < 2 * length vs = one_before b d _ n in
          let e : read (run meet read start (all_gates b 0)) (2 * (behind b d + q)) ≡ meet (read vs (last q).0) (read vs (last q).1) =
          ap₂ (λ v k. read v (2 * (k + q))) (run-append meet read start d.gates (listed [] last (outputs b * frames b))) (sym n)
          ∙ each_reads meet read R vs last (outputs b * frames b) q w (λ i l.
          closing_either (is_connected b) (output_literal b) 0 i (λ (g : ℕ × ℕ). (g.0 < 2 * length vs) × (g.1 < 2 * length vs))
          (λ c. (rw n (outputs_low b one i l), o))
          (λ c. (omega arith, omega arith))) in
          let old : (l : ℕ) → l ≤ 1 → read vs l ≡ read start l = λ l h. run_read meet read R start d.gates l (omega (arith, S.from, base_from b)) in
          rw e
          (closing_either (is_connected b) (output_literal b) 0 q (λ (g : ℕ × ℕ). OfOutput t j (meet (read vs g.0) (read vs g.1)))
          (λ c. rw (old 1 (omega arith)) (meets t j _ ((known (frames b) (le_refl (frames b))).of_outputs t j h l)))
          (λ c. rw (old 0 (omega arith)) (nothing t j h l c)))
