-- The statements of specs/Theorems.
use mathlib.Core.Path.{◌≡◌, sym, ap, ap₂, ◌∙◌, subst}
use mathlib.Core.Bool.{false, not, ◌&&◌}
use mathlib.Core.List.{List, []}
use Prim.Native.Nat.{ℕ, suc, ◌+◌, ◌*◌, ◌/◌, ◌%◌, ◌^◌, ◌≤◌, ◌<◌}
use native.Mathlib.Nat.{le-suc, le_refl, mul-suc, mul-le-mul_left}
use native.Mathlib.Omega.{arith}
use lib.ListN.{length, get_or, take}
use lib.Seq.{ext_get_or, get_or-take, take-take}
use Rattle.words.specs.Words.{word_bytes}
use Rattle.verdict.specs.Judgements.{answer}
use Rattle.verdict.proofs.Laws.{finds_none}
use Rattle.sizes.specs.Sizes.{inputs, outputs, frames}
use Rattle.layered.specs.States.{Words}
use Rattle.layered.specs.Machines.{feed, Gives}
use Rattle.circuit.specs.Limits.{most_gates, mark}
use Rattle.circuit.specs.Lists.{listed, bit}
use Rattle.circuit.specs.Circuit.{circuit_words, all_inputs, all_outputs, gate_of_output, output_signal, unconnected, connected_outputs, frame_of, input_values, literal_value, output_word, output_words, output_bit, looks_ahead, look_ahead_checked, form_checked, checked as checked_circuit}
use Rattle.circuit.specs.Theorems.{AcceptedCausal}
use Rattle.circuit.proofs.Bits.{equal_bits}
use Rattle.circuit.proofs.Accepted.{formed}
use Rattle.circuit.proofs.Ahead.{output_parts, quiet}
use Rattle.circuit.proofs.Unconnected.{word_below, connected_bit, connected_below, word_bit}
use Rattle.circuit.proofs.Causal.{causal}
use Rattle.table.specs.Table.{connected, machine}
use Rattle.table.specs.Sound.{Sound}
use Rattle.layered.specs.Machines.{reached}
use Rattle.folded.specs.Folded.{folded_bytes, scratch_needed, nodes_checked, fold_checked}
use Rattle.layered.proofs.Feeding.{words_length, feed_length, words_at}
use Rattle.folded.proofs.Asked.{scratch_accepts, ask_counts, fold_accepts}
use Rattle.folded.proofs.Outcomes.{circuit_sized, accepted as fold_accepted, written_bytes as fold_written}
use Rattle.folded.proofs.Theorems.{folding, same_bytes}
use Rattle.unfolded.specs.Unfolded.{drawing, is_connected, drawn, gates_needed, unfolded_bytes}
use Rattle.unfolded.specs.Theorems.{Unfolding, Unfoldings}
use Rattle.circuit.proofs.Lists.{listed_length, listed_at}
use Rattle.circuit.proofs.Gates.{run}
use Rattle.unfolded.proofs.Drawings.{output_literal, connected-at, all_gates, drawn_marked, drawn_length, base, behind, gates_admitted, outputs_low}
use Rattle.circuit.proofs.Written.{circuit_bytes, inputs_back, outputs_back, frames_back, Drawable, fitting, values_run, form_passes, output_at_lem, unconnected_is}
use Rattle.unfolded.proofs.Bits.{not-not}
use Rattle.unfolded.proofs.Outcomes.{accepted, written_bytes}
use Rattle.unfolded.proofs.Values.{feed_at, state_after, state_below, output_value}

-- ---- the circuit of a legal table

module _ (b : List ℕ) (S : Sound b) (G : length (drawn b) ≤ most_gates) where
  circuit : List ℕ
  circuit = circuit_bytes (inputs b) (outputs b) (frames b) (all_gates b mark)

  drawable : Drawable (inputs b) (outputs b) (frames b) (drawing b (frames b)).gates (is_connected b) (output_literal b)
  unfolding base behind
  drawable = record {
    sizes = S.headed.sized;
    inner_admitted = gates_admitted b S.headed.one_first;
    lefts_low = λ q l _. outputs_low b S.headed.one_first q l;
    gates_to = omega (arith, drawn_length b);
  }

  -- its sizes
  inputs_are : inputs circuit ≡ inputs b
  unfolding circuit
  inputs_are = inputs_back (fitting drawable)

  outputs_are : outputs circuit ≡ outputs b
  unfolding circuit
  outputs_are = outputs_back (fitting drawable)

  frames_are : frames circuit ≡ frames b
  unfolding circuit
  frames_are = frames_back (fitting drawable)

  -- the same outputs are connected
  connected_are : (k : ℕ) → k < frames b → connected_outputs circuit k ≡ connected b k
  unfolding circuit
  connected_are k h =
      let m : ℕ = outputs b in
      let o = outputs_are in
      equal_bits m (connected_outputs circuit k) (connected b k) (subst (λ m. connected_outputs circuit k < 2 ^ m) o (connected_below circuit k)) (S.headed.connected_to k h)
      (λ j l.
      let inside : m * k + j < m * frames b = omega (arith, mul-suc m k, mul-le-mul_left m h) in
      connected_bit circuit k j (omega arith)
      ∙ ap (λ m. not (unconnected circuit (gate_of_output circuit (m * k + j)))) o
      ∙ ap not (unconnected_is drawable (m * k + j) inside)
      ∙ not-not (is_connected b (m * k + j))
      ∙ connected-at b k j l)

  -- it passes every check but 4
  form : form_checked circuit ≡ answer 0 0
  unfolding circuit
  form = form_passes drawable (omega (arith, drawn_length b))

  -- its output words are the machine's outputs
  module _ (c : List ℕ) (W : Words (2 ^ inputs b) (frames b) c) where
    word_is : (t : ℕ) → t < frames b → output_word circuit c t ≡ (machine b).out t (state_after b c t) (get_or c t 0)
    unfolding circuit output_signal behind base
    word_is t h =
        let m : ℕ = outputs b in
        let o = outputs_are in
        let H = (formed circuit 0 form).head in
        equal_bits m (output_word circuit c t) ((machine b).out t (state_after b c t) (get_or c t 0))
        (subst (λ m. output_word circuit c t < 2 ^ m) o (word_below circuit c t))
        (S.legal.out_is t (state_after b c t) (get_or c t 0) h (state_below b c W S t (omega arith)) (words_at W t h))
        (λ j l.
        word_bit circuit H c t (omega (arith, frames_are)) j (omega arith)
        ∙ ap₂ (λ vs m. get_or vs (output_signal circuit (m * t + j)) false) (values_run drawable c) o
        ∙ ap (λ i. get_or (run ◌&&◌ literal_value (input_values c (inputs b) (inputs b * frames b)) (all_gates b 0)) i false) (output_at_lem drawable (m * t + j))
        ∙ output_value b c W S t j h l)

    words_are : output_words circuit c ≡ feed (machine b) 0 0 c
    unfolding output_words state_after
    words_are =
        let T : ℕ = frames b in
        ap (listed [] (output_word circuit c)) frames_are
        ∙ ext_get_or 0 (listed [] (output_word circuit c) T) (feed (machine b) 0 0 c)
        (listed_length (output_word circuit c) T ∙ sym (feed_length (machine b) 0 0 c ∙ words_length W))
        (λ t l.
        let h : t < T = omega (arith, listed_length (output_word circuit c) T) in
        let e : t ≡ 0 + t = omega arith in
        listed_at (output_word circuit c) 0 T t h
        ∙ word_is t h
        ∙ ap (λ k. (machine b).out k (reached (machine b) 0 0 (take t c)) (get_or c t 0)) e
        ∙ sym (feed_at (machine b) 0 0 c t (omega (arith, words_length W))))

  -- its word of frame t is the same on sequences that agree up to that frame: the machine is in the same state there, and reads the same word
  word_same : (c d : List ℕ) → Words (2 ^ inputs b) (frames b) c → Words (2 ^ inputs b) (frames b) d → (t : ℕ) → t < frames b → take (suc t) c ≡ take (suc t) d
      → output_word circuit c t ≡ output_word circuit d t
  unfolding state_after
  word_same c d W U t h e =
      let front : take t c ≡ take t d = sym (take-take t (suc t) c (le-suc t)) ∙ ap (take t) e ∙ take-take t (suc t) d (le-suc t) in
      let last : get_or c t 0 ≡ get_or d t 0 =
      sym (get_or-take (suc t) c t 0 (le_refl (suc t))) ∙ ap (λ l. get_or l t 0) e ∙ get_or-take (suc t) d t 0 (le_refl (suc t)) in
      word_is c W t h ∙ ap₂ (λ f w. (machine b).out t (reached (machine b) 0 0 f) w) front last ∙ sym (word_is d U t h)

  -- so no output looks ahead
  none_ahead : (q : ℕ) → q < all_outputs circuit → looks_ahead circuit q ≡ false
  unfolding output_bit frame_of
  none_ahead q h =
      let F = formed circuit 0 form in
      let t : ℕ = q / outputs circuit in
      let fb = frames_are in
      let ib = inputs_are in
      let t< : t < frames b = omega (arith, fb, (output_parts circuit F.head q h).0) in
      quiet circuit F.head q h (λ c d W U e. ap (λ w. bit w (q % outputs circuit)) (word_same c d (rw (ib, fb) at W) (rw (ib, fb) at U) t t< e))

  -- it passes every check
  passes : checked_circuit circuit ≡ answer 0 0
  unfolding checked_circuit look_ahead_checked
  passes = rw form (finds_none (looks_ahead circuit) 4 _ (answer 0 0) 0 (all_outputs circuit) (λ q lo hi. none_ahead q (omega arith)))

-- ---- folding it again

same_scratch : (d t : List ℕ) → inputs t ≡ inputs d → frames t ≡ frames d → scratch_needed t ≡ scratch_needed d
unfolding scratch_needed all_inputs
same_scratch d t i f = rw (i, f)

-- circuits of the same sizes and the same folded bytes are folded alike
alike : (d t : List ℕ) (room nodes records rest p q : ℕ) → inputs t ≡ inputs d → frames t ≡ frames d → folded_bytes t ≡ folded_bytes d
    → checked_circuit t ≡ answer 0 q → nodes_checked t records ≡ answer 0 0 → fold_checked d room nodes rest ≡ answer 0 p → fold_checked t room records rest ≡ answer 0 p
alike d t room nodes records rest p q i f e c n a =
    let A = fold_accepted d room nodes rest p a in
    let s = same_scratch d t i f in
    let l : length (folded_bytes t) ≡ length (folded_bytes d) = ap length e in
    fold_accepts t room records rest p (ask_counts t room records (scratch_accepts t room q c (omega (arith, A.scratch_enough))) ∙ n) (A.place_is ∙ sym l) (omega (arith, A.room_enough))

-- a table that folding d wrote
module _ (b : List ℕ) (S : Sound b) (G : length (drawn b) ≤ most_gates) (d : List ℕ) (q : ℕ) (C : checked_circuit d ≡ answer 0 q) (e : b ≡ folded_bytes d) where
  same_folded : (inputs b ≡ inputs d) × (frames b ≡ frames d) × (folded_bytes (circuit b S G) ≡ folded_bytes d)
  unfolding AcceptedCausal Gives
  same_folded =
      let t : List ℕ = circuit b S G in
      let Z = circuit_sized d q C in
      let K = causal d q C in
      let F = folding d K Z in
      let i : inputs b ≡ inputs d = ap inputs e ∙ F.same_inputs in
      let o : outputs b ≡ outputs d = ap outputs e ∙ F.same_outputs in
      let f : frames b ≡ frames d = ap frames e ∙ F.same_frames in (
        i,
        f,
        sym ((same_bytes d t K (causal t 0 (passes b S G)) Z (inputs_are b S G ∙ i) (outputs_are b S G ∙ o) (frames_are b S G ∙ f)).1 (
          (λ c W.
              sym (F.gives c W)
              ∙ ap (λ x. feed (machine x) 0 0 c) (sym e)
              ∙ sym (words_are b S G c (rw (i, f) W))),
          (λ k h.
              sym (F.same_connected k h)
              ∙ ap (λ x. connected x k) (sym e)
              ∙ sym (connected_are b S G k (omega (arith, f)))),
        )),
      )

-- ---- whatever unfolding accepts

module _ (b : List ℕ) (S : Sound b) (G : length (drawn b) ≤ most_gates) where
  bytes_are : unfolded_bytes b ≡ circuit b S G
  unfolding unfolded_bytes circuit circuit_bytes
  bytes_are = ap (λ gs. word_bytes (circuit_words (inputs b) (outputs b) (frames b) gs)) (drawn_marked b)

  unfolding_of : Unfolding b (circuit b S G)
  unfolding_of = record {
    same_inputs = inputs_are b S G;
    same_outputs = outputs_are b S G;
    same_frames = frames_are b S G;
    same_connected = connected_are b S G;
    legal = passes b S G;
    gives = words_are b S G;
    folds_back = λ d before room nodes p a e records n.
        let a' = fold_accepted d room nodes (length before) p a in
        let w = fold_written d before room nodes p a in
        let s = same_folded b S G d a'.circuit_place a'.circuit_accepted (e ∙ w) in
        let k = alike d (circuit b S G) room nodes records (length before) p 0 (inputs_are b S G ∙ s.0) (frames_are b S G ∙ s.1) s.2 (passes b S G) n a in
        (k, fold_written (circuit b S G) before room records p k ∙ s.2 ∙ sym w ∙ sym e);
  }

pub unfoldings : Unfoldings
unfolding Unfoldings gates_needed drawn
unfoldings b before p e =
    let a = accepted b (length before) p e in
    let S = a.table_sound in
    let G = a.gates_to in
    rw (written_bytes b before p e, bytes_are b S G) (unfolding_of b S G)
