-- The table of a circuit that was surveyed, on lists: what each stage of writing it may be asked, and what follows from what it says. Assumes nothing.
use mathlib.Core.Path.{◌≡◌, refl, sym, ap, ap₂, ◌∙◌, subst}
use mathlib.Core.Bool.{false}
use mathlib.Core.List.{List, [], ◌++◌}
use Prim.Native.Nat.{ℕ, suc, ◌+◌, ◌*◌, ◌-◌, ◌^◌, ◌≤◌, ◌<◌}
use native.Mathlib.Nat.{mul-le-mul}
use native.Mathlib.Omega.{arith}
use lib.Pow.{pow_mono}
use lib.ListN.{length, get_or, drop, replicate}
use Rattle.words.specs.Words.{stored, word_bytes}
use Rattle.words.proofs.Laws.{all_bytes_length}
use Rattle.sizes.specs.Sizes.{inputs, outputs, frames}
use Rattle.layered.specs.Search.{total}
use Rattle.layered.specs.States.{count}
use Rattle.layered.proofs.Lists.{total_cong, total_mul}
use Rattle.layered.proofs.Entries.{entries_length}
use Rattle.circuit.specs.Lists.{listed, packed}
use Rattle.circuit.specs.Circuit.{gates, all_inputs, all_outputs, gate_signal, output_signal}
use Rattle.circuit.specs.WellFormed.{CircuitHeaded, HeadOf, WellFormed, Accepted}
use Rattle.circuit.specs.Theorems.{response}
use Rattle.circuit.specs.declared.Head.{Head}
use Rattle.circuit.proofs.Accepted.{well_formed}
use Rattle.table.specs.Table.{head_length}
use Rattle.table.proofs.Offsets.{head_length_lem}
use Rattle.folded.specs.Folded.{folded_bytes, scratch_needed}
use Rattle.folded.proofs.Tables.{folded_machine, folded_written}
use Rattle.diagrams.specs.Frames.{history_bits}
use Rattle.functions.specs.Functions.{output_on}
use Rattle.functions.specs.Theorems.{ResponsesRead}
use Rattle.functions.proofs.Outputs.{responses_read}
use Rattle.nodes.specs.declared.Node.{Node}
use Rattle.explore.specs.declared.Layout.{Layout}
use Rattle.explore.specs.Explore.{Laid, Explored, CountsTo}
use Rattle.survey.specs.Survey.{LayoutOf, subject_of}
use Rattle.survey.proofs.Subject.{bits, frames_are, outputs_are, laid, given}
use Rattle.write.specs.Write.{head_words, output_words, next_words, NextsFit, NextsPut, Reads, Writable, Wrote, LayoutFor, nexts_from, Tabled}
use Rattle.write.proofs.Heads.{whole_table, table_length_lem, outputs_room, nexts_room, table_stored}

-- ---- an accepted circuit

module _ (b : List ℕ) (A : Accepted b) where
  headed : CircuitHeaded b
  headed = A.form.head

  module _ (h : Head) (O : HeadOf b h) where
    pub layable : (h.inputs ≤ 16) × (h.inputs * h.frames ≤ 16) × (h.total ≤ h.gates) × (h.gates ≤ 4352) × (h.base ≤ 17)
    unfolding all_inputs
    layable =
        let all : h.inputs * h.frames ≡ all_inputs b = ap₂ ◌*◌ O.inputs_is O.frames_is in
        (omega (arith, O.inputs_is, headed.sizes.inputs_to), omega (arith, all, headed.inputs_to), omega (arith, O.total_is, O.gates_is, headed.outputs_to), omega (arith, O.gates_is, headed.gates_to), omega (arith, O.base_is, headed.inputs_to))

    pub layout_is : (layout : Layout) → LayoutOf h layout → LayoutFor b layout
    layout_is layout L = record { head = h; formed = well_formed A.form O; sizes = L }

-- ---- where a table can be written

module _ (b : List ℕ) (counts : List ℕ) (ns : List Node) (s ws r : List ℕ) (P : Tabled b counts ns s ws r) where
  table_room : 2 * length (whole_table b) ≤ length r
  unfolding folded_bytes word_bytes
  table_room = omega (arith, all_bytes_length 2 (whole_table b), P.room)

  pub head_room : head_length (frames b) ≤ length r
  head_room = omega (arith, head_length_lem (frames b), table_length_lem b, table_room)

  module _ (layout : Layout) (F : LayoutFor b layout) where
    abbrev W : WellFormed b F.head
    W = F.formed

    abbrev L : LayoutOf F.head layout
    L = F.sizes

    is_laid : Laid layout
    is_laid = laid b F.head W layout L

    bits_are : layout.bits ≡ inputs b
    bits_are = bits b F.head W layout L

    frames_is : layout.frames ≡ frames b
    frames_is = frames_are b F.head W layout L

    outputs_is : layout.outputs ≡ outputs b
    outputs_is = outputs_are b F.head W layout L

    half_is : layout.half ≡ (2 ^ inputs b) ^ frames b
    half_is = is_laid.half_is ∙ ap₂ ◌^◌ (is_laid.fan_is ∙ ap (λ (n : ℕ). 2 ^ n) bits_are) frames_is

    -- what holds of the circuit's sizes holds of the layout's
    laid_out : (Q : ℕ → ℕ → ℕ → ℕ → Type 0) → Q (inputs b) (outputs b) (frames b) ((2 ^ inputs b) ^ frames b) → Q layout.bits layout.outputs layout.frames layout.half
    laid_out Q q =
        subst (λ x. Q x layout.outputs layout.frames layout.half) (sym bits_are)
        (subst (λ x. Q (inputs b) x layout.frames layout.half) (sym outputs_is)
        (subst (λ x. Q (inputs b) (outputs b) x layout.half) (sym frames_is)
        (subst (Q (inputs b) (outputs b) (frames b)) (sym half_is) q)))

    roots_are : layout.roots ≡ 1 + all_inputs b + (gates b - all_outputs b)
    roots_are = L.roots_is ∙ ap₂ ◌+◌ W.head_is.base_is (ap₂ ◌-◌ W.head_is.gates_is W.head_is.total_is)

    rooted : (o : ℕ) → get_or ws (layout.roots + o) 0 ≡ get_or ws (output_signal b o) 0
    unfolding output_signal gate_signal
    rooted o = let q : layout.roots + o ≡ 1 + all_inputs b + (gates b - all_outputs b + o) = omega (arith, roots_are) in ap (λ i. get_or ws i 0) q

    reads : Reads layout (subject_of b ns ws)
    unfolding Reads ResponsesRead
    reads = laid_out
        (λ n m T _. (t h : ℕ) → t < T → response b (suc t) h ≡ packed (listed [] (λ j. output_on b (m * t + j) (history_bits n (suc t) h ++ replicate (n * T - n * suc t) false)) m))
        (responses_read b W.headed)

    explored : Explored layout.bits layout.outputs layout.frames (response b) layout.half s (layout.frames - 1)
    explored = laid_out (λ n m T k. Explored n m T (response b) k s (T - 1)) P.known.explored

    counted : CountsTo layout.bits layout.outputs layout.frames (response b) counts (layout.frames - 1)
    counted = laid_out (λ n m T _. CountsTo n m T (response b) counts (T - 1)) P.known.counted

    scratch_room : 2 * layout.half ≤ length s
    unfolding scratch_needed all_inputs
    scratch_room =
        let q : layout.half ≡ 2 ^ (inputs b * frames b) = L.half_is ∙ ap₂ (λ (n T : ℕ). 2 ^ (n * T)) W.head_is.inputs_is W.head_is.frames_is in
        omega (arith, q, P.enough)

    work_room : layout.columns + layout.fan * layout.outputs ≤ length ws
    work_room =
        let few : 2 ^ inputs b ≤ 256 = pow_mono {j = 8} P.accepted.form.sizes.inputs_to in
        let fan : layout.fan ≤ 256 = omega (arith, few, is_laid.fan_is, ap (λ (n : ℕ). 2 ^ n) bits_are) in
        let all : layout.fan * layout.outputs ≤ 256 * 16 = mul-le-mul fan is_laid.outputs_to in
        omega (arith, all, L.columns_is, P.space)

    -- the outputs, behind the head
    pub writable : (r₁ : List ℕ) (at : ℕ) → length r₁ ≡ length r → at ≡ head_length (frames b) → Writable layout ns s ws counts r₁ at
    writable r₁ at long e = record {
      subject = subject_of b ns ws;
      laid = is_laid;
      given = given b F.head W layout L P.accepted P.records ns ws P.known.built;
      reads = reads;
      diagrams = refl;
      inside = λ f h. omega (arith, P.known.built.table.below f h, P.known.within);
      rooted = λ o _. rooted o;
      explored = explored;
      counted = counted;
      scratch_room = scratch_room;
      work_room = work_room;
      room = laid_out (λ n m T _. at + 2 * length (output_words (2 ^ n) T (response b) T) ≤ length r₁)
          (outputs_room b r₁ at (omega (arith, table_room, long)) (e ∙ head_length_lem (frames b)));
    }

    -- the next states, behind the outputs
    states_are : total layout.frames (λ t. get_or counts t 0) ≡ total (frames b) (count (2 ^ inputs b) (frames b) (response b))
    states_are =
        ap (λ (T : ℕ). total T (λ t. get_or counts t 0)) frames_is
        ∙ total_cong (frames b) _ _ (λ t h. P.known.counted.known t (omega (arith, h)))

    nexts_are : nexts_from layout counts ≡ head_length (frames b) + 2 * length (output_words (2 ^ inputs b) (frames b) (response b) (frames b))
    unfolding nexts_from
    nexts_are =
        let K : ℕ = 2 ^ inputs b in
        let S : ℕ → ℕ = count K (frames b) (response b) in
        let all : total layout.frames (λ t. get_or counts t 0) * layout.fan ≡ length (output_words K (frames b) (response b) (frames b)) =
        ap₂ ◌*◌ states_are (is_laid.fan_is ∙ ap (λ (n : ℕ). 2 ^ n) bits_are) ∙ sym (total_mul (frames b) K S) ∙ sym (entries_length K (frames b) S (folded_machine b).out) in
        ap₂ (λ (T n : ℕ). head_length T + 2 * n) frames_is all

    pub nexts_fit : (r₂ : List ℕ) → length r₂ ≡ length r → NextsFit layout s counts r₂ (nexts_from layout counts)
    nexts_fit r₂ long = record {
      y = response b;
      laid = is_laid;
      explored = explored;
      counted = counted;
      scratch_room = scratch_room;
      room = laid_out (λ n m T _. nexts_from layout counts + 2 * length (next_words (2 ^ n) T (response b) T) ≤ length r₂)
          (nexts_room b r₂ (head_length (frames b)) (nexts_from layout counts) (omega (arith, table_room, long)) (head_length_lem (frames b)) nexts_are);
    }

    -- and all is written
    pub written : (r₁ r₂ r₃ ms : List ℕ) (at : ℕ) (e : at ≡ head_length (frames b)) (long : length r₁ ≡ length r) (longer : length r₂ ≡ length r) → r₁ ≡ stored 2 r 0 (head_words b)
        → Wrote layout ns s ws counts r₁ at ms r₂ → NextsPut layout s counts r₂ (nexts_from layout counts) r₃
        → r₃ ≡ folded_bytes b ++ drop (length (folded_bytes b)) r
    unfolding writable nexts_fit
    written r₁ r₂ r₃ ms at e long longer e₁ o n =
        let K : ℕ = 2 ^ inputs b in
        let f : 2 ^ layout.bits ≡ K = ap (λ (n : ℕ). 2 ^ n) bits_are in
        table_stored b r r₁ r₂ r₃ at (nexts_from layout counts) table_room (e ∙ head_length_lem (frames b)) (nexts_are ∙ ap (λ (a : ℕ). a + 2 * length (output_words K (frames b) (response b) (frames b))) (sym e)) e₁
        ((o (writable r₁ at long e)).0 ∙ ap₂ (λ (K T : ℕ). stored 2 r₁ at (output_words K T (response b) T)) f frames_is)
        (n (nexts_fit r₂ longer) ∙ ap₂ (λ (K T : ℕ). stored 2 r₂ (nexts_from layout counts) (next_words K T (response b) T)) f frames_is)
        ∙ folded_written b r
