-- The statements of specs/Theorems, proved of whatever a circuit's check tells: `foldings-of`.
use mathlib.Core.Path.{◌≡◌, refl, sym, ap, ◌∙◌, subst}
use mathlib.Core.Logic.{◌↔◌}
use mathlib.Core.List.{List, ◌++◌}
use Prim.Native.Nat.{ℕ, ◌-◌, ◌^◌, ◌≤◌, ◌<◌}
use native.Mathlib.Omega.{arith}
use lib.ListN.{length, drop}
use Rattle.words.specs.Words.{word_bytes, all_bytes}
use Rattle.words.proofs.Laws.{bytes_injective}
use Rattle.verdict.specs.Judgements.{answer}
use Rattle.sizes.specs.Sizes.{inputs, outputs, frames}
use Rattle.sizes.specs.Sized.{Sized}
use Rattle.layered.specs.States.{Words, outputs as outputs_of, number, history}
use Rattle.layered.specs.Machines.{Machine, Legal, Gives, Renumbered, masked, folded}
use Rattle.layered.proofs.States.{number_decides, number_order, history_is}
use Rattle.layered.proofs.Machines.{masked_legal, legal, gives, fewest, unique}
use Rattle.layered.proofs.Canonical.{canonical}
use Rattle.circuit.specs.Circuit.{connected_outputs, output_words}
use Rattle.layered.specs.Histories.{history_words, history_number}
use Rattle.circuit.specs.Theorems.{response, Causal, AcceptedCausal}
use Rattle.table.specs.Table.{states, connected, machine, checked}
use Rattle.folded.specs.Folded.{folded_bytes, fold_checked}
use Rattle.folded.specs.Theorems.{state_of, Smallest, Matches, Folding, Canonical, Foldings}
use Rattle.circuit.proofs.Causal.{causal}
use Rattle.layered.proofs.Histories.{number_words, history_below}
use Rattle.layered.proofs.Feeding.{words_length}
use Rattle.folded.proofs.Checked.{Writable}
use Rattle.layered.proofs.Agreement.{Agree, agree_renumberings, agree_reached, agree_gives}
use Rattle.folded.proofs.Written.{table_bytes, fits, inputs_back, outputs_back, frames_back, connected_back, machine_back, bytes_pass}
use Rattle.folded.proofs.Response.{comes_to, no_telling, smallest_class}
use Rattle.folded.proofs.Tables.{table_writable}
use Rattle.folded.proofs.Outcomes.{circuit_sized, accepted, written_bytes}

-- ---- a table that is the folded machine of a response which gives the circuit's outputs

module _
    (K m T : ℕ) (b t : List ℕ) (y : ℕ → ℕ → ℕ)
    (F : (c : List ℕ) → Words K T c → output_words b c ≡ outputs_of K y 0 0 c)
    (B : (t h : ℕ) → y t h < 2 ^ m)
    (A : Agree K T (folded K T y) (machine t))
    (N : (k : ℕ) → k < T → connected t k ≡ connected_outputs b k)
  where
    state_is : {k : ℕ} {c : List ℕ} → k ≤ T → Words K k c → state_of t c ≡ number K T y k (history_number K 0 c)
    unfolding state_of
    state_is h W = agree_reached (folded K T y) (machine t) (legal K m T y B) A 0 0 (omega arith) (legal K m T y B).start_is W ∙ comes_to K T y h W

    apart : (k : ℕ) (c d : List ℕ) → k ≤ T → Words K k c → Words K k d
        → (state_of t c ≡ state_of t d) ↔ ((e : List ℕ) → Words K (T - k) e → drop k (output_words b (c ++ e)) ≡ drop k (output_words b (d ++ e)))
    apart k c d h W U =
        let N = no_telling K T y (output_words b) F h W U in
        let D = number_decides K T y k (history_number K 0 c) (history_number K 0 d) in
        ((λ q. N.0 (D.0 (sym (state_is h W) ∙ q ∙ state_is h U))), (λ S. state_is h W ∙ D.1 (N.1 S) ∙ sym (state_is h U)))

    every_state : (k s : ℕ) → k ≤ T → s < states t k → (c : List ℕ) × Words K k c × (state_of t c ≡ s)
    every_state k s h l =
        let i = history_is K T y k s (omega (arith, A.states_are k h)) in
        let (W, e) = number_words K k _ i.0 in
        (history_words K k (history K T y k s), W, state_is h W ∙ ap (number K T y k) e ∙ i.1)

    in_order : (k : ℕ) (c d : List ℕ) → k ≤ T → Words K k c → Words K k d → Smallest K t c → Smallest K t d → history_number K 0 c < history_number K 0 d
        → state_of t c < state_of t d
    unfolding Smallest
    in_order k c d h W U S R l =
        let i = smallest_class K T y k (history_number K 0 d) (history_below U) (λ e X q.
        R e (subst (λ r. Words K r e) (sym (words_length U)) X) (state_is h X ∙ q ∙ sym (state_is h U))) in
        rw (state_is h W, state_is h U) (number_order K T y k _ _ l i)

    -- what gives the circuit's outputs gives the response's
    gives_response : (M : Machine) → Gives K T M (output_words b) → Gives K T M (outputs_of K y 0 0)
    unfolding Gives
    gives_response M G c W = G c W ∙ F c W

    gives_outputs : Gives K T (machine t) (output_words b)
    unfolding Gives
    gives_outputs c W = agree_gives (folded K T y) (machine t) (legal K m T y B) A (outputs_of K y 0 0) (gives K T y) c W ∙ sym (F c W)

    -- a machine is judged by what it is when masked
    fewest_states : (M : Machine) → Legal K m T M → Matches K T b M → (k : ℕ) → k ≤ T → states t k ≤ M.states k
    unfolding Matches
    fewest_states M L G k h =
        let P = masked (connected_outputs b) M in
        omega (arith, fewest K m T y P (masked_legal (connected_outputs b) M L) (gives_response P G) k h, A.states_are k h)

    unique_table : (M : Machine) → Legal K m T M → Matches K T b M → ((k : ℕ) → k ≤ T → states t k ≡ M.states k) ↔ Renumbered K T (machine t) (masked (connected_outputs b) M)
    unfolding Matches
    unique_table M L G =
        let P = masked (connected_outputs b) M in
        let U = unique K m T y P (masked_legal (connected_outputs b) M L) (gives_response P G) in
        let N = agree_renumberings (folded K T y) (machine t) P A in
        ((λ E. N.0 (U.0 (λ k h. A.states_are k h ∙ E k h))), (λ R k h. sym (A.states_are k h) ∙ U.1 (N.1 R) k h))

    is_folding : inputs t ≡ inputs b → outputs t ≡ outputs b → frames t ≡ frames b → checked t ≡ answer 0 0 → Folding K m T b t
    is_folding i o f c = record {
      same_inputs = i;
      same_outputs = o;
      same_frames = f;
      same_connected = N;
      apart = apart;
      every_state = every_state;
      in_order = in_order;
      legal = c;
      gives = gives_outputs;
      fewest = fewest_states;
      unique = unique_table;
    }

-- ---- a circuit's table

module _ (b : List ℕ) (C : Causal b) (Z : Sized 8 (inputs b) (outputs b) (frames b)) where
  pub folding : Folding (2 ^ inputs b) (outputs b) (frames b) b (folded_bytes b)
  unfolding folded_bytes table_bytes
  folding =
      let W = table_writable b C Z in
      is_folding (2 ^ inputs b) (outputs b) (frames b) b (folded_bytes b) (response b) C.follows C.below
      (machine_back W) (connected_back W) (inputs_back W) (outputs_back W) (frames_back W) (bytes_pass W)

-- ---- canonical

-- what is written of a circuit, by sizes that are written otherwise
module _ (n m T : ℕ) (d : List ℕ) (i : inputs d ≡ n) (o : outputs d ≡ m) (f : frames d ≡ T) where
  bytes_of : folded_bytes d ≡ table_bytes n m T (connected_outputs d) (folded (2 ^ n) T (response d))
  unfolding folded_bytes table_bytes
  bytes_of = rw (i, o, f)

  follows_of : Causal d → (c : List ℕ) → Words (2 ^ n) T c → output_words d c ≡ outputs_of (2 ^ n) (response d) 0 0 c
  follows_of C = rw (← i, ← f) C.follows

  writable_of : Causal d → Sized 8 n m T → Writable n m T (connected_outputs d) (folded (2 ^ n) T (response d))
  writable_of C = rw (← i, ← o, ← f) (table_writable d C)

-- two circuits of equal sizes fold to the same bytes exactly when they agree on every sequence and connect the same outputs
pub same_bytes : (b d : List ℕ) → Causal b → Causal d → Sized 8 (inputs b) (outputs b) (frames b)
    → inputs d ≡ inputs b → outputs d ≡ outputs b → frames d ≡ frames b
    → (folded_bytes b ≡ folded_bytes d)
    ↔ (((c : List ℕ) → Words (2 ^ inputs b) (frames b) c → output_words b c ≡ output_words d c) × ((k : ℕ) → k < frames b → connected_outputs b k ≡ connected_outputs d k))
unfolding table_bytes word_bytes
same_bytes b d C D Z i o f =
    let n : ℕ = inputs b in
    let m : ℕ = outputs b in
    let T : ℕ = frames b in
    let p = bytes_of n m T b refl refl refl in
    let q = bytes_of n m T d i o f in
    let E = follows_of n m T d i o f D in
    let I = canonical (2 ^ n) m T (response b) C.below n (response d) (connected_outputs b) (connected_outputs d) in (
      (λ e.
          let A = I.0 (bytes_injective 2 _ _ (omega arith) (fits (table_writable b C Z)) (fits (writable_of n m T d i o f D Z)) (sym p ∙ e ∙ q)) in
          ((λ c W. C.follows c W ∙ A.0 c W ∙ sym (E c W)), A.1)),
      (λ A. p ∙ ap (all_bytes 2) (I.1 ((λ c W. sym (C.follows c W) ∙ A.0 c W ∙ E c W), A.1)) ∙ sym q),
    )

-- ---- whatever folding accepts

pub known : (b : List ℕ) (scratch_room node_room result_room p : ℕ) → fold_checked b scratch_room node_room result_room ≡ answer 0 p → Causal b × Sized 8 (inputs b) (outputs b) (frames b)
unfolding AcceptedCausal
known b s n r p e =
    let a = accepted b s n r p e in
    (causal b a.circuit_place a.circuit_accepted, circuit_sized b a.circuit_place a.circuit_accepted)

pub foldings : Foldings
unfolding Foldings Canonical
foldings b before room nodes p e =
    let (C, Z) = known b room nodes (length before) p e in
    let w = written_bytes b before room nodes p e in (
      rw w (folding b C Z),
      λ d before' room' nodes' p' i o f e'. rw (w, written_bytes d before' room' nodes' p' e') (same_bytes b d C (known d room' nodes' (length before') p' e').0 Z i o f),
    )
