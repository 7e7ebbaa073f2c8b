-- A circuit stored: its head, its gates behind it, its bytes, and what each outcome promises. Assumes nothing.
use mathlib.Core.Path.{◌≡◌, sym, ap, ◌∙◌}
use mathlib.Core.List.{List, [], ◌∷◌, ◌++◌, map}
use Prim.Native.Nat.{ℕ, ◌+◌, ◌*◌, ◌≤◌}
use native.Mathlib.Omega.{arith}
use lib.ListN.{length, drop, length-append, length-map}
use Rattle.words.specs.Words.{all_bytes, stored, word_bytes}
use Rattle.words.proofs.Laws.{all_bytes_length, stored_front, stored_behind}
use Rattle.verdict.specs.declared.Figures.{Figures}
use Rattle.sizes.specs.Sizes.{inputs, outputs, frames}
use Rattle.circuit.specs.Circuit.{circuit_words}
use Rattle.unfolded.specs.Unfolded.{drawn, gates_needed, unfolded_bytes, unfold_checked, unfold_result}
use Rattle.unfolded.specs.Theorems.{Unfoldings}
use Rattle.unfolded.proofs.Outcomes.{Outcome}
use Rattle.unfolded.proofs.Theorems.{unfoldings}
use Rattle.chains.specs.Chains.{gates_stored}
use Rattle.unfold.specs.Unfold.{Promised}

pub circuit_stored : (n m T G : ℕ) (gs : List (ℕ × ℕ)) (v r w : List ℕ) → r ≡ stored 2 v 0 (n ∷ m ∷ T ∷ G ∷ []) → G ≡ length gs → w ≡ gates_stored G 0 r gs
    → 8 + 4 * G ≤ length v → w ≡ stored 2 v 0 (circuit_words n m T gs)
unfolding gates_stored circuit_words
circuit_stored n m T G gs v r w er eg ew room =
    let head : List ℕ = n ∷ m ∷ T ∷ G ∷ [] in
    let ls : List ℕ = map (λ g. g.0) gs in
    let rs : List ℕ = map (λ g. g.1) gs in
    let l : length ls ≡ length gs = length-map gs (λ g. g.0) in
    let a : length (head ++ ls) ≡ 4 + length ls = length-append head ls in
    ew
    ∙ stored_behind 2 v (stored 2 r (8 + 2 * 0) ls) 0 (head ++ ls) rs (8 + 2 * (G + 0)) (stored_behind 2 v r 0 head ls (8 + 2 * 0) er (omega arith) (omega arith)) (omega arith) (omega arith)
    ∙ ap (λ (g : ℕ). stored 2 v 0 (n ∷ m ∷ T ∷ g ∷ (ls ++ rs))) eg

-- ---- the bytes

-- how many they are
pub bytes_needed : (b : List ℕ) → length (unfolded_bytes b) ≡ 8 + 4 * gates_needed b
unfolding unfolded_bytes word_bytes circuit_words gates_needed
bytes_needed b =
    let ls : List ℕ = map (λ g. g.0) (drawn b) in
    let rs : List ℕ = map (λ g. g.1) (drawn b) in
    let ws : List ℕ = circuit_words (inputs b) (outputs b) (frames b) (drawn b) in
    all_bytes_length 2 ws ∙ omega (arith, length-append ls rs, length-map (drawn b) (λ g. g.0), length-map (drawn b) (λ g. g.1))

-- they are what is stored at the front
pub bytes_stored : (b v : List ℕ) → stored 2 v 0 (circuit_words (inputs b) (outputs b) (frames b) (drawn b)) ≡ unfolded_bytes b ++ drop (length (unfolded_bytes b)) v
unfolding unfolded_bytes word_bytes
bytes_stored b v =
    let ws : List ℕ = circuit_words (inputs b) (outputs b) (frames b) (drawn b) in
    stored_front 2 v ws ∙ ap (λ (k : ℕ). all_bytes 2 ws ++ drop k v) (sym (all_bytes_length 2 ws))

-- ---- outcomes

-- what unfolding promises, of an outcome
pub promises : (b r : List ℕ) (f : Figures) (r' : List ℕ) → Outcome b r f r' → (f ≡ unfold_checked b (length r)) × ((r' ≡ unfold_result b r) × Promised b f r')
unfolding Promised Unfoldings
promises b r f r' O = (O.figures_are, (O.result_left, λ p e. rw O.result_left (unfoldings b r p (sym O.figures_are ∙ e))))
