-- What is written is the machine that is chosen, and tables that give the same outputs get the same. Assumes nothing.
use mathlib.Core.Path.{◌≡◌, refl, sym, ap, ap₂, ◌∙◌, subst}
use mathlib.Core.Bool.{Bool, true, false}
use mathlib.Core.Logic.{◌↔◌}
use mathlib.Core.List.{List, ◌∷◌, ◌++◌}
use Prim.Native.Nat.{ℕ, ◌+◌, ◌*◌, ◌^◌, ◌≤◌, ◌<◌}
use native.Mathlib.Omega.{arith}
use borrow.Author.Tests.{ltb-true, ltb-false, lt-ltb, le-ltb, eqb-true, not-false}
use lib.Bits.{bit_and}
use lib.Dec.{ltb}
use lib.ListN.{length}
use Rattle.words.specs.Words.{word_at, word_bytes}
use Rattle.verdict.specs.Judgements.{answer, refuse, and_then, result_after}
use Rattle.verdict.specs.declared.Figures.{Figures}
use Rattle.verdict.proofs.Laws.{both_accept, passed}
use Rattle.sizes.specs.Sizes.{inputs, outputs, frames}
use Rattle.layered.specs.Search.{tabulate}
use Rattle.layered.specs.States.{Words}
use Rattle.layered.specs.Machines.{feed, Gives}
use Rattle.layered.proofs.Agreement.{masked_gives}
use Rattle.table.specs.Table.{connected, machine, strays, bad_output, checked}
use Rattle.table.specs.Sound.{Sound}
use Rattle.table.proofs.Accepted.{sound, accepted_at}
use Rattle.table.proofs.Offsets.{arrays_stand}
use Rattle.merged.specs.Merged.{Merged, Same, entries_of, seen, most_merged, fewest_states, first_machine}
use Rattle.merged.specs.Theorems.{Chosen, NoneMatches, NoneExactly, Alike, SameMachine, UndecidedZero}
use Rattle.merged.proofs.Undecided.{undecided_zero}
use Rattle.merged.proofs.Chosen.{first_chosen, chosen_same, none_exactly, same_machine}
use Rattle.merge.specs.Merge.{target, machine_words, merge_bytes, narrow_checked, machine_checked, merge_checked, merge_result}
use Rattle.merge.specs.Theorems.{machine_in, Merging, Merges, MergesAlike}
use Rattle.merge.proofs.Bytes.{bytes_length, inputs_in, outputs_in, states_in, outs_in, nexts_in_lem}

-- ---- the bytes

module _ (b : List ℕ) (Z : Sound b) (few : fewest_states (target b) ≤ most_merged) where
  abbrev G : Merged
  G = first_machine (target b)

  C : Chosen (target b) G
  C = first_chosen (target b) few

  entries_same : word_at (merge_bytes b) 4 * 2 ^ inputs b ≡ entries_of (target b) G.states
  unfolding merge_bytes entries_of
  entries_same = ap (λ k. k * 2 ^ inputs b) (states_in b G Z C.proper few)

  pub merging : Merging b
  unfolding merge_bytes Same UndecidedZero
  merging = record {
    length_is = omega (arith, bytes_length b G, entries_same);
    inputs_at = inputs_in b G Z C.proper few;
    outputs-at = outputs_in b G Z C.proper few;
    chosen = chosen;
    undecided = undecided_zero (target b) Z.headed.connected_to (machine_in (2 ^ inputs b) (merge_bytes b)) chosen;
  }
    where
      within : (e : ℕ) → e < entries_of (target b) (word_at (merge_bytes b) 4) → e < entries_of (target b) G.states
      within e l = subst (λ k. e < entries_of (target b) k) (states_in b G Z C.proper few) l

      chosen : Chosen (target b) (machine_in (2 ^ inputs b) (merge_bytes b))
      chosen =
          chosen_same (target b) G (machine_in (2 ^ inputs b) (merge_bytes b)) (states_in b G Z C.proper few)
          (λ e l. ap (λ n. word_at (merge_bytes b) (6 + 2 * (n + e))) entries_same ∙ nexts_in_lem b G Z C.proper few e (within e l))
          (λ e l. outs_in b G Z C.proper few e (within e l))
          C

-- ---- 21, and what is written

-- once the table's checks are passed, 21 and 7 are judged
judged : (b : List ℕ) (room p q : ℕ) → narrow_checked b ≡ answer 0 p → checked b ≡ answer 0 q → merge_checked b room ≡ machine_checked b room
unfolding merge_checked
judged b room p q en ec = ap (λ f. and_then f (and_then (checked b) (machine_checked b room))) en ∙ ap (λ f. and_then f (machine_checked b room)) ec

-- 21 tells that the state counts were used up
used_up : (t u : Bool) (n : ℕ) → refuse t 21 0 (refuse u 7 n (answer 0 n)) ≡ answer 21 0 → t ≡ true
used_up true u n e = refl
used_up false true n e = absurd (omega (arith, ap (λ (f : Figures). f.number) e))
used_up false false n e = absurd (omega (arith, ap (λ (f : Figures). f.number) e))

pub merges : (b : List ℕ) (room : ℕ) → Merges b room
unfolding NoneExactly machine_checked merge_checked
merges b room = record { unmatched = unmatched; written = written }
  where
    unmatched : (p q : ℕ) → narrow_checked b ≡ answer 0 p → checked b ≡ answer 0 q → (merge_checked b room ≡ answer 21 0) ↔ NoneMatches (target b)
    unmatched p q en ec = (
      (λ e. (none_exactly (target b)).0 (ltb-true most_merged (fewest_states (target b)) (used_up (ltb most_merged (fewest_states (target b))) (ltb room (length (merge_bytes b))) (length (merge_bytes b)) (sym (judged b room p q en ec) ∙ e)))),
      λ N. judged b room p q en ec ∙ ap (λ t. refuse t 21 0 (refuse (ltb room (length (merge_bytes b))) 7 (length (merge_bytes b)) (answer 0 (length (merge_bytes b)))))
          (lt-ltb most_merged (fewest_states (target b)) ((none_exactly (target b)).1 N)),
    )

    written : (p : ℕ) → merge_checked b room ≡ answer 0 p → (p ≡ length (merge_bytes b)) × Merging b
    written p e =
        let x = both_accept (narrow_checked b) _ p e in
        let y = both_accept (checked b) _ p x.2 in
        let z = passed (ltb most_merged (fewest_states (target b))) 21 0 _ p refl y.2 in
        let w = passed (ltb room (length (merge_bytes b))) 7 (length (merge_bytes b)) (answer 0 (length (merge_bytes b))) p refl z.1 in
        (sym (ap (λ (f : Figures). f.place) w.1), merging b (sound b y.0 y.1) (ltb-false most_merged (fewest_states (target b)) z.0))

-- ---- tables alike

unstrayed : (c x : ℕ) → strays c x ≡ false → bit_and x c ≡ x
unfolding strays
unstrayed c x e = eqb-true (bit_and x c) x (not-false _ e)

strayless : (b : List ℕ) → Sound b → (t s w : ℕ) → t < frames b → s < (machine b).states t → w < 2 ^ inputs b → strays (connected b t) ((machine b).out t s w) ≡ false
unfolding bad_output
strayless b Z = Z.outputs_connected

-- a legal table's outputs have no other bits than those that count
seen_is : (b : List ℕ) → Sound b → (c : List ℕ) → Words (2 ^ inputs b) (frames b) c → seen (target b) (machine b) c ≡ feed (machine b) 0 0 c
unfolding seen Gives
seen_is b Z = masked_gives (connected b) (machine b) Z.legal clean (feed (machine b) 0 0) (λ c W. refl)
  where
    clean : (t s w : ℕ) → t < frames b → s < (machine b).states t → w < 2 ^ inputs b → bit_and ((machine b).out t s w) (connected b t) ≡ (machine b).out t s w
    clean t s w h l k = unstrayed (connected b t) ((machine b).out t s w) (strayless b Z t s w h l k)

-- the words, by sizes and machine
abbrev words_of : (n m : ℕ) → Merged → List ℕ
words_of n m G = n ∷ m ∷ G.states ∷ tabulate (G.states * 2 ^ n) G.out ++ tabulate (G.states * 2 ^ n) G.next

words_are : (b : List ℕ) (G : Merged) → machine_words b G ≡ words_of (inputs b) (outputs b) G
unfolding machine_words entries_of
words_are b G = refl

bytes_same : (b d : List ℕ) → inputs b ≡ inputs d → outputs b ≡ outputs d → first_machine (target b) ≡ first_machine (target d) → merge_bytes b ≡ merge_bytes d
unfolding merge_bytes
bytes_same b d en em eg =
    ap word_bytes (words_are b (first_machine (target b)) ∙ ap₂ (λ n m. words_of n m (first_machine (target b))) en em ∙ ap (words_of (inputs d) (outputs d)) eg ∙ sym (words_are d (first_machine (target d))))

checks_same : (b d : List ℕ) (room : ℕ) → narrow_checked b ≡ narrow_checked d → checked b ≡ checked d → fewest_states (target b) ≡ fewest_states (target d) → merge_bytes b ≡ merge_bytes d
    → merge_checked b room ≡ merge_checked d room
unfolding merge_checked machine_checked
checks_same b d room en ec ef eb =
    ap₂ and_then en (ap₂ and_then ec (ap₂ (λ k y. refuse (ltb most_merged k) 21 0 (refuse (ltb room (length y)) 7 (length y) (answer 0 (length y)))) ef eb))

results_same : (b d before : List ℕ) → merge_checked b (length before) ≡ merge_checked d (length before) → merge_bytes b ≡ merge_bytes d → merge_result b before ≡ merge_result d before
unfolding merge_result
results_same b d before ec eb = ap₂ (λ f y. result_after f y before) ec eb

-- a table that is accepted has the sizes, so that of n's limit is judged
narrow_is : (b : List ℕ) → Sound b → narrow_checked b ≡ refuse (ltb 2 (inputs b)) 2 0 (answer 0 0)
unfolding narrow_checked
narrow_is b Z =
    ap (λ t. refuse t 1 (length b) (refuse (ltb 2 (inputs b)) 2 0 (answer 0 0)))
    (le-ltb (length b) 6 (omega (arith, Z.headed.whole, (arrays_stand b).0, (arrays_stand b).1, (arrays_stand b).2)))

pub merges_alike : (b : List ℕ) → MergesAlike b
unfolding MergesAlike SameMachine
merges_alike b d p q eb ed en em ef econ eout before = (checks, results)
  where
    Zb : Sound b
    Zb = sound b p eb

    Zd : Sound d
    Zd = sound d q ed

    A : Alike (target b) (target d)
    A = record {
      same_words = ap (λ n. 2 ^ n) en;
      same_bits = em;
      same_frames = ef;
      same_seen = λ c W. seen_is b Zb c W ∙ eout c W ∙ sym (seen_is d Zd c (subst (λ T. Words (2 ^ inputs d) T c) ef (subst (λ n. Words (2 ^ n) (frames b) c) en W)));
      same_connected = econ;
    }

    bytes : merge_bytes b ≡ merge_bytes d
    bytes = bytes_same b d en em (same_machine (target b) (target d) A).1

    checks : merge_checked b (length before) ≡ merge_checked d (length before)
    checks =
        checks_same b d (length before)
        (narrow_is b Zb ∙ ap (λ n. refuse (ltb 2 n) 2 0 (answer 0 0)) en ∙ sym (narrow_is d Zd))
        (accepted_at b p eb ∙ sym (accepted_at d q ed)) (same_machine (target b) (target d) A).0 bytes

    results : merge_result b before ≡ merge_result d before
    results = results_same b d before checks bytes
