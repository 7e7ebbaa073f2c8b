-- What the call answers and leaves in each case: refused by n's limit, by the table's check, by 21 or 7, or accepted. Assumes nothing.
use mathlib.Core.Path.{◌≡◌, refl, sym, ap, ◌∙◌}
use mathlib.Core.List.{List, ◌++◌}
use Prim.Native.Nat.{ℕ, ◌≤◌, ◌<◌}
use native.Mathlib.Omega.{arith}
use lib.Dec.{ltb}
use lib.ListN.{length, drop}
use borrow.Author.Tests.{ltb-false, lt-ltb, le-ltb}
use Rattle.verdict.specs.Judgements.{Verdict, answer, refusal_figures, figures, refuse}
use Rattle.verdict.specs.declared.Figures.{Figures}
use Rattle.std.specs.Prelude.{Err, IsErrAnd}
use Rattle.verdict.specs.declared.Refusal.{Refusal}
use Rattle.verdict.specs.declared.Refusal.TheVariants.{Unmatched, Room}
use Rattle.verdict.proofs.Laws.{told, stop, go_on, kept, left, passed}
use Rattle.sizes.specs.Sizes.{inputs}
use Rattle.table.specs.Table.{checked}
use Rattle.merged.specs.Merged.{most_merged, fewest_states}
use Rattle.merge.specs.Merge.{target, merge_bytes, narrow_checked, machine_checked, merge_checked, merge_result}
use Rattle.merge.specs.Theorems.{Merges, MergesAlike}
use Rattle.merge.proofs.Theorems.{merges, merges_alike}

-- where n's limit passes, n is at most 2
pub narrow_few : (b : List ℕ) (p : ℕ) → narrow_checked b ≡ answer 0 p → inputs b ≤ 2
unfolding narrow_checked
narrow_few b p e =
    let x = passed (ltb (length b) 6) 1 (length b) _ p refl e in
    let y = passed (ltb 2 (inputs b)) 2 0 (answer 0 0) p refl x.1 in
    ltb-false 2 (inputs b) y.0

-- all that the call promises, of its answer and the result after it
abbrev pub Promised : (b before : List ℕ) → Figures → (after : List ℕ) → Type 0
Promised b before f after = (f ≡ merge_checked b (length before)) × ((after ≡ merge_result b before) × (Merges b (length before) × MergesAlike b))

module _ (b before : List ℕ) where
  -- a refusal leaves the result as it was
  refused : (x : Verdict) (r : Refusal) → figures x ≡ refusal_figures r → refusal_figures r ≡ merge_checked b (length before) → Promised b before (figures x) before
  unfolding merge_result
  refused x r h e = rw h (e, (kept _ r (merge_bytes b) before e, (merges b (length before), merges_alike b)))

  pub narrow_refused : (x : Verdict) (r : Refusal) → IsErrAnd x (λ y. y ≡ r) → refusal_figures r ≡ narrow_checked b → Promised b before (figures x) before
  unfolding merge_checked
  narrow_refused x r h e = refused x r (told x r _ h refl) (stop (Err r) r (narrow_checked b) _ refl e)

  module _ (p : ℕ) (ep : answer 0 p ≡ narrow_checked b) where
    pub table_refused : (x : Verdict) (r : Refusal) → IsErrAnd x (λ y. y ≡ r) → refusal_figures r ≡ checked b → Promised b before (figures x) before
    unfolding merge_checked
    table_refused x r h e = refused x r (told x r _ h refl) (go_on (narrow_checked b) _ _ p ep (stop (Err r) r (checked b) _ refl e))

    module _ (q : ℕ) (eq : answer 0 q ≡ checked b) where
      passed_on : (f : Figures) → f ≡ machine_checked b (length before) → f ≡ merge_checked b (length before)
      unfolding merge_checked
      passed_on f e = go_on (narrow_checked b) _ f p ep (go_on (checked b) _ f q eq e)

      pub unmatched : most_merged < fewest_states (target b) → Promised b before (answer 21 0) before
      unfolding machine_checked
      unmatched l =
          refused (Err (Unmatched 0)) (Unmatched 0) refl
          (passed_on (answer 21 0) (sym (ap (λ t. refuse t 21 0 (refuse (ltb (length before) (length (merge_bytes b))) 7 (length (merge_bytes b)) (answer 0 (length (merge_bytes b))))) (lt-ltb most_merged (fewest_states (target b)) l))))

      module _ (few : fewest_states (target b) ≤ most_merged) (bytes : ℕ) (eb : bytes ≡ length (merge_bytes b)) where
        -- 21 does not hold, and then 7 is judged
        matched_on : (f : Figures) → f ≡ refuse (ltb (length before) (length (merge_bytes b))) 7 (length (merge_bytes b)) (answer 0 (length (merge_bytes b))) → f ≡ merge_checked b (length before)
        unfolding machine_checked
        matched_on f e =
            passed_on f
            (e ∙ sym (ap (λ t. refuse t 21 0 (refuse (ltb (length before) (length (merge_bytes b))) 7 (length (merge_bytes b)) (answer 0 (length (merge_bytes b))))) (le-ltb most_merged (fewest_states (target b)) few)))

        pub short : length before < bytes → Promised b before (answer 7 bytes) before
        short l =
            refused (Err (Room bytes)) (Room bytes) refl
            (matched_on (answer 7 bytes)
            (ap (λ n. answer 7 n) eb ∙ sym (ap (λ t. refuse t 7 (length (merge_bytes b)) (answer 0 (length (merge_bytes b)))) (lt-ltb (length before) (length (merge_bytes b)) (omega (arith, eb))))))

        -- an acceptance leaves the bytes, and the rest as it was
        pub accepted : (after : List ℕ) → bytes ≤ length before → after ≡ merge_bytes b ++ drop bytes before → Promised b before (answer 0 bytes) after
        unfolding merge_result
        accepted after l h =
            let e : answer 0 bytes ≡ merge_checked b (length before) =
            matched_on (answer 0 bytes)
            (ap (λ n. answer 0 n) eb ∙ sym (ap (λ t. refuse t 7 (length (merge_bytes b)) (answer 0 (length (merge_bytes b)))) (le-ltb (length before) (length (merge_bytes b)) (omega (arith, eb))))) in
            (e, (left _ bytes (merge_bytes b) before after e h, (merges b (length before), merges_alike b)))
