-- What the call answers and leaves in each case: refused by the table's check, by 7, or accepted. Assumes nothing.
use mathlib.Core.Path.{◌≡◌, ap, ◌∙◌, sym}
use mathlib.Core.List.{List, ◌++◌}
use Prim.Native.Nat.{ℕ, ◌≤◌, ◌<◌}
use lib.ListN.{length, drop}
use borrow.Author.Tests.{lt-ltb, le-ltb}
use Rattle.verdict.specs.Judgements.{answer, refusal_figures}
use Rattle.verdict.specs.declared.Refusal.{Refusal}
use Rattle.verdict.proofs.Laws.{go_on, kept, left}
use Rattle.table.specs.Table.{checked}
use Rattle.reach.specs.Reach.{reach_bytes, room_checked, reach_checked, reach_result}

-- an accepted table, whose result needs n bytes: 7, or room for them
module _ (b : List ℕ) (room p n : ℕ) (e : answer 0 p ≡ checked b) (is : n ≡ length (reach_bytes b)) where
  pub too_few : room < n → answer 7 n ≡ reach_checked b room
  unfolding reach_checked room_checked
  too_few h = go_on _ _ _ _ e (ap (answer 7) is ∙ rw (lt-ltb room (length (reach_bytes b)) (rw is at h)))

  pub enough : n ≤ room → answer 0 n ≡ reach_checked b room
  unfolding reach_checked room_checked
  enough h = go_on _ _ _ _ e (ap (answer 0) is ∙ rw (le-ltb room (length (reach_bytes b)) (rw is at h)))

module _ (b before : List ℕ) where
  -- a refusal leaves the result as it was
  pub refused : (r : Refusal) → refusal_figures r ≡ reach_checked b (length before) → before ≡ reach_result b before
  unfolding reach_result
  refused r e = kept _ r (reach_bytes b) before e

  -- an acceptance leaves the bytes, and the rest as it was
  pub accepted : (p : ℕ) (after : List ℕ) → answer 0 p ≡ reach_checked b (length before) → p ≡ length (reach_bytes b) → after ≡ reach_bytes b ++ drop (length (reach_bytes b)) before
      → after ≡ reach_result b before
  unfolding reach_result
  accepted p after e z h = left _ p (reach_bytes b) before after e (h ∙ ap (λ (k : ℕ). reach_bytes b ++ drop k before) (sym z))
