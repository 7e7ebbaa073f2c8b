-- What acceptance tells of spreading, the bytes that were written, and that from number 4 on it answers as folding does.
use mathlib.Core.Path.{◌≡◌, refl, sym, ap, ◌∙◌}
use mathlib.Core.Bool.{cond}
use mathlib.Core.List.{List}
use Prim.Native.Nat.{ℕ, ◌+◌, ◌*◌, ◌≤◌}
use lib.Dec.{ltb, eqb}
use lib.ListN.{length, take, drop, replicate}
use lib.Seq.{take_at}
use Rattle.verdict.specs.Judgements.{answer, and_then, result_after}
use Rattle.verdict.specs.declared.Figures.{Figures}
use Rattle.verdict.proofs.Laws.{both_accept, passed, then_assoc}
use Rattle.circuit.specs.Limits.{most_gates}
use Rattle.circuit.specs.Circuit.{gates, look_ahead_checked, checked}
use Rattle.circuit.specs.WellFormed.{Accepted}
use Rattle.circuit.proofs.Accepted.{none_ahead}
use Rattle.source.specs.Rearranged.{rearranged}
use Rattle.source.proofs.Rearranged.{rearranged_formed, rearranged_passes}
use Rattle.records.specs.Records.{none}
use Rattle.folded.specs.Folded.{folded_bytes, scratch_checked, nodes_checked, ask_checked, room_checked, fold_checked, fold_result, cleared, scratch_after, nodes_after}
use Rattle.spreading.specs.Spread.{schedule_checked, spread_lent, spread_checked, spread_result, spread_scratch, spread_nodes}
use Rattle.spreading.specs.Theorems.{AsFolding}
use Rattle.spreading.proofs.Schedule.{spread_source, Scheduled, scheduled}

module _ (c : List ℕ) (n m T : ℕ) (ins outs : List ℕ) where
  abbrev r : List ℕ
  r = rearranged c n m T ins outs

  -- ---- what acceptance tells

  -- of what is judged before anything that is lent is used
  pub lent_tells : (room p : ℕ) → spread_lent c n m T ins outs room ≡ answer 0 p → Scheduled c n m T ins outs × Accepted r
  unfolding spread_lent
  lent_tells room p e =
      let a = both_accept (schedule_checked c n m T ins outs) _ p e in
      let l = both_accept (look_ahead_checked r) _ p a.2 in
      let S = scheduled c n m T ins outs a.0 a.1 in
      (S, record { form = rearranged_formed c (spread_source c n m T ins outs) S.spreads; causal = none_ahead r l.0 l.1 })

  -- of spreading
  pub accepted : (room nodes x p : ℕ) → spread_checked c n m T ins outs room nodes x ≡ answer 0 p → Scheduled c n m T ins outs × Accepted r × (p ≡ length (folded_bytes r))
  unfolding spread_checked room_checked
  accepted room nodes x p e =
      let a = both_accept (spread_lent c n m T ins outs room) _ p e in
      let b = both_accept (nodes_checked r nodes) (room_checked r x) p a.2 in
      let q = passed (ltb x (length (folded_bytes r))) 7 _ _ p refl b.2 in
      let (S, A) = lent_tells room a.0 a.1 in
      (S, A, sym (ap (λ (f : Figures). f.place) q.1))

  -- the bytes that were written
  pub written_bytes : (before : List ℕ) (room nodes p : ℕ) → spread_checked c n m T ins outs room nodes (length before) ≡ answer 0 p
      → take p (spread_result c n m T ins outs room nodes before) ≡ folded_bytes r
  unfolding spread_result
  written_bytes before room nodes p e =
      ap (λ f. take p (result_after f (folded_bytes r) before)) e ∙ take_at (folded_bytes r) (drop p before) p (sym (accepted room nodes (length before) p e).2)

-- ---- as folding

module _ (c : List ℕ) (n m T : ℕ) (ins outs : List ℕ) (e : schedule_checked c n m T ins outs ≡ answer 0 0) (few : gates c + m * T ≤ most_gates) where
  -- before anything that is lent is used
  lent_same : (room : ℕ) → spread_lent c n m T ins outs room ≡ scratch_checked (r c n m T ins outs) room
  unfolding spread_lent scratch_checked checked
  lent_same room = rw (e, rearranged_passes c (spread_source c n m T ins outs) (scheduled c n m T ins outs 0 e).spreads few)

  -- and then
  checked_same : (room nodes x : ℕ) → spread_checked c n m T ins outs room nodes x ≡ fold_checked (r c n m T ins outs) room nodes x
  unfolding spread_checked fold_checked ask_checked
  checked_same room nodes x =
      let b : List ℕ = r c n m T ins outs in
      ap (λ f. and_then f (and_then (nodes_checked b nodes) (room_checked b x))) (lent_same room) ∙ sym (then_assoc (scratch_checked b room) (nodes_checked b nodes) (room_checked b x))

pub as_folding : AsFolding
unfolding AsFolding spread_result fold_result spread_scratch scratch_after spread_nodes nodes_after
as_folding c n m T ins outs scratch nodes result e few =
    let b : List ℕ = r c n m T ins outs in
    let same = checked_same c n m T ins outs e few (length scratch) (length nodes) (length result) in
    let lent = lent_same c n m T ins outs e few (length scratch) in (
      same,
      ap (λ f. result_after f (folded_bytes b) result) same,
      ap (λ (f : Figures). cond (eqb f.number 0) (cleared b scratch) scratch) lent,
      ap (λ (f : Figures). cond (eqb f.number 0) (replicate (length nodes) none) nodes) lent,
    )
