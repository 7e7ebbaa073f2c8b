-- What folding's outcome is printed as. Assumes nothing.
use mathlib.Core.Path.{◌≡◌, refl, sym, ap, ◌∙◌}
use mathlib.Core.List.{List, ◌++◌}
use Prim.Native.Nat.{ℕ, ◌≤◌}
use native.Mathlib.Omega.{arith}
use lib.ListN.{length, take, drop, length-take}
use Rattle.verdict.specs.Judgements.{answer, refusal_figures}
use Rattle.verdict.specs.declared.Figures.{Figures}
use Rattle.verdict.specs.declared.Refusal.{Refusal}
use Rattle.verdict.proofs.Laws.{refusal_number}
use Rattle.table.specs.Sound.{TableHeaded}
use Rattle.table.proofs.Accepted.{sound}
use Rattle.folded.specs.Folded.{folded_bytes, fold_checked, fold_result}
use Rattle.folded.proofs.Outcomes.{accepted, written_bytes}
use Rattle.fold.specs.Fold.{Promised}
use Rattle.report.specs.Report.{table_lines, refusal_line, Appended}
use Rattle.report.proofs.Appending.{append_front}
use Rattle.program.specs.Program.{scratch_lent, nodes_lent, result_lent, program_lines}

-- what was appended at the front
made : {out xs out' : List ℕ} {n : ℕ} (ys : List ℕ) → ys ≡ xs → Appended out 0 xs out' n → (n ≡ length ys) × ((out' ≡ ys ++ drop n out) × (n ≤ length out))
made ys e p = rw e (omega (arith, p.ends), (append_front p, p.within))

-- the part of the result that is passed on
pub part_length : (w : ℕ) (result : List ℕ) → w ≤ length result → w ≡ length (take w result)
part_length w result h = rw length-take (omega arith)

-- a fold of b that was refused
module _ (b : List ℕ) (r : Refusal) (e : refusal_figures r ≡ fold_checked b scratch_lent nodes_lent result_lent) where
  refused_lines : program_lines b ≡ refusal_line (refusal_figures r).number (refusal_figures r).place
  unfolding program_lines
  refused_lines = rw (← e, refusal_number r)

  pub prints_refusal : {out out' : List ℕ} {n : ℕ} (f : Figures) → f ≡ refusal_figures r → Appended out 0 (refusal_line f.number f.place) out' n
      → (n ≡ length (program_lines b)) × ((out' ≡ program_lines b ++ drop n out) × (n ≤ length out))
  prints_refusal f i p = made (program_lines b) refused_lines (rw i at p)

-- and one that was accepted, and so wrote w bytes to the front of the result
module _ (b : List ℕ) (w : ℕ) (e : answer 0 w ≡ fold_checked b scratch_lent nodes_lent result_lent) where
  accepted_lines : program_lines b ≡ table_lines (folded_bytes b)
  unfolding program_lines
  accepted_lines = rw (← e)

  pub fits : w ≤ result_lent
  fits = let a = accepted b scratch_lent nodes_lent result_lent w (sym e) in omega (arith, a.place_is, a.room_enough)

  -- it is within the result
  pub within : (result : List ℕ) → length result ≡ result_lent → w ≤ length result
  within result l = omega (arith, fits)

  module _ (before : List ℕ) (lent : length before ≡ result_lent) (result : List ℕ) (left : result ≡ fold_result b scratch_lent nodes_lent before) where
    wrote : take w result ≡ folded_bytes b
    wrote = ap (take w) left ∙ written_bytes b before scratch_lent nodes_lent w (rw lent (sym e))

    pub prints_table : {out out' : List ℕ} {n : ℕ} → Appended out 0 (table_lines (take w result)) out' n
        → (n ≡ length (program_lines b)) × ((out' ≡ program_lines b ++ drop n out) × (n ≤ length out))
    prints_table p = made (program_lines b) accepted_lines (rw wrote at p)

  -- it is a table whose head passes
  pub head_passes : (result : List ℕ) → Promised b (answer 0 w) result → TableHeaded (take w result)
  unfolding Promised
  head_passes result P = (sound (take w result) 0 (P w refl).0.legal).headed
