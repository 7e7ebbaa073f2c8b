-- What is judged of a circuit whose states are counted. Assumes nothing.
use mathlib.Core.Path.{◌≡◌, sym, ap, ◌∙◌}
use mathlib.Core.Bool.{false}
use mathlib.Core.List.{List, [], ◌∷◌, ◌++◌}
use Prim.Native.Nat.{ℕ}
use native.Mathlib.Omega.{arith}
use lib.ListN.{length, get_or, drop, length-append}
use Rattle.layered.specs.Search.{equal}
use Rattle.layered.proofs.Search.{equal_false}
use lib.Seq.{get_or-append_seam}
use Rattle.sizes.specs.Sizes.{frames}
use Rattle.table.specs.Table.{states}
use Rattle.folded.specs.Folded.{folded_bytes}
use Rattle.folded.specs.Planned.{counts_to, plan_of, folded_plan}
use Rattle.ask.specs.declared.plan.Plan.{Plan}
use Rattle.ask.specs.Plan.{plan_numbers}

-- the bytes of a circuit's plan
pub bytes_are : (b : List ℕ) (plan : Plan) → plan_numbers plan ≡ folded_plan b → plan.bytes ≡ length (folded_bytes b)
unfolding folded_plan plan_of
bytes_are b plan e =
    let t = folded_bytes b in
    let c = counts_to (frames t) (states t) in
    let d : plan.counts ++ (plan.bytes ∷ []) ≡ c ++ (length t ∷ []) = ap (λ (l : List ℕ). drop 3 l) e in
    let n : length plan.counts ≡ length c = omega (arith, ap length d, length-append plan.counts (plan.bytes ∷ []), length-append c (length t ∷ [])) in
    sym (get_or-append_seam plan.counts plan.bytes [] 0) ∙ ap (λ (l : List ℕ). get_or l (length plan.counts) 0) d ∙ ap (λ (i : ℕ). get_or (c ++ (length t ∷ [])) i 0) n
    ∙ get_or-append_seam c (length t) [] 0

-- lists of two lengths are not equal
pub other_length : (xs ys : List ℕ) → ¬ (length xs ≡ length ys) → false ≡ equal xs ys
other_length xs ys n = sym (equal_false xs ys (λ e. n (ap length e)))
