-- `table::head::most_states` meets its contract: the flag that the branches make is the definition's.
-- Assumes nothing.
use mathlib.Core.Path.{◌≡◌, sym, ap}
use mathlib.Core.Bool.{Bool, true, false, ◌||◌, cond}
use mathlib.Core.Logic.{◌⊎◌, ⊎_elim}
use Prim.Native.Nat.{ℕ}
use lib.Dec.{eqb}
use borrow.Author.Tests.{eq-eqb, ne_eqb}
use Rattle.table.specs.Limits.{end_states, most_states}
use Rattle.table.proofs.head.most_states.Goals as goal

-- a layer at either end, and one that is at neither
end_flag : (t T : ℕ) → (t ≡ 0) ⊎ ((t ≡ 0 → ⊥) × (t ≡ T)) → (eqb t 0 || eqb t T) ≡ true
end_flag t T = ⊎_elim (λ (e : t ≡ 0). rw (eq-eqb t 0 e)) (λ (w : (t ≡ 0 → ⊥) × (t ≡ T)). rw (ne_eqb t 0 w.0) (eq-eqb t T w.1))

inner_flag : (t T : ℕ) → (t ≡ 0 → ⊥) × (t ≡ T → ⊥) → (eqb t 0 || eqb t T) ≡ false
inner_flag t T w = rw (ne_eqb t 0 w.0) (ne_eqb t T w.1)

pub returns-then-t-frames : goal.returns-then-t-frames
returns-then-t-frames c = ap (λ (f : Bool). cond f end_states most_states) (sym (end_flag c.args.t c.args.frames c.if-t-frames.either))

pub returns-else-t-frames : goal.returns-else-t-frames
returns-else-t-frames c = ap (λ (f : Bool). cond f end_states most_states) (sym (inner_flag c.args.t c.args.frames c.if-t-frames.false))
