-- `write::put_row` meets its contract. The invariant: the words so far are stored.
-- Assumes nothing.
use mathlib.Core.Path.{◌≡◌, sym, ap, ◌∙◌}
use mathlib.Core.List.{List, [], ◌∷◌, ◌++◌}
use Prim.Native.Nat.{ℕ, ◌+◌, ◌*◌, ◌≤◌}
use native.Mathlib.Numerals.{add-one}
use native.Mathlib.Omega.{arith}
use lib.ListN.{length}
use Rattle.words.specs.Words.{stored}
use Rattle.words.proofs.Laws.{stored_none, stored_length, stored_behind}
use Rattle.layered.specs.Search.{join, tabulate}
use Rattle.layered.proofs.Lists.{tabulate_length}
use Rattle.explore.specs.declared.Layout.{Layout}
use Rattle.write.specs.Write.{word_in, row_in}
use Rattle.write.proofs.Rows.{columns_in}
use Rattle.write.proofs.put_row.Goals as goal

-- the words of the first w entries
abbrev word_at : Layout → (ws : List ℕ) (w : ℕ) → ℕ
word_at layout ws w = word_in ws (layout.columns + w * layout.outputs) layout.outputs

abbrev first : Layout → (ws : List ℕ) (w : ℕ) → List ℕ
first layout ws w = tabulate w (word_at layout ws)

pub loop-w-init : goal.loop-w-init
unfolding join tabulate
loop-w-init c =
    (omega arith, sym (stored_none 2 _ _))

pub word_of-requires : goal.word_of-requires
word_of-requires c =
    let columns : c.loop-w.w * c.args.layout.outputs + c.args.layout.outputs ≤ c.args.layout.fan * c.args.layout.outputs =
    columns_in c.loop-w.w c.args.layout.fan c.args.layout.outputs c.loop-w-test.true
    in
    (c.requires.0.outputs_to, omega (arith, columns, c.requires.1))

pub store-requires : goal.store-requires
store-requires c =
    let room : c.args.to + 2 * length (first c.args.layout c.args.work.now c.loop-w.w) ≤ length c.args.res.now =
    omega (arith, c.requires.2, c.loop-w.invariant.0, tabulate_length c.loop-w.w (word_at c.args.layout c.args.work.now))
    in
    let len : length c.loop-w.res ≡ length c.args.res.now =
    ap length c.loop-w.invariant.1 ∙ stored_length 2 _ _ _ (room)
    in
    omega (arith, len, c.requires.2)

pub loop-w-preserved : goal.loop-w-preserved
unfolding join tabulate
loop-w-preserved c =
    let room : c.args.to + 2 * length (first c.args.layout c.args.work.now c.loop-w.w) ≤ length c.args.res.now =
    omega (arith, c.requires.2, c.loop-w.invariant.0, tabulate_length c.loop-w.w (word_at c.args.layout c.args.work.now))
    in
    let v = first c.args.layout c.args.work.now in
    let w : ℕ = c.loop-w.w in (
      omega arith,
      c.store.ensures
          ∙ stored_behind 2 c.args.res.now c.loop-w.res c.args.to (v w) _ _ c.loop-w.invariant.1 (omega (arith, tabulate_length w (word_at c.args.layout c.args.work.now))) (room)
          ∙ ap (λ (x : ℕ). stored 2 c.args.res.now c.args.to (v w ++ (x ∷ []))) c.word_of.ensures
          ∙ ap (λ (w : ℕ). stored 2 c.args.res.now c.args.to (v w)) (sym (add-one w)),
    )

pub returns : goal.returns
unfolding row_in
returns c =
    let e : c.loop-w.w ≡ c.args.layout.fan = omega arith in
    c.loop-w.invariant.1 ∙ ap (λ (w : ℕ). stored 2 c.args.res.now c.args.to (first c.args.layout c.args.work.now w)) e
