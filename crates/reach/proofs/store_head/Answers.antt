-- `reach::store_head` meets its contract. The invariant: T and the counts so far are stored.
-- Assumes nothing.
use mathlib.Core.Path.{◌≡◌, refl, sym, ap, ap₂, ◌∙◌}
use mathlib.Core.List.{List, [], ◌∷◌}
use Prim.Native.Nat.{ℕ, suc, ◌+◌, ◌*◌, ◌≤◌}
use native.Mathlib.Omega.{arith}
use lib.ListN.{length}
use Rattle.words.specs.Words.{stored}
use Rattle.words.proofs.Laws.{stored_none, stored_length, stored_behind}
use Rattle.sizes.specs.Sizes.{frames}
use Rattle.layered.specs.Search.{join, tabulate}
use Rattle.layered.proofs.Lists.{tabulate_length}
use Rattle.table.specs.Table.{states}
use Rattle.table.proofs.Parts.{count_in}
use Rattle.reach.specs.Reach.{head_words}
use Rattle.reach.proofs.Stored.{tabulated_more}
use Rattle.paths.proofs.Places.{head_is}
use Rattle.reach.proofs.store_head.Goals as goal

pub store-requires : goal.store-requires
store-requires c =
    omega (arith, c.requires.last_value.1, head_is c.args.table.now)

pub loop-t-init : goal.loop-t-init
unfolding join tabulate
loop-t-init c =
    (omega arith, sym (stored_none 2 _ _))

pub states_of-requires : goal.states_of-requires
states_of-requires c =
    count_in c.args.table.now c.requires.table_headed _ (omega (arith, c.requires.last_value.0, c.loop-t-test.true))

pub store-requires-in-loop-t : goal.store-requires-in-loop-t
store-requires-in-loop-t c =
    let room : 4 + 2 * c.args.last ≤ length c.args.res.now =
    omega (arith, c.requires.last_value, head_is c.args.table.now)
    in
    let len₁ : length c.store.new.bytes ≡ length c.args.res.now =
    ap length c.store.ensures ∙ stored_length 2 _ 0 (c.args.last ∷ []) (omega (arith, room))
    in
    let len : length c.loop-t.res ≡ length c.args.res.now =
    ap length c.loop-t.invariant.1 ∙ stored_length 2 _ 2 (tabulate c.loop-t.t (states c.args.table.now)) (omega (arith, room, len₁, c.loop-t.invariant.0, tabulate_length c.loop-t.t (states c.args.table.now))) ∙ len₁
    in
    omega (arith, room, len, c.loop-t-test.true)

pub loop-t-preserved : goal.loop-t-preserved
loop-t-preserved c =
    let room : 4 + 2 * c.args.last ≤ length c.args.res.now =
    omega (arith, c.requires.last_value, head_is c.args.table.now)
    in
    let len₁ : length c.store.new.bytes ≡ length c.args.res.now =
    ap length c.store.ensures ∙ stored_length 2 _ 0 (c.args.last ∷ []) (omega (arith, room))
    in
    let S = states c.args.table.now in (
      omega (arith, c.loop-t-test.true),
      c.store-in-loop-t.ensures
          ∙ ap (λ (x : ℕ). stored 2 c.loop-t.res (2 + 2 * c.loop-t.t) (x ∷ [])) c.states_of.ensures.0
          ∙ tabulated_more 2 c.store.new.bytes c.loop-t.res 2 c.loop-t.t S _ c.loop-t.invariant.1 refl (omega (arith, room, len₁, c.loop-t-test.true)),
    )

pub returns : goal.returns
unfolding head_words
returns c =
    let room : 4 + 2 * c.args.last ≤ length c.args.res.now =
    omega (arith, c.requires.last_value, head_is c.args.table.now)
    in
    let b : List ℕ = c.args.table.now in
    let e : c.loop-t.t ≡ suc (frames b) = omega (arith, c.requires.last_value.0, c.loop-t-test.false) in
    c.loop-t.invariant.1
    ∙ stored_behind 2 c.args.res.now c.store.new.bytes 0 (c.args.last ∷ []) (tabulate c.loop-t.t (states b)) 2 c.store.ensures refl (omega (arith, room))
    ∙ ap₂ (λ (x n : ℕ). stored 2 c.args.res.now 0 (x ∷ tabulate n (states b))) c.requires.last_value.0 e
