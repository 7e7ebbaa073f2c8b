-- A group's end, for whatever is explored. Assumes nothing.
use mathlib.Core.Path.{◌≡◌, sym, subst}
use mathlib.Core.List.{List}
use Prim.Native.Nat.{ℕ, ◌+◌, ◌*◌, ◌≤◌, ◌<◌}
use native.Mathlib.Nat.{le_antisymm}
use native.Mathlib.Omega.{arith}
use Rattle.refine.specs.Rows.{Placed, Refined}
use Rattle.refine.specs.Collecting.{Collectable, Collected}
use Rattle.refine.specs.declared.Rows.{Rows}
use Rattle.explore.specs.Explore.{Underway, Moved, Moves, next_group, next_layer, rows_of, Groupable, Rowable, Nextable}
use Rattle.explore.specs.declared.Layout.{Layout}
use Rattle.explore.specs.declared.Cursor.{Cursor}
use Rattle.explore.proofs.Groups.{rowable, placed}
use Rattle.explore.proofs.Turns.{groupable, group_turn, collectable, nextable, layer_turn}

module _ (layout : Layout) (s ws : List ℕ) (c : Cursor) (U : Underway layout s ws c c.states) where
  pub end_rowable : Rowable layout c
  end_rowable = rowable layout U.subject s ws c U.exploring.layered U.more

  module _ (rows : Rows) (e : rows ≡ rows_of layout c) where
    pub end_placed : Placed s ws rows
    end_placed = subst (Placed s ws) (sym e) (placed layout U.subject s ws c U.more U.exploring)

    module _ (r : List ℕ) (k : ℕ) (R : Refined s r ws rows k) where
      fresh : Refined s r ws (rows_of layout c) k
      fresh = subst (λ rows. Refined s r ws rows k) e R

      -- outputs are left
      module _ (left : c.first + c.parts < layout.outputs * layout.frames) where
        pub end_groupable : Groupable layout (record { layer = c.layer; states = c.states; at = c.at; first = c.first + c.parts; parts = 0; state = 0; counts = c.counts })
        end_groupable =
            let G = groupable layout U.subject s ws c U.exploring.layered (omega arith) in
            record { laid = G.laid; states_from = G.states_from; states_to = G.states_to; first_to = omega arith }

        pub group_ends : (d : Cursor) → d ≡ next_group layout c → Moves layout s r ws c c.states d
        group_ends d q g E = subst (Moved layout g s r ws c) (sym q) (group_turn layout g s ws c U.more E r k fresh left)

      -- none are left
      module _ (none : layout.outputs * layout.frames ≤ c.first + c.parts) where
        whole : c.first + c.parts ≡ layout.outputs * layout.frames
        whole = le_antisymm U.exploring.group_to none

        pub end_collectable : Collectable r rows c.at layout.fan (layout.bits * c.layer)
        end_collectable = subst (λ rows. Collectable r rows c.at layout.fan (layout.bits * c.layer)) (sym e) (collectable layout U.subject s ws c U.more U.exploring r k fresh whole)

        pub end_nextable : Nextable layout c k
        end_nextable = nextable layout U.subject s ws c U.more U.exploring r k fresh whole

        pub layer_ends : (q : List ℕ) → Collected r q rows c.at layout.fan (layout.bits * c.layer) → (d : Cursor) → d ≡ next_layer layout c k → Moves layout s q ws c c.states d
        layer_ends q C d p g E =
            subst (Moved layout g s q ws c) (sym p)
            (layer_turn layout g s ws c U.more E r k fresh whole q (subst (λ rows. Collected r q rows c.at layout.fan (layout.bits * c.layer)) e C))
