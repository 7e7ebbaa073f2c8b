use mathlib.Core.Path.{refl, ◌∙◌}
use native.Mathlib.Omega.{arith}
use Rattle.conjoin.proofs.Turn.{known_is, known_real, cached_is, cached_real, to_level, left_falls, low_ready, low_none_is, high_ready, high_none_is, join_ready, lacking_is, joined_is}
use Rattle.conjoin.proofs.+conjoin.Goals as goal

-- what is known at once, or from the cache
pub returns-in-Some-clause-is : goal.returns-in-Some-clause-is
returns-in-Some-clause-is t c = known_is c.requires c.in-Some.ensures.is (known_real c.requires c.in-Some.id c.in-Some.ensures.real)

pub returns-in-Some-look-clause-is : goal.returns-in-Some-look-clause-is
returns-in-Some-look-clause-is t c = cached_is c.requires c.slot_of-slot.ensures c.in-Some-look.ensures

pub returns-in-Some-look-clause-real : goal.returns-in-Some-look-clause-real
returns-in-Some-look-clause-real t c = cached_real c.requires c.slot_of-slot.ensures c.in-Some-look.ensures

-- the low half
pub overflow_sub-shape : goal.overflow_sub-shape
overflow_sub-shape t c = to_level c.requires c.slot_of-slot.ensures c.in_default.ensures.is c.node_of-x.ensures c.node_of-y.ensures c.top_of-level.ensures

pub conjoin-requires : goal.conjoin-requires
conjoin-requires t c = (omega (arith, c.decreases, left_falls c.requires c.slot_of-slot.ensures c.in_default.ensures.is c.node_of-x.ensures c.node_of-y.ensures c.top_of-level.ensures), low_ready c.requires c.slot_of-slot.ensures c.in_default.ensures.is c.node_of-x.ensures c.node_of-y.ensures c.top_of-level.ensures c.halve-halves.ensures)

pub returns-in_err-low-clause-is : goal.returns-in_err-low-clause-is
returns-in_err-low-clause-is t c = rw c.from_residual.ensures (low_none_is c.requires c.slot_of-slot.ensures c.in_default.ensures.is c.node_of-x.ensures c.node_of-y.ensures c.top_of-level.ensures c.halve-halves.ensures c.conjoin.new.nodes c.conjoin.auto.nodes c.conjoin.auto.work c.in_err-low.ensures.is refl)

-- the high half
pub overflow_sub-shape-2 : goal.overflow_sub-shape-2
overflow_sub-shape-2 t c = to_level c.requires c.slot_of-slot.ensures c.in_default.ensures.is c.node_of-x.ensures c.node_of-y.ensures c.top_of-level.ensures

pub conjoin-requires-2 : goal.conjoin-requires-2
conjoin-requires-2 t c = (omega (arith, c.decreases, left_falls c.requires c.slot_of-slot.ensures c.in_default.ensures.is c.node_of-x.ensures c.node_of-y.ensures c.top_of-level.ensures), high_ready c.requires c.slot_of-slot.ensures c.in_default.ensures.is c.node_of-x.ensures c.node_of-y.ensures c.top_of-level.ensures c.halve-halves.ensures c.conjoin.new.nodes c.conjoin.auto.nodes c.conjoin.auto.work c.in_ok-low.ensures.is c.in_ok-low.ensures.real)

pub returns-in_err-high-clause-is : goal.returns-in_err-high-clause-is
returns-in_err-high-clause-is t c = rw c.from_residual-in_err-high.ensures (high_none_is c.requires c.slot_of-slot.ensures c.in_default.ensures.is c.node_of-x.ensures c.node_of-y.ensures c.top_of-level.ensures c.halve-halves.ensures c.conjoin.new.nodes c.conjoin.auto.nodes c.conjoin.auto.work c.in_ok-low.ensures.is c.in_ok-low.ensures.real c.conjoin-2.new.nodes (c.conjoin-2.auto.nodes ∙ c.conjoin.auto.nodes) (c.conjoin-2.auto.work ∙ c.conjoin.auto.work) c.in_err-high.ensures.is refl)

-- their join
pub join-requires : goal.join-requires
join-requires t c = join_ready c.requires c.slot_of-slot.ensures c.in_default.ensures.is c.node_of-x.ensures c.node_of-y.ensures c.top_of-level.ensures c.halve-halves.ensures c.conjoin.new.nodes c.conjoin.auto.nodes c.conjoin.auto.work c.in_ok-low.ensures.is c.in_ok-low.ensures.real c.conjoin-2.new.nodes (c.conjoin-2.auto.nodes ∙ c.conjoin.auto.nodes) (c.conjoin-2.auto.work ∙ c.conjoin.auto.work) c.in_ok-high.ensures.is c.in_ok-high.ensures.real

pub returns-in_err-made-clause-is : goal.returns-in_err-made-clause-is
returns-in_err-made-clause-is t c = rw c.from_residual-in_err-made.ensures (lacking_is c.requires c.slot_of-slot.ensures c.in_default.ensures.is c.node_of-x.ensures c.node_of-y.ensures c.top_of-level.ensures c.halve-halves.ensures c.conjoin.new.nodes c.conjoin.auto.nodes c.conjoin.auto.work c.in_ok-low.ensures.is c.in_ok-low.ensures.real c.conjoin-2.new.nodes (c.conjoin-2.auto.nodes ∙ c.conjoin.auto.nodes) (c.conjoin-2.auto.work ∙ c.conjoin.auto.work) c.in_ok-high.ensures.is c.join.new.nodes c.in_err-made.ensures.is)

pub returns-clause-is : goal.returns-clause-is
returns-clause-is t c = joined_is c.requires c.slot_of-slot.ensures c.in_default.ensures.is c.node_of-x.ensures c.node_of-y.ensures c.top_of-level.ensures c.halve-halves.ensures c.conjoin.new.nodes c.conjoin.auto.nodes c.conjoin.auto.work c.in_ok-low.ensures.is c.in_ok-low.ensures.real c.conjoin-2.new.nodes (c.conjoin-2.auto.nodes ∙ c.conjoin.auto.nodes) (c.conjoin-2.auto.work ∙ c.conjoin.auto.work) c.in_ok-high.ensures.is c.join.new.nodes c.in_ok-made.ensures.is c.keep.ensures
