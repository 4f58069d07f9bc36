use Rattle.tp_library.proofs.Halving.{nothing_shelved}
use Rattle.tp_library.proofs.shelf.Shelf.open.Goals as goal

pub invariant_of-result : goal.invariant_of-result
invariant_of-result c = nothing_shelved _ _ _ _ c.args.workers (c.in_ok-zero.ensures) (c.in_ok-with_capacity.ensures.items) (c.in_ok-with_capacity-2.ensures.items) (c.in_ok-vec.ensures.items_if_clones_equal (λ y h. h))
