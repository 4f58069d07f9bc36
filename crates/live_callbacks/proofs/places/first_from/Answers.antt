use Rattle.std.proofs.Common.{ltb, ltb-true, ltb-false, rules}
use Rattle.std.proofs.lemmas.List.Sorted.{IsPartitionPoint-from_clause, IsPartitionedBy-ltb}
use Rattle.live_callbacks.proofs.Rising.{numbers_rise}
use Rattle.live_callbacks.proofs.places.first_from.Goals as goal

-- the closure tests a row's number
pub returns-clause-parted : goal.returns-clause-parted
returns-clause-parted c =
    let parted = IsPartitionedBy-ltb (λ r. r.number) _ c.args.number (numbers_rise _ c.requires) in
    let point = IsPartitionPoint-from_clause (λ r. ltb r.number c.args.number) _ _ c.partition_point.ensures.partitioned parted (λ a r q k. search rules) in
    (λ k d low high. ltb-true _ _ (point.0 k d low high), λ k d low high. ltb-false _ _ (point.1 k d low high))
