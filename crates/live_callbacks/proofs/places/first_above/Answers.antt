use Rattle.std.proofs.Common.{leb, leb-true, leb-false, rules}
use Rattle.std.proofs.lemmas.List.Sorted.{IsPartitionPoint-from_clause, IsPartitionedBy-leb}
use Rattle.live_callbacks.proofs.Rising.{numbers_rise}
use Rattle.live_callbacks.proofs.places.first_above.Goals as goal

-- the closure tests a row's number
pub returns-clause-parted : goal.returns-clause-parted
returns-clause-parted c =
    let parted = IsPartitionedBy-leb (λ r. r.number) _ c.args.number (numbers_rise _ c.requires) in
    let point = IsPartitionPoint-from_clause (λ r. leb r.number c.args.number) _ _ c.partition_point.ensures.partitioned parted (λ a r q k. search rules) in
    (λ k d low high. leb-true _ _ (point.0 k d low high), λ k d low high. leb-false _ _ (point.1 k d low high))
