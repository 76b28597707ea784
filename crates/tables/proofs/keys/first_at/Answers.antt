-- the library's partition point at the keys, which rise
use Rattle.std.proofs.Common.{ltb, rules}
use Rattle.std.proofs.lemmas.List.Sorted.{IsPartitionPoint-from_clause, IsPartitionedBy-ltb}
use Rattle.theory.specs.Order.{key_of}
use Rattle.tables.proofs.Searching.{not_falling, first_from_point}
use Rattle.tables.proofs.keys.first_at.Goals as goal

pub returns-clause-first : goal.returns-clause-first
returns-clause-first g c rises =
    let es = c.args.table.now in
    let k = c.args.wanted in
    first_from_point es k c.partition_point.result
    (IsPartitionPoint-from_clause (λ e. ltb (key_of e) k) es _ c.partition_point.ensures.partitioned (IsPartitionedBy-ltb key_of es k (not_falling es rises)) (λ a r q h. search rules))
