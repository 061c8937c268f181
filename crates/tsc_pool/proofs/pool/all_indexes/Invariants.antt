use Rattle.std.proofs.Common.{◌≡◌, ◌≤◌, vec_capacity}
use Rattle.std.specs.List.{range_with_len}
use Rattle.tsc_pool.proofs.pool.all_indexes.Given as goal

abbrev pub invariant-loop-index : goal.invariant-loop-index
invariant-loop-index l = record { items : l.free.items ≡ range_with_len 0 l.index; room : l.rows ≤ vec_capacity l.free }
