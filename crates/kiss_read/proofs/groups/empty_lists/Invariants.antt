-- As many lists as were counted, each of them empty.
use Rattle.std.proofs.Common.{length, ◌≡◌, [], All}
use Rattle.kiss_read.proofs.groups.empty_lists.Given as goal

abbrev pub invariant-loop : goal.invariant-loop
invariant-loop l = (length l.lists.items ≡ l.counter) × All (λ list. list.items ≡ []) l.lists.items
