-- Lists that are all empty are empty at each place.
use Rattle.std.proofs.lemmas.List.Elements.{All-map}
use Rattle.std.proofs.Common.{◌≡◌, List, ℕ, []}
use Rattle.tsc_net.proofs.OrderLists.{empty_at}
use Rattle.kiss_read.specs.Clashes.{lists_of}
use Rattle.kiss_read.proofs.groups.empty_lists.Goals as goal

pub returns-clause-empty : goal.returns-clause-empty
returns-clause-empty c =
    empty_at (lists_of c.loop.lists.items) (All-map (λ (l : List ℕ). l ≡ []) (λ l. l.items) c.loop.lists.items c.loop.invariant.1)
