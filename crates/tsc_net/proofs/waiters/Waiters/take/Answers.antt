-- A list that is written at a place, seen as items.
use Rattle.std.proofs.Common.{◌∙◌, ap, [], slice_set, map}
use Rattle.std.proofs.lemmas.List.{map-set}
use Rattle.tsc_net.proofs.waiters.Waiters.take.Goals as goal

pub returns-clause-left : goal.returns-clause-left
returns-clause-left c =
    map-set (λ list. list.items) c.self.inside.lists.items c.args.on c.replace.new.dest
    ∙ ap (slice_set (map (λ list. list.items) c.self.inside.lists.items) c.args.on) (ap (λ list. list.items) c.replace.ensures.after ∙ c.new.ensures.items)
    ∙ ap (λ lists. slice_set lists c.args.on []) c.self.view_is
