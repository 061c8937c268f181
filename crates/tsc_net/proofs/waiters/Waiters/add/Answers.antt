-- A list that is written at a place, seen as items.
use Rattle.std.proofs.Common.{◌∙◌, ap, ◌++◌, ◌∷◌, [], ◌<◌, length, slice_set, map, sym, arith}
use Rattle.std.proofs.lemmas.List.{get_or-map, length-map, map-set}
use Rattle.tsc_bits.specs.Lists.{list_at}
use Rattle.tsc_net.proofs.waiters.Waiters.add.Goals as goal

pub returns : goal.returns
returns c =
    let lists = c.self.inside.lists.items in
    let on = c.args.on in
    let within : on < length lists = omega (arith, c.requires.within, ap length c.self.view_is, length-map lists (λ list. list.items)) in
    record {
      added = map-set (λ list. list.items) lists on c.push.new.self
          ∙ ap (slice_set (map (λ list. list.items) lists) on)
          (c.in_ok-push.ensures.ok
          ∙ ap (λ items. items ++ c.args.node ∷ [])
          (ap (λ list. list.items) c.index_mut.ensures.value ∙ sym (get_or-map (λ list. list.items) lists on c.index_mut.result.now [] within)))
          ∙ ap (λ seen. slice_set seen on (list_at seen on ++ c.args.node ∷ [])) c.self.view_is;
    }
