-- A list that is written at a place, seen as items.
use Rattle.std.proofs.Common.{◌≡◌, ◌<◌, ◌∙◌, ap, sym, arith, ℕ, List, ◌++◌, ◌∷◌, [], length, slice_index_or, slice_set}
use Rattle.std.specs.Global.{Vec}
use Rattle.std.proofs.lemmas.List.{get_or-map, length-map, map-set}
use Rattle.tsc_bits.specs.Lists.{list_at}
use Rattle.kiss_read.specs.Clashes.{lists_of}
use Rattle.kiss_read.proofs.groups.keep.Goals as goal

items_read : (lists : List (Vec ℕ)) (place : ℕ) (d : Vec ℕ) → place < length (lists_of lists)
    → (slice_index_or lists place d).items ≡ list_at (lists_of lists) place
items_read lists place d h =
    let inside : place < length lists = omega (arith, length-map lists (λ l. l.items)) in
    sym (get_or-map (λ l. l.items) lists place d [] inside)

pub returns : goal.returns
returns c = record {
  kept = map-set (λ list. list.items) c.args.lists.now c.args.slot c.push.new.self
      ∙ ap (slice_set (lists_of c.args.lists.now) c.args.slot) (c.in_ok-push.ensures.items
      ∙ ap (λ items. items ++ c.args.place ∷ []) (items_read c.args.lists.now c.args.slot c.index-lists-slot.result c.requires.within));
}
