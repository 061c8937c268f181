-- What a list ends as, where a `&mut` to one of its items is returned.
use Rattle.std.specs.Prelude.{ℕ, List, slice_set}
use Rattle.std.specs.Borrow.{Lends, Fml, RattleType, MutBor}
use Rattle.tsc_io.specs.contracts.items.Items.{the_row}

-- once the borrow `item` ends, the list has at `place` the last value written through it
abbrev pub lends_item : (T : RattleType) → MutBor (List T.Denot) → ℕ → MutBor T.Denot → Fml
lends_item T list place item = Lends (the_row T) T list item (slice_set list.now place)
