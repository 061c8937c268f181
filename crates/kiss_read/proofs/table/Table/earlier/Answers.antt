-- The least of a state's list and of that of the rows that start at every state.
use Rattle.std.proofs.Common.{◌≡◌, Some, sym, ap, ◌∙◌, subst}
use Rattle.fault_secure.specs.Logic.{Transition}
use Rattle.tsc_bits.specs.Lists.{list_at}
use Rattle.kiss_read.specs.Clashes.{conflict_at, lists_of, rows_in, the_row, IsLeastBelow, IsLeastIn}
use Rattle.kiss_read.proofs.ClashSearch.{covered, least_of_both}
use Rattle.kiss_read.proofs.RowConflicts.{row_read}
use Rattle.kiss_read.proofs.table.Table.earlier.Goals as goal

pub returns-in-Some : goal.returns-in-Some
returns-in-Some c =
    let table = c.args.self.now in
    let rows = rows_in table in
    let later = c.args.later in
    let lists = lists_of c.args.lists.now in
    let state = c.in-Some.state in
    let from : (the_row rows later).from ≡ Some state =
    ap (λ (t : Transition). t.from) (row_read table later _ c.requires.later c.get.ensures.item) ∙ c.in-Some.is in
    let both = least_of_both (conflict_at rows later) (list_at lists state) (list_at lists table.states) later
    (c.requires.grouped.below state) (c.requires.grouped.below table.states)
    (covered rows table.states later lists c.requires.grouped later state from)
    c.least_in-same.result c.least_in-every.result
    (subst (λ places. IsLeastIn (conflict_at rows later) places c.least_in-same.result) c.list_at.ensures.list c.least_in-same.ensures.least)
    (subst (λ places. IsLeastIn (conflict_at rows later) places c.least_in-every.result) c.list_at-in-Some.ensures.list c.least_in-every.ensures.least) in
    record { least = subst (IsLeastBelow (conflict_at rows later) later) (sym c.lesser.ensures.lesser) both }
