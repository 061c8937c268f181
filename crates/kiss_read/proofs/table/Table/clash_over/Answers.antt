-- One row after the other.
use Rattle.std.proofs.Common.{◌≡◌, ◌<◌, length, sym, ap, ◌∙◌, arith}
use Rattle.std.proofs.lemmas.List.{length-map}
use Rattle.fault_secure.specs.Logic.{Transition}
use Rattle.tsc_net.specs.MachineView.{transition_of}
use Rattle.kiss_read.specs.Clashes.{lists_of, rows_in, slot_of, the_row}
use Rattle.kiss_read.proofs.ClashSearch.{clash_here, clash_later, one_more, slot_within}
use Rattle.kiss_read.proofs.RowConflicts.{row_of_table, row_read}
use Rattle.kiss_read.proofs.table.Table.clash_over.Goals as goal

pub returns-in-Some-clause-clash : goal.returns-in-Some-clause-clash
returns-in-Some-clause-clash c =
    let table = c.args.self.now in
    let below : c.loop-later.later < length (rows_in table) =
    omega (arith, length-map table.rows (transition_of table.heading.inputs table.heading.outputs)) in
    sym (clash_here (rows_in table) c.loop-later.later below c.in-Some.earlier c.in-Some.ensures.least c.loop-later.invariant.clash)

pub loop-later-preserved : goal.loop-later-preserved
loop-later-preserved c =
    let table = c.args.self.now in
    let rows = rows_in table in
    let later = c.loop-later.later in
    let lists = lists_of c.loop-later.lists in
    let in_rows : later < length table.rows = omega arith in
    let below : later < length rows = omega (arith, length-map table.rows (transition_of table.heading.inputs table.heading.outputs)) in
    let fit = row_of_table table later _ in_rows c.get.ensures.item c.requires.fit in
    let slot_is : c.slot_of-slot.result ≡ slot_of table.states (the_row rows later).from =
    c.slot_of-slot.ensures.slot ∙ sym (ap (λ (t : Transition). slot_of table.states t.from) (row_read table later _ in_rows c.get.ensures.item)) in
    let inside : c.slot_of-slot.result < length lists =
    slot_within table.states (length lists) c.slot_of-slot.result c.get.result.now.from c.loop-later.invariant.grouped.sized c.slot_of-slot.ensures.slot fit.from in
    record {
      grouped = one_more rows table.states later lists c.loop-later.invariant.grouped c.slot_of-slot.result (lists_of c.keep.new.lists) inside slot_is c.in_ok-keep.ensures.kept;
      clash = clash_later rows later below c.in-None.ensures.least c.loop-later.invariant.clash;
    }
