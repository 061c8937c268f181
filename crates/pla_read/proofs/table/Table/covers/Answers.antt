-- The outputs at which rows are chosen.
use Rattle.std.proofs.Common.{List, nat_lt, length, map, sym, ap, ◌∙◌, subst}
use Rattle.std.specs.Result.{IfOk}
use Rattle.tsc_net.proofs.ResultLemmas.{ok_so}
use Rattle.pla_read.specs.Covers.{marked_at, rows_cover}
use Rattle.pla_read.specs.Spread.{AreCovers}
use Rattle.pla_read.specs.Shaped.{row_as, table_as}
use Rattle.pla_read.specs.declared.rows.PlaRow.{PlaRow}
use Rattle.pla_read.specs.declared.rows.Mark.TheVariants.{One, Free}
use Rattle.pla_read.specs.declared.table.Chosen.{Chosen}
use Rattle.pla_read.proofs.CoverLists.{spread_beside, spread_whole}
use Rattle.pla_read.proofs.table.Table.covers.Goals as goal

pub returns-in-Ones : goal.returns-in-Ones
returns-in-Ones c = record {
  covers =
      let table = c.args.self.now in
      subst (λ (chosen : Chosen). IfOk c.marked.result (AreCovers 0 table.outputs (rows_cover chosen (table_as table)))) (sym c.in-Ones.is)
      (ok_so (λ covers. spread_whole One table.inputs table.outputs (table_as table).rows covers c.requires.fit.few_outputs)
      c.marked.result c.marked.ensures.covers);
}

pub returns-in-Free : goal.returns-in-Free
returns-in-Free c = record {
  covers =
      let table = c.args.self.now in
      subst (λ (chosen : Chosen). IfOk c.marked-in-Free.result (AreCovers 0 table.outputs (rows_cover chosen (table_as table)))) (sym c.in-Free.is)
      (ok_so (λ covers. spread_whole Free table.inputs table.outputs (table_as table).rows covers c.requires.fit.few_outputs)
      c.marked-in-Free.result c.marked-in-Free.ensures.covers);
}

pub returns-in-OnesBesideFree : goal.returns-in-OnesBesideFree
returns-in-OnesBesideFree c = record {
  covers =
      let table = c.args.self.now in
      subst (λ (chosen : Chosen). IfOk c.marked-in-OnesBesideFree.result (AreCovers 0 table.outputs (rows_cover chosen (table_as table)))) (sym c.in-OnesBesideFree.is)
      (ok_so (λ covers. spread_beside One Free table.inputs table.outputs c.some_marks-free.result (table_as table).rows covers
      (λ place below. c.some_marks-free.ensures.some table.inputs table.outputs place below
      ∙ ap (λ (rows : List PlaRow). nat_lt 0 (length (marked_at Free (map (row_as table.inputs table.outputs) rows) place))) c.as_slice.ensures.whole))
      c.marked-in-OnesBesideFree.result c.marked-in-OnesBesideFree.ensures.covers);
}
