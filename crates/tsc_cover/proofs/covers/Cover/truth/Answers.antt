use Rattle.std.proofs.Common.{sym, ◌∙◌, ap}
use Rattle.std.proofs.Math.Bool.{beq}
use Rattle.tsc_cover.proofs.Row.{truth-table_of}
use Rattle.tsc_cover.proofs.covers.Cover.truth.Goals as goal

pub returns : goal.returns
returns c = record {
  truth =
      let some = rw c.deref.ensures.value at c.some_row_matches.ensures.some in
      rw (← c.self.view_is)
      (ap (λ found. beq found c.self.inside.on) some
      ∙ sym (truth-table_of c.self.inside.width c.self.inside.on c.self.inside.rows.items c.args.read c.self.invariant.each));
}
