use Rattle.std.proofs.Common.{sym, ◌∙◌}
use Rattle.tsc_cover.proofs.Row.{wrong_sign-table_of}
use Rattle.tsc_cover.proofs.covers.Cover.wrong_sign.Goals as goal

pub returns : goal.returns
returns c = record {
  sign =
      let some = rw c.deref.ensures.value at c.some_row_asks.ensures.some in
      let below = rw (← c.self.view_is) at c.requires.below in
      rw (← c.self.view_is)
      (some
      ∙ sym (wrong_sign-table_of c.self.inside.width c.self.inside.on c.self.inside.rows.items c.args.pin below));
}
