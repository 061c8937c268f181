use Rattle.std.proofs.Common.{sym, ◌∙◌, ◌≡◌, true, eqb-true}
use Rattle.std.proofs.Math.Bool.{beq}
use Rattle.std.specs.Cmp.{booleans_Decides}
use Rattle.tsc_cover.proofs.Row.{table_of-Decides}
use Rattle.tsc_cover.proofs.covers.Cover.is_table_of.Goals as goal
use Rattle.tsc_cover.proofs.covers.Cover.is_table_of.Goals.{then-self-width, else-self-width}

pub returns-then-self-on : goal.returns-then-self-on
returns-then-self-on c =
    let same = rw c.deref.ensures.value at c.same_rows.ensures.same in
    elim c.if-self-width.branch [
      | then-self-width w ↦
          let same_on : beq c.self.inside.on c.args.on ≡ true = sym w.value-is ∙ c.if-self-on.true in
          record {
            same =
                rw (← c.self.view_is)
                (table_of-Decides c.self.inside.width c.args.width c.self.inside.on c.args.on _ _ w.if-self-width.true
                ((booleans_Decides c.self.inside.on c.args.on).0 same_on) c.self.invariant.each c.requires.fit _ same);
          }
      | else-self-width w ↦ absurd (w.if-self-width.false (eqb-true _ _ (sym w.value-is ∙ c.if-self-on.true)))
    ]
