-- One line after the other.
use Rattle.std.proofs.Common.{[], ◌∷◌, ◌++◌, take, subst, sym, ap, ◌∙◌, arith}
use Rattle.std.proofs.lemmas.List.{take_more}
use Rattle.tsc_text.specs.TextLine.{no_line}
use Rattle.kiss_read.specs.Shaped.{HasRows}
use Rattle.kiss_read.proofs.rows.read_rows.Goals as goal

pub loop-place-preserved : goal.loop-place-preserved
loop-place-preserved c =
    subst (λ list. HasRows c.args.heading c.args.states.now list c.add_row.new.rows)
    (ap (λ line. take c.loop-place.place c.args.section.now ++ line ∷ []) c.line-line.ensures.line
    ∙ sym (take_more c.args.section.now c.loop-place.place no_line (omega arith)))
    (c.in_ok-add_row.ensures.rows _ c.loop-place.invariant)
