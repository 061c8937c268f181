use Rattle.std.proofs.Common.{drop, arith, ◌+◌, sym, rules, subst}
use Rattle.blif_read.specs.Rows.{rows_of}
use Rattle.blif_read.proofs.NextLine.{next_line}
use Rattle.blif_read.proofs.CoverBuilt.{HasRowsBut, row_passed, row_added, row_closed}
use Rattle.blif_read.proofs.cover_rows.cover_at.Goals as goal
use Rattle.blif_read.proofs.cover_rows.cover_at.Goals.{in-PlanLine, in-Row+in_ok-push_row-in-Row}

pub returns-in_default : goal.returns-in_default
returns-in_default c =
    let step = next_line c.args.section.now c.loop-place.place c.line-line.result (omega arith) c.line-line.ensures.line in
    record {
      cover = row_closed c.args.width c.loop-place.cover (rows_of (drop c.args.from c.args.section.now)) _ _ _ step c.loop-place.invariant
          c.kind_of.result c.kind_of.ensures.kind (search rules) (search rules);
    }

pub loop-place-preserved : goal.loop-place-preserved
loop-place-preserved c =
    let step = next_line c.args.section.now c.loop-place.place c.line-line.result (omega arith) c.line-line.ensures.line in
    let all = rows_of (drop c.args.from c.args.section.now) in
    elim c.match-kind_of.branch [
      | in-PlanLine w ↦
          subst (λ cover. HasRowsBut c.args.width cover all (rows_of (drop (c.loop-place.place + 1) c.args.section.now))) (sym w.cover-is)
          (row_passed c.args.width c.loop-place.cover all _ _ _ step c.loop-place.invariant w.in-PlanLine.ensures.kind)
      | in-Row+in_ok-push_row-in-Row w ↦
          row_added c.args.width c.loop-place.cover all _ _ _ step c.loop-place.invariant w.row_at.result.care w.row_at.result.value
          w.in-Row.ensures.kind w.row_at.ensures.literals c.match-kind_of.cover (search rules)
    ]
