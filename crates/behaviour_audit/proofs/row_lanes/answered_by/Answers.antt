use Rattle.std.proofs.Common.{◌+◌}
use Rattle.behaviour_audit.proofs.RowLemmas.{answers_there, barred_nowhere, starts_nowhere}
use Rattle.behaviour_audit.proofs.row_lanes.answered_by.Goals as goal

pub returns-then-started-eq0 : goal.returns-then-started-eq0
returns-then-started-eq0 c = record {
  bits = λ k few. starts_nowhere k c.args.inputs (c.args.base + k) c.started_by-started.result c.args.row.now c.if-started-eq0.true (c.started_by-started.ensures.bits k few);
}

pub returns-else-started-eq0 : goal.returns-else-started-eq0
returns-else-started-eq0 c = record {
  bits = λ k few. answers_there k c.args.inputs (c.args.base + k) c.started_by-started.result c.let_pass.result c.args.row.now c.requires.narrow (c.started_by-started.ensures.bits k few)
      (c.let_pass.ensures.bits k few);
}

pub returns-then-is_barred : goal.returns-then-is_barred
returns-then-is_barred c = record {
  bits = λ k few. barred_nowhere k c.args.inputs c.args.base c.args.row.now c.requires.narrow c.requires.whole few (c.is_barred.ensures.barred c.if-is_barred.true);
}
