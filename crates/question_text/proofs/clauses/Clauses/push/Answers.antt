use Rattle.std.proofs.Common.{sym, ◌∙◌, append-nil}
use Rattle.question_text.proofs.Once.{kept_none}
use Rattle.question_text.proofs.clauses.Clauses.push.Goals as goal

pub returns-else-not-clash : goal.returns-else-not-clash
returns-else-not-clash c = record {
  ok = rw (kept_none c.args.clause.now (sym c.clash.ensures.clash ∙ c.if-not-clash.false)) (sym (append-nil c.args.self.now));
}
