use Rattle.std.proofs.Common.{refl}
use Rattle.fault_grades.proofs.MarkLemmas.{marked_none, marked_all}
use Rattle.fault_grades.proofs.marks.mark_seen.Goals as goal

pub returns-in-None : goal.returns-in-None
returns-in-None c = record { marks = marked_none c.args.seen c.args.agree c.args.marks.now c.args.step c.in-None.ensures.first }

pub returns-in-Some : goal.returns-in-Some
returns-in-Some c = record {
  marks = marked_all c.args.seen c.args.agree c.args.seen c.args.agree c.args.marks.now c.mark_from.new.marks c.args.step c.in-Some.first refl refl c.in-Some.ensures.first c.mark_from.ensures.marks c.mark_from.ensures.before;
}
