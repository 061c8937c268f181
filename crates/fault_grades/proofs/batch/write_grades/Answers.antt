use Rattle.fault_grades.proofs.BatchLemmas.{written_first}
use Rattle.fault_grades.proofs.batch.write_grades.Goals as goal

pub loop-index-init : goal.loop-index-init
loop-index-init c = written_first c.args.places.now c.args.marks.now c.args.grades.now
