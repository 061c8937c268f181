use Rattle.std.proofs.Common.{refl, take}
use Rattle.fault_grades.proofs.GradedLemmas.{graded_begin}
use Rattle.fault_grades.proofs.round.grade_round.Goals as goal

pub loop-from-init : goal.loop-from-init
loop-from-init c =
    let N = c.args.bench.now.circuit in
    record {
      circuit = refl;
      room = c.requires.room;
      sized = refl;
      graded = λ before low is. graded_begin N c.args.plan.now c.args.faults.now (take before c.args.steps.now) (take c.args.limit c.args.steps.now) c.args.grades.now is;
    }
