use Rattle.std.proofs.Common.{◌<◌, List, take, refl, sym, subst, subst₂, ◌∙◌, All, arith}
use Rattle.fault_secure.specs.Circuit.{Circuit, nets}
use Rattle.fault_secure.specs.StuckAt.{StuckAt, fault_cell}
use Rattle.fault_grades.specs.Batch.{HasRoom, AreGraded}
use Rattle.fault_grades.proofs.CellLemmas.{listed_below}
use Rattle.fault_grades.proofs.GradedLemmas.{graded_first, graded_last}
use Rattle.fault_grades.proofs.grading.grade_all.Goals as goal

pub loop-done-init : goal.loop-done-init
loop-done-init c = record {
  circuit = c.requires.net;
  room = c.requires.room;
  sized = refl;
  graded = graded_first c.args.net.now.circuit c.args.plan.now c.args.faults.now c.args.grades.now c.requires.unseen;
}

pub grade_round-requires-clause-faults : goal.grade_round-requires-clause-faults
grade_round-requires-clause-faults c =
    subst₂ (λ (faults : List StuckAt) (C : Circuit). All (λ fault. fault_cell fault < nets C) faults) (sym c.requires.faults) (sym c.loop-done.invariant.circuit) (listed_below c.args.net.now.circuit)

pub loop-done-preserved : goal.loop-done-preserved
loop-done-preserved c =
    let P = c.args.plan.now in
    let faults = c.args.faults.now in
    let steps = c.args.steps.now in
    let before = c.loop-done.invariant in
    record {
      circuit = c.grade_round.ensures.circuit ∙ before.circuit;
      room = subst (λ (C : Circuit). HasRoom C.inputs c.grade_round.new.room) before.circuit c.grade_round.ensures.room;
      sized = omega arith;
      graded = subst (λ (C : Circuit). AreGraded C P faults (take c.next_limit-limit.result steps) c.grade_round.new.grades) before.circuit
          (c.grade_round.ensures.graded c.loop-done.done (omega arith) (subst (λ (C : Circuit). AreGraded C P faults (take c.loop-done.done steps) c.loop-done.grades) (sym before.circuit) before.graded));
    }

pub returns : goal.returns
returns c = record {
  graded = graded_last c.args.net.now.circuit c.args.plan.now c.args.faults.now c.args.steps.now c.loop-done.done c.loop-done.grades (omega arith) c.loop-done.invariant.graded;
}
