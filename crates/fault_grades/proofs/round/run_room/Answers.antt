use Rattle.std.proofs.Common.{◌≡◌, ◌+◌, ◌<◌, ◌≤◌, List, length, take, sym, ap, subst, ◌∙◌, arith}
use Rattle.std.proofs.lemmas.List.{with_items_is}
use Rattle.tsc_net.specs.declared.fault.Fault.{Fault}
use Rattle.fault_lanes.specs.Batch.{batch_fault}
use Rattle.fault_lanes.specs.Bench.{fault_of}
use Rattle.fault_grades.specs.Grade.{grade_at, IsGradeOf}
use Rattle.fault_grades.specs.Batch.{kept_fault}
use Rattle.fault_grades.specs.declared.grade.Grade.{Grade as Kept}
use Rattle.fault_grades.proofs.BatchLemmas.{lane_is}
use Rattle.fault_grades.proofs.GradedLemmas.{same_grade}
use Rattle.fault_grades.proofs.round.run_room.Goals as goal

pub returns-clause-grades : goal.returns-clause-grades
returns-clause-grades c = λ at below.
    (let N = c.args.bench.now.circuit in
    let P = c.args.plan.now in
    let faults = c.args.room.now.faults.items in
    let count = c.args.count in
    let xs = take c.args.limit c.args.steps.now in
    let marks = c.run_batch.new.marks in
    let room : count ≤ length faults = omega arith in
    let inside : at + 1 < 1024 = omega arith in
    let sized : length marks ≡ c.fill.new.self.len = omega arith in
    let fault : fault_of c.load.new.self (at + 1) ≡ kept_fault faults at =
    c.load.ensures.faults (at + 1) inside ∙ ap (λ (fs : List Fault). batch_fault (take count fs) (at + 1)) c.deref.ensures.value ∙ lane_is faults count at room below in
    subst (λ (list : List Kept). IsGradeOf N P (kept_fault faults at) xs (grade_at list (at + 1))) (sym (with_items_is c.fill.new.self marks sized))
    (same_grade N c.load.new.self.circuit P (kept_fault faults at) (fault_of c.load.new.self (at + 1)) xs (grade_at marks (at + 1)) c.load.ensures.circuit fault
    (c.run_batch.ensures.grades (at + 1) (omega arith) (omega arith))))
