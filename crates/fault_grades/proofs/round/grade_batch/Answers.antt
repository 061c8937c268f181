use Rattle.std.proofs.Common.{◌≡◌, ℕ, ◌+◌, ◌<◌, List, length, take, sym, ap, subst, ◌∙◌, arith}
use Rattle.std.proofs.lemmas.List.{with_items_is}
use Rattle.tsc_net.specs.declared.fault.Fault.{Fault}
use Rattle.fault_grades.specs.Grade.{grade_at, IsGradeOf}
use Rattle.fault_grades.specs.Batch.{kept_fault}
use Rattle.fault_grades.specs.declared.grade.Grade.{Grade as Kept}
use Rattle.fault_grades.proofs.BatchLemmas.{written_as}
use Rattle.fault_grades.proofs.GradedLemmas.{batch_graded}
use Rattle.fault_grades.proofs.round.grade_batch.Goals as goal

pub returns-clause-graded : goal.returns-clause-graded
returns-clause-graded c = λ before low is.
    (let N = c.args.bench.now.circuit in
    let P = c.args.plan.now in
    let room = c.args.room.now in
    let xs = c.args.steps.now in
    let batch = c.next_batch-batch.ensures.batch in
    let count = c.next_batch-batch.result.count in
    let places = c.next_batch-batch.new.places in
    let listed = c.next_batch-batch.new.into in
    let marks = c.deref-2.result.now in
    let old = c.args.grades.now in
    let new = c.write_grades.new.grades in
    let places_sized : length places ≡ room.places.len = omega arith in
    let listed_sized : length listed ≡ room.faults.len = omega arith in
    let same_places : c.deref.result.now ≡ places = c.deref.ensures.value ∙ c.run_room.ensures.places ∙ with_items_is room.places places places_sized in
    let graded : (at : ℕ) → at < count → IsGradeOf N P (kept_fault listed at) (take c.args.limit xs) (grade_at marks (at + 1)) =
    λ at below.
    subst (λ (list : List Kept). IsGradeOf N P (kept_fault listed at) (take c.args.limit xs) (grade_at list (at + 1))) (sym c.deref-2.ensures.value)
    (subst (λ (list : List Fault). IsGradeOf N P (kept_fault list at) (take c.args.limit xs) (grade_at c.run_room.new.room.marks.items (at + 1))) (with_items_is room.faults listed listed_sized) (c.run_room.ensures.grades at below)) in
    batch_graded N P c.args.faults.now xs before c.args.limit c.args.from count c.next_batch-batch.result.next places listed marks old new
    c.requires.acyclic c.grades_are_worked_out.ensures.same c.decided_faults_stay.ensures.stays low c.next_batch-batch.ensures.on c.next_batch-batch.ensures.end c.requires.sized batch
    (written_as (take count c.deref.result.now) places marks count old new (ap (take count) same_places) batch.few batch.places_sized c.write_grades.ensures.written) graded is)
