use Rattle.std.proofs.Common.{◌≡◌, List, length, map, sym, subst, arith}
use Rattle.std.proofs.lemmas.List.{with_items_is}
use Rattle.grading_laws.specs.Counts.{AreGrades}
use Rattle.fault_grades.specs.Grade.{grade_as}
use Rattle.fault_grades.specs.declared.grade.Grade.{Grade as Kept}
use Rattle.fault_grades.proofs.GradedLemmas.{all_graded}
use Rattle.fault_grades.proofs.grading.grade_faults.Goals as goal

pub returns : goal.returns
returns c =
    let N = c.args.net.now.circuit in
    let P = c.args.plan.now in
    let grades = c.grade_all.new.grades in
    let room : length grades ≡ c.in_ok-items.items.len = omega arith in
    let sized : length grades ≡ length c.args.faults.now = omega (arith, c.in_ok-items.ensures.len, c.len.ensures.count) in
    record {
      grades = subst (λ (list : List Kept). AreGrades N P c.args.steps.now (map grade_as list)) (sym (with_items_is c.in_ok-items.items grades room))
          (all_graded N P c.args.faults.now c.args.steps.now grades c.requires.faults sized c.grade_all.ensures.graded);
    }
