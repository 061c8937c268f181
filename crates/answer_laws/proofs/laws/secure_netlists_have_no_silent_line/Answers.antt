use Rattle.answer_laws.proofs.GradedLaws.{secure_tells_no_silent}
use Rattle.answer_laws.proofs.laws.secure_netlists_have_no_silent_line.Goals as goal

pub returns : goal.returns
returns c =
    let laws = c.secure_has_no_silent_fault.ensures in
    record { silent = secure_tells_no_silent c.grades_are_counted.ensures.silent laws.faults laws.cells laws.alarms laws.registers laws.register_alarms }
