use Rattle.std.proofs.Common.{◌≡◌, ◌-◌, ◌++◌, drop}
use Rattle.tsc_cover.specs.Cover.{literals}
use Rattle.tsc_net.specs.PlanView.{net_numbers}
use Rattle.exact_question.specs.Rows.{asked}
use Rattle.question_text.proofs.rows.asked.Given as goal

abbrev pub invariant-loop-pin : goal.invariant-loop-pin
invariant-loop-pin l =
    l.made ++ asked (literals (l.width - l.pin) l.row.care l.row.value) (net_numbers (drop l.pin l.reads)) ≡ asked (literals l.width l.row.care l.row.value) (net_numbers l.reads)
