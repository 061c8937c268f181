use Rattle.std.proofs.Common.{◌≡◌, [], map, drop}
use Rattle.tsc_cover.specs.Row.{literals_of_each}
use Rattle.tsc_net.specs.PlanView.{net_numbers}
use Rattle.exact_question.specs.Rows.{asked}
use Rattle.question_text.specs.Gates.{after_clauses}
use Rattle.question_text.proofs.rows.rows_of.Given as goal

abbrev pub invariant-loop-row : goal.invariant-loop-row
invariant-loop-row l =
    after_clauses l.made (map (λ row. asked row (net_numbers l.reads)) (literals_of_each l.width (drop l.row-index l.row-items))) ≡ after_clauses [] (map (λ row. asked row (net_numbers l.reads)) (literals_of_each l.width l.row-items))
