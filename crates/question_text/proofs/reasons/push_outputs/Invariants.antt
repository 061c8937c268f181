use Rattle.std.proofs.Common.{◌≡◌, ◌+◌, drop}
use Rattle.tsc_net.specs.PlanView.{net_numbers}
use Rattle.question_text.specs.Gates.{after_clauses}
use Rattle.question_text.specs.Reasons.{outputs_gates}
use Rattle.question_text.proofs.reasons.push_outputs.Given as goal

abbrev pub invariant-loop-place : goal.invariant-loop-place
invariant-loop-place l =
    record { clauses : after_clauses l.out (outputs_gates l.source l.right (net_numbers l.shown) l.place l.at (net_numbers (drop l.place l.nets))) ≡ after_clauses l.initial.out (outputs_gates l.source l.right (net_numbers l.shown) 0 l.first (net_numbers l.nets)); at : l.at ≡ l.first + l.place }
