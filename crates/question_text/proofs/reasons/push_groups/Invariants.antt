use Rattle.std.proofs.Common.{◌≡◌, ◌++◌, drop}
use Rattle.tsc_net.specs.PlanView.{net_numbers}
use Rattle.question_text.specs.Gates.{after_clauses}
use Rattle.question_text.specs.Reasons.{groups_gates, groups_even, groups_end}
use Rattle.question_text.proofs.reasons.push_groups.Given as goal

abbrev pub invariant-loop-group : goal.invariant-loop-group
invariant-loop-group l =
    record { clauses : after_clauses l.out (groups_gates l.right (net_numbers l.shown) l.at (drop l.group-index l.groups)) ≡ after_clauses l.initial.out (groups_gates l.right (net_numbers l.shown) l.first l.groups); even : l.wrong ++ groups_even l.right (net_numbers l.shown) l.at (drop l.group-index l.groups) ≡ l.initial.wrong ++ groups_even l.right (net_numbers l.shown) l.first l.groups; end : groups_end l.at (drop l.group-index l.groups) ≡ groups_end l.first l.groups }
