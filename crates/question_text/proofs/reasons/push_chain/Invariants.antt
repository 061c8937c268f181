use Rattle.std.proofs.Common.{◌≡◌, ◌+◌, drop}
use Rattle.tsc_net.specs.PlanView.{net_numbers}
use Rattle.question_text.specs.Gates.{after_clauses}
use Rattle.question_text.specs.Reasons.{chain_gates, chain_end}
use Rattle.question_text.proofs.reasons.push_chain.Given as goal

abbrev pub invariant-loop-net : goal.invariant-loop-net
invariant-loop-net l =
    record { clauses : after_clauses l.out (chain_gates l.right l.at l.odd (net_numbers (drop l.net-index l.nets))) ≡ after_clauses l.initial.out (chain_gates l.right l.first l.initial.odd (net_numbers l.nets)); odd : chain_end l.at l.odd (net_numbers (drop l.net-index l.nets)) ≡ chain_end l.first l.initial.odd (net_numbers l.nets); at : l.at ≡ l.first + l.net-index }
