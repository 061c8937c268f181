use Rattle.std.proofs.Common.{◌≡◌, ◌+◌, ◌-◌, ◌++◌}
use Rattle.question_text.specs.Lines.{net_lines}
use Rattle.question_text.proofs.text.push_net_lines.Given as goal

abbrev pub invariant-loop-place : goal.invariant-loop-place
invariant-loop-place l =
    l.out ++ net_lines l.kind l.net.names l.numbers (l.first + l.place) (l.count - l.place) ≡ l.initial.out ++ net_lines l.kind l.net.names l.numbers l.first l.count
