use Rattle.std.proofs.Common.{◌≡◌, drop}
use Rattle.tsc_net.specs.PlanView.{net_numbers}
use Rattle.structure_audit.specs.Lines.{with_all_lines}
use Rattle.structure_audit.proofs.lines.add_all_lines.Given as goal

-- adding at what is left gives what adding at all gives
abbrev pub invariant-loop-net : goal.invariant-loop-net
invariant-loop-net l = with_all_lines l.first l.lines (net_numbers (drop l.net-index l.list)) l.masks ≡ with_all_lines l.first l.lines (net_numbers l.list) l.initial.masks
