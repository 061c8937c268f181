use Rattle.std.proofs.Common.{◌≡◌, drop}
use Rattle.tsc_net.specs.PlanView.{net_numbers}
use Rattle.structure_audit.specs.Lines.{with_roots}
use Rattle.structure_audit.proofs.lines.add_roots.Given as goal

-- adding the lines that are left gives what adding all gives
abbrev pub invariant-loop-place : goal.invariant-loop-place
invariant-loop-place l = with_roots l.first l.place (net_numbers (drop l.place l.word)) l.masks ≡ with_roots l.first 0 (net_numbers l.word) l.initial.masks
