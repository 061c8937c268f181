use Rattle.std.proofs.Common.{◌≡◌, drop}
use Rattle.tsc_net.specs.PlanView.{net_numbers}
use Rattle.mapping_audit.specs.FindingBlocks.{other_drivers}
use Rattle.mapping_audit.proofs.shared.least_other.Given as goal

-- the first of what is left, and of what was found, is the first of all
abbrev pub invariant-loop-net : goal.invariant-loop-net
invariant-loop-net l = other_drivers l.owners l.none l.first l.blocks l.block (net_numbers (drop l.net-index l.reads)) l.found ≡ other_drivers l.owners l.none l.first l.blocks l.block (net_numbers l.reads) l.least
