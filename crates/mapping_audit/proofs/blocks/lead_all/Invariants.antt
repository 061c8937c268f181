use Rattle.std.proofs.Common.{◌≡◌, drop}
use Rattle.tsc_net.specs.PlanView.{net_numbers}
use Rattle.mapping_audit.specs.FindingBlocks.{led_drivers}
use Rattle.mapping_audit.proofs.blocks.lead_all.Given as goal

-- leading what is left gives what leading all does
abbrev pub invariant-loop-net : goal.invariant-loop-net
invariant-loop-net l = led_drivers l.owners l.none l.first l.block (net_numbers (drop l.net-index l.reads)) l.blocks ≡ led_drivers l.owners l.none l.first l.block (net_numbers l.reads) l.initial.blocks
