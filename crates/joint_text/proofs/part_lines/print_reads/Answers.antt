use Rattle.std.proofs.Common.{◌<◌, length, refl}
use Rattle.std.proofs.lemmas.List.{length-map}
use Rattle.fault_secure.specs.Circuit.{nets}
use Rattle.tsc_net.specs.PlanView.{net_numbers}
use Rattle.blif_write.proofs.NetFacts.{number-known}
use Rattle.joint_text.specs.JointNamed.{names_under}
use Rattle.joint_text.proofs.PartSteps.{read_step}
use Rattle.buffered_sink.proofs.PrintLemmas.{begin, cut, exits, more}
use Rattle.joint_text.proofs.part_lines.print_reads.Goals as goal

pub loop-id-init : goal.loop-id-init
loop-id-init g c = begin _ _

pub returns-in_err-print_read : goal.returns-in_err-print_read
returns-in_err-print_read g c = record {
  printed = exits _ c.from_residual.result c.from_residual.ensures.1
      (cut _ c.loop-id.invariant c.in_err-print_read.ensures.printed
      (read_step (names_under c.args.label.now c.args.net.now) c.args.list.now c.loop-id.id-index _ c.loop-id-test.true));
}

pub loop-id-preserved : goal.loop-id-preserved
loop-id-preserved g c =
    more _ c.loop-id.invariant c.in_ok-print_read.ensures.printed
    (read_step (names_under c.args.label.now c.args.net.now) c.args.list.now c.loop-id.id-index _ c.loop-id-test.true)

pub print_read-requires : goal.print_read-requires
print_read-requires g c = record {
  net =
      let there : c.loop-id.id-index < length (net_numbers c.args.list.now) = rw length-map c.loop-id-test.true in
      number-known (nets c.args.net.now.circuit) c.args.list.now (net_numbers c.args.list.now) c.loop-id.id-index _ refl there c.requires.known;
}
