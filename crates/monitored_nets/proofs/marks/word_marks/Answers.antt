use Rattle.std.proofs.Common.{◌≡◌, false, true, length, replicate, slice_index_or, ◌∙◌, arith, length-set}
use Rattle.std.proofs.lemmas.List.{length-map}
use Rattle.fault_secure.specs.Circuit.{nets}
use Rattle.tsc_net.specs.PlanView.{net_numbers}
use Rattle.tsc_net.specs.declared.ids.NetId.{NetId}
use Rattle.net_cones.specs.Marks.{mark_drivers}
use Rattle.monitored_nets.proofs.MarksLemmas.{mark_next_net, marks_end}
use Rattle.monitored_nets.proofs.marks.word_marks.Goals as goal

pub loop-monitored-preserved : goal.loop-monitored-preserved
loop-monitored-preserved c = (
  length-set c.loop-monitored.marks.items (slice_index_or c.args.word.now c.loop-monitored.monitored-index (record { number = 0 })).number true ∙ c.loop-monitored.invariant.0,
  mark_next_net c.loop-monitored.monitored-index c.args.word.now (record { number = 0 }) c.loop-monitored.marks.items
      (mark_drivers 0 (net_numbers c.args.word.now) (replicate (nets c.args.net.now.circuit) false)) (omega arith) c.loop-monitored.invariant.1,
)

pub returns : goal.returns
returns c =
    let count : length (net_numbers c.args.word.now) ≡ length c.args.word.now = length-map c.args.word.now (λ (n : NetId). n.number) in
    record { word = marks_end (nets c.args.net.now.circuit) c.loop-monitored.monitored-index (net_numbers c.args.word.now) c.loop-monitored.marks.items (omega arith) c.loop-monitored.invariant.1 }
