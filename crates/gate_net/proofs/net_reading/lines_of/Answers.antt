use Rattle.tsc_net.specs.declared.ids.NetId.{NetId}
use Rattle.gate_net.proofs.NetLines.{lines_more}
use Rattle.gate_net.proofs.LinedNets.{lined-at}
use Rattle.gate_net.proofs.net_reading.lines_of.Goals as goal

pub loop-net-preserved : goal.loop-net-preserved
loop-net-preserved c =
    let none : NetId = record { number = 0 } in
    lines_more c.args.lines.now c.args.nets.now c.loop-net.list c.push.new.self c.loop-net.net-index none c.line_of.result c.loop-net-test.true c.loop-net.invariant c.line_of.ensures.line c.in_ok-push.ensures.ok

pub line_of-requires : goal.line_of-requires
line_of-requires c =
    let none : NetId = record { number = 0 } in
    record { lined = lined-at c.args.lines.now c.args.nets.now c.loop-net.net-index none c.loop-net-test.true c.requires.lined }
