use Rattle.std.proofs.Common.{sym, subst, ap, ◌∙◌, List, length}
use Rattle.tsc_cover.specs.Cover.{CoverTable, truth}
use Rattle.fault_secure.specs.Circuit.{no_node}
use Rattle.gate_net.specs.declared.line.Line.{Line}
use Rattle.gate_net.specs.Gates.{AreLines, line_values}
use Rattle.gate_net.specs.Growth.{Computes}
use Rattle.gate_net.proofs.LinedNets.{lines-sized}
use Rattle.gate_net.proofs.NetLines.{lines_within, node_follows}
use Rattle.gate_net.proofs.net_reading.node_line.Goals as goal

pub cover_line-requires-clause-pins : goal.cover_line-requires-clause-pins
cover_line-requires-clause-pins c =
    subst (AreLines c.args.gates.now) (sym c.as_slice.ensures.whole)
    (lines_within c.args.net.now.circuit c.args.gates.now c.args.lines.now c.requires.follow _ c.in_ok-pins.pins c.in_ok-pins.ensures.lines)

pub returns-clause-follows : goal.returns-clause-follows
returns-clause-follows c =
    let old = c.args.gates.now in
    let new = c.cover_line.new.gates in
    let cover = c.node_cover.result.now in
    let computes = subst (λ (pins : List Line). Computes old new (λ x s. truth cover (line_values old x s pins)) c.in_ok-line.line) c.as_slice.ensures.whole c.in_ok-line.ensures.computes in
    node_follows c.args.net.now.circuit old c.args.lines.now c.requires.follow new c.args.place cover _ c.in_ok-pins.pins c.in_ok-line.line c.requires.within c.node_cover.ensures.cover c.node_reads.ensures.reads c.in_ok-pins.ensures.lines computes

pub cover_line-requires-clause-sized : goal.cover_line-requires-clause-sized
cover_line-requires-clause-sized c =
    let N = c.args.net.now.circuit in
    ap length c.as_slice.ensures.whole ∙ lines-sized c.args.lines.now _ c.in_ok-pins.pins c.in_ok-pins.ensures.lines ∙ ap length c.node_reads.ensures.reads
    ∙ sym (c.requires.closed.widths c.args.place no_node c.requires.within) ∙ ap (λ (cover : CoverTable). cover.width) (sym c.node_cover.ensures.cover)
