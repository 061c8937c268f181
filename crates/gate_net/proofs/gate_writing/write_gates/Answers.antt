use Rattle.std.proofs.Common.{ℕ, IsTrue, IsSome, refl, subst, sym, ◌∙◌, arith, ap, length}
use Rattle.fault_secure.specs.Circuit.{bit}
use Rattle.gate_net.specs.declared.line.Line.{Line}
use Rattle.gate_net.specs.NodesOfLines.{has_node}
use Rattle.gate_net.proofs.NamedLines.{named_none, named_more, only_none, only_more, operands_named}
use Rattle.gate_net.specs.Written.{NamesRealise}
use Rattle.gate_net.proofs.Written.{extends_not, extends_twice, below_kept, below_nil, realise_nil, name_below, line_written, line_below}
use Rattle.gate_net.proofs.Given.{reads_none}
use Rattle.gate_net.proofs.LineSteps.{written_none, line_more}
use Rattle.gate_net.proofs.Owned.{fits_at}
use Rattle.gate_net.proofs.gate_writing.write_gates.Goals as goal

pub loop-place-init : goal.loop-place-init
loop-place-init c = record {
  extends = extends_not c.args.parts.now;
  sized = ap length c.new-names.ensures.items;
  below = below_nil (length c.args.parts.now.names) c.new-names.result.items c.new-names.ensures.items;
  realise = realise_nil c.args.parts.now (length c.args.parts.now.named.nodes) c.args.gates.now c.new-names.result.items c.new-names.ensures.items;
  before = reads_none c.args.parts.now.named;
  written = written_none c.args.parts.now c.args.gates.now c.args.owners.now c.new-names.result.items c.new-names.ensures.items;
  named = named_none (λ (n : ℕ). IsTrue (bit c.args.marks.now n)) c.new-names.result.items;
  marked = only_none (λ (n : ℕ). IsTrue (bit c.args.marks.now n)) c.new-names.result.items c.new-names.ensures.items;
  room = omega arith;
  nodes = omega arith;
}

pub write_line-requires-clause-owner : goal.write_line-requires-clause-owner
write_line-requires-clause-owner c =
    name_below (length c.loop-place.parts.names) c.args.owners.now c.loop-place.place (below_kept c.args.parts.now c.loop-place.parts c.args.owners.now c.loop-place.invariant.extends c.requires.below)

pub write_line-requires-clause-fits : goal.write_line-requires-clause-fits
write_line-requires-clause-fits c =
    fits_at c.args.parts.now c.loop-place.parts c.args.gates.now c.args.owners.now c.loop-place.place c.gate-gate.result c.loop-place.invariant.extends c.requires.below c.requires.fit c.gate-gate.ensures.gate

pub returns-in_err-name-clause-extends : goal.returns-in_err-name-clause-extends
returns-in_err-name-clause-extends c = extends_twice c.args.parts.now c.loop-place.parts c.write_line.new.parts c.loop-place.invariant.extends c.in_err-name.ensures.extends

pub returns-in_err-push-clause-extends : goal.returns-in_err-push-clause-extends
returns-in_err-push-clause-extends c = extends_twice c.args.parts.now c.loop-place.parts c.write_line.new.parts c.loop-place.invariant.extends c.in_ok-name.ensures.extends

pub loop-place-preserved : goal.loop-place-preserved
loop-place-preserved c =
    let start = c.args.parts.now in
    let here = c.loop-place.parts in
    let new = c.write_line.new.parts in
    let loop = c.loop-place.invariant in
    let step = c.in_ok-name.ensures in
    record {
      extends = extends_twice start here new loop.extends step.extends;
      sized = omega (arith, c.in_ok-push.ensures.len, loop.sized);
      below = line_below here new c.loop-place.names.items c.push.new.self.items c.in_ok-name.name step.extends c.in_ok-push.ensures.items loop.below step.name;
      realise = line_written start here new c.args.gates.now c.loop-place.names.items c.deref.result.now c.push.new.self.items c.loop-place.place c.gate-gate.result c.in_ok-name.name
          loop.extends step.extends c.gate-gate.ensures.sound (omega (arith, c.loop-place-test.true, c.len-place-end.ensures.count)) loop.sized c.deref.ensures.value c.gate-gate.ensures.gate c.in_ok-push.ensures.items loop.below loop.realise
          step.realises;
      before = step.before c.args.gates.now (length start.named.nodes) (subst (NamesRealise here (length start.named.nodes) c.args.gates.now) (sym c.deref.ensures.value) loop.realise) loop.before;
      written = line_more start here new c.args.gates.now c.args.owners.now c.loop-place.names.items c.loop-place.place loop.extends step.extends c.requires.below loop.below c.requires.differ loop.written loop.sized
          (omega (arith, c.loop-place-test.true, c.len-place-end.ensures.count)) c.push.new.self.items c.deref.result.now c.gate-gate.result c.in_ok-name.name c.gate-gate.ensures.gate c.deref.ensures.value
          c.in_ok-push.ensures.items step.line;
      named = named_more (λ (n : ℕ). IsTrue (bit c.args.marks.now n)) c.loop-place.place c.loop-place.names.items c.push.new.self.items c.in_ok-name.name loop.sized c.in_ok-push.ensures.items step.named.0 loop.named;
      marked = only_more (λ (n : ℕ). IsTrue (bit c.args.marks.now n)) c.loop-place.place c.loop-place.names.items c.push.new.self.items c.in_ok-name.name loop.sized c.in_ok-push.ensures.items step.named.1 loop.marked;
      room = omega (arith, step.room, loop.room);
      nodes = omega (arith, step.nodes, loop.nodes);
    }

pub write_line-requires-clause-named : goal.write_line-requires-clause-named
write_line-requires-clause-named c = λ on.
    operands_named c.args.gates.now c.args.marks.now c.loop-place.place c.gate-gate.result c.loop-place.names.items c.deref.result.now c.gate-gate.ensures.sound
    (omega (arith, c.loop-place-test.true, c.len-place-end.ensures.count)) c.requires.closed c.gate-gate.ensures.gate c.deref.ensures.value c.loop-place.invariant.named on

pub write_line-requires-clause-owned : goal.write_line-requires-clause-owned
write_line-requires-clause-owned c = λ none.
    let line : Line = record { number = c.loop-place.place } in
    let own = c.requires.sources line (omega (arith, c.loop-place-test.true, c.len-place-end.ensures.count)) (ap has_node (sym c.gate-gate.ensures.gate) ∙ none) in
    subst IsSome (sym own.1) refl

pub returns-clause-named : goal.returns-clause-named
returns-clause-named c = λ line within on. c.loop-place.invariant.named line (omega (arith, within, c.loop-place-test.false, c.len-place-end.ensures.count)) on
