use Rattle.std.proofs.Common.{◌≡◌, ℕ, false, ap, ◌∙◌, length, arith}
use Rattle.gate_net.specs.Gates.{gate_at}
use Rattle.gate_net.specs.NodesOfLines.{has_node}
use Rattle.gate_net.proofs.NamedLines.{named_none, named_more}
use Rattle.gate_net.proofs.Owned.{sources_none, sources_more}
use Rattle.gate_net.proofs.owners.source_names.Goals as goal

pub loop-place-init : goal.loop-place-init
loop-place-init c = record { sized = ap length c.new-names.ensures.items; are = sources_none c.args.parts.now c.args.gates.now c.new-names.result.items c.new-names.ensures.items; sources = named_none (λ (n : ℕ). has_node (gate_at c.args.gates.now.gates n) ≡ false) c.new-names.result.items }

pub loop-place-preserved : goal.loop-place-preserved
loop-place-preserved c = record {
  sized = omega (arith, c.in_ok-push.ensures.len, c.loop-place.invariant.sized);
  are = sources_more c.args.parts.now c.args.gates.now c.loop-place.names.items c.push.new.self.items c.source_name.result c.loop-place.place c.gate-gate.result c.loop-place.invariant.sized
      c.gate-gate.ensures.gate c.in_ok-push.ensures.items c.loop-place.invariant.are c.source_name.ensures.without c.source_name.ensures.within c.source_name.ensures.text;
  sources = named_more (λ (n : ℕ). has_node (gate_at c.args.gates.now.gates n) ≡ false) c.loop-place.place c.loop-place.names.items c.push.new.self.items c.source_name.result c.loop-place.invariant.sized
      c.in_ok-push.ensures.items (λ none. c.source_name.ensures.some (ap has_node c.gate-gate.ensures.gate ∙ none)) c.loop-place.invariant.sources;
}

pub returns-clause-sources : goal.returns-clause-sources
returns-clause-sources c = λ line within none. c.loop-place.invariant.sources line (omega (arith, within, c.loop-place-test.false, c.len-place-end.ensures.count)) none
