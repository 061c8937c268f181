use Rattle.std.proofs.Common.{◌≡◌, ◌+◌, ◌∷◌, drop, length}
use Rattle.fault_secure.specs.Circuit.{nets}
use Rattle.twin_synth.specs.Numbered.{more_nodes}
use Rattle.twin_synth.specs.Checks.{parity_over}
use Rattle.twin_synth.proofs.checks.push_parity.Given as goal

-- the chain so far, continued over the nets that are left, is the whole
abbrev pub invariant-loop-index : goal.invariant-loop-index
invariant-loop-index l = record {
  left : more_nodes l.numbered (parity_over l.numbered (l.made ∷ drop l.index l.list)) ≡ more_nodes l.initial.numbered (parity_over l.initial.numbered l.list);
  counted : nets l.numbered.circuit + 1 ≡ nets l.initial.numbered.circuit + l.index;
}
