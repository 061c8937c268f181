-- Parts to which the gates of a word were written.
use Rattle.std.specs.Prelude.{◌+◌, ◌++◌, ◌≤◌, List, length, All, Contains}
use Rattle.tsc_net.specs.Named.{latch_outs}
use Rattle.tsc_net.specs.Names.{IsNumbering}
use Rattle.tsc_net.specs.Parts.{PartsOf}
use Rattle.tsc_net.specs.declared.ids.Name.{Name}
use Rattle.gate_net.specs.declared.line.Line.{Line}
use Rattle.gate_net.specs.declared.root.Root.{Root}
use Rattle.gate_net.specs.Gates.{GateNetwork}
use Rattle.gate_net.specs.Written.{Extends, RootsRealise, ReadsBefore}
use Rattle.gate_net.specs.Added.{added_nodes, added_outs, root_texts, DrivesRootOrFresh, AreFreshOuts, InnerDiffer, HasGateCover, DrivesListed, DrivesNeeded}
use Rattle.unate_synth.specs.declared.roots.SourceNames.{SourceNames}
use Rattle.unate_synth.specs.Roots.{AreRoots, AreRooted}

-- gates came whose roots are those of the word, with its lines: each node drives a root's name or a fresh one, is needed by some
-- root and reads what stands before it, and no name is driven twice. At most one node for each gate came, and one for each line
pub record AddsWord (sources : SourceNames) (p q : PartsOf) (G : GateNetwork) (lines : List Line) (word : List Name) : Type 0 where
  pub roots : List Root
  pub are : AreRoots p.names sources G roots
  pub rooted : AreRooted sources roots lines word (length lines)
  pub extends : Extends p q
  pub realise : RootsRealise q (length p.named.nodes) G roots
  pub before : ReadsBefore q.named (length p.named.nodes)
  pub outs : All (DrivesRootOrFresh p roots) (added_nodes p q)
  pub once : IsNumbering (added_outs p q)
  pub driven : All (Contains (added_outs p q)) (root_texts p.names roots)
  pub fresh : AreFreshOuts p q
  pub differ : IsNumbering (p.named.inputs ++ latch_outs p.named) → InnerDiffer (root_texts p.names roots) (added_nodes p q)
  pub covers : All HasGateCover (added_nodes p q)
  pub listed : All (DrivesListed q.names) (added_nodes p q)
  pub needed : All (DrivesNeeded q.named (length p.named.nodes) (root_texts p.names roots)) (added_nodes p q)
  pub nodes : length q.named.nodes ≤ length p.named.nodes + length G.gates + length lines
