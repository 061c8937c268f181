-- A netlist by names that has the nodes of a checker: what its nodes drive, and where what the checker reads is from.
use Rattle.std.proofs.Common.{◌≡◌, ℕ, ◌+◌, ◌<◌, List, [], ◌++◌, map, length, slice_index_or, Option, sym, ◌∙◌, ap, subst}
use Rattle.std.proofs.lemmas.List.{map-append, append_assoc, get_or-map}
use Rattle.tsc_net.specs.Named.{Named, NamedNode, latch_outs, node_outs, no_named}
use Rattle.tsc_net.specs.Names.{text_at}
use Rattle.tsc_net.specs.NetlistOf.{drivers}
use Rattle.tsc_net.specs.Parts.{PartsOf}
use Rattle.code_checkers.specs.GateList.{GateList}
use Rattle.net_writing.specs.CheckerParts.{with_checker, IsOver}
use Rattle.net_writing.specs.declared.checker_writing.RailNames.{RailNames}
use Rattle.net_building.proofs.NamedNets.{node_drives}
use Rattle.net_writing.proofs.CheckerShape.{with_nodes}
use Rattle.net_writing.proofs.CheckerReads.{ReadFedTexts, checker_reads}

-- what a node drives, at its net
pub driven_at : (N : Named) (k : ℕ) → k < length N.nodes → text_at (drivers N) (length N.inputs + length N.latches + k) ≡ (slice_index_or N.nodes k no_named).out
driven_at N k low = node_drives N k low ∙ get_or-map (λ (m : NamedNode). m.out) N.nodes k no_named [] low

-- some nodes more drive some texts more
pub drivers_more : (N : Named) (added : List NamedNode) → drivers (with_nodes N added) ≡ drivers N ++ map (λ (n : NamedNode). n.out) added
drivers_more N added =
    ap (λ (outs : List (List ℕ)). (N.inputs ++ latch_outs N) ++ outs) (map-append (λ (m : NamedNode). m.out) N.nodes added)
    ∙ sym (append_assoc (N.inputs ++ latch_outs N) (node_outs N) (map (λ (n : NamedNode). n.out) added))

module _ (p : PartsOf) (word : List (List ℕ)) (made : GateList) (rails : Option RailNames) (over : IsOver (length word) made) (N : Named) (nodes : N.nodes ≡ (with_checker p word made rails).parts.named.nodes) where
  -- each node of the checker reads texts of the word, and what earlier nodes of the checker drive
  pub nodes_read : ReadFedTexts N.nodes (length p.named.nodes) word (length p.named.nodes)
  nodes_read = subst (λ (list : List NamedNode). ReadFedTexts list (length p.named.nodes) word (length p.named.nodes)) (sym nodes) (checker_reads p word made rails over)
