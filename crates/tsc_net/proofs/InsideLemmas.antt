-- All that a netlist by names reads, part by part, and its numbers put together.
use Rattle.std.proofs.Common.{◌≡◌, ℕ, List, ◌++◌, map, length, None, sym, ap, ◌∙◌}
use Rattle.std.proofs.lemmas.List.{length-map}
use Rattle.fault_secure.specs.Circuit.{LatchOf, NodeOf}
use Rattle.tsc_net.specs.Named.{Named}
use Rattle.tsc_net.specs.Names.{place_of_text}
use Rattle.tsc_net.specs.NetlistOf.{NetlistOf, drivers, netlist_of, numbered_latch, numbered_node}
use Rattle.tsc_net.specs.NetFault.{first_missing, reads_of}
use Rattle.tsc_net.specs.inner.Build.{IsUndriven, IsUndrivenOrNone, IsUnread, latch_reads, node_reads}
use Rattle.tsc_net.specs.inner.NetNames.{NetNamesOf}
use Rattle.tsc_net.specs.Parts.{PartsOf}
use Rattle.tsc_net.specs.PartsView.{text_of, texts_of, latch_of, node_of, model_or, parts_of}
use Rattle.tsc_net.specs.declared.net_names.Driven.{Driven}
use Rattle.tsc_net.specs.declared.parts.Parts.TheInside.{Inside}
use Rattle.tsc_net.specs.declared.net_error.NetError.{NetError}
use Rattle.tsc_net.specs.declared.net_error.NetError.TheVariants.{Twice, Undriven, NoOutputs, Cycle, Memory}
use Rattle.tsc_net.proofs.BuildLemmas.{missing-append, missing-front}

abbrev pub together : ℕ → List LatchOf → List NodeOf → List ℕ → List (List ℕ) → List ℕ → NetlistOf
together inputs latches nodes outputs names model =
    record { circuit = record { inputs = inputs; latches = latches; nodes = nodes; outputs = outputs }; names = names; model = model }

module _ (N : Named) where
  pub all_read : first_missing (drivers N) (node_reads N.nodes) ≡ None → first_missing (drivers N) (latch_reads N.latches) ≡ None
      → first_missing (drivers N) N.outputs ≡ None → first_missing (drivers N) (reads_of N) ≡ None
  all_read nodes latches outputs =
      missing-append (drivers N) (node_reads N.nodes ++ latch_reads N.latches) N.outputs
      (missing-append (drivers N) (node_reads N.nodes) (latch_reads N.latches) nodes ∙ latches)
      ∙ outputs

  pub unread_nodes : (e : NetError) → IsUndriven (drivers N) (node_reads N.nodes) e → IsUnread N e
  unread_nodes (Twice t) h = absurd h
  unread_nodes (Undriven t) h =
      missing-front (drivers N) (node_reads N.nodes ++ latch_reads N.latches) N.outputs t
      (missing-front (drivers N) (node_reads N.nodes) (latch_reads N.latches) t h)
  unread_nodes NoOutputs h = absurd h
  unread_nodes (Cycle ts) h = absurd h
  unread_nodes (Memory x) h = tt

  pub unread_latches : (e : NetError) → first_missing (drivers N) (node_reads N.nodes) ≡ None → IsUndriven (drivers N) (latch_reads N.latches) e → IsUnread N e
  unread_latches (Twice t) nodes h = absurd h
  unread_latches (Undriven t) nodes h =
      missing-front (drivers N) (node_reads N.nodes ++ latch_reads N.latches) N.outputs t
      (missing-append (drivers N) (node_reads N.nodes) (latch_reads N.latches) nodes ∙ h)
  unread_latches NoOutputs nodes h = absurd h
  unread_latches (Cycle ts) nodes h = absurd h
  unread_latches (Memory x) nodes h = tt

  pub unread_outputs : (e : NetError) → first_missing (drivers N) (node_reads N.nodes) ≡ None → first_missing (drivers N) (latch_reads N.latches) ≡ None
      → IsUndrivenOrNone (drivers N) N.outputs e → IsUnread N e
  unread_outputs (Twice t) nodes latches h = absurd h
  unread_outputs (Undriven t) nodes latches h =
      missing-append (drivers N) (node_reads N.nodes ++ latch_reads N.latches) N.outputs
      (missing-append (drivers N) (node_reads N.nodes) (latch_reads N.latches) nodes ∙ latches)
      ∙ h
  unread_outputs NoOutputs nodes latches h = (all_read nodes latches (ap (first_missing (drivers N)) h), h)
  unread_outputs (Cycle ts) nodes latches h = absurd h
  unread_outputs (Memory x) nodes latches h = tt

  -- the numbers together
  pub put_together : (inputs : ℕ) (latches : List LatchOf) (nodes : List NodeOf) (outputs : List ℕ) (names : List (List ℕ)) (model : List ℕ)
      → inputs ≡ length N.inputs → latches ≡ map (numbered_latch (drivers N)) N.latches → nodes ≡ map (numbered_node (drivers N)) N.nodes
      → outputs ≡ map (place_of_text (drivers N)) N.outputs → names ≡ drivers N → model ≡ N.model
      → together inputs latches nodes outputs names model ≡ netlist_of N
  put_together inputs latches nodes outputs names model a b c d e f = cc

-- what the parts say by names, in the words of the names of nets
pub record IsSeen (n : NetNamesOf) (p : Inside) (N : Named) : Type 0 where
  pub nets : n.nets ≡ drivers N
  pub inputs : length p.inputs ≡ length N.inputs
  pub latches : map (latch_of n.names) p.latches.items ≡ N.latches
  pub nodes : map (node_of n.names) p.nodes.items ≡ N.nodes
  pub outputs : texts_of n.names p.outputs ≡ N.outputs
  pub model : model_or p.model ≡ N.model

pub seen : (p : Inside) (P : PartsOf) (driven : Driven) (n : NetNamesOf) → parts_of p ≡ P → n.names ≡ p.names → n.nets ≡ texts_of p.names driven.nets
    → texts_of P.names driven.nets ≡ drivers P.named → IsSeen n p P.named
seen p P driven n view same nets table = record {
  nets = nets ∙ ap (λ (v : PartsOf). texts_of v.names driven.nets) view ∙ table;
  inputs = sym (length-map p.inputs (text_of p.names)) ∙ ap (λ (v : PartsOf). length v.named.inputs) view;
  latches = ap (λ names. map (latch_of names) p.latches.items) same ∙ ap (λ (v : PartsOf). v.named.latches) view;
  nodes = ap (λ names. map (node_of names) p.nodes.items) same ∙ ap (λ (v : PartsOf). v.named.nodes) view;
  outputs = ap (λ names. texts_of names p.outputs) same ∙ ap (λ (v : PartsOf). v.named.outputs) view;
  model = ap (λ (v : PartsOf). v.named.model) view;
}
