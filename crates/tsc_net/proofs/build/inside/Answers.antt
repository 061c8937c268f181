-- All parts together.
use Rattle.std.proofs.Common.{rules, ◌≡◌, ℕ, List, map, All, None, refl, sym, ap, ◌∙◌, subst}
use Rattle.tsc_net.specs.Named.{NamedLatch, NamedNode}
use Rattle.tsc_net.specs.NetlistOf.{drivers, numbered_latch, numbered_node}
use Rattle.tsc_net.specs.NetFault.{first_missing, no_outputs}
use Rattle.tsc_net.specs.Names.{place_of_text}
use Rattle.tsc_net.specs.inner.NetNames.{KeepsMarks}
use Rattle.tsc_net.specs.NetlistView.{latch_as}
use Rattle.tsc_net.specs.Parts.{PartsOf}
use Rattle.tsc_net.specs.PartsView.{latch_of, texts_of, model_or, IsName}
use Rattle.tsc_net.specs.PlanView.{net_numbers}
use Rattle.tsc_net.specs.inner.Build.{IsUndriven, IsUndrivenOrNone, IsUnread, latch_reads, node_reads}
use Rattle.tsc_net.specs.declared.ids.Name.{Name}
use Rattle.tsc_net.specs.declared.parts.LatchPart.{LatchPart}
use Rattle.tsc_net.proofs.InsideLemmas.{IsSeen, all_read, unread_nodes, unread_latches, unread_outputs, put_together, seen}
use Rattle.tsc_net.proofs.build.inside.Goals as goal
use Rattle.tsc_net.proofs.build.inside.Goals.{After-new-names, After-deref, After-as_slice, In_ok-nodes, In_ok-latches, In_ok-outputs}

-- a fact about names and what is driven, of the same names and the same nets
carried : {X : Type 0} (P : List (List ℕ) → X → Type 0) (d d' : List (List ℕ)) (x x' : X) → d ≡ d' → x ≡ x' → P d x → P d' x'
carried P d d' x x' e f h = subst (λ d. P d x') e (subst (λ x. P d x) f h)

-- what the parts say by names, in the words of the names of nets
told : (c : After-new-names) → IsSeen c.new-names.result c.parts.inside c.args.parts.named
told c = seen c.parts.inside c.args.parts c.args.driven c.new-names.result c.parts.view_is c.new-names.ensures.names c.new-names.ensures.nets c.requires.table

-- the latches and the outputs as they are handed on
latches_told : (c : After-deref) → IsSeen c.new-names.result c.parts.inside c.args.parts.named
    → map (latch_of c.new-names.result.names) c.deref.result.now ≡ c.args.parts.named.latches
latches_told c s = ap (λ (l : List LatchPart). map (latch_of c.new-names.result.names) l) c.deref.ensures.value ∙ s.latches

outputs_told : (c : After-as_slice) → IsSeen c.new-names.result c.parts.inside c.args.parts.named
    → texts_of c.new-names.result.names c.as_slice.result.now ≡ c.args.parts.named.outputs
outputs_told c s = ap (λ (l : List Name). texts_of c.new-names.result.names l) c.as_slice.ensures.whole ∙ s.outputs

-- something drives what the nodes, the latches and the outputs read
nodes_driven : (c : In_ok-nodes) → IsSeen c.new-names.result c.parts.inside c.args.parts.named
    → first_missing (drivers c.args.parts.named) (node_reads c.args.parts.named.nodes) ≡ None
nodes_driven c s = carried (λ d (x : List NamedNode). first_missing d (node_reads x) ≡ None) _ _ _ _ s.nets s.nodes c.in_ok-nodes.ensures.driven

latches_driven : (c : In_ok-latches) → IsSeen c.new-names.result c.parts.inside c.args.parts.named
    → map (latch_of c.new-names.result.names) c.deref.result.now ≡ c.args.parts.named.latches
    → first_missing (drivers c.args.parts.named) (latch_reads c.args.parts.named.latches) ≡ None
latches_driven c s are = carried (λ d (x : List NamedLatch). first_missing d (latch_reads x) ≡ None) _ _ _ _ s.nets are c.in_ok-latches.ensures.driven

outputs_driven : (c : In_ok-outputs) → IsSeen c.new-names.result c.parts.inside c.args.parts.named
    → texts_of c.new-names.result.names c.as_slice.result.now ≡ c.args.parts.named.outputs
    → first_missing (drivers c.args.parts.named) c.args.parts.named.outputs ≡ None
outputs_driven c s are = carried (λ d (x : List (List ℕ)). first_missing d x ≡ None) _ _ _ _ s.nets are c.in_ok-outputs.ensures.driven

pub new-names-requires : goal.new-names-requires
new-names-requires c = record { marks = subst (λ (v : PartsOf). KeepsMarks v.names c.args.driven) (sym c.parts.view_is) c.requires.marks }

pub nodes_of-requires : goal.nodes_of-requires
nodes_of-requires c =
    record { names = subst (λ (names : List (List ℕ)). All (λ n. All (IsName names) n.reads.items) c.parts.inside.nodes.items) (sym c.new-names.ensures.names) c.parts.invariant.node_reads }

pub latches_of-requires : goal.latches_of-requires
latches_of-requires c = record {
  names = subst (λ (latches : List LatchPart). All (λ l. IsName c.new-names.result.names l.reads) latches) (sym c.deref.ensures.value)
      (subst (λ (names : List (List ℕ)). All (λ l. IsName names l.reads) c.parts.inside.latches.items) (sym c.new-names.ensures.names) c.parts.invariant.latch_reads);
}

pub outputs_of-requires : goal.outputs_of-requires
outputs_of-requires c = record {
  names = subst (λ (list : List Name). All (IsName c.new-names.result.names) list) (sym c.as_slice.ensures.whole)
      (subst (λ (names : List (List ℕ)). All (IsName names) c.parts.inside.outputs) (sym c.new-names.ensures.names) c.parts.invariant.outputs);
}

pub returns-in_err-nodes-clause-refused : goal.returns-in_err-nodes-clause-refused
returns-in_err-nodes-clause-refused c =
    let refused : IsUnread c.args.parts.named c.in_err-nodes.field-0.0 =
    (let s = told (goal.at.returns-in_err-nodes-clause-refused c).After-new-names in
    unread_nodes c.args.parts.named c.in_err-nodes.field-0.0
    (carried (λ d (x : List NamedNode). IsUndriven d (node_reads x) c.in_err-nodes.field-0.0) _ _ _ _ s.nets s.nodes c.in_err-nodes.ensures.undriven)) in
    search rules

pub returns-in_err-latches-clause-refused : goal.returns-in_err-latches-clause-refused
returns-in_err-latches-clause-refused c =
    let refused : IsUnread c.args.parts.named c.in_err-latches.field-0.0 =
    (let at = goal.at.returns-in_err-latches-clause-refused c in let s = told at.After-new-names in
    unread_latches c.args.parts.named c.in_err-latches.field-0.0 (nodes_driven at.In_ok-nodes s)
    (carried (λ d (x : List NamedLatch). IsUndriven d (latch_reads x) c.in_err-latches.field-0.0) _ _ _ _ s.nets (latches_told at.After-deref s) c.in_err-latches.ensures.undriven)) in
    search rules

pub returns-in_err-outputs-clause-refused : goal.returns-in_err-outputs-clause-refused
returns-in_err-outputs-clause-refused c =
    let refused : IsUnread c.args.parts.named c.in_err-outputs.field-0.0 =
    (let at = goal.at.returns-in_err-outputs-clause-refused c in let s = told at.After-new-names in
    unread_outputs c.args.parts.named c.in_err-outputs.field-0.0 (nodes_driven at.In_ok-nodes s) (latches_driven at.In_ok-latches s (latches_told at.After-deref s))
    (carried (λ d (x : List (List ℕ)). IsUndrivenOrNone d x c.in_err-outputs.field-0.0) _ _ _ _ s.nets (outputs_told at.After-as_slice s) c.in_err-outputs.ensures.refused)) in
    search rules

pub returns-in_err-nodes-clause-net : goal.returns-in_err-nodes-clause-net
returns-in_err-nodes-clause-net c = search rules

pub returns-in_err-nodes-clause-driven : goal.returns-in_err-nodes-clause-driven
returns-in_err-nodes-clause-driven c = search rules

pub returns-in_err-nodes-clause-some_output : goal.returns-in_err-nodes-clause-some_output
returns-in_err-nodes-clause-some_output c = search rules

pub returns-in_err-latches-clause-net : goal.returns-in_err-latches-clause-net
returns-in_err-latches-clause-net c = search rules

pub returns-in_err-latches-clause-driven : goal.returns-in_err-latches-clause-driven
returns-in_err-latches-clause-driven c = search rules

pub returns-in_err-latches-clause-some_output : goal.returns-in_err-latches-clause-some_output
returns-in_err-latches-clause-some_output c = search rules

pub returns-in_err-outputs-clause-net : goal.returns-in_err-outputs-clause-net
returns-in_err-outputs-clause-net c = search rules

pub returns-in_err-outputs-clause-driven : goal.returns-in_err-outputs-clause-driven
returns-in_err-outputs-clause-driven c = search rules

pub returns-in_err-outputs-clause-some_output : goal.returns-in_err-outputs-clause-some_output
returns-in_err-outputs-clause-some_output c = search rules

pub same-names : goal.same-names
same-names c = refl

pub same-nodes : goal.same-nodes
same-nodes c = refl

pub returns-clause-net : goal.returns-clause-net
returns-clause-net c =
    let N = c.args.parts.named in
    let at = goal.at.returns-clause-net c in
    let s = told at.After-new-names in
    put_together N c.len.result (map latch_as c.in_ok-latches.latches.items) (c.in_ok-nodes.nodes) (net_numbers c.in_ok-outputs.outputs)
    c.new-names.result.nets (model_or c.parts.inside.model) (c.len.ensures.count ∙ s.inputs)
    (carried (λ d (x : List NamedLatch). map latch_as c.in_ok-latches.latches.items ≡ map (numbered_latch d) x) _ _ _ _ s.nets (latches_told at.After-deref s) c.in_ok-latches.ensures.latches)
    (carried (λ d (x : List NamedNode). c.in_ok-nodes.nodes ≡ map (numbered_node d) x) _ _ _ _ s.nets s.nodes c.in_ok-nodes.ensures.nodes)
    (carried (λ d (x : List (List ℕ)). net_numbers c.in_ok-outputs.outputs ≡ map (place_of_text d) x) _ _ _ _ s.nets (outputs_told at.After-as_slice s) c.in_ok-outputs.ensures.outputs)
    s.nets s.model

pub returns-clause-driven : goal.returns-clause-driven
returns-clause-driven c =
    let at = goal.at.returns-clause-driven c in
    let s = told at.After-new-names in
    all_read c.args.parts.named (nodes_driven at.In_ok-nodes s) (latches_driven at.In_ok-latches s (latches_told at.After-deref s))
    (outputs_driven at.In_ok-outputs s (outputs_told at.After-as_slice s))

pub returns-clause-some_output : goal.returns-clause-some_output
returns-clause-some_output c =
    let at = goal.at.returns-clause-some_output c in
    subst (λ (x : List (List ℕ)). no_outputs x ≡ None) (outputs_told at.After-as_slice (told at.After-new-names)) c.in_ok-outputs.ensures.some_output
