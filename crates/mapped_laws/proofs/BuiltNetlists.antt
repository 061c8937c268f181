-- What a section denotes that nothing refuses is a built netlist.
use Rattle.std.proofs.Common.{◌≡◌, ℕ, ◌+◌, ◌-◌, ◌<◌, ◌≤◌, ◌^◌, Bool, true, false, if◌then◌else◌, List, [], ◌∷◌, ◌++◌, length, drop, All, Option, None, Some, refl, arith, length-append, length-drop}
use Rattle.std.proofs.lemmas.List.{length-map, length-take}
use Rattle.std.proofs.lemmas.List.Elements.{All-nil, All-cons, All-append}
use Rattle.tsc_text.specs.TextLine.{TextLine}
use Rattle.tsc_net.specs.Named.{Named, NamedLatch, NamedNode, latch_outs, node_outs}
use Rattle.tsc_net.specs.Limits.{most_nets}
use Rattle.tsc_net.specs.NetFault.{twice, undriven, first_fault, first_repeat, first_missing, no_outputs, reads_of, ring_of, fault_of}
use Rattle.tsc_net.specs.NetlistOf.{IsBuilt, drivers, circuit_of, netlist_of}
use Rattle.tsc_net.specs.Order.{fan_ins, has_whole_order}
use Rattle.tsc_net.specs.inner.Build.{IsDriven}
use Rattle.tsc_net.specs.declared.net_error.NetError.{NetError}
use Rattle.tsc_net.specs.declared.net_error.NetError.TheVariants.{Cycle}
use Rattle.tsc_net.proofs.NetlistLemmas.{sound_netlist}
use Rattle.tsc_net.proofs.OrderedLemmas.{checked_from_order}
use Rattle.blif_read.specs.Denotes.{refusal}
use Rattle.blif_read.specs.LineKind.{kind_of, pins_of, width_of}
use Rattle.blif_read.specs.NamedText.{named_text, node_at, nodes_at, nodes_of}
use Rattle.blif_read.specs.Seen.{seen_of}
use Rattle.blif_read.specs.declared.kinds.Kind.{Kind}
use Rattle.blif_read.specs.declared.kinds.LineKind.{LineKind}
use Rattle.blif_read.specs.declared.kinds.LineKind.TheVariants.{PlanLine, Model, Inputs, Outputs, Names, Latch, OtherDirective, Row}
use Rattle.blif_read.proofs.Counts.{AreFew, few_parts, many_nets}
use Rattle.blif_read.proofs.NotRefused.{no_line_fault, no_net_fault}

-- ---- the netlist has no fault

record HasNoFault (N : Named) : Type 0 where
  once : first_repeat (drivers N) ≡ None
  shown_once : first_repeat N.outputs ≡ None
  driven : first_missing (drivers N) (reads_of N) ≡ None
  some_output : no_outputs N.outputs ≡ None
  whole : has_whole_order (fan_ins (circuit_of N)) ≡ true

has_no_fault : (N : Named) → fault_of N ≡ None → HasNoFault N
has_no_fault N e = by (first_repeat (drivers N)) refl (first_repeat N.outputs) refl (first_missing (drivers N) (reads_of N)) refl (no_outputs N.outputs) refl
    (has_whole_order (fan_ins (circuit_of N))) refl e
  where
    by : (a : Option (List ℕ)) → first_repeat (drivers N) ≡ a → (b : Option (List ℕ)) → first_repeat N.outputs ≡ b
        → (c : Option (List ℕ)) → first_missing (drivers N) (reads_of N) ≡ c → (d : Option NetError) → no_outputs N.outputs ≡ d
        → (w : Bool) → has_whole_order (fan_ins (circuit_of N)) ≡ w
        → first_fault (twice a ∷ twice b ∷ undriven c ∷ d ∷ (if w then None else Some (Cycle (ring_of N))) ∷ []) ≡ None → HasNoFault N
    by None f None g None h None i true k e = record { once = f; shown_once = g; driven = h; some_output = i; whole = k }
    by None f None g None h None i false k e = cc
    by None f None g None h (Some d) i w k e = cc
    by None f None g (Some c) h d i w k e = cc
    by None f (Some b) g c h d i w k e = cc
    by (Some a) f b g c h d i w k e = cc

-- ---- a node has a pin a name, and its cover too

pins_counted : (line : TextLine) → length (pins_of line) ≡ width_of line
pins_counted line =
    let taken = length-take ((length line.words - 1) - 1) (drop 1 line.words) in
    let dropped = length-drop 1 line.words in
    omega arith

abbrev IsEven : NamedNode → Type 0
IsEven node = length node.reads ≡ node.cover.width

even_here : (kind : LineKind) (line : TextLine) (behind : List TextLine) → All IsEven (nodes_at kind line behind)
even_here Names line behind = All-cons IsEven (node_at line behind) [] (pins_counted line) (All-nil IsEven)
even_here PlanLine line behind = All-nil IsEven
even_here Model line behind = All-nil IsEven
even_here Inputs line behind = All-nil IsEven
even_here Outputs line behind = All-nil IsEven
even_here Latch line behind = All-nil IsEven
even_here OtherDirective line behind = All-nil IsEven
even_here Row line behind = All-nil IsEven

nodes_even : (lines : List TextLine) → All IsEven (nodes_of lines)
nodes_even [] = All-nil IsEven
nodes_even (line ∷ lines) =
    All-append IsEven (nodes_at (kind_of line) line lines) (nodes_of lines) (even_here (kind_of line) line lines) (nodes_even lines)

-- ---- and few nets

few_drivers : (N : Named) → length N.inputs + length N.latches + length N.nodes ≤ most_nets → length (drivers N) < 2 ^ 32
few_drivers N few =
    omega (
      arith,
      length-append (N.inputs ++ latch_outs N) (node_outs N),
      length-append N.inputs (latch_outs N),
      length-map N.latches (λ (l : NamedLatch). l.out),
      length-map N.nodes (λ (n : NamedNode). n.out),
    )

-- the netlist of lines that nothing refuses is a built one
pub section_is_built : (kind : Kind) (lines : List TextLine) → refusal kind lines ≡ None → IsBuilt (netlist_of (named_text lines))
section_is_built kind lines e =
    let N = named_text lines in
    let sound = has_no_fault N (no_net_fault kind lines e) in
    let few : AreFew kind (seen_of []) lines = few_parts kind lines (no_line_fault kind lines e) in
    let driven : IsDriven N = record {
      once = sound.once;
      shown_once = sound.shown_once;
      driven = sound.driven;
      some_output = sound.some_output;
      pins = nodes_even lines;
      few = few_drivers N (many_nets kind (length N.inputs) (length N.latches) (length N.nodes) (omega (arith, few.inputs)) (omega (arith, few.latches)) (omega (arith, few.nodes)));
    } in
    checked_from_order (netlist_of N) (sound_netlist N driven) sound.whole
