-- Lines without a fault keep the limits on inputs, outputs, latches and nodes.
use Rattle.std.proofs.Common.{◌≡◌, ℕ, ◌+◌, ◌≤◌, ◌==◌, Bool, true, false, if◌then◌else◌, List, [], ◌∷◌, length, map, refl, sym, ◌∙◌, arith, Option, None, Some, length-drop, length-append}
use Rattle.std.proofs.lemmas.List.{length-map}
use Rattle.tsc_text.specs.TextLine.{TextLine}
use Rattle.tsc_net.specs.Limits.{most_nets}
use Rattle.blif_read.specs.LineKind.{kind_of, name_count, net_of, pins_of}
use Rattle.blif_read.specs.NamedText.{input_names, inputs_of, latches_at, latches_of, nodes_at, nodes_of, output_names, outputs_of}
use Rattle.blif_read.specs.Seen.{seen_behind, seen_of}
use Rattle.blif_read.specs.Faults.{fault_of, first_of, limit, limit_in, most_latches, most_nodes, names_fault, IsWithin}
use Rattle.blif_read.specs.FirstFault.{first_fault, first_fault_after}
use Rattle.blif_read.specs.declared.cause.Cause.TheVariants.{WordCount}
use Rattle.tsc_text.specs.declared.which.Which.{Which}
use Rattle.tsc_text.specs.declared.which.Which.TheVariants.{Nodes as NodeCount, Pins as PinCount}
use Rattle.blif_read.specs.declared.kinds.Kind.{Kind}
use Rattle.blif_read.specs.declared.kinds.Kind.TheVariants.{Source, Registers, Netlist, AnyPlan, Unplanned}
use Rattle.blif_read.specs.declared.kinds.LineKind.{LineKind}
use Rattle.blif_read.specs.declared.kinds.LineKind.TheVariants.{PlanLine, Model, Inputs, Outputs, Names, Latch, OtherDirective, Row}
use Rattle.blif_read.specs.declared.seen.Seen.{Seen}
use Rattle.blif_read.proofs.CleanLines.{no_fault_here, no_fault_later}
use Rattle.blif_read.proofs.NameLimits.{limit_in_fits, limit_none}
use Rattle.blif_read.proofs.Scanned.{first_fault_is, inputs_fit, latches_fit, outputs_fit}

-- the net of a line of `.names` without a fault passes no limit
pub net_limit : (kind : Kind) (seen : Seen) (line : TextLine) → names_fault kind seen line ≡ None
    → limit_in NodeCount (most_nodes kind) seen.nodes (net_of line ∷ []) ≡ None
net_limit kind seen line e = by (name_count line == 0) e
  where
    second : (first : Option Which) → first_of first (limit_in NodeCount (most_nodes kind) seen.nodes (net_of line ∷ [])) ≡ None
        → limit_in NodeCount (most_nodes kind) seen.nodes (net_of line ∷ []) ≡ None
    second None f = f
    second (Some which) f = cc

    by : (b : Bool)
        → (if b then Some WordCount else limit (first_of (limit_in PinCount 64 0 (pins_of line)) (limit_in NodeCount (most_nodes kind) seen.nodes (net_of line ∷ [])))) ≡ None
        → limit_in NodeCount (most_nodes kind) seen.nodes (net_of line ∷ []) ≡ None
    by true f = cc
    by false f = second (limit_in PinCount 64 0 (pins_of line)) (limit_none _ f)

-- a line of `.names` without a fault keeps the count of nodes
nodes_fit : (kind : Kind) (seen : Seen) (line : TextLine) → names_fault kind seen line ≡ None → IsWithin kind seen → seen.nodes + 1 ≤ most_nodes kind
nodes_fit kind seen line e within =
    limit_in_fits NodeCount (most_nodes kind) seen.nodes (most_nodes kind) (net_of line ∷ []) (omega arith) within.nodes (net_limit kind seen line e)

-- a line without a fault keeps the counts
within_behind : (limits : Kind) (seen : Seen) (kind : LineKind) (line : TextLine) → fault_of limits seen kind line ≡ None → IsWithin limits seen → IsWithin limits (seen_behind seen kind line)
within_behind limits seen Inputs line e w = record { inputs = inputs_fit limits seen Inputs line refl e w; outputs = omega (arith, w.outputs); nodes = omega (arith, w.nodes); latches = omega (arith, w.latches) }
within_behind limits seen Outputs line e w = record { inputs = omega (arith, w.inputs); outputs = outputs_fit limits seen Outputs line refl e w; nodes = omega (arith, w.nodes); latches = omega (arith, w.latches) }
within_behind limits seen Names line e w = record { inputs = omega (arith, w.inputs); outputs = omega (arith, w.outputs); nodes = nodes_fit limits seen line e w; latches = omega (arith, w.latches) }
within_behind limits seen Latch line e w = record { inputs = omega (arith, w.inputs); outputs = omega (arith, w.outputs); nodes = omega (arith, w.nodes); latches = latches_fit limits seen Latch line refl e w }
within_behind limits seen PlanLine line e w = record { inputs = omega (arith, w.inputs); outputs = omega (arith, w.outputs); nodes = omega (arith, w.nodes); latches = omega (arith, w.latches) }
within_behind limits seen Model line e w = record { inputs = omega (arith, w.inputs); outputs = omega (arith, w.outputs); nodes = omega (arith, w.nodes); latches = omega (arith, w.latches) }
within_behind limits seen OtherDirective line e w = record { inputs = omega (arith, w.inputs); outputs = omega (arith, w.outputs); nodes = omega (arith, w.nodes); latches = omega (arith, w.latches) }
within_behind limits seen Row line e w = record { inputs = omega (arith, w.inputs); outputs = omega (arith, w.outputs); nodes = omega (arith, w.nodes); latches = omega (arith, w.latches) }

-- the numbers of inputs, outputs, latches and nodes of the lines keep the limits after what was seen
pub record AreFew (kind : Kind) (seen : Seen) (lines : List TextLine) : Type 0 where
  pub inputs : seen.inputs + length (inputs_of lines) ≤ 1024
  pub outputs : seen.outputs + length (outputs_of lines) ≤ 66
  pub latches : seen.latches + length (latches_of lines) ≤ most_latches kind
  pub nodes : seen.nodes + length (nodes_of lines) ≤ most_nodes kind

-- the same for what one line gives and as many as stand behind it
record AreFewMore (limits : Kind) (seen : Seen) (kind : LineKind) (line : TextLine) (lines : List TextLine) (later-inputs later-outputs later-latches later-nodes : ℕ) : Type 0 where
  pub inputs : seen.inputs + (length (input_names kind line) + later-inputs) ≤ 1024
  pub outputs : seen.outputs + (length (output_names kind line) + later-outputs) ≤ 66
  pub latches : seen.latches + (length (latches_at kind line) + later-latches) ≤ most_latches limits
  pub nodes : seen.nodes + (length (nodes_at kind line lines) + later-nodes) ≤ most_nodes limits

few-more : (limits : Kind) (seen : Seen) (kind : LineKind) (line : TextLine) (lines : List TextLine) (inputs outputs latches nodes : ℕ)
    → (seen_behind seen kind line).inputs + inputs ≤ 1024 → (seen_behind seen kind line).outputs + outputs ≤ 66
    → (seen_behind seen kind line).latches + latches ≤ most_latches limits → (seen_behind seen kind line).nodes + nodes ≤ most_nodes limits
    → AreFewMore limits seen kind line lines inputs outputs latches nodes
few-more limits seen Inputs line lines inputs outputs latches nodes i o l n = record { inputs = omega (arith, i, length-drop 1 line.words); outputs = omega (arith, o); latches = omega (arith, l); nodes = omega (arith, n) }
few-more limits seen Outputs line lines inputs outputs latches nodes i o l n = record { inputs = omega (arith, i); outputs = omega (arith, o, length-drop 1 line.words); latches = omega (arith, l); nodes = omega (arith, n) }
few-more limits seen Names line lines inputs outputs latches nodes i o l n = record { inputs = omega (arith, i); outputs = omega (arith, o); latches = omega (arith, l); nodes = omega (arith, n) }
few-more limits seen Latch line lines inputs outputs latches nodes i o l n = record { inputs = omega (arith, i); outputs = omega (arith, o); latches = omega (arith, l); nodes = omega (arith, n) }
few-more limits seen PlanLine line lines inputs outputs latches nodes i o l n = record { inputs = omega (arith, i); outputs = omega (arith, o); latches = omega (arith, l); nodes = omega (arith, n) }
few-more limits seen Model line lines inputs outputs latches nodes i o l n = record { inputs = omega (arith, i); outputs = omega (arith, o); latches = omega (arith, l); nodes = omega (arith, n) }
few-more limits seen OtherDirective line lines inputs outputs latches nodes i o l n = record { inputs = omega (arith, i); outputs = omega (arith, o); latches = omega (arith, l); nodes = omega (arith, n) }
few-more limits seen Row line lines inputs outputs latches nodes i o l n = record { inputs = omega (arith, i); outputs = omega (arith, o); latches = omega (arith, l); nodes = omega (arith, n) }

few-after : (kind : Kind) (lines : List TextLine) (seen : Seen) → IsWithin kind seen → first_fault_after kind seen lines ≡ None → AreFew kind seen lines
few-after kind [] seen w e = record { inputs = omega (arith, w.inputs); outputs = omega (arith, w.outputs); latches = omega (arith, w.latches); nodes = omega (arith, w.nodes) }
few-after kind (line ∷ lines) seen w e =
    let after = seen_behind seen (kind_of line) line in
    let here = no_fault_here (fault_of kind seen (kind_of line) line) line (first_fault_after kind after lines) e in
    let later = no_fault_later (fault_of kind seen (kind_of line) line) line (first_fault_after kind after lines) e in
    let rest : AreFew kind after lines = few-after kind lines after (within_behind kind seen (kind_of line) line here w) later in
    let all = few-more kind seen (kind_of line) line lines (length (inputs_of lines)) (length (outputs_of lines)) (length (latches_of lines)) (length (nodes_of lines))
    rest.inputs rest.outputs rest.latches rest.nodes in
    record {
      inputs = omega (arith, all.inputs, length-append (input_names (kind_of line) line) (inputs_of lines));
      outputs = omega (arith, all.outputs, length-append (output_names (kind_of line) line) (outputs_of lines));
      latches = omega (arith, all.latches, length-append (latches_at (kind_of line) line) (latches_of lines));
      nodes = omega (arith, all.nodes, length-append (nodes_at (kind_of line) line lines) (nodes_of lines));
    }

-- lines without a fault give at most 1,024 inputs and 66 outputs, and no more latches and nodes than the kind may have
pub few_parts : (kind : Kind) (lines : List TextLine) → first_fault kind lines ≡ None → AreFew kind (seen_of []) lines
few_parts kind lines e =
    few-after kind lines (seen_of []) (record { inputs = omega arith; outputs = omega arith; nodes = omega arith; latches = omega arith })
    (sym (first_fault_is kind [] lines) ∙ e)

-- as many are mapped as there are
pub few_mapped : {A B : Type 0} (f : A → B) (list : List A) (most : ℕ) → length list ≤ most → length (map f list) ≤ most
few_mapped f list most h = omega (arith, h, length-map list f)

-- a section has at most 1,048,576 nodes
pub many_nodes : (kind : Kind) → most_nodes kind ≤ 1048576
many_nodes Source = omega arith
many_nodes Registers = omega arith
many_nodes Netlist = omega arith
many_nodes AnyPlan = omega arith
many_nodes Unplanned = omega arith

-- as many inputs, latches and nodes as a section may have are no more nets than a netlist may have
pub many_nets : (kind : Kind) (inputs latches nodes : ℕ) → inputs ≤ 1024 → latches ≤ most_latches kind → nodes ≤ most_nodes kind → inputs + latches + nodes ≤ most_nets
many_nets Source inputs latches nodes i l n = omega (arith, i, l, n)
many_nets Registers inputs latches nodes i l n = omega (arith, i, l, n)
many_nets Netlist inputs latches nodes i l n = omega (arith, i, l, n)
many_nets AnyPlan inputs latches nodes i l n = omega (arith, i, l, n)
many_nets Unplanned inputs latches nodes i l n = omega (arith, i, l, n)
