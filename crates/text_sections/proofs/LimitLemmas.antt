-- A source or netlist that is not refused keeps the limits on its inputs, latches and nodes.
use Rattle.std.proofs.Common.{◌≡◌, ℕ, ◌+◌, ◌≤◌, List, [], length, map, sym, subst, arith, None}
use Rattle.std.proofs.lemmas.List.{length-map}
use Rattle.fault_secure.specs.Circuit.{nets}
use Rattle.tsc_net.specs.NetlistOf.{NetlistOf, netlist_of}
use Rattle.tsc_net.specs.Limits.{most_nets}
use Rattle.tsc_text.specs.TextLine.{TextLine}
use Rattle.blif_read.specs.NamedText.{inputs_of, latches_of, named_text, nodes_of}
use Rattle.blif_read.specs.Seen.{seen_of}
use Rattle.blif_read.specs.Faults.{most_latches, most_nodes}
use Rattle.blif_read.specs.Denotes.{refusal}
use Rattle.blif_read.specs.declared.kinds.Kind.{Kind}
use Rattle.blif_read.proofs.Counts.{AreFew, few_mapped, few_parts, many_nets}
use Rattle.blif_read.proofs.NotRefused.{no_line_fault}

few : (kind : Kind) (lines : List TextLine) → refusal kind lines ≡ None → AreFew kind (seen_of []) lines
few kind lines e = few_parts kind lines (no_line_fault kind lines e)

few-joined : (kind : Kind) {A B C D : Type 0} (f : A → B) (g : C → D) (first : List A) (second : List C) (inputs : ℕ)
    → inputs ≤ 1024 → length first ≤ most_latches kind → length second ≤ most_nodes kind → inputs + length (map f first) + length (map g second) ≤ most_nets
few-joined kind f g first second inputs i l n =
    omega (arith, many_nets kind inputs (length first) (length second) i l n, length-map first f, length-map second g)

-- it has at most 1,024 inputs
pub few_inputs : (kind : Kind) (lines : List TextLine) (net : NetlistOf)
    → net ≡ netlist_of (named_text lines) → refusal kind lines ≡ None → net.circuit.inputs ≤ 1024
few_inputs kind lines net is sound =
    let P : NetlistOf → Type 0 = λ n. n.circuit.inputs ≤ 1024 in
    let all = few kind lines sound in
    subst P (sym is) (omega (arith, all.inputs))

-- a netlist whose lines nothing refuses has at most as many latches as its kind may have
pub few_latches : (kind : Kind) (lines : List TextLine) (net : NetlistOf)
    → net ≡ netlist_of (named_text lines) → refusal kind lines ≡ None → length net.circuit.latches ≤ most_latches kind
few_latches kind lines net is sound =
    let P : NetlistOf → Type 0 = λ n. length n.circuit.latches ≤ most_latches kind in
    let all = few kind lines sound in
    subst P (sym is) (few_mapped _ (latches_of lines) (most_latches kind) (omega (arith, all.latches)))

-- a netlist whose lines nothing refuses has at most as many nets as a netlist may have
pub few_nets : (kind : Kind) (lines : List TextLine) (net : NetlistOf)
    → net ≡ netlist_of (named_text lines) → refusal kind lines ≡ None → nets net.circuit ≤ most_nets
few_nets kind lines net is sound =
    let P : NetlistOf → Type 0 = λ n. nets n.circuit ≤ most_nets in
    let all = few kind lines sound in
    subst P (sym is) (few-joined kind _ _ (latches_of lines) (nodes_of lines) (length (inputs_of lines)) (omega (arith, all.inputs)) (omega (arith, all.latches)) (omega (arith, all.nodes)))
