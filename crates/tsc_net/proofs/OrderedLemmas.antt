-- A sound netlist with a whole order of its nodes is checked.
use Rattle.std.proofs.Common.{◌≡◌, ℕ, ◌+◌, ◌-◌, ◌<◌, ◌≤◌, Bool, true, false, List, [], ◌∷◌, length, All, refl, sym, subst, arith, if◌then◌else◌, nat_lt}
use Rattle.std.proofs.lemmas.List.{length-map}
use Rattle.std.proofs.lemmas.Bool.Decides.{nat_tests}
use Rattle.std.proofs.lemmas.List.Elements.{All-nil, All-cons, All-head, All-tail, All-map, All-from_get_or}
use Rattle.fault_secure.specs.Circuit.{Circuit, NodeOf, node, no_node}
use Rattle.tsc_net.specs.NetlistOf.{NetlistOf, IsBuilt}
use Rattle.fault_secure.specs.Closed.{IsClosed}
use Rattle.tsc_net.specs.Order.{fan_in, fan_ins, evaluation_order, has_whole_order, ReadsWithin}
use Rattle.tsc_net.specs.inner.Build.{IsClosedNetlist}
use Rattle.tsc_net.proofs.AcyclicLemmas.{acyclic_from_order, whole_is_order}

-- the places among nets that are nets
fan_in_within : (base many : ℕ) (reads : List ℕ) → All (λ net. net < base + many) reads → All (λ k. k < many) (fan_in base reads)
fan_in_within base many [] all = All-nil (λ k. k < many)
fan_in_within base many (net ∷ reads) all =
    by (nat_lt net base) refl (fan_in_within base many reads (All-tail (λ net. net < base + many) net reads all))
    (All-head (λ net. net < base + many) net reads all)
  where
    by : (b : Bool) → nat_lt net base ≡ b → All (λ k. k < many) (fan_in base reads) → net < base + many
        → All (λ k. k < many) (if b then fan_in base reads else (net - base) ∷ fan_in base reads)
    by true e rest h = rest
    by false e rest h =
        let past : base ≤ net = grind (arith, nat_tests) in
        let place : net - base < many = omega arith in
        All-cons (λ k. k < many) (net - base) (fan_in base reads) place rest

-- the fan-ins of a closed circuit are of nodes alone
pub closed_reads : (C : Circuit) → IsClosed C → ReadsWithin (fan_ins C)
closed_reads C closed =
    let base = C.inputs + length C.latches in
    let many : length (fan_ins C) ≡ length C.nodes = length-map C.nodes (λ n. fan_in base n.reads) in
    subst (λ m. All (λ reads. All (λ k. k < m) reads) (fan_ins C)) (sym many)
    (All-map (λ reads. All (λ k. k < length C.nodes) reads) (λ (n : NodeOf). fan_in base n.reads) C.nodes
    (All-from_get_or (λ (n : NodeOf). All (λ k. k < length C.nodes) (fan_in base n.reads)) C.nodes no_node
    (λ j hj. fan_in_within base (length C.nodes) (node C j).reads
    (All-from_get_or (λ net. net < base + length C.nodes) (node C j).reads 0 (λ pin hp. closed.pins j pin hj hp)))))

-- a closed netlist in whose order each node has its place is as one that was built
pub checked_from_order : (net : NetlistOf) → IsClosedNetlist net → has_whole_order (fan_ins net.circuit) ≡ true → IsBuilt net
checked_from_order net sound whole = record {
  closed = sound.closed;
  acyclic = acyclic_from_order net.circuit (evaluation_order (fan_ins net.circuit)) (whole_is_order (fan_ins net.circuit) whole);
  sized = sound.sized;
  numbering = sound.numbering;
  few = sound.few;
}
