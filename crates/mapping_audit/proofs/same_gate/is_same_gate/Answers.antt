use Rattle.std.proofs.Common.{◌≡◌, List, ◌-◌, ◌+◌, ◌<◌, ℕ, slice_index, length, refl, sym, ◌∙◌, ap, arith}
use Rattle.std.proofs.lemmas.Bool.{true≢false}
use Rattle.lane_rows.proofs.OrderFacts.{reads_within}
use Rattle.fault_secure.specs.Circuit.{node, node_net}
use Rattle.mapping_reading.specs.ReadMapping.{first_net}
use Rattle.mapping_reading.specs.Pins.{at_of}
use Rattle.mapping_audit.proofs.Pinning.{at_is}
use Rattle.mapping_audit.proofs.SameGates.{same_by_parts, parts_of_same}
use Rattle.mapping_audit.proofs.same_gate.is_same_gate.Goals as goal

pub are_moved-requires : goal.are_moved-requires
are_moved-requires c = record {
  within = λ k d h.
      (let b = reads_within c.args.plain.now.circuit c.nets-nets.ensures.checked.closed c.args.node c.requires.node c.node_reads.result.now c.node_reads.ensures.reads k d h in
      let s = c.requires.moved.sized in omega arith);
}

-- the gate's place, as it is computed
place_is : (moved : List ℕ) (number net all gates first at : ℕ) → number ≡ net → at ≡ slice_index moved net → first + gates ≡ all → slice_index moved number - (all - gates) ≡ at - first
place_is moved number net all gates first at is went count =
    let same : slice_index moved number ≡ at = ap (slice_index moved) is ∙ sym went in omega arith

pub returns-then-not-are_moved : goal.returns-then-not-are_moved
returns-then-not-are_moved c =
    let N = c.args.plain.now.circuit in
    let within : node_net c.args.plain.now.circuit c.args.node < length c.args.moved.now = (let s = c.requires.moved.sized in let t = c.requires.node in omega arith) in
    let place = place_is c.args.moved.now c.node_net.result.number (node_net c.args.plain.now.circuit c.args.node) c.nets.result c.nodes.result (first_net c.args.mapped.now.circuit)
    (at_of c.args.mapped.now.circuit c.args.moved.now (node_net c.args.plain.now.circuit c.args.node)) c.node_net.ensures.net
    (sym (at_is c.args.mapped.now.circuit c.args.moved.now (node_net c.args.plain.now.circuit c.args.node) within)) (omega arith) in
    record {
      same = (
        λ h. absurd (true≢false (sym h)),
        λ same. absurd (true≢false (sym (c.are_moved.ensures.same.1
            (parts_of_same c.args.plain.now.circuit c.args.mapped.now.circuit c.args.moved.now c.args.node _ c.node_reads.result.now c.node_reads-2.result.now (node c.args.plain.now.circuit c.args.node).cover _
            c.nets-nets.ensures.checked.closed c.requires.moved.sized c.requires.node place c.node_reads.ensures.reads c.node_reads-2.ensures.reads refl refl same).0) ∙ c.if-not-are_moved.true)),
      );
    }

pub returns : goal.returns
returns c =
    let within : node_net c.args.plain.now.circuit c.args.node < length c.args.moved.now = (let s = c.requires.moved.sized in let t = c.requires.node in omega arith) in
    let place = place_is c.args.moved.now c.node_net.result.number (node_net c.args.plain.now.circuit c.args.node) c.nets.result c.nodes.result (first_net c.args.mapped.now.circuit)
    (at_of c.args.mapped.now.circuit c.args.moved.now (node_net c.args.plain.now.circuit c.args.node)) c.node_net.ensures.net
    (sym (at_is c.args.mapped.now.circuit c.args.moved.now (node_net c.args.plain.now.circuit c.args.node) within)) (omega arith) in
    record {
      same = (
        λ t. same_by_parts c.args.plain.now.circuit c.args.mapped.now.circuit c.args.moved.now c.args.node _ c.node_reads.result.now c.node_reads-2.result.now c.node_cover.result.now c.node_cover-2.result.now
            c.nets-nets.ensures.checked.closed c.requires.moved.sized c.requires.node place c.node_reads.ensures.reads c.node_reads-2.ensures.reads c.node_cover.ensures.cover c.node_cover-2.ensures.cover
            (c.are_moved.ensures.same.0 c.if-not-are_moved.false) (c.same_cover.ensures.same.0 t),
        λ same. c.same_cover.ensures.same.1 (parts_of_same c.args.plain.now.circuit c.args.mapped.now.circuit c.args.moved.now c.args.node _ c.node_reads.result.now c.node_reads-2.result.now c.node_cover.result.now c.node_cover-2.result.now
            c.nets-nets.ensures.checked.closed c.requires.moved.sized c.requires.node place c.node_reads.ensures.reads c.node_reads-2.ensures.reads c.node_cover.ensures.cover c.node_cover-2.ensures.cover same).1,
      );
    }
