use Rattle.std.proofs.Common.{◌≡◌, List, ℕ, slice_index, slice_index_or, ap, ◌∙◌, sym, subst, arith, below_more}
use Rattle.std.proofs.lemmas.List.{length-map}
use Rattle.tsc_net.specs.PlanView.{net_numbers}
use Rattle.tsc_net.specs.declared.ids.NetId.{NetId}
use Rattle.tsc_net.proofs.NetNumbers.{number_at}
use Rattle.fault_secure.specs.Circuit.{node}
use Rattle.lane_rows.proofs.OrderFacts.{reads_within, node_within, order_sized}
use Rattle.lane_sim.specs.Readers.{IsOnChain}
use Rattle.lane_sim.proofs.ReaderLemmas.{readers_more}
use Rattle.lane_sim.proofs.readers.add_place.Goals as goal

pub add_reader-requires-clause-net : goal.add_reader-requires-clause-net
add_reader-requires-clause-net c =
    let C = c.args.net.now.circuit in
    let inside = node_within C c.order.result.now c.order.ensures.whole c.args.place (omega (arith, order_sized C c.order.result.now c.order.ensures.whole, c.requires.place)) in
    omega (
      arith,
      reads_within C c.nets-nets.ensures.checked.closed _ inside c.node_reads-read-items.result.now c.node_reads-read-items.ensures.reads c.loop-read.read-index (record { number = 0 }) c.loop-read-test.true,
      c.loop-read.invariant.sized,
    )

pub loop-read-preserved : goal.loop-read-preserved
loop-read-preserved c =
    let i = c.loop-read.invariant in
    let items = c.node_reads-read-items.result.now in
    let k = c.loop-read.read-index in
    let e = c.in_ok-add_reader.ensures in
    let own : slice_index (net_numbers items) k ≡ (slice_index_or items k (record { number = 0 })).number = number_at items k (record { number = 0 }) c.loop-read-test.true in
    record {
      sized = c.add_reader.ensures.sized ∙ i.sized;
      len = omega (arith, e.one, i.len);
      chains = e.chains;
      readers = λ place net below reads. e.stay net place (i.readers place net below reads);
      added = below_more (λ n. IsOnChain c.add_reader.new.list.items c.args.place (slice_index c.add_reader.new.heads (slice_index (net_numbers items) n))) k
          (λ n below. e.stay (slice_index (net_numbers items) n) c.args.place (i.added n below))
          (subst (λ n. IsOnChain c.add_reader.new.list.items c.args.place (slice_index c.add_reader.new.heads n)) (sym own) e.added);
    }

pub returns-clause-readers : goal.returns-clause-readers
returns-clause-readers c =
    let C = c.args.net.now.circuit in
    let items = c.node_reads-read-items.result.now in
    readers_more C c.loop-read.heads c.loop-read.list.items c.args.place (net_numbers items)
    (c.node_reads-read-items.ensures.reads ∙ ap (λ (o : List ℕ). (node C (slice_index o c.args.place)).reads) c.order.ensures.order)
    (λ n below. c.loop-read.invariant.added n (omega (arith, c.loop-read-test.false, length-map items (λ (net : NetId). net.number)))) c.loop-read.invariant.readers
