-- A look at a node.
use Rattle.std.proofs.Common.{◌≡◌, sym, ap, subst, ◌<◌, false, length, slice_set, arith}
use Rattle.std.proofs.lemmas.List.{length-map}
use Rattle.tsc_net.specs.PlanView.{net_numbers}
use Rattle.tsc_net.specs.inner.OrderSearch.{nets_of, is_passed, IsSearch}
use Rattle.tsc_bits.specs.Lists.{list_at}
use Rattle.tsc_net.proofs.OrderSearchLemmas.{look_ready, look_waits, passed_in, nets_at, number_at, reads_within, waits_at}
use Rattle.tsc_net.proofs.order.Search.look.Goals as goal

pub first_unlisted-stop-requires : goal.first_unlisted-stop-requires
first_unlisted-stop-requires c = record {
  within = reads_within c.args.first_node c.args.nodes.now c.reads-reads.result.now c.args.node (length c.args.is_listed.now)
      c.requires.within c.requires.node c.reads-reads.ensures.reads c.requires.marks_sized;
}

pub returns-in_ok-insert : goal.returns-in_ok-insert
returns-in_ok-insert c = record {
  search = λ pending search.
      let nets = nets_of c.args.nodes.now in
      let many = length-map c.args.nodes.now (λ n. n.reads) in
      let reads = net_numbers c.reads-reads.result.now in
      let long = length-map c.reads-reads.result.now (λ net. net.number) in
      let here : reads ≡ list_at nets c.args.node = nets_at c.args.nodes.now c.reads-reads.result.now c.args.node c.requires.node c.reads-reads.ensures.reads in
      let passed = passed_in c.args.first_node nets c.args.is_listed.now c.args.self.now.stops.items reads c.args.node c.index.result.now c.first_unlisted-stop.result
      (omega (arith, c.requires.node, c.requires.stops_sized)) c.index.ensures here
      (λ pin after before inside. c.first_unlisted-stop.ensures.passed pin after before (omega (arith, inside, long))) in
      subst (λ keys. IsSearch c.args.first_node nets c.args.is_listed.now (slice_set c.args.self.now.stops.items c.args.node c.first_unlisted-stop.result) c.args.self.now.waiters keys pending)
      (sym c.in_ok-insert.ensures.keys)
      (look_ready c.args.first_node nets c.args.is_listed.now c.args.self.now.stops.items c.args.self.now.waiters c.args.self.now.ready.keys pending
      c.args.node c.first_unlisted-stop.result (omega (arith, c.requires.node, many)) c.requires.unlisted passed search
      (omega (arith, ap length here, long, c.if-stop-reads.false)));
}

pub add-requires : goal.add-requires
add-requires c =
    let nets = nets_of c.args.nodes.now in
    let many = length-map c.args.nodes.now (λ n. n.reads) in
    let reads = c.reads-reads.result.now in
    let stop = c.first_unlisted-stop.result in
    let here = nets_at c.args.nodes.now reads c.args.node c.requires.node c.reads-reads.ensures.reads in
    let stopped = subst (λ net. is_passed c.args.first_node c.args.is_listed.now net ≡ false) (number_at reads stop c.if-stop-reads.true) (c.first_unlisted-stop.ensures.stopped c.if-stop-reads.true) in
    let waits = waits_at c.args.first_node nets c.args.is_listed.now c.args.node stop reads c.requires.within (omega (arith, c.requires.node, many)) here c.if-stop-reads.true stopped in
    record { within = omega (arith, waits.inside, many, c.requires.waiters_sized) }

pub returns-in_ok-add : goal.returns-in_ok-add
returns-in_ok-add c = record {
  search = λ pending search.
      let base = c.args.first_node in
      let nets = nets_of c.args.nodes.now in
      let marks = c.args.is_listed.now in
      let many = length-map c.args.nodes.now (λ n. n.reads) in
      let reads = c.reads-reads.result.now in
      let long = length-map reads (λ net. net.number) in
      let stop = c.first_unlisted-stop.result in
      let node_in : c.args.node < length nets = omega (arith, c.requires.node, many) in
      let here = nets_at c.args.nodes.now reads c.args.node c.requires.node c.reads-reads.ensures.reads in
      let passed = passed_in base nets marks c.args.self.now.stops.items (net_numbers reads) c.args.node c.index.result.now stop
      (omega (arith, c.requires.node, c.requires.stops_sized)) c.index.ensures here
      (λ pin after before inside. c.first_unlisted-stop.ensures.passed pin after before (omega (arith, inside, long))) in
      let stopped = subst (λ net. is_passed base marks net ≡ false) (number_at reads stop c.if-stop-reads.true) (c.first_unlisted-stop.ensures.stopped c.if-stop-reads.true) in
      let waits = waits_at base nets marks c.args.node stop reads c.requires.within node_in here c.if-stop-reads.true stopped in
      subst (λ waiters. IsSearch base nets marks (slice_set c.args.self.now.stops.items c.args.node stop) waiters c.args.self.now.ready.keys pending)
      (sym c.in_ok-add.ensures.added)
      (look_waits base nets marks c.args.self.now.stops.items c.args.self.now.waiters c.args.self.now.ready.keys pending
      c.args.node stop node_in c.requires.unlisted passed search _ waits.before waits.is waits.inside waits.unmarked);
}
