-- The first pin that reads the net of an unlisted node is that of the blocker.
use Rattle.std.proofs.Common.{◌≡◌, ◌∙◌, ◌<◌, ◌-◌, sym, ap, subst, All, length, false, [], arith}
use Rattle.std.proofs.lemmas.List.{length-map}
use Rattle.tsc_net.specs.Order.{fan_in, blocker, evaluation_order}
use Rattle.tsc_net.specs.PlanView.{net_numbers}
use Rattle.tsc_net.specs.inner.OrderSearch.{nets_of, fans_over, is_passed}
use Rattle.tsc_net.proofs.OrderSearchLemmas.{fan_seen, fans_many, nets_at, number_at, reads_within, waits_at}
use Rattle.tsc_net.proofs.RingLemmas.{blocker_from, blocker_passed}
use Rattle.tsc_net.proofs.ring.blocker_of.Goals as goal

pub first_unlisted-stop-requires : goal.first_unlisted-stop-requires
first_unlisted-stop-requires c = record {
  within = reads_within c.args.first_node c.args.nodes.now c.reads-reads.result.now c.args.node (length c.args.is_listed.now)
      c.requires.within c.requires.node c.reads-reads.ensures.reads (c.requires.marked.sized ∙ fans_many c.args.first_node c.args.nodes.now);
}

pub returns-then-stop-reads-clause-blocker : goal.returns-then-stop-reads-clause-blocker
returns-then-stop-reads-clause-blocker c =
    let base = c.args.first_node in
    let fans = fans_over base (nets_of c.args.nodes.now) in
    let reads = c.reads-reads.result.now in
    let stop = c.first_unlisted-stop.result in
    let seen = fan_seen base c.args.nodes.now reads c.args.node c.requires.node c.reads-reads.ensures.reads in
    let within : All (λ k. k < length fans) (fan_in base (net_numbers reads)) =
    subst (All (λ k. k < length fans)) (sym seen) (c.requires.within c.args.node [] (omega (arith, c.requires.node, fans_many base c.args.nodes.now))) in
    let long = length-map reads (λ net. net.number) in
    ap (λ net. net - base) (sym (number_at reads stop c.if-stop-reads.true))
    ∙ blocker_from base c.args.is_listed.now (evaluation_order fans) (length fans) (net_numbers reads) stop c.requires.marked.marked within
    (omega (arith, c.if-stop-reads.true, long))
    (λ pin below. c.first_unlisted-stop.ensures.passed pin (omega arith) below (omega (arith, below, c.if-stop-reads.true)))
    (c.first_unlisted-stop.ensures.stopped c.if-stop-reads.true)
    ∙ ap (blocker (evaluation_order fans)) seen

pub returns-then-stop-reads-clause-within : goal.returns-then-stop-reads-clause-within
returns-then-stop-reads-clause-within c =
    let base = c.args.first_node in
    let nodes = c.args.nodes.now in
    let reads = c.reads-reads.result.now in
    let stop = c.first_unlisted-stop.result in
    let many = length-map nodes (λ n. n.reads) in
    let here = nets_at nodes reads c.args.node c.requires.node c.reads-reads.ensures.reads in
    let stopped = subst (λ net. is_passed base c.args.is_listed.now net ≡ false) (number_at reads stop c.if-stop-reads.true) (c.first_unlisted-stop.ensures.stopped c.if-stop-reads.true) in
    let waits = waits_at base (nets_of nodes) c.args.is_listed.now c.args.node stop reads c.requires.within (omega (arith, c.requires.node, many)) here c.if-stop-reads.true stopped in
    omega (arith, waits.inside, many)

pub returns-else-stop-reads-clause-blocker : goal.returns-else-stop-reads-clause-blocker
returns-else-stop-reads-clause-blocker c =
    let base = c.args.first_node in
    let fans = fans_over base (nets_of c.args.nodes.now) in
    let reads = c.reads-reads.result.now in
    let seen = fan_seen base c.args.nodes.now reads c.args.node c.requires.node c.reads-reads.ensures.reads in
    let within : All (λ k. k < length fans) (fan_in base (net_numbers reads)) =
    subst (All (λ k. k < length fans)) (sym seen) (c.requires.within c.args.node [] (omega (arith, c.requires.node, fans_many base c.args.nodes.now))) in
    let long = length-map reads (λ net. net.number) in
    blocker_passed base c.args.is_listed.now (evaluation_order fans) (length fans) (net_numbers reads) c.requires.marked.marked within
    (λ pin h. c.first_unlisted-stop.ensures.passed pin (omega arith) (omega (arith, h, long, c.if-stop-reads.false)) (omega (arith, h, long)))
    ∙ ap (blocker (evaluation_order fans)) seen
