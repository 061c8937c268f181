use Rattle.std.proofs.Common.{◌≡◌, ◌+◌, ◌∙◌, sym, ap, subst, arith, true≢false}
use Rattle.tsc_net.specs.Order.{fan_ins, IsOrder}
use Rattle.lane_rows.specs.Alive.{source_count}
use Rattle.lane_sim.specs.Readers.{has}
use Rattle.lane_sim.proofs.ReaderLemmas.{site_apart, site_place, place_within}
use Rattle.lane_sim.proofs.readers.Readers.mark_site.Goals as goal

pub returns-clause-apart : goal.returns-clause-apart
returns-clause-apart c = λ place below no.
    let C = c.args.net.now.circuit in
    let site = c.args.site in
    let at = c.index.result.now in
    let first = c.inputs.result + c.latches.result in
    let first_is : first ≡ source_count C = omega (arith, c.inputs.ensures.count, c.latches.ensures.count) in
    let past = c.if-site-first.false in
    let whole = subst (IsOrder (fan_ins C)) c.order-order.ensures.order c.order-order.ensures.whole in
    let is = site_place C c.args.self.now c.requires.readers site first at first_is (omega (arith, past)) c.requires.site c.index.ensures in
    site_apart C whole site at place (omega (arith, past, first_is)) c.requires.site is below
    (λ same. true≢false (sym (ap (has c.mark-2.new.self) same ∙ c.mark-2.ensures.marked) ∙ no))

pub returns-clause-before : goal.returns-clause-before
returns-clause-before c = λ place below before.
    let C = c.args.net.now.circuit in
    let site = c.args.site in
    let at = c.index.result.now in
    let first = c.inputs.result + c.latches.result in
    let first_is : first ≡ source_count C = omega (arith, c.inputs.ensures.count, c.latches.ensures.count) in
    let past = c.if-site-first.false in
    let whole = subst (IsOrder (fan_ins C)) c.order-order.ensures.order c.order-order.ensures.whole in
    let is = site_place C c.args.self.now c.requires.readers site first at first_is (omega (arith, past)) c.requires.site c.index.ensures in
    site_apart C whole site at place (omega (arith, past, first_is)) c.requires.site is below (λ same. omega (arith, same, before))

pub returns-clause-within : goal.returns-clause-within
returns-clause-within c =
    let C = c.args.net.now.circuit in
    let site = c.args.site in
    let first = c.inputs.result + c.latches.result in
    let first_is : first ≡ source_count C = omega (arith, c.inputs.ensures.count, c.latches.ensures.count) in
    let past = c.if-site-first.false in
    let whole = subst (IsOrder (fan_ins C)) c.order-order.ensures.order c.order-order.ensures.whole in
    let is = site_place C c.args.self.now c.requires.readers site first c.index.result.now first_is (omega (arith, past)) c.requires.site c.index.ensures in
    place_within C whole site c.index.result.now (omega (arith, past, first_is)) c.requires.site is
