-- The walk from blocker to blocker.
use Rattle.std.proofs.Common.{◌≡◌, ◌∙◌, sym, ap, subst, ℕ, ◌+◌, ◌-◌, ◌<◌, List, length, slice_set, slice_index, slice_index_or, drop, arith}
use Rattle.std.proofs.lemmas.List.{length_push, get_or_read}
use Rattle.std.proofs.lemmas.Result.{IfOk-weaker}
use Rattle.tsc_net.specs.Order.{ring}
use Rattle.tsc_net.specs.inner.OrderSearch.{nets_of, fans_over, IsWalk}
use Rattle.tsc_net.proofs.OrderSearchLemmas.{fans_many}
use Rattle.tsc_net.proofs.RingLemmas.{first_within, walk_begins, walk_more, path_fewer, step_within, ring_is}
use Rattle.tsc_net.proofs.ring.ring.Goals as goal

pub loop-path-init : goal.loop-path-init
loop-path-init c =
    let fans = fans_over c.args.first_node (nets_of c.args.nodes.now) in
    let at = c.first_unmarked-at.result in
    let inside : at < length fans = first_within fans c.args.is_listed.now at c.requires.marked c.requires.cut c.first_unmarked-at.ensures.within c.first_unmarked-at.ensures.passed in
    subst (λ path. IsWalk fans c.in_ok-steps.steps.items path at) (sym c.new-path.ensures.items)
    (walk_begins fans c.args.is_listed.now c.in_ok-steps.steps.items at c.requires.marked
    (c.in_ok-steps.ensures.count ∙ c.len.ensures.count ∙ sym (fans_many c.args.first_node c.args.nodes.now)) c.in_ok-steps.ensures.zero inside
    c.first_unmarked-at.ensures.passed (c.first_unmarked-at.ensures.unmarked (omega (arith, inside, c.requires.marked.sized))))

-- the step that was read
read : (fans : List (List ℕ)) (steps path : List ℕ) (at step : ℕ) → IsWalk fans steps path at → step ≡ slice_index_or steps at step → step ≡ slice_index steps at
read fans steps path at step walking e = get_or_read steps at step (omega (arith, walking.within, walking.sized)) e 0

pub loop-path-smaller : goal.loop-path-smaller
loop-path-smaller c =
    let fans = fans_over c.args.first_node (nets_of c.args.nodes.now) in
    let fresh = sym (read fans c.loop-path.steps.items c.loop-path.path.items c.loop-path.at c.index.result.now c.loop-path.invariant c.index.ensures) ∙ c.loop-path-test.true in
    let fewer = path_fewer fans c.loop-path.steps.items c.loop-path.path.items c.loop-path.at c.loop-path.invariant fresh in
    omega (arith, fewer, ap length c.in_ok-push.ensures.items, length_push c.loop-path.path.items c.loop-path.at, fans_many c.args.first_node c.args.nodes.now)

pub loop-path-preserved : goal.loop-path-preserved
loop-path-preserved c =
    let fans = fans_over c.args.first_node (nets_of c.args.nodes.now) in
    let fresh = sym (read fans c.loop-path.steps.items c.loop-path.path.items c.loop-path.at c.index.result.now c.loop-path.invariant c.index.ensures) ∙ c.loop-path-test.true in
    let count : c.len-in-loop-path.result ≡ length c.loop-path.path.items + 1 = omega (arith, c.len-in-loop-path.ensures, c.in_ok-push.ensures.len, c.loop-path.path.ok) in
    subst (λ n. IsWalk fans (slice_set c.loop-path.steps.items c.loop-path.at n) c.push.new.self.items c.blocker_of-at.result) (sym count)
    (subst (λ path. IsWalk fans (slice_set c.loop-path.steps.items c.loop-path.at (length c.loop-path.path.items + 1)) path c.blocker_of-at.result) (sym c.in_ok-push.ensures.items)
    (walk_more fans c.loop-path.steps.items c.loop-path.path.items c.loop-path.at c.loop-path.invariant fresh c.blocker_of-at.result
    (omega (arith, c.blocker_of-at.ensures.within, fans_many c.args.first_node c.args.nodes.now)) c.blocker_of-at.ensures.blocker))

pub from_step-requires-clause-within : goal.from_step-requires-clause-within
from_step-requires-clause-within c =
    let fans = fans_over c.args.first_node (nets_of c.args.nodes.now) in
    let now = read fans c.loop-path.steps.items c.loop-path.path.items c.loop-path.at c.index.result.now c.loop-path.invariant c.index.ensures in
    let same = read fans c.loop-path.steps.items c.loop-path.path.items c.loop-path.at c.index-2.result.now c.loop-path.invariant c.index-2.ensures in
    let most = step_within fans c.loop-path.steps.items c.loop-path.path.items c.loop-path.at c.loop-path.invariant (λ e. c.loop-path-test.false (now ∙ e)) in
    omega (arith, same, most, ap length c.deref.ensures.value)

pub returns : goal.returns
returns c =
    let fans = fans_over c.args.first_node (nets_of c.args.nodes.now) in
    let now = read fans c.loop-path.steps.items c.loop-path.path.items c.loop-path.at c.index.result.now c.loop-path.invariant c.index.ensures in
    let same = read fans c.loop-path.steps.items c.loop-path.path.items c.loop-path.at c.index-2.result.now c.loop-path.invariant c.index-2.ensures in
    let is = ring_is fans c.loop-path.steps.items c.loop-path.path.items c.loop-path.at c.loop-path.invariant (λ e. c.loop-path-test.false (now ∙ e)) in
    let part : drop (c.index-2.result.now - 1) c.deref.result.now ≡ ring fans = ap (λ n. drop (n - 1) c.deref.result.now) same ∙ ap (drop (slice_index c.loop-path.steps.items c.loop-path.at - 1)) c.deref.ensures.value ∙ is in
    record { ring = IfOk-weaker c.from_step.result (λ places. places.items ≡ drop (c.index-2.result.now - 1) c.deref.result.now) (λ places. places.items ≡ ring fans) (λ places e. e ∙ part) c.from_step.ensures.part }
