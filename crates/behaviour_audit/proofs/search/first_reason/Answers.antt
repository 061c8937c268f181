use Rattle.std.proofs.Common.{◌≡◌, ℕ, ◌*◌, ◌≤◌, true, arith, rules}
use Rattle.std.specs.Option.{is_some}
use Rattle.behaviour_audit.proofs.SearchLemmas.{found_in_all}
use Rattle.behaviour_audit.proofs.search.first_reason.Goals as goal

pub returns-then-is_some-clause-first : goal.returns-then-is_some-clause-first
returns-then-is_some-clause-first c =
    let past : ℕ = c.min-past.result in
    let inside : past ≤ c.args.count = omega arith in
    let some : is_some c.reason_in_batch-found.result ≡ true = search rules in
    found_in_all c.args.condition c.args.audited.now c.args.count (c.loop-batch.batch * 1024) past c.reason_in_batch-found.result some inside
    c.reason_in_batch-found.ensures.first c.loop-batch.invariant.none
