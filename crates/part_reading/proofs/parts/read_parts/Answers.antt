-- The first section is read, then the others in order.
use Rattle.std.proofs.Common.{◌<◌, ◌≤◌, length, arith}
use Rattle.std.proofs.lemmas.Result.{err_from_is_err_and}
use Rattle.part_reading.proofs.PartLemmas.{all_allowed, all_read, first_read, first_refused, next_read, next_refused, next_rises}
use Rattle.part_reading.proofs.parts.read_parts.Goals as goal

pub returns-in_err-push_part-clause-refused : goal.returns-in_err-push_part-clause-refused
returns-in_err-push_part-clause-refused c =
    let p = err_from_is_err_and c.from_residual.result c.from_residual.ensures.1 in rw (p.1, p.2) (
    first_refused c.args.lines.now c.new-parts.result c.in_err-push_part.field-0.0 c.new-parts.ensures.empty c.in_err-push_part.ensures.refused)

pub loop-from-init : goal.loop-from-init
loop-from-init c =
    first_read c.args.lines.now c.behind_first-from.result c.new-parts.result c.push_part.new.parts c.behind_first-from.ensures.behind c.behind_first-from.ensures.within
    c.new-parts.ensures.empty c.in_ok-push_part.ensures.added c.in_ok-push_part.ensures.allowed c.in_ok-push_part.ensures.planned

pub returns-in_err-push_part-2-clause-refused : goal.returns-in_err-push_part-2-clause-refused
returns-in_err-push_part-2-clause-refused c =
    let there : c.loop-from.from < length c.args.lines.now = omega (arith, c.loop-from-test.true, c.len.ensures.count) in
    let p = err_from_is_err_and c.from_residual-in_err-push_part-2.result c.from_residual-in_err-push_part-2.ensures.1 in rw (p.1, p.2) (
    next_refused c.args.lines.now c.loop-from.from c.loop-from.parts c.in_err-push_part-2.field-0.0 there c.loop-from.invariant c.in_err-push_part-2.ensures.refused)

pub loop-from-preserved : goal.loop-from-preserved
loop-from-preserved c =
    let there : c.loop-from.from < length c.args.lines.now = omega (arith, c.loop-from-test.true, c.len.ensures.count) in
    next_read c.args.lines.now c.loop-from.from c.section-from.result c.loop-from.parts c.push_part-in-loop-from.new.parts there c.section-from.ensures.section
    c.loop-from.invariant c.in_ok-push_part-2.ensures.added c.in_ok-push_part-2.ensures.allowed c.in_ok-push_part-2.ensures.planned

pub returns-clause-exact : goal.returns-clause-exact
returns-clause-exact c =
    let past : length c.args.lines.now ≤ c.loop-from.from = omega (arith, c.loop-from-test.false, c.len.ensures.count) in
    all_read c.args.lines.now c.loop-from.from c.loop-from.parts past c.loop-from.invariant

pub returns-clause-allowed : goal.returns-clause-allowed
returns-clause-allowed c =
    let past : length c.args.lines.now ≤ c.loop-from.from = omega (arith, c.loop-from-test.false, c.len.ensures.count) in
    all_allowed c.args.lines.now c.loop-from.from c.loop-from.parts past c.loop-from.invariant

pub loop-from-smaller : goal.loop-from-smaller
loop-from-smaller c =
    let there : c.loop-from.from < length c.args.lines.now = omega (arith, c.loop-from-test.true, c.len.ensures.count) in
    let rises = next_rises c.args.lines.now c.loop-from.from c.section-from.result c.section-from.ensures.section there in
    omega (arith, rises, there)
