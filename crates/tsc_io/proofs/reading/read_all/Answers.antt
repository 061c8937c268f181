use Rattle.std.proofs.Common.{ap, Err}
use Rattle.std.proofs.lemmas.Result.{err_from_is_err_and}
use Rattle.std.proofs.KnownBytes.{Consumes-trans}
use Rattle.tsc_io.proofs.ReadingLemmas.{CameMore-after}
use Rattle.tsc_io.proofs.reading.read_all.Goals as goal

pub returns-in_err-count-clause-too_long : goal.returns-in_err-count-clause-too_long
returns-in_err-count-clause-too_long g c =
    let refused = c.in_err-count.ensures.refused in
    let p = err_from_is_err_and c.from_residual.result c.from_residual.ensures.1 in
    rw (p.1, p.2) (λ told.
    let decides = CameMore-after _ _ _ _ _ refused.0 _ c.loop-held.invariant.came refused.1 refused.2 told in
    (λ same. decides.0 (cc), λ more. ap Err (decides.1 more)))

pub returns-in_err-count-clause-came : goal.returns-in_err-count-clause-came
returns-in_err-count-clause-came g c =
    let refused = c.in_err-count.ensures.refused in
    (_, Consumes-trans _ _ _ _ refused.0 c.loop-held.invariant.came refused.1)
