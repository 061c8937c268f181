use Rattle.std.proofs.Common.{rules, arith, ◌≡◌, ◌+◌, subst, sym, get_or, true}
use Rattle.tsc_text.specs.declared.scan.Scan.{Scan}
use Rattle.tsc_text.specs.Bytes.{is_allowed}
use Rattle.tsc_text.specs.Scan.{step}
use Rattle.tsc_text.proofs.Within.{IsRead, read-step}
use Rattle.tsc_text.proofs.reading.scan_bytes.Goals as goal

pub loop-at-preserved : goal.loop-at-preserved
loop-at-preserved c =
    let P : Scan → Type 0 = λ s. IsRead c.args.text.now (c.loop-at.at + 1) s in
    let e : c.step.new.self ≡ step c.loop-at.scan c.loop-at.at (get_or c.args.text.now c.loop-at.at 0) = search rules in
    let allowed : is_allowed (get_or c.args.text.now c.loop-at.at 0) ≡ true = search rules in
    subst P (sym e) (read-step _ _ _ _ (omega arith) (search rules) allowed c.loop-at.invariant)
