use Rattle.std.proofs.Common.{◌≡◌, ◌-◌, suc, sym, ap, arith, ◌∙◌}
use Rattle.tsc_text.specs.Kept.{kept_from}
use Rattle.tsc_text.specs.Row.{no_kept}
use Rattle.tsc_text.proofs.KeptWords.{kept_from-before, kept_from-first}
use Rattle.tsc_text.proofs.line_list.KeptLines.from.Goals as goal

pub returns-then-line-eq0 : goal.returns-then-line-eq0
returns-then-line-eq0 c = record { from = sym (kept_from-first 0 c.args.self.now) ∙ ap (kept_from 0 c.args.self.now) (sym c.if-line-eq0.true) }

pub returns-else-line-eq0 : goal.returns-else-line-eq0
returns-else-line-eq0 c =
    let e : suc (c.args.line - 1) ≡ c.args.line = omega (arith, c.if-line-eq0.false) in
    record {
      from = c.past.ensures.past ∙ sym (kept_from-before 0 c.args.self.now (c.args.line - 1) no_kept (omega (arith, c.if-line-eq0.false))) ∙ ap (kept_from 0 c.args.self.now) e;
    }
