use Rattle.std.proofs.Common.{◌≡◌, ◌+◌, ◌<◌, ◌≤◌, ℕ, List, length, arith, ap, ◌∙◌}
use Rattle.tsc_text.specs.Kept.{kept_from, last_kept}
use Rattle.tsc_text.specs.Row.{KeptLine, Mark, kept_line}
use Rattle.tsc_text.proofs.KeptWords.{kept-count, kept_from-last}
use Rattle.tsc_text.proofs.LineTables.{ended-none, ended-some, is-ended}
use Rattle.tsc_text.proofs.line_table.LineTable.end_line.Goals as goal

-- where the places of the open line begin
last : (lines : List KeptLine) (count from : ℕ) → from ≡ kept_from 0 lines count → count ≡ length lines → from ≡ last_kept 0 lines
last lines count from e f = e ∙ ap (kept_from 0 lines) f ∙ kept_from-last 0 lines

pub push-requires : goal.push-requires
push-requires c =
    let s = c.self.inside in
    let some : length s.lines + 0 ≤ length s.kept = kept-count 0 s.lines (length s.kept) c.self.invariant.filled in
    record { few = omega (arith, c.self.invariant.few) }

pub invariant_of-self-then-from-past : goal.invariant_of-self-then-from-past
invariant_of-self-then-from-past c =
    let s = c.self.inside in
    let from : c.from.result ≡ last_kept 0 s.lines = last s.lines c.len.result c.from.result c.from.ensures.from c.len.ensures.count in
    let lt : last_kept 0 s.lines < length s.kept = omega (arith, c.if-from-past.true) in
    is-ended s.kept s.has_byte s.lines c.push.new.self (kept_line c.args.number c.new-mark.result) c.self.invariant c.in_ok-push.ensures.ok
    (ap (λ (mark : Mark). mark.past) c.new-mark.ensures.mark ∙ c.len-past.ensures.count) lt

pub returns-in_ok-push : goal.returns-in_ok-push
returns-in_ok-push c =
    let s = c.self.inside in
    let from : c.from.result ≡ last_kept 0 s.lines = last s.lines c.len.result c.from.result c.from.ensures.from c.len.ensures.count in
    let lt : last_kept 0 s.lines < c.len-past.result = omega (arith, c.if-from-past.true) in
    record {
      ok = ended-some s.kept s.has_byte c.args.is_plan s.lines c.push.new.self c.args.self.now c.args.number c.len-past.result c.new-mark.result
          c.self.view_is c.self.invariant c.len-past.ensures.count c.new-mark.ensures.mark c.in_ok-push.ensures.ok lt;
    }

pub returns-else-from-past : goal.returns-else-from-past
returns-else-from-past c =
    let s = c.self.inside in
    let from : c.from.result ≡ last_kept 0 s.lines = last s.lines c.len.result c.from.result c.from.ensures.from c.len.ensures.count in
    let le : length s.kept ≤ last_kept 0 s.lines = omega (arith, c.if-from-past.false) in
    record { ok = ended-none s.kept s.has_byte c.args.is_plan s.lines c.args.self.now c.args.number c.self.view_is c.self.invariant le }
