use Rattle.std.proofs.Common.{◌≡◌, ◌^◌, ◌<◌, List, ℕ, ap, length, rules, subst, sym, ◌∙◌}
use Rattle.tsc_text.specs.declared.scan.Scan.{Scan}
use Rattle.tsc_text.specs.Lines.{lines_of}
use Rattle.tsc_text.specs.Places.{AreWithin, IsKept, IsRising, lines_at}
use Rattle.tsc_text.specs.Scan.{scan_of}
use Rattle.tsc_text.proofs.Seen.{lines_of-scan, rising-scan, within-scan}
use Rattle.tsc_text.proofs.lines.Lines.of.Goals as goal

kept-scan : (text : List ℕ) (scan : Scan) → scan ≡ scan_of text → length scan.table.places < 2 ^ 32 → IsKept text scan.table.places scan.table.rows
kept-scan text scan f few =
    let rising : IsRising 0 scan.table.rows (length scan.table.places) = subst (λ (s : Scan). IsRising 0 s.table.rows (length s.table.places)) (sym f) (rising-scan text) in
    let within : AreWithin text scan.table.places = subst (λ (s : Scan). AreWithin text s.table.places) (sym f) (within-scan text) in
    record { rising = rising; within = within; few = few }

lines-scan : (text : List ℕ) (scan : Scan) → scan ≡ scan_of text → lines_at text scan.table.places 0 scan.table.rows ≡ lines_of text
lines-scan text scan f = ap (λ (s : Scan). lines_at text s.table.places 0 s.table.rows) f ∙ lines_of-scan text

pub invariant_of-result : goal.invariant_of-result
invariant_of-result c =
    let read : c.in_ok-scan.scan ≡ scan_of c.args.text.now = search rules in
    let few : length c.in_ok-scan.scan.table.places < 2 ^ 32 = search rules in
    kept-scan c.args.text.now c.in_ok-scan.scan read few

pub returns-clause-lines : goal.returns-clause-lines
returns-clause-lines c =
    let read : c.in_ok-scan.scan ≡ scan_of c.args.text.now = search rules in
    lines-scan c.args.text.now c.in_ok-scan.scan read
