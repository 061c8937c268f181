use Rattle.std.proofs.Common.{◌≡◌, ◌<◌, ◌≤◌, ℕ, List, ap, arith, length, rules, ◌∙◌}
use Rattle.tsc_text.specs.Places.{word_at}
use Rattle.tsc_text.specs.Row.{no_row}
use Rattle.tsc_text.specs.TextLine.{TextLine, the_line}
use Rattle.tsc_text.proofs.Lookup.{length-lines_at, length-words, seen-within, seen-word}
use Rattle.tsc_text.proofs.lines.Lines.word.Goals as goal

pub place-at-requires-clause-line : goal.place-at-requires-clause-line
place-at-requires-clause-line c = omega (arith, length-lines_at c.self.inside.text.now c.self.inside.table.places 0 c.self.inside.table.rows, ap length c.self.view_is)

pub place-at-requires-clause-place : goal.place-at-requires-clause-place
place-at-requires-clause-place c =
    let text = c.self.inside.text.now in
    let table = c.self.inside.table in
    let below : c.args.line < length table.rows = omega (arith, length-lines_at text table.places 0 table.rows, ap length c.self.view_is) in
    omega (arith, length-words text table.places table.rows c.args.line no_row c.self.invariant.rising below, ap (λ (ls : List TextLine). length (the_line ls c.args.line).words) c.self.view_is)

pub slice_bounds-result-count : goal.slice_bounds-result-count
slice_bounds-result-count c =
    (seen-within c.self.inside.text.now c.self.inside.table.places c.self.inside.table.rows c.args.self.now c.args.line c.args.place c.place-at.result c.self.view_is c.self.invariant c.requires.line c.requires.place c.place-at.ensures.item).0

pub slice_bounds-result-start : goal.slice_bounds-result-start
slice_bounds-result-start c =
    let within : (c.place-at.result.start ≤ c.place-at.result.past) × (c.place-at.result.past ≤ length c.self.inside.text.now) =
    seen-within c.self.inside.text.now c.self.inside.table.places c.self.inside.table.rows c.args.self.now c.args.line c.args.place c.place-at.result c.self.view_is c.self.invariant c.requires.line c.requires.place c.place-at.ensures.item in
    search rules

pub slice_bounds-result-end : goal.slice_bounds-result-end
slice_bounds-result-end c =
    let within : (c.place-at.result.start ≤ c.place-at.result.past) × (c.place-at.result.past ≤ length c.self.inside.text.now) =
    seen-within c.self.inside.text.now c.self.inside.table.places c.self.inside.table.rows c.args.self.now c.args.line c.args.place c.place-at.result c.self.view_is c.self.invariant c.requires.line c.requires.place c.place-at.ensures.item in
    let text : c.as_slice.result.now ≡ c.self.inside.text.now = c.as_slice.ensures.whole in
    search rules

pub returns : goal.returns
returns c =
    record {
      word = ap (λ (text : List ℕ). word_at text c.place-at.result) c.as_slice.ensures.whole
          ∙ seen-word c.self.inside.text.now c.self.inside.table.places c.self.inside.table.rows c.args.self.now c.args.line c.args.place c.place-at.result c.self.view_is c.self.invariant c.requires.line c.requires.place c.place-at.ensures.item;
    }
