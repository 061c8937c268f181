use Rattle.std.proofs.Common.{◌+◌, ◌-◌, ◌<◌, ◌≤◌, ℕ, arith, get_or, length, rules, subst, sym, ap, ◌∙◌}
use Rattle.std.proofs.lemmas.List.{get_or_default}
use Rattle.tsc_text.specs.declared.places.Place.{Place}
use Rattle.tsc_text.specs.Kept.{behind, kept_from}
use Rattle.tsc_text.specs.Row.{the_kept}
use Rattle.tsc_text.proofs.KeptWords.{HasPlaces, one-byte}
use Rattle.tsc_text.proofs.LineTables.{line-below, row-kept, row-places, row-told, row-words}
use Rattle.tsc_text.proofs.line_table.LineTable.place.Goals as goal

pub from-from-requires : goal.from-from-requires
from-from-requires c = let below : c.args.line < length c.self.inside.lines = line-below c.self.inside.kept c.self.inside.has_byte c.self.inside.lines c.args.self.now c.args.line c.self.view_is c.requires.line in omega arith

pub past-past-requires : goal.past-past-requires
past-past-requires c = line-below c.self.inside.kept c.self.inside.has_byte c.self.inside.lines c.args.self.now c.args.line c.self.view_is c.requires.line

pub overflow_add-from : goal.overflow_add-from
overflow_add-from c =
    let has : HasPlaces (kept_from 0 c.self.inside.lines c.args.line) (the_kept c.self.inside.lines c.args.line).mark.past (length c.self.inside.kept) =
    row-places c.self.inside.kept c.self.inside.has_byte c.self.inside.lines c.args.self.now c.args.line c.self.view_is c.self.invariant c.requires.line in
    let small : c.from-from.result + c.args.place < 18446744073709551616 =
    omega (
      arith,
      has.rises,
      has.within,
      c.self.invariant.few,
      c.from-from.ensures.from,
      one-byte (the_kept c.self.inside.lines c.args.line).mark.has_byte,
      row-words c.self.inside.kept c.self.inside.has_byte c.self.inside.lines c.args.self.now c.args.line c.self.view_is c.requires.line,
    ) in
    search rules

pub get-requires : goal.get-requires
get-requires c =
    let has : HasPlaces (kept_from 0 c.self.inside.lines c.args.line) (the_kept c.self.inside.lines c.args.line).mark.past (length c.self.inside.kept) =
    row-places c.self.inside.kept c.self.inside.has_byte c.self.inside.lines c.args.self.now c.args.line c.self.view_is c.self.invariant c.requires.line in
    omega (arith, has.within, c.past-past.ensures.past, c.if-from-place.true)

pub overflow_sub-past : goal.overflow_sub-past
overflow_sub-past c =
    let has : HasPlaces (kept_from 0 c.self.inside.lines c.args.line) (the_kept c.self.inside.lines c.args.line).mark.past (length c.self.inside.kept) =
    row-places c.self.inside.kept c.self.inside.has_byte c.self.inside.lines c.args.self.now c.args.line c.self.view_is c.self.invariant c.requires.line in
    omega (arith, has.rises, c.past-past.ensures.past)

pub get-requires-else-from-place : goal.get-requires-else-from-place
get-requires-else-from-place c =
    let has : HasPlaces (kept_from 0 c.self.inside.lines c.args.line) (the_kept c.self.inside.lines c.args.line).mark.past (length c.self.inside.kept) =
    row-places c.self.inside.kept c.self.inside.has_byte c.self.inside.lines c.args.self.now c.args.line c.self.view_is c.self.invariant c.requires.line in
    omega (arith, has.rises, has.within, c.past-past.ensures.past)

pub byte_behind-requires : goal.byte_behind-requires
byte_behind-requires c =
    let has : HasPlaces (kept_from 0 c.self.inside.lines c.args.line) (the_kept c.self.inside.lines c.args.line).mark.past (length c.self.inside.kept) =
    row-places c.self.inside.kept c.self.inside.has_byte c.self.inside.lines c.args.self.now c.args.line c.self.view_is c.self.invariant c.requires.line in
    let below : c.past-past.result - 1 < length c.self.inside.kept = omega (arith, has.rises, has.within, c.past-past.ensures.past) in
    record {
      low = subst (λ (p : Place). p.past ≤ 67108864) (sym c.get-else-from-place.ensures.item) (c.self.invariant.low (c.past-past.result - 1) c.get-else-from-place.result below);
    }

pub returns-then-from-place : goal.returns-then-from-place
returns-then-from-place c =
    let s = c.self.inside in
    let lt : kept_from 0 s.lines c.args.line + c.args.place < (the_kept s.lines c.args.line).mark.past = omega (arith, c.from-from.ensures.from, c.past-past.ensures.past, c.if-from-place.true) in
    record {
      item = c.get.ensures.item ∙ ap (λ (n : ℕ). get_or s.kept (n + c.args.place) c.get.result) c.from-from.ensures.from
          ∙ sym (row-kept c.self.inside.kept c.self.inside.has_byte c.self.inside.lines c.args.self.now c.args.line c.args.place c.get.result c.self.view_is c.self.invariant c.requires.line c.requires.place lt);
    }

pub returns-else-from-place : goal.returns-else-from-place
returns-else-from-place c =
    let s = c.self.inside in
    let none : Place = record { start = 0; past = 0 } in
    let past : ℕ = (the_kept s.lines c.args.line).mark.past in
    let has : HasPlaces (kept_from 0 s.lines c.args.line) past (length s.kept) = row-places c.self.inside.kept c.self.inside.has_byte c.self.inside.lines c.args.self.now c.args.line c.self.view_is c.self.invariant c.requires.line in
    let ge : past ≤ kept_from 0 s.lines c.args.line + c.args.place = omega (arith, c.from-from.ensures.from, c.past-past.ensures.past, c.if-from-place.false) in
    record {
      item = c.byte_behind.ensures.behind
          ∙ ap behind (c.get-else-from-place.ensures.item ∙ ap (λ (n : ℕ). get_or s.kept (n - 1) c.get-else-from-place.result) c.past-past.ensures.past
          ∙ get_or_default s.kept (past - 1) c.get-else-from-place.result none (omega (arith, has.rises, has.within)))
          ∙ sym (row-told c.self.inside.kept c.self.inside.has_byte c.self.inside.lines c.args.self.now c.args.line c.args.place c.byte_behind.result c.self.view_is c.self.invariant c.requires.line c.requires.place ge);
    }
