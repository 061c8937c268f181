use Rattle.std.proofs.Common.{◌≡◌, ℕ, Bool, true, false, ◌+◌, ◌-◌, ◌<◌, ap, arith, cond, length, refl, rules, ◌∙◌}
use Rattle.std.specs.Int.{from_bool}
use Rattle.tsc_text.specs.Kept.{kept_from}
use Rattle.tsc_text.specs.Row.{the_kept}
use Rattle.tsc_text.proofs.KeptWords.{HasPlaces, one-byte}
use Rattle.tsc_text.proofs.LineTables.{line-below, row-places, row-words}
use Rattle.tsc_text.proofs.line_table.LineTable.words.Goals as goal

-- a bit as a number
byte-is : (b has : Bool) (n : ℕ) → n ≡ from_bool b → b ≡ has → n ≡ cond has 1 0
byte-is b has n e f = e ∙ ap from_bool f ∙ of has
  where
    of : (v : Bool) → from_bool v ≡ cond v 1 0
    of true = refl
    of false = refl

pub past-requires : goal.past-requires
past-requires c = line-below c.self.inside.kept c.self.inside.has_byte c.self.inside.lines c.args.self.now c.args.line c.self.view_is c.requires

pub from-requires : goal.from-requires
from-requires c = let below : c.args.line < length c.self.inside.lines = line-below c.self.inside.kept c.self.inside.has_byte c.self.inside.lines c.args.self.now c.args.line c.self.view_is c.requires in omega arith

pub has_byte-requires : goal.has_byte-requires
has_byte-requires c = line-below c.self.inside.kept c.self.inside.has_byte c.self.inside.lines c.args.self.now c.args.line c.self.view_is c.requires

pub overflow_sub-result : goal.overflow_sub-result
overflow_sub-result c =
    let has : HasPlaces (kept_from 0 c.self.inside.lines c.args.line) (the_kept c.self.inside.lines c.args.line).mark.past (length c.self.inside.kept) =
    row-places c.self.inside.kept c.self.inside.has_byte c.self.inside.lines c.args.self.now c.args.line c.self.view_is c.self.invariant c.requires in
    omega (arith, has.rises, c.past.ensures.past, c.from.ensures.from)

pub overflow_add-result : goal.overflow_add-result
overflow_add-result c =
    let has : HasPlaces (kept_from 0 c.self.inside.lines c.args.line) (the_kept c.self.inside.lines c.args.line).mark.past (length c.self.inside.kept) =
    row-places c.self.inside.kept c.self.inside.has_byte c.self.inside.lines c.args.self.now c.args.line c.self.view_is c.self.invariant c.requires in
    let own : c.from-2.result ≡ cond (the_kept c.self.inside.lines c.args.line).mark.has_byte 1 0 = byte-is c.has_byte.result (the_kept c.self.inside.lines c.args.line).mark.has_byte c.from-2.result c.from-2.ensures c.has_byte.ensures.byte in
    let small : c.past.result - c.from.result + c.from-2.result < 18446744073709551616 =
    omega (arith, has.within, c.past.ensures.past, c.self.invariant.few, one-byte (the_kept c.self.inside.lines c.args.line).mark.has_byte) in
    search rules

pub returns : goal.returns
returns c =
    let own : c.from-2.result ≡ cond (the_kept c.self.inside.lines c.args.line).mark.has_byte 1 0 = byte-is c.has_byte.result (the_kept c.self.inside.lines c.args.line).mark.has_byte c.from-2.result c.from-2.ensures c.has_byte.ensures.byte in
    record {
      count = omega (arith, c.past.ensures.past, c.from.ensures.from, row-words c.self.inside.kept c.self.inside.has_byte c.self.inside.lines c.args.self.now c.args.line c.self.view_is c.requires);
    }
