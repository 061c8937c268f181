use Rattle.std.proofs.Common.{◌≡◌, false, ◌+◌, ◌<◌, ◌∷◌, ◌++◌, [], Bool, ℕ, List, cond, length, arith, sym, ap, subst, length-append, ◌∙◌}
use Rattle.std.proofs.lemmas.Result.{on_err_weaker, on_ok_weaker}
use Rattle.tsc_text.specs.declared.places.Place.{Place}
use Rattle.tsc_text.specs.Kept.{IsTable, byte_of, kept_from, last_kept}
use Rattle.tsc_text.specs.Row.{KeptLine}
use Rattle.tsc_text.specs.Table.{Table}
use Rattle.tsc_text.proofs.JumpLines.{in_any_case}
use Rattle.tsc_text.proofs.KeptWords.{kept_from-last, length-byte_of}
use Rattle.tsc_text.proofs.LineTables.{held, is-held, is-kept, is-pushed, kept-few, pushed, table_of}
use Rattle.tsc_text.proofs.line_table.LineTable.push_word.Goals as goal

-- so many places are kept then
size : (kept new : List Place) (has_byte : Bool) → new ≡ kept ++ byte_of kept (length kept) has_byte → length new ≡ length kept + cond has_byte 1 0
size kept new has_byte e =
    ap length e ∙ length-append kept (byte_of kept (length kept) has_byte) ∙ ap (λ (n : ℕ). length kept + n) (length-byte_of kept (length kept) has_byte)

-- and fewer than the text has bytes
few : (kept new : List Place) (has_byte : Bool) (lines : List KeptLine) (table : Table) → table_of kept has_byte lines ≡ table → IsTable kept has_byte lines
    → new ≡ kept ++ byte_of kept (length kept) has_byte → length table.places < 67108864 → length new < 67108864
few kept new has_byte lines table view k e h = omega (arith, size kept new has_byte e, kept-few kept has_byte lines table view k)

last : (lines : List KeptLine) (count from past : ℕ) → from ≡ kept_from 0 lines count → count ≡ length lines → from < past → last_kept 0 lines < past
last lines count from past e f lt = omega (arith, e ∙ ap (kept_from 0 lines) f ∙ kept_from-last 0 lines)

pub keep_byte-requires-clause-few : goal.keep_byte-requires-clause-few
keep_byte-requires-clause-few c =
    let s = c.self.inside in
    omega (arith, kept-few s.kept s.has_byte s.lines c.args.self.now c.self.view_is c.self.invariant)

pub invariant_of-self-then-self : goal.invariant_of-self-then-self
invariant_of-self-then-self c =
    let s = c.self.inside in
    let new = c.keep_byte.new.kept in
    let small : length new < 67108864 = few s.kept new s.has_byte s.lines c.args.self.now c.self.view_is c.self.invariant c.in_ok-keep_byte.ensures.ok c.requires.few in
    let kept : IsTable new false s.lines = is-kept s.kept new s.has_byte s.lines c.self.invariant c.in_ok-keep_byte.ensures.ok (omega arith) in
    let lt : last_kept 0 s.lines < length new = last s.lines c.len.result c.from-from.result (length new) c.from-from.ensures.from c.len.ensures.count (c.is_byte_behind-self-inside.ensures.some c.if-self.true) in
    subst (λ (b : Bool). IsTable new b s.lines) (sym c.if-self.true) (is-held new s.lines c.args.place kept c.requires.room lt (c.is_byte_behind-self-inside.ensures.behind c.if-self.true))

pub returns-then-self : goal.returns-then-self
returns-then-self c =
    let s = c.self.inside in
    let new = c.keep_byte.new.kept in
    record {
      ok = ap (λ (b : Bool). table_of new b s.lines) c.if-self.true
          ∙ held s.kept new s.has_byte s.lines c.args.self.now c.args.place c.self.view_is c.self.invariant c.in_ok-keep_byte.ensures.ok (c.is_byte_behind-self-inside.ensures.behind c.if-self.true);
    }

pub push-requires-clause-few : goal.push-requires-clause-few
push-requires-clause-few c =
    let s = c.self.inside in
    few s.kept c.keep_byte.new.kept s.has_byte s.lines c.args.self.now c.self.view_is c.self.invariant c.in_ok-keep_byte.ensures.ok c.requires.few

pub invariant_of-self-2 : goal.invariant_of-self-2
invariant_of-self-2 c =
    let s = c.self.inside in
    let new = c.keep_byte.new.kept in
    let small : length new < 67108864 = few s.kept new s.has_byte s.lines c.args.self.now c.self.view_is c.self.invariant c.in_ok-keep_byte.ensures.ok c.requires.few in
    let kept : IsTable new false s.lines = is-kept s.kept new s.has_byte s.lines c.self.invariant c.in_ok-keep_byte.ensures.ok (omega arith) in
    let all : IsTable c.push.new.self false s.lines =
    in_any_case c.push.result
    (on_ok_weaker c.push.result (λ e. is-pushed new c.push.new.self s.lines c.args.place kept e c.requires.room (omega (arith, ap length e ∙ length-append new (c.args.place ∷ [])))) c.push.ensures.ok)
    (on_err_weaker c.push.result (λ e. subst (λ (ps : List Place). IsTable ps false s.lines) (sym e) kept) c.push.ensures.err) in
    subst (λ (b : Bool). IsTable c.push.new.self b s.lines) (sym c.if-self.false) all

pub returns : goal.returns
returns c =
    let s = c.self.inside in
    let new = c.keep_byte.new.kept in
    let small : length new < 67108864 = few s.kept new s.has_byte s.lines c.args.self.now c.self.view_is c.self.invariant c.in_ok-keep_byte.ensures.ok c.requires.few in
    let kept : IsTable new false s.lines = is-kept s.kept new s.has_byte s.lines c.self.invariant c.in_ok-keep_byte.ensures.ok (omega arith) in
    record {
      ok = on_ok_weaker c.push.result (λ e. ap (λ (b : Bool). table_of c.push.new.self b s.lines) c.if-self.false
          ∙ pushed s.kept new c.push.new.self s.has_byte s.lines c.args.self.now c.args.place c.self.view_is c.self.invariant c.in_ok-keep_byte.ensures.ok kept e) c.push.ensures.ok;
    }
