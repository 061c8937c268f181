-- One mark more.
use Rattle.std.proofs.Common.{◌≡◌, ◌<◌, ◌≤◌, ◌+◌, ◌++◌, ◌∷◌, [], false, get_or, take, drop, length, slice_index, slice_index_or, slice_set, refl, sym, ap, ◌∙◌, subst, arith}
use Rattle.std.proofs.lemmas.List.{map_more, length-take-le, length-map}
use Rattle.std.proofs.lemmas.List.Elements.{All-get_or}
use Rattle.tsc_net.specs.Names.{has_text}
use Rattle.tsc_net.specs.PartsView.{text_of, texts_of, IsName}
use Rattle.tsc_net.specs.NetFault.{repeat_after}
use Rattle.tsc_net.specs.inner.NetNames.{AreMarks}
use Rattle.tsc_net.specs.declared.ids.Name.{Name}
use Rattle.tsc_net.proofs.BuildLemmas.{map_drop, repeat-new}
use Rattle.tsc_net.proofs.MarkLemmas.{unmarked, marks-with}
use Rattle.tsc_net.proofs.MarkNumbers.{AreOnce, once-few, once-marked}
use Rattle.tsc_net.proofs.net_names.marks_of.Goals as goal
use Rattle.tsc_net.proofs.net_names.marks_of.Goals.{After-index}

-- the name at hand has no mark
clear_mark : (c : After-index) → c.index.result.now ≡ 0
    → slice_index c.loop-place.marks.items (get_or c.args.list.now c.loop-place.place (record { number = 0 })).number ≡ 0
clear_mark c none = ap (slice_index_or c.loop-place.marks.items (get_or c.args.list.now c.loop-place.place (record { number = 0 })).number) (sym none) ∙ sym c.index.ensures ∙ none

-- so the names with this one are different ones
once_more : (c : After-index) → c.index.result.now ≡ 0 → AreOnce c.args.list.now (c.loop-place.place + 1)
once_more c none =
    once-marked c.args.names.now c.args.list.now c.loop-place.marks.items c.loop-place.place c.requires.names c.loop-place-test.true c.loop-place.invariant.marks (clear_mark c none) c.loop-place.invariant.once

-- and not more than there are names
few_more : (c : After-index) → c.index.result.now ≡ 0 → c.loop-place.place + 1 ≤ length c.args.names.now
few_more c none =
    let within : c.loop-place.place < length c.args.list.now = c.loop-place-test.true in
    once-few c.args.names.now c.args.list.now (c.loop-place.place + 1) c.requires.names (omega arith) (once_more c none)

pub loop-place-preserved : goal.loop-place-preserved
loop-place-preserved c =
    let names = c.args.names.now in
    let list = c.args.list.now in
    let marks = c.loop-place.marks.items in
    let i = c.loop-place.place in
    let at = (goal.at.loop-place-preserved c).After-index in
    let none : Name = record { number = 0 } in
    let name : Name = get_or list i none in
    let within : i < length list = c.loop-place-test.true in
    let known : name.number < length names = All-get_or (IsName names) list i none within c.requires.names in
    let clear = clear_mark at c.if-index-ne0.false in
    let seen = texts_of names (take i list) in
    let more : texts_of names (take (i + 1) list) ≡ seen ++ text_of names name ∷ [] = map_more (text_of names) list i none within in
    let counted : i + 1 ≡ length seen + 1 = omega (arith, length-map (take i list) (text_of names), length-take-le i list (omega arith)) in
    let is_new : has_text seen (text_of names name) ≡ false =
    unmarked seen (text_of names name) (sym (c.loop-place.invariant.marks.marked name.number known) ∙ clear) in
    let rest = texts_of names (drop (i + 1) list) in
    record {
      marks = subst (λ texts. AreMarks names texts (slice_set marks name.number (i + 1))) (sym more)
          (marks-with names seen marks c.len.ensures.numbering c.loop-place.invariant.marks name.number (i + 1) known clear counted);
      once = once_more at c.if-index-ne0.false;
      repeats = ap (λ texts. repeat_after texts rest) more ∙ sym (repeat-new seen rest (text_of names name) is_new)
          ∙ ap (repeat_after seen) (sym (map_drop (text_of names) list i name none within refl)) ∙ c.loop-place.invariant.repeats;
    }

pub overflow_cast-place : goal.overflow_cast-place
overflow_cast-place c =
    let few = few_more (goal.at.overflow_cast-place c).After-index c.if-index-ne0.false in
    let room = c.requires.room in
    omega arith

pub overflow_add-place : goal.overflow_add-place
overflow_add-place c =
    let few = few_more (goal.at.overflow_add-place c).After-index c.if-index-ne0.false in
    let room = c.requires.room in
    omega arith

pub returns-clause-few : goal.returns-clause-few
returns-clause-few c =
    let names = c.args.names.now in
    let list = c.args.list.now in
    let i = c.loop-place.place in
    let most = c.loop-place.auto.place-end in
    let few : i ≤ length names = once-few names list i c.requires.names (omega arith) c.loop-place.invariant.once in
    let room = c.requires.room in
    let past = c.loop-place-test.false in
    omega arith
