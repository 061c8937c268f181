-- The texts of all that is driven are what the netlist by names drives.
use Rattle.std.proofs.Common.{rules, ◌≡◌, ◌<◌, ◌^◌, ◌++◌, ℕ, List, map, length, All, None, refl, sym, ap, ◌∙◌, subst}
use Rattle.std.proofs.lemmas.List.{length-map}
use Rattle.tsc_net.specs.Parts.{PartsOf}
use Rattle.tsc_net.specs.PartsView.{text_of, texts_of, parts_of, IsName}
use Rattle.tsc_net.specs.NetlistOf.{drivers}
use Rattle.tsc_net.specs.NetFault.{first_repeat}
use Rattle.tsc_net.specs.inner.NetNames.{AreMarks}
use Rattle.tsc_net.specs.inner.Build.{IsTwice}
use Rattle.tsc_net.specs.declared.ids.Name.{Name}
use Rattle.tsc_net.specs.declared.parts.LatchPart.{LatchPart}
use Rattle.tsc_net.specs.declared.parts.NodePart.{NodePart}
use Rattle.tsc_net.specs.declared.parts.Parts.TheInside.{Inside}
use Rattle.tsc_net.proofs.PartsLemmas.{texts_driven, names_driven, pins_kept}
use Rattle.tsc_net.proofs.build.driven_table.Goals as goal

-- the names of all that is driven
abbrev all_names : Inside → List Name
all_names p = (p.inputs ++ map (λ l. l.out) p.latches.items) ++ map (λ n. n.out) p.nodes.items

list_same : (p : Inside) (list a : List Name) (b : List LatchPart) (d : List NodePart) → list ≡ (a ++ map (λ l. l.out) b) ++ map (λ n. n.out) d
    → a ≡ p.inputs → b ≡ p.latches.items → d ≡ p.nodes.items → list ≡ all_names p
list_same p list a b d all e f g =
    all
    ∙ ap (λ x. (x ++ map (λ l. l.out) b) ++ map (λ n. n.out) d) e
    ∙ ap (λ (x : List LatchPart). (p.inputs ++ map (λ l. l.out) x) ++ map (λ n. n.out) d) f
    ∙ ap (λ (x : List NodePart). (p.inputs ++ map (λ l. l.out) p.latches.items) ++ map (λ n. n.out) x) g

texts : (p : Inside) (P : PartsOf) (list : List Name) → parts_of p ≡ P → list ≡ all_names p → texts_of p.names list ≡ drivers P.named
texts p P list view same = ap (texts_of p.names) same ∙ texts_driven p ∙ ap (λ (v : PartsOf). drivers v.named) view

pub returns-in_err-nets-clause-marks : goal.returns-in_err-nets-clause-marks
returns-in_err-nets-clause-marks c = search rules

pub returns-in_err-nets-clause-table : goal.returns-in_err-nets-clause-table
returns-in_err-nets-clause-table c = search rules

pub returns-in_err-nets-clause-once : goal.returns-in_err-nets-clause-once
returns-in_err-nets-clause-once c = search rules

pub returns-in_err-nets-clause-few : goal.returns-in_err-nets-clause-few
returns-in_err-nets-clause-few c = search rules

pub returns-in_err-nets-clause-pins : goal.returns-in_err-nets-clause-pins
returns-in_err-nets-clause-pins c = search rules

pub returns-in_err-nets-clause-twice : goal.returns-in_err-nets-clause-twice
returns-in_err-nets-clause-twice c = search rules

pub marks_of-requires : goal.marks_of-requires
marks_of-requires c =
    let p = c.parts.inside in
    let driven : c.in_ok-nets.nets ≡ (c.as_slice.result.now ++ map (λ l. l.out) c.deref.result.now) ++ map (λ n. n.out) c.deref-2.result.now = search rules in
    let same = list_same p c.in_ok-nets.nets c.as_slice.result.now c.deref.result.now c.deref-2.result.now driven c.as_slice.ensures.whole c.deref.ensures.value c.deref-2.ensures.value in
    record {
      room = c.parts.invariant.few;
      names = subst (All (IsName p.names)) (sym (c.as_slice-2.ensures.whole ∙ same)) (names_driven p c.parts.invariant);
    }

pub returns-in_err-marks-clause-marks : goal.returns-in_err-marks-clause-marks
returns-in_err-marks-clause-marks c = search rules

pub returns-in_err-marks-clause-table : goal.returns-in_err-marks-clause-table
returns-in_err-marks-clause-table c = search rules

pub returns-in_err-marks-clause-once : goal.returns-in_err-marks-clause-once
returns-in_err-marks-clause-once c = search rules

pub returns-in_err-marks-clause-few : goal.returns-in_err-marks-clause-few
returns-in_err-marks-clause-few c = search rules

pub returns-in_err-marks-clause-pins : goal.returns-in_err-marks-clause-pins
returns-in_err-marks-clause-pins c = search rules

pub returns-in_err-marks-clause-twice : goal.returns-in_err-marks-clause-twice
returns-in_err-marks-clause-twice c =
    let p = c.parts.inside in
    let driven : c.in_ok-nets.nets ≡ (c.as_slice.result.now ++ map (λ l. l.out) c.deref.result.now) ++ map (λ n. n.out) c.deref-2.result.now = search rules in
    let same = list_same p c.in_ok-nets.nets c.as_slice.result.now c.deref.result.now c.deref-2.result.now driven c.as_slice.ensures.whole c.deref.ensures.value c.deref-2.ensures.value in
    let twice : IsTwice (drivers c.args.parts.now.named) c.in_err-marks.field-0.0 =
    subst (λ (d : List (List ℕ)). IsTwice d c.in_err-marks.field-0.0) (texts p c.args.parts.now c.as_slice-2.result.now c.parts.view_is (c.as_slice-2.ensures.whole ∙ same)) c.in_err-marks.ensures.twice in
    search rules

pub same-nets : goal.same-nets
same-nets c = refl

pub returns-clause-marks : goal.returns-clause-marks
returns-clause-marks c =
    let p = c.parts.inside in
    let nets = c.in_ok-nets.nets in
    let marks = c.in_ok-marks.marks.items in
    let driven : c.in_ok-nets.nets ≡ (c.as_slice.result.now ++ map (λ l. l.out) c.deref.result.now) ++ map (λ n. n.out) c.deref-2.result.now = search rules in
    let same = list_same p nets c.as_slice.result.now c.deref.result.now c.deref-2.result.now driven c.as_slice.ensures.whole c.deref.ensures.value c.deref-2.ensures.value in
    record {
      within = subst (λ (v : PartsOf). All (IsName v.names) nets) c.parts.view_is (subst (All (IsName p.names)) (sym same) (names_driven p c.parts.invariant));
      marks = subst (λ (v : PartsOf). AreMarks v.names (texts_of v.names nets) marks) c.parts.view_is
          (subst (λ (list : List Name). AreMarks p.names (texts_of p.names list) marks) c.as_slice-2.ensures.whole c.in_ok-marks.ensures.marks);
      few = subst (λ (list : List Name). length list < 2 ^ 32) c.as_slice-2.ensures.whole c.in_ok-marks.ensures.few;
    }

pub returns-clause-table : goal.returns-clause-table
returns-clause-table c =
    let p = c.parts.inside in
    let nets = c.in_ok-nets.nets in
    let driven : c.in_ok-nets.nets ≡ (c.as_slice.result.now ++ map (λ l. l.out) c.deref.result.now) ++ map (λ n. n.out) c.deref-2.result.now = search rules in
    let same = list_same p nets c.as_slice.result.now c.deref.result.now c.deref-2.result.now driven c.as_slice.ensures.whole c.deref.ensures.value c.deref-2.ensures.value in
    sym (ap (λ (v : PartsOf). texts_of v.names nets) c.parts.view_is) ∙ texts p c.args.parts.now nets c.parts.view_is same

pub returns-clause-once : goal.returns-clause-once
returns-clause-once c =
    let p = c.parts.inside in
    let driven : c.in_ok-nets.nets ≡ (c.as_slice.result.now ++ map (λ l. l.out) c.deref.result.now) ++ map (λ n. n.out) c.deref-2.result.now = search rules in
    let same = list_same p c.in_ok-nets.nets c.as_slice.result.now c.deref.result.now c.deref-2.result.now driven c.as_slice.ensures.whole c.deref.ensures.value c.deref-2.ensures.value in
    subst (λ (d : List (List ℕ)). first_repeat d ≡ None) (texts p c.args.parts.now c.as_slice-2.result.now c.parts.view_is (c.as_slice-2.ensures.whole ∙ same)) c.in_ok-marks.ensures.once

pub returns-clause-few : goal.returns-clause-few
returns-clause-few c =
    let p = c.parts.inside in
    let list = c.as_slice-2.result.now in
    let driven : c.in_ok-nets.nets ≡ (c.as_slice.result.now ++ map (λ l. l.out) c.deref.result.now) ++ map (λ n. n.out) c.deref-2.result.now = search rules in
    let same = list_same p c.in_ok-nets.nets c.as_slice.result.now c.deref.result.now c.deref-2.result.now driven c.as_slice.ensures.whole c.deref.ensures.value c.deref-2.ensures.value in
    subst (λ (d : List (List ℕ)). length d < 2 ^ 32) (texts p c.args.parts.now list c.parts.view_is (c.as_slice-2.ensures.whole ∙ same))
    (subst (λ n. n < 2 ^ 32) (sym (length-map list (text_of p.names))) c.in_ok-marks.ensures.few)

pub returns-clause-pins : goal.returns-clause-pins
returns-clause-pins c =
    subst (λ (v : PartsOf). All (λ n. length n.reads ≡ n.cover.width) v.named.nodes) c.parts.view_is (pins_kept c.parts.inside c.parts.invariant)
