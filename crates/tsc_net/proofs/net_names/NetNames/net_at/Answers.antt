-- What a mark says.
use Rattle.std.proofs.Common.{◌≡◌, ℕ, ◌<◌, List, length, slice_index_or, ◌∙◌, subst, arith}
use Rattle.std.proofs.lemmas.Grind.{get_or_default_zero}
use Rattle.tsc_net.specs.Names.{text_at}
use Rattle.tsc_net.specs.inner.NetNames.{NetNamesOf, mark_of, AreMarks, KeepsMarks}
use Rattle.tsc_net.specs.PartsView.{texts_of}
use Rattle.tsc_net.specs.declared.net_names.Driven.{Driven}
use Rattle.tsc_net.proofs.MarkLemmas.{nothing-found, net-found}
use Rattle.tsc_net.proofs.net_names.NetNames.net_at.Goals as goal

-- the mark that was read is that of the name
marked_by : (marks : List ℕ) (n seen : ℕ) (names nets : List (List ℕ)) → AreMarks names nets marks → n < length names → seen ≡ slice_index_or marks n seen
    → seen ≡ mark_of nets (text_at names n)
marked_by marks n seen names nets are within read =
    read ∙ get_or_default_zero marks n seen (omega (arith, are.sized)) ∙ are.marked n within

marks_seen : (names : List (List ℕ)) (driven : Driven) (n : NetNamesOf) → record { names = names; nets = texts_of names driven.nets } ≡ n
    → KeepsMarks names driven → AreMarks n.names n.nets driven.marks.items
marks_seen names driven n view keeps = subst (λ (v : NetNamesOf). AreMarks v.names v.nets driven.marks.items) view keeps.marks

pub returns-then-mark-eq0-clause-found : goal.returns-then-mark-eq0-clause-found
returns-then-mark-eq0-clause-found c =
    let n = c.args.self.now in
    let marks = c.self.inside.driven.marks.items in
    let are = marks_seen c.self.inside.names c.self.inside.driven n c.self.view_is c.self.invariant in
    nothing-found n.nets (text_at n.names c.args.number) c.index-mark.result.now
    (marked_by marks c.args.number c.index-mark.result.now n.names n.nets are c.requires.within c.index-mark.ensures) c.if-mark-eq0.true

pub returns-clause-found : goal.returns-clause-found
returns-clause-found c =
    let n = c.args.self.now in
    let marks = c.self.inside.driven.marks.items in
    let are = marks_seen c.self.inside.names c.self.inside.driven n c.self.view_is c.self.invariant in
    let mark_is = marked_by marks c.args.number c.index-mark.result.now n.names n.nets are c.requires.within c.index-mark.ensures in
    (net-found n.nets (text_at n.names c.args.number) c.index-mark.result.now mark_is (let some = c.if-mark-eq0.false in omega arith)).0

pub returns-clause-place : goal.returns-clause-place
returns-clause-place c =
    let n = c.args.self.now in
    let marks = c.self.inside.driven.marks.items in
    let are = marks_seen c.self.inside.names c.self.inside.driven n c.self.view_is c.self.invariant in
    let mark_is = marked_by marks c.args.number c.index-mark.result.now n.names n.nets are c.requires.within c.index-mark.ensures in
    (net-found n.nets (text_at n.names c.args.number) c.index-mark.result.now mark_is (let some = c.if-mark-eq0.false in omega arith)).1
