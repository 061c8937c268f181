use Rattle.std.proofs.Common.{◌<◌, ◌∙◌, None, sym, length, arith}
use Rattle.std.proofs.lemmas.List.{get_or_read}
use Rattle.code_checkers.proofs.Visits.{visit_noted, visit_word, visit_buf, visit_not, visit_and, visit_or, visit_xor}
use Rattle.code_checkers.proofs.shared.+visit.Goals as goal

pub returns-in-Some-clause-visited : goal.returns-in-Some-clause-visited
returns-in-Some-clause-visited t c =
    let places = c.args.shared.now.places.items in
    let within : c.args.place < length places = omega (arith, c.requires.shares.sized, c.requires.place) in
    visit_noted c.args.draft.now c.args.shared.now.gates.keys places c.args.place c.in-Some.there c.requires.shares c.requires.place
    (sym (get_or_read places c.args.place c.index.result.now within c.index.ensures None) ∙ c.in-Some.is)

pub returns-in_ok-there-in-Word-clause-visited : goal.returns-in_ok-there-in-Word-clause-visited
returns-in_ok-there-in-Word-clause-visited t c =
    (visit_word c.args.draft.now c.args.shared.now.gates.keys c.write.new.shared.gates.keys c.args.shared.now.places.items c.write.new.shared.places.items c.args.place c.in_ok-there-in-Word.there c.in-Word.word
    c.requires.ordered c.requires.shares c.requires.place c.in-Word.is c.in_ok-there-in-Word.ensures.gates c.in_ok-there-in-Word.ensures.stored c.in_ok-there-in-Word.ensures.noted).0

pub returns-in_ok-there-in-Word-clause-shares : goal.returns-in_ok-there-in-Word-clause-shares
returns-in_ok-there-in-Word-clause-shares t c =
    (visit_word c.args.draft.now c.args.shared.now.gates.keys c.write.new.shared.gates.keys c.args.shared.now.places.items c.write.new.shared.places.items c.args.place c.in_ok-there-in-Word.there c.in-Word.word
    c.requires.ordered c.requires.shares c.requires.place c.in-Word.is c.in_ok-there-in-Word.ensures.gates c.in_ok-there-in-Word.ensures.stored c.in_ok-there-in-Word.ensures.noted).1

pub returns-in_ok-there-in-Buf-clause-visited : goal.returns-in_ok-there-in-Buf-clause-visited
returns-in_ok-there-in-Buf-clause-visited t c =
    (visit_buf c.args.draft.now c.args.shared.now.gates.keys c.visit.new.shared.gates.keys c.write-in-Buf.new.shared.gates.keys c.visit.new.shared.places.items c.write-in-Buf.new.shared.places.items c.args.place c.in_ok-there-in-Buf.there c.in-Buf.a c.in_ok-first-in-Buf.first
    c.requires.ordered c.in_ok-first-in-Buf.ensures.shares c.requires.place c.in-Buf.is c.in_ok-first-in-Buf.ensures.visited c.in_ok-there-in-Buf.ensures.gates c.in_ok-there-in-Buf.ensures.stored c.in_ok-there-in-Buf.ensures.noted).0

pub returns-in_ok-there-in-Buf-clause-shares : goal.returns-in_ok-there-in-Buf-clause-shares
returns-in_ok-there-in-Buf-clause-shares t c =
    (visit_buf c.args.draft.now c.args.shared.now.gates.keys c.visit.new.shared.gates.keys c.write-in-Buf.new.shared.gates.keys c.visit.new.shared.places.items c.write-in-Buf.new.shared.places.items c.args.place c.in_ok-there-in-Buf.there c.in-Buf.a c.in_ok-first-in-Buf.first
    c.requires.ordered c.in_ok-first-in-Buf.ensures.shares c.requires.place c.in-Buf.is c.in_ok-first-in-Buf.ensures.visited c.in_ok-there-in-Buf.ensures.gates c.in_ok-there-in-Buf.ensures.stored c.in_ok-there-in-Buf.ensures.noted).1

pub returns-in_ok-there-in-Not-clause-visited : goal.returns-in_ok-there-in-Not-clause-visited
returns-in_ok-there-in-Not-clause-visited t c =
    (visit_not c.args.draft.now c.args.shared.now.gates.keys c.visit-in-Not.new.shared.gates.keys c.write-in-Not.new.shared.gates.keys c.visit-in-Not.new.shared.places.items c.write-in-Not.new.shared.places.items c.args.place c.in_ok-there-in-Not.there c.in-Not.a c.in_ok-first-in-Not.first
    c.requires.ordered c.in_ok-first-in-Not.ensures.shares c.requires.place c.in-Not.is c.in_ok-first-in-Not.ensures.visited c.in_ok-there-in-Not.ensures.gates c.in_ok-there-in-Not.ensures.stored c.in_ok-there-in-Not.ensures.noted).0

pub returns-in_ok-there-in-Not-clause-shares : goal.returns-in_ok-there-in-Not-clause-shares
returns-in_ok-there-in-Not-clause-shares t c =
    (visit_not c.args.draft.now c.args.shared.now.gates.keys c.visit-in-Not.new.shared.gates.keys c.write-in-Not.new.shared.gates.keys c.visit-in-Not.new.shared.places.items c.write-in-Not.new.shared.places.items c.args.place c.in_ok-there-in-Not.there c.in-Not.a c.in_ok-first-in-Not.first
    c.requires.ordered c.in_ok-first-in-Not.ensures.shares c.requires.place c.in-Not.is c.in_ok-first-in-Not.ensures.visited c.in_ok-there-in-Not.ensures.gates c.in_ok-there-in-Not.ensures.stored c.in_ok-there-in-Not.ensures.noted).1

pub returns-in_ok-there-in-And-clause-visited : goal.returns-in_ok-there-in-And-clause-visited
returns-in_ok-there-in-And-clause-visited t c =
    (visit_and c.args.draft.now c.args.shared.now.gates.keys c.visit-in-And.new.shared.gates.keys c.visit-in-And-2.new.shared.gates.keys c.write-in-And.new.shared.gates.keys c.visit-in-And-2.new.shared.places.items c.write-in-And.new.shared.places.items c.args.place c.in_ok-there-in-And.there c.in-And.a c.in-And.b c.in_ok-first-in-And.first c.in_ok-other-in-And.other
    c.requires.ordered c.in_ok-other-in-And.ensures.shares c.requires.place c.in-And.is c.in_ok-first-in-And.ensures.visited c.in_ok-other-in-And.ensures.visited c.in_ok-there-in-And.ensures.gates c.in_ok-there-in-And.ensures.stored c.in_ok-there-in-And.ensures.noted).0

pub returns-in_ok-there-in-And-clause-shares : goal.returns-in_ok-there-in-And-clause-shares
returns-in_ok-there-in-And-clause-shares t c =
    (visit_and c.args.draft.now c.args.shared.now.gates.keys c.visit-in-And.new.shared.gates.keys c.visit-in-And-2.new.shared.gates.keys c.write-in-And.new.shared.gates.keys c.visit-in-And-2.new.shared.places.items c.write-in-And.new.shared.places.items c.args.place c.in_ok-there-in-And.there c.in-And.a c.in-And.b c.in_ok-first-in-And.first c.in_ok-other-in-And.other
    c.requires.ordered c.in_ok-other-in-And.ensures.shares c.requires.place c.in-And.is c.in_ok-first-in-And.ensures.visited c.in_ok-other-in-And.ensures.visited c.in_ok-there-in-And.ensures.gates c.in_ok-there-in-And.ensures.stored c.in_ok-there-in-And.ensures.noted).1

pub returns-in_ok-there-in-Or-clause-visited : goal.returns-in_ok-there-in-Or-clause-visited
returns-in_ok-there-in-Or-clause-visited t c =
    (visit_or c.args.draft.now c.args.shared.now.gates.keys c.visit-in-Or.new.shared.gates.keys c.visit-in-Or-2.new.shared.gates.keys c.write-in-Or.new.shared.gates.keys c.visit-in-Or-2.new.shared.places.items c.write-in-Or.new.shared.places.items c.args.place c.in_ok-there-in-Or.there c.in-Or.a c.in-Or.b c.in_ok-first-in-Or.first c.in_ok-other-in-Or.other
    c.requires.ordered c.in_ok-other-in-Or.ensures.shares c.requires.place c.in-Or.is c.in_ok-first-in-Or.ensures.visited c.in_ok-other-in-Or.ensures.visited c.in_ok-there-in-Or.ensures.gates c.in_ok-there-in-Or.ensures.stored c.in_ok-there-in-Or.ensures.noted).0

pub returns-in_ok-there-in-Or-clause-shares : goal.returns-in_ok-there-in-Or-clause-shares
returns-in_ok-there-in-Or-clause-shares t c =
    (visit_or c.args.draft.now c.args.shared.now.gates.keys c.visit-in-Or.new.shared.gates.keys c.visit-in-Or-2.new.shared.gates.keys c.write-in-Or.new.shared.gates.keys c.visit-in-Or-2.new.shared.places.items c.write-in-Or.new.shared.places.items c.args.place c.in_ok-there-in-Or.there c.in-Or.a c.in-Or.b c.in_ok-first-in-Or.first c.in_ok-other-in-Or.other
    c.requires.ordered c.in_ok-other-in-Or.ensures.shares c.requires.place c.in-Or.is c.in_ok-first-in-Or.ensures.visited c.in_ok-other-in-Or.ensures.visited c.in_ok-there-in-Or.ensures.gates c.in_ok-there-in-Or.ensures.stored c.in_ok-there-in-Or.ensures.noted).1

pub returns-in_ok-there-in-Xor-clause-visited : goal.returns-in_ok-there-in-Xor-clause-visited
returns-in_ok-there-in-Xor-clause-visited t c =
    (visit_xor c.args.draft.now c.args.shared.now.gates.keys c.visit-in-Xor.new.shared.gates.keys c.visit-in-Xor-2.new.shared.gates.keys c.write-in-Xor.new.shared.gates.keys c.visit-in-Xor-2.new.shared.places.items c.write-in-Xor.new.shared.places.items c.args.place c.in_ok-there-in-Xor.there c.in-Xor.a c.in-Xor.b c.in_ok-first-in-Xor.first c.in_ok-other-in-Xor.other
    c.requires.ordered c.in_ok-other-in-Xor.ensures.shares c.requires.place c.in-Xor.is c.in_ok-first-in-Xor.ensures.visited c.in_ok-other-in-Xor.ensures.visited c.in_ok-there-in-Xor.ensures.gates c.in_ok-there-in-Xor.ensures.stored c.in_ok-there-in-Xor.ensures.noted).0

pub returns-in_ok-there-in-Xor-clause-shares : goal.returns-in_ok-there-in-Xor-clause-shares
returns-in_ok-there-in-Xor-clause-shares t c =
    (visit_xor c.args.draft.now c.args.shared.now.gates.keys c.visit-in-Xor.new.shared.gates.keys c.visit-in-Xor-2.new.shared.gates.keys c.write-in-Xor.new.shared.gates.keys c.visit-in-Xor-2.new.shared.places.items c.write-in-Xor.new.shared.places.items c.args.place c.in_ok-there-in-Xor.there c.in-Xor.a c.in-Xor.b c.in_ok-first-in-Xor.first c.in_ok-other-in-Xor.other
    c.requires.ordered c.in_ok-other-in-Xor.ensures.shares c.requires.place c.in-Xor.is c.in_ok-first-in-Xor.ensures.visited c.in_ok-other-in-Xor.ensures.visited c.in_ok-there-in-Xor.ensures.gates c.in_ok-there-in-Xor.ensures.stored c.in_ok-there-in-Xor.ensures.noted).1
