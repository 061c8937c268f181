use Rattle.std.proofs.Common.{Bool, sym, subst}
use Rattle.tsc_bits.specs.Bits.{same}
use Rattle.diagrams.specs.Building.{StandsFor}
use Rattle.diagrams.proofs.CofactorLemmas.{of_one-same}
use Rattle.diagrams.proofs.Waits.{stands_same}
use Rattle.cover_diagrams.proofs.Steps.{Grows-made, negated_same}
use Rattle.cover_diagrams.proofs.literals.literal_row.Goals as goal

pub returns-in-Ok-clause-grown : goal.returns-in-Ok-clause-grown
returns-in-Ok-clause-grown c = Grows-made _ _ _ c.in-Ok.ensures.made

pub returns-in-Ok-clause-made : goal.returns-in-Ok-clause-made
returns-in-Ok-clause-made c = λ p fs P kept.
    c.in-Ok.ensures.made fs (of_one-same _ fs _ _ (kept c.if-wanted.false) (negated_same c.args.diagrams.now p c.args.pin c.len-rows.ensures.diagram P))

pub returns-in-Ok-clause-stands : goal.returns-in-Ok-clause-stands
returns-in-Ok-clause-stands c = λ p P.
    let grown = Grows-made c.args.diagrams.now c.combine.new.self _ c.in-Ok.ensures.made in
    let same_as = negated_same c.args.diagrams.now p c.args.pin c.len-rows.ensures.diagram P in
    subst (λ (w : Bool). StandsFor c.combine.new.self (λ x. same w (p x)) c.in-Ok.row) (sym c.if-wanted.false)
    (stands_same c.combine.new.self _ _ c.args.diagrams.now.inputs c.in-Ok.row grown.inputs same_as c.in-Ok.ensures.stands)

pub returns-in-Err-clause-grown : goal.returns-in-Err-clause-grown
returns-in-Err-clause-grown c = Grows-made _ _ _ c.in-Err.ensures.made

pub returns-in-Err-clause-made : goal.returns-in-Err-clause-made
returns-in-Err-clause-made c = λ p fs P kept.
    c.in-Err.ensures.made fs (of_one-same _ fs _ _ (kept c.if-wanted.false) (negated_same c.args.diagrams.now p c.args.pin c.len-rows.ensures.diagram P))

pub returns-in-Err-clause-short : goal.returns-in-Err-clause-short
returns-in-Err-clause-short c = λ spent p fs P kept.
    c.in-Err.ensures.short spent fs (of_one-same _ fs _ _ (kept c.if-wanted.false) (negated_same c.args.diagrams.now p c.args.pin c.len-rows.ensures.diagram P))
