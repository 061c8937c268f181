use Rattle.diagrams.proofs.Waits.{popped, Wait-cofactor, same_error}
use Rattle.diagrams.proofs.combining.advance.Goals as goal

pub resume-requires-clause-waits : goal.resume-requires-clause-waits
resume-requires-clause-waits c =
    (popped c.args.diagrams.now c.args.operation _ _ c.args.stack.now.items _ c.in-Some.waiting c.args.task c.in-Built.row c.requires.way.1.1 c.in-Built.is c.in-Some.ensures.items).1

pub resume-requires-clause-half : goal.resume-requires-clause-half
resume-requires-clause-half c =
    (popped c.args.diagrams.now c.args.operation _ _ c.args.stack.now.items _ c.in-Some.waiting c.args.task c.in-Built.row c.requires.way.1.1 c.in-Built.is c.in-Some.ensures.items).2

pub returns-in-Ok-resume-clause-way : goal.returns-in-Ok-resume-clause-way
returns-in-Ok-resume-clause-way c = λ f g way.
    c.in-Ok-resume.ensures.way f g
    (popped c.args.diagrams.now c.args.operation f g c.args.stack.now.items _ c.in-Some.waiting c.args.task c.in-Built.row way c.in-Built.is c.in-Some.ensures.items).0

pub returns-in-Ok-resume-clause-made : goal.returns-in-Ok-resume-clause-made
returns-in-Ok-resume-clause-made c = λ f g fs way needed.
    let below = popped c.args.diagrams.now c.args.operation f g c.args.stack.now.items _ c.in-Some.waiting c.args.task c.in-Built.row way c.in-Built.is c.in-Some.ensures.items in
    c.in-Ok-resume.ensures.made fs (Wait-cofactor c.args.diagrams.now c.args.operation _ f g _ _ fs c.len-rows.ensures.diagram below.0 needed)

pub returns-in-Err-resume-clause-made : goal.returns-in-Err-resume-clause-made
returns-in-Err-resume-clause-made c = λ f g fs way needed.
    let below = popped c.args.diagrams.now c.args.operation f g c.args.stack.now.items _ c.in-Some.waiting c.args.task c.in-Built.row way c.in-Built.is c.in-Some.ensures.items in
    c.in-Err-resume.ensures.made fs (Wait-cofactor c.args.diagrams.now c.args.operation _ f g _ _ fs c.len-rows.ensures.diagram below.0 needed)

pub returns-in-Err-resume-clause-short : goal.returns-in-Err-resume-clause-short
returns-in-Err-resume-clause-short c = λ spent f g fs way needed.
    let below = popped c.args.diagrams.now c.args.operation f g c.args.stack.now.items _ c.in-Some.waiting c.args.task c.in-Built.row way c.in-Built.is c.in-Some.ensures.items in
    c.in-Err-resume.ensures.short (same_error c.in-Err-resume.e _ spent) fs (Wait-cofactor c.args.diagrams.now c.args.operation _ f g _ _ fs c.len-rows.ensures.diagram below.0 needed)
