use Rattle.std.proofs.Common.{◌<◌, length, slice_index, IfOk, sym, subst, arith}
use Rattle.std.proofs.lemmas.Result.{IfOk-weaker}
use Rattle.code_checkers.specs.declared.gate.CheckGate.{CheckGate}
use Rattle.code_checkers.specs.Gates.{signal_at, signal_of, ReadsBelow}
use Rattle.diagrams.specs.Decisions.{value}
use Rattle.diagrams.specs.Cofactors.{IsCofactorOfOne}
use Rattle.diagrams.specs.Building.{StandsFor}
use Rattle.cover_diagrams.proofs.Steps.{own_stands}
use Rattle.wide_diagrams.specs.Stated.{signal_function}
use Rattle.wide_diagrams.proofs.Signals.{xor_needed, xor_stands}
use Rattle.wide_diagrams.proofs.gates.gate_row.Goals as goal

pub returns-in-Not-clause-inside : goal.returns-in-Not-clause-inside
returns-in-Not-clause-inside c =
    let below : c.in-Not.a < c.args.before = subst (ReadsBelow c.args.before) c.in-Not.is c.requires.below in
    let inside : slice_index c.args.rows.now c.in-Not.a < length c.args.diagrams.now.rows = c.requires.rows c.in-Not.a 0 (omega (arith, below, c.requires.there)) in
    IfOk-weaker c.literal_row.result _ _ (λ row stands. stands.node) (c.literal_row.ensures.stands (value c.args.diagrams.now.rows (slice_index c.args.rows.now c.in-Not.a)) (own_stands c.args.diagrams.now (slice_index c.args.rows.now c.in-Not.a) inside))

pub returns-in-Not-clause-made : goal.returns-in-Not-clause-made
returns-in-Not-clause-made c = λ ws kept signals P stand needed.
    c.literal_row.ensures.made _ kept (stand c.in-Not.a (subst (ReadsBelow c.args.before) c.in-Not.is c.requires.below))
    (λ off. subst (λ (g : CheckGate). IsCofactorOfOne c.args.diagrams.now.inputs kept (signal_function ws (signal_of signals g))) c.in-Not.is needed)

pub returns-in-Not-clause-short : goal.returns-in-Not-clause-short
returns-in-Not-clause-short c = λ spent ws kept signals P stand needed.
    c.literal_row.ensures.short spent _ kept (stand c.in-Not.a (subst (ReadsBelow c.args.before) c.in-Not.is c.requires.below))
    (λ off. subst (λ (g : CheckGate). IsCofactorOfOne c.args.diagrams.now.inputs kept (signal_function ws (signal_of signals g))) c.in-Not.is needed)

pub returns-in-And-clause-made : goal.returns-in-And-clause-made
returns-in-And-clause-made c = λ ws kept signals P stand needed.
    let below = subst (ReadsBelow c.args.before) c.in-And.is c.requires.below in
    c.operation_row.ensures.made _ _ kept (stand c.in-And.a below.0) (stand c.in-And.b below.1)
    (subst (λ (g : CheckGate). IsCofactorOfOne c.args.diagrams.now.inputs kept (signal_function ws (signal_of signals g))) c.in-And.is needed)

pub returns-in-And-clause-stands : goal.returns-in-And-clause-stands
returns-in-And-clause-stands c = λ ws signals P stand.
    let below = subst (ReadsBelow c.args.before) c.in-And.is c.requires.below in
    subst (λ (g : CheckGate). IfOk c.operation_row.result (StandsFor c.operation_row.new.diagrams (signal_function ws (signal_of signals g)))) (sym c.in-And.is)
    (c.operation_row.ensures.stands _ _ (stand c.in-And.a below.0) (stand c.in-And.b below.1))

pub returns-in-And-clause-short : goal.returns-in-And-clause-short
returns-in-And-clause-short c = λ spent ws kept signals P stand needed.
    let below = subst (ReadsBelow c.args.before) c.in-And.is c.requires.below in
    c.operation_row.ensures.short spent _ _ kept (stand c.in-And.a below.0) (stand c.in-And.b below.1)
    (subst (λ (g : CheckGate). IsCofactorOfOne c.args.diagrams.now.inputs kept (signal_function ws (signal_of signals g))) c.in-And.is needed)

pub returns-in-Or-clause-made : goal.returns-in-Or-clause-made
returns-in-Or-clause-made c = λ ws kept signals P stand needed.
    let below = subst (ReadsBelow c.args.before) c.in-Or.is c.requires.below in
    c.operation_row-in-Or.ensures.made _ _ kept (stand c.in-Or.a below.0) (stand c.in-Or.b below.1)
    (subst (λ (g : CheckGate). IsCofactorOfOne c.args.diagrams.now.inputs kept (signal_function ws (signal_of signals g))) c.in-Or.is needed)

pub returns-in-Or-clause-stands : goal.returns-in-Or-clause-stands
returns-in-Or-clause-stands c = λ ws signals P stand.
    let below = subst (ReadsBelow c.args.before) c.in-Or.is c.requires.below in
    subst (λ (g : CheckGate). IfOk c.operation_row-in-Or.result (StandsFor c.operation_row-in-Or.new.diagrams (signal_function ws (signal_of signals g)))) (sym c.in-Or.is)
    (c.operation_row-in-Or.ensures.stands _ _ (stand c.in-Or.a below.0) (stand c.in-Or.b below.1))

pub returns-in-Or-clause-short : goal.returns-in-Or-clause-short
returns-in-Or-clause-short c = λ spent ws kept signals P stand needed.
    let below = subst (ReadsBelow c.args.before) c.in-Or.is c.requires.below in
    c.operation_row-in-Or.ensures.short spent _ _ kept (stand c.in-Or.a below.0) (stand c.in-Or.b below.1)
    (subst (λ (g : CheckGate). IsCofactorOfOne c.args.diagrams.now.inputs kept (signal_function ws (signal_of signals g))) c.in-Or.is needed)

pub returns-in-Xor-clause-made : goal.returns-in-Xor-clause-made
returns-in-Xor-clause-made c = λ ws kept signals P stand needed.
    let below = subst (ReadsBelow c.args.before) c.in-Xor.is c.requires.below in
    c.operation_row-in-Xor.ensures.made _ _ kept (stand c.in-Xor.a below.0) (stand c.in-Xor.b below.1)
    (xor_needed _ kept ws (signal_at signals c.in-Xor.a) (signal_at signals c.in-Xor.b)
    (subst (λ (g : CheckGate). IsCofactorOfOne c.args.diagrams.now.inputs kept (signal_function ws (signal_of signals g))) c.in-Xor.is needed))

pub returns-in-Xor-clause-stands : goal.returns-in-Xor-clause-stands
returns-in-Xor-clause-stands c = λ ws signals P stand.
    let below = subst (ReadsBelow c.args.before) c.in-Xor.is c.requires.below in
    subst (λ (g : CheckGate). IfOk c.operation_row-in-Xor.result (StandsFor c.operation_row-in-Xor.new.diagrams (signal_function ws (signal_of signals g)))) (sym c.in-Xor.is)
    (IfOk-weaker c.operation_row-in-Xor.result _ _ (λ row stands. xor_stands c.operation_row-in-Xor.new.diagrams ws (signal_at signals c.in-Xor.a) (signal_at signals c.in-Xor.b) row stands)
    (c.operation_row-in-Xor.ensures.stands _ _ (stand c.in-Xor.a below.0) (stand c.in-Xor.b below.1)))

pub returns-in-Xor-clause-short : goal.returns-in-Xor-clause-short
returns-in-Xor-clause-short c = λ spent ws kept signals P stand needed.
    let below = subst (ReadsBelow c.args.before) c.in-Xor.is c.requires.below in
    c.operation_row-in-Xor.ensures.short spent _ _ kept (stand c.in-Xor.a below.0) (stand c.in-Xor.b below.1)
    (xor_needed _ kept ws (signal_at signals c.in-Xor.a) (signal_at signals c.in-Xor.b)
    (subst (λ (g : CheckGate). IsCofactorOfOne c.args.diagrams.now.inputs kept (signal_function ws (signal_of signals g))) c.in-Xor.is needed))
