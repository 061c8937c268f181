-- The netlist of the network, with its plan under version 2.
use Rattle.std.proofs.Common.{sym, subst}
use Rattle.fault_secure.specs.Logic.{Network}
use Rattle.code_checkers.specs.SelfChecking.{IsSelfChecking}
use Rattle.tsc_synth.specs.WayNetlist.{IsNetlistOf}
use Rattle.tsc_synth.proofs.LooseSynthesis.{checking_with_free_bits, first_version}
use Rattle.tsc_synth.proofs.loose_synthesis.synth_loose.Goals as goal

pub returns-in-Ok-clause-secure : goal.returns-in-Ok-clause-secure
returns-in-Ok-clause-secure c =
    let source = c.args.source.now in
    checking_with_free_bits source.value.circuit source.free.circuit c.in-Ok.field-0.net.circuit c.in-Ok.field-0.plan c.freed.result c.freed.ensures.plan c.in-Ok.ensures.secure

pub returns-in-Ok-clause-chosen : goal.returns-in-Ok-clause-chosen
returns-in-Ok-clause-chosen c =
    let source = c.args.source.now in
    let made = c.in-Ok.field-0 in
    subst (IsSelfChecking (Network source.value.circuit) made.net.circuit)
    (sym (first_version c.args.way source.value made.net made.plan c.freed.result c.in-Ok.ensures.exact c.freed.ensures.plan)) c.in-Ok.ensures.secure

pub returns-in-Ok-clause-exact : goal.returns-in-Ok-clause-exact
returns-in-Ok-clause-exact c =
    let source = c.args.source.now in
    let made = c.in-Ok.field-0 in
    subst (IsNetlistOf c.args.way source.value made.net)
    (sym (first_version c.args.way source.value made.net made.plan c.freed.result c.in-Ok.ensures.exact c.freed.ensures.plan)) c.in-Ok.ensures.exact
