use Rattle.std.proofs.Common.{◌≡◌, sym, length, arith}
use Rattle.std.proofs.lemmas.Result.{IfErr-weaker, on_ok_weaker}
use Rattle.synth_ways.specs.declared.way.Way.TheVariants.{Duplex}
use Rattle.tsc_synth.specs.CoverBound.{is_too_large, is_too_large_twin}
use Rattle.text_sections.specs.Refused.{IsRefusedBy}
use Rattle.answers.specs.Refused.{size_refusal, twin_refusal}
use Rattle.answers.proofs.TwinLemmas.{network_allowed, network_refused, twin_refused}
use Rattle.answers.proofs.blif_synthesis.synth_twin.Goals as goal

pub returns-then-latches-eq0-clause-allowed : goal.returns-then-latches-eq0-clause-allowed
returns-then-latches-eq0-clause-allowed c =
    let source = c.in_ok-source.source in
    on_ok_weaker c.network_text.result
    (network_allowed c.args.watching c.args.text.now source.net (sym c.in_ok-source.ensures.exact) c.in_ok-source.ensures.allowed
    (omega (arith, c.latches.ensures.count, c.if-latches-eq0.true)))
    c.network_text.ensures.fits

pub returns-then-latches-eq0-clause-refused : goal.returns-then-latches-eq0-clause-refused
returns-then-latches-eq0-clause-refused c =
    let source = c.in_ok-source.source in
    IfErr-weaker c.network_text.result (IsRefusedBy (size_refusal (is_too_large Duplex source.net.circuit))) (IsRefusedBy (twin_refusal c.args.watching c.args.text.now))
    (network_refused c.args.watching c.args.text.now source.net (sym c.in_ok-source.ensures.exact) c.in_ok-source.ensures.allowed
    (omega (arith, c.latches.ensures.count, c.if-latches-eq0.true)))
    c.network_text.ensures.refused

pub returns-clause-refused : goal.returns-clause-refused
returns-clause-refused c =
    let source = c.in_ok-source.source in
    IfErr-weaker c.registers_text.result (IsRefusedBy (size_refusal (is_too_large_twin c.args.watching source.net.circuit)))
    (IsRefusedBy (twin_refusal c.args.watching c.args.text.now))
    (twin_refused c.args.watching c.args.text.now source.net (sym c.in_ok-source.ensures.exact) c.in_ok-source.ensures.allowed)
    c.registers_text.ensures.refused
