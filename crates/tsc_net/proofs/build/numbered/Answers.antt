-- The steps joined.
use Rattle.std.proofs.Common.{rules, refl}
use Rattle.tsc_net.specs.NetFault.{IsRefusedFor}
use Rattle.tsc_net.specs.inner.Build.{IsDriven, IsUnread}
use Rattle.tsc_net.specs.declared.net_error.NetError.{NetError}
use Rattle.tsc_net.proofs.NetlistLemmas.{refused-twice, refused-shown, refused-unread}
use Rattle.tsc_net.proofs.ResultLemmas.{err_so, ok_both}
use Rattle.tsc_net.proofs.build.numbered.Goals as goal

pub returns-in_err-driven-clause-net : goal.returns-in_err-driven-clause-net
returns-in_err-driven-clause-net c = search rules

pub returns-in_err-driven-clause-driven : goal.returns-in_err-driven-clause-driven
returns-in_err-driven-clause-driven c = search rules

pub returns-in_err-driven-clause-refused : goal.returns-in_err-driven-clause-refused
returns-in_err-driven-clause-refused c =
    let refused : IsRefusedFor c.args.parts.named c.in_err-driven.field-0.0 =
    refused-twice c.args.parts.named c.in_err-driven.field-0.0 c.in_err-driven.ensures.twice in
    search rules

pub returns-in_err-check_outputs-clause-net : goal.returns-in_err-check_outputs-clause-net
returns-in_err-check_outputs-clause-net c = search rules

pub returns-in_err-check_outputs-clause-driven : goal.returns-in_err-check_outputs-clause-driven
returns-in_err-check_outputs-clause-driven c = search rules

pub returns-in_err-check_outputs-clause-refused : goal.returns-in_err-check_outputs-clause-refused
returns-in_err-check_outputs-clause-refused c =
    let refused : IsRefusedFor c.args.parts.named c.in_err-check_outputs.field-0.0 =
    refused-shown c.args.parts.named c.in_err-check_outputs.field-0.0 c.in_ok-driven.ensures.once c.in_err-check_outputs.ensures.twice in
    search rules

pub same-parts : goal.same-parts
same-parts c = refl

pub inside-requires-clause-marks : goal.inside-requires-clause-marks
inside-requires-clause-marks c = c.in_ok-driven.ensures.marks

pub inside-requires-clause-table : goal.inside-requires-clause-table
inside-requires-clause-table c = c.in_ok-driven.ensures.table

pub returns-clause-net : goal.returns-clause-net
returns-clause-net c = c.inside.ensures.net

pub returns-clause-driven : goal.returns-clause-driven
returns-clause-driven c =
    let N = c.args.parts.named in
    ok_both {C = IsDriven N} (λ driven some. record {
      once = c.in_ok-driven.ensures.once;
      shown_once = c.in_ok-check_outputs.ensures.once;
      driven = driven;
      some_output = some;
      pins = c.in_ok-driven.ensures.pins;
      few = c.in_ok-driven.ensures.few;
    })
    c.inside.result c.inside.ensures.driven c.inside.ensures.some_output

pub returns-clause-refused : goal.returns-clause-refused
returns-clause-refused c =
    err_so (λ (e : NetError) (h : IsUnread c.args.parts.named e). refused-unread c.args.parts.named e c.in_ok-driven.ensures.once c.in_ok-check_outputs.ensures.once h)
    c.inside.result c.inside.ensures.refused
