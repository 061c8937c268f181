-- The steps joined.
use Rattle.std.proofs.Common.{rules, ◌≡◌, None, true, sym, ap, ◌∙◌, subst}
use Rattle.tsc_net.specs.NetlistOf.{NetlistOf, named_of}
use Rattle.tsc_net.specs.NetFault.{fault_of, IsRefusedFor}
use Rattle.tsc_net.specs.inner.Build.{IsClosedNetlist, IsRing}
use Rattle.tsc_net.specs.inner.BuildView.{unordered_as}
use Rattle.tsc_net.specs.Order.{fan_ins, has_whole_order}
use Rattle.tsc_net.specs.declared.net_error.NetError.{NetError}
use Rattle.tsc_net.proofs.NetlistLemmas.{refused-ring, no_fault, states_parts, sound_netlist}
use Rattle.tsc_net.proofs.ResultLemmas.{err_so, ok_so, on_ok_so}
use Rattle.tsc_net.proofs.parts.Parts.build_indexed.Goals as goal

pub returns-in_err-net-clause-same : goal.returns-in_err-net-clause-same
returns-in_err-net-clause-same c = search rules

pub returns-in_err-net-clause-exact : goal.returns-in_err-net-clause-exact
returns-in_err-net-clause-exact c = search rules

pub returns-in_err-net-clause-sound : goal.returns-in_err-net-clause-sound
returns-in_err-net-clause-sound c = search rules

pub returns-in_err-net-clause-refused : goal.returns-in_err-net-clause-refused
returns-in_err-net-clause-refused c =
    let refused : IsRefusedFor c.args.self.named c.in_err-net.field-0.0 = c.in_err-net.ensures.refused in
    search rules

pub ordered-requires : goal.ordered-requires
ordered-requires c = record {
  sound = subst IsClosedNetlist (sym c.in_ok-net.ensures.net) (sound_netlist c.args.self.named c.in_ok-net.ensures.driven);
}

pub returns-clause-same : goal.returns-clause-same
returns-clause-same c =
    ok_so (λ (net : NetlistOf) (e : net ≡ unordered_as c.in_ok-net.net).
    ap named_of (e ∙ c.in_ok-net.ensures.net) ∙ states_parts c.args.self.named c.in_ok-net.ensures.driven) c.ordered.result c.ordered.ensures.same

pub returns-clause-exact : goal.returns-clause-exact
returns-clause-exact c =
    ok_so (λ (net : NetlistOf) (e : net ≡ unordered_as c.in_ok-net.net). e ∙ c.in_ok-net.ensures.net) c.ordered.result c.ordered.ensures.same

pub returns-clause-sound : goal.returns-clause-sound
returns-clause-sound c =
    on_ok_so {B = fault_of c.args.self.named ≡ None}
    (λ (whole : has_whole_order (fan_ins (unordered_as c.in_ok-net.net).circuit) ≡ true).
    no_fault c.args.self.named c.in_ok-net.ensures.driven
    (subst (λ (net : NetlistOf). has_whole_order (fan_ins net.circuit) ≡ true) c.in_ok-net.ensures.net whole)) c.ordered.result c.ordered.ensures.whole

pub returns-clause-refused : goal.returns-clause-refused
returns-clause-refused c =
    err_so (λ (e : NetError) (h : IsRing (unordered_as c.in_ok-net.net) e).
    refused-ring c.args.self.named e c.in_ok-net.ensures.driven (subst (λ (net : NetlistOf). IsRing net e) c.in_ok-net.ensures.net h))
    c.ordered.result c.ordered.ensures.refused
