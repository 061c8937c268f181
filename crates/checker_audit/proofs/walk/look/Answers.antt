use Rattle.std.proofs.Common.{length, ◌∙◌, sym, subst, arith}
use Rattle.std.proofs.lemmas.List.{length-map}
use Rattle.tsc_net.specs.PlanView.{net_numbers}
use Rattle.code_checkers.specs.Gates.{ReadsBelow}
use Rattle.checker_audit.specs.Matching.{IsGateOver, IsNoGate}
use Rattle.checker_audit.proofs.Steps.{gate_is, no_gate, gate_over, some_reads}
use Rattle.checker_audit.proofs.walk.look.Goals as goal
use Rattle.code_checkers.proofs.Sharing.{reads_more}

pub push_operands-requires : goal.push_operands-requires
push_operands-requires c =
    let is = gate_is c.args.gates.now.gates c.args.asked.place c.get-gate.result c.requires.place c.get-gate.ensures.gate in
    record {
      pins = c.in-Some.ensures.sized;
      below = subst (ReadsBelow (length c.args.gates.now.gates)) is
          (reads_more c.args.asked.place (length c.args.gates.now.gates) _ (omega (arith, c.requires.place)) (c.requires.ordered c.args.asked.place c.requires.place));
      within = c.requires.within;
    }

pub returns-in-None : goal.returns-in-None
returns-in-None c =
    let is = gate_is c.args.gates.now.gates c.args.asked.place c.get-gate.result c.requires.place c.get-gate.ensures.gate in
    let some = some_reads c.get-gate.result c.in_default.not-Word in
    record {
      looked = subst (λ g. IsNoGate c.args.net.now.circuit c.args.plan.now g c.args.asked.net.number) (sym is)
          (no_gate c.args.net.now.circuit c.args.plan.now c.args.asked.net.number c.get-gate.result some (c.gate_pins.ensures.misfit c.in-None.is));
    }

pub returns-in_ok-push_operands-in-Some : goal.returns-in_ok-push_operands-in-Some
returns-in_ok-push_operands-in-Some c =
    let is = gate_is c.args.gates.now.gates c.args.asked.place c.get-gate.result c.requires.place c.get-gate.ensures.gate in
    let some = some_reads c.get-gate.result c.in_default.not-Word in
    let pins = net_numbers c.in-Some.pins.now in
    record {
      looked = record {
        pins = net_numbers c.in-Some.pins.now;
        over = subst (λ g. IsGateOver c.args.net.now.circuit c.args.plan.now g c.args.asked.net.number (net_numbers c.in-Some.pins.now)) (sym is)
            (gate_over c.args.net.now.circuit c.args.plan.now c.args.asked.net.number c.get-gate.result (net_numbers c.in-Some.pins.now) some
            (length-map c.in-Some.pins.now (λ net. net.number) ∙ c.in-Some.ensures.sized) c.in-Some.ensures.fits);
        stack = rw is (c.in_ok-push_operands-in-Some.ensures.pushed);
        within = c.in_ok-push_operands-in-Some.ensures.within;
      };
    }
