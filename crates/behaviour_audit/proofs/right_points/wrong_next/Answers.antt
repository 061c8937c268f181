use Rattle.std.proofs.Common.{ℕ, ◌<◌, ◌≤◌, ◌+◌, ◌∙◌, sym, ap, subst}
use Rattle.tsc_bits.specs.Bits.{bits_of}
use Rattle.fault_secure.specs.Logic.{Logic, inputs_of, states_of}
use Rattle.code_lanes.specs.Lanes.{column}
use Rattle.tsc_net.specs.SourceView.{logic_of}
use Rattle.behaviour_audit.proofs.AnswerLemmas.{some_state}
use Rattle.behaviour_audit.proofs.PointsLemmas.{network_arrives, loose_arrives, machine_arrives}
use Rattle.behaviour_audit.proofs.right_points.wrong_next.Goals as goal
use Rattle.lane_sim.specs.Places.{point_at}

pub other_words-requires-clause-state : goal.other_words-requires-clause-state
other_words-requires-clause-state c = subst (λ (n : ℕ). 0 < n) (sym c.requires.states) (some_state (logic_of c.args.source.now) c.requires.sound)

pub other_words-requires-in-Loose-clause-state : goal.other_words-requires-in-Loose-clause-state
other_words-requires-in-Loose-clause-state c = subst (λ (n : ℕ). 0 < n) (sym c.requires.states) (some_state (logic_of c.args.source.now) c.requires.sound)

pub returns-in-Network : goal.returns-in-Network
returns-in-Network c =
    let M = logic_of c.args.source.now in
    record {
      arrives = λ k few zero_.
          let point = point_at (inputs_of M) (c.args.base + k) in
          network_arrives M c.in-Network.field-0.now.circuit c.args.plan.now point.state (bits_of (inputs_of M) point.input) (column k c.args.next.now) (ap logic_of c.in-Network.is)
          (c.other_words.ensures.word k few zero_);
    }

pub returns-in-Loose : goal.returns-in-Loose
returns-in-Loose c =
    let M = logic_of c.args.source.now in
    let loose = c.in-Loose.field-0.now in
    record {
      arrives = λ k few zero_.
          let point = point_at (inputs_of M) (c.args.base + k) in
          loose_arrives M loose.value.circuit loose.free.circuit c.args.plan.now point.state (bits_of (inputs_of M) point.input) (column k c.args.next.now) (ap logic_of c.in-Loose.is)
          (c.other_words-in-Loose.ensures.word k few zero_);
    }

pub returns-in-Machine : goal.returns-in-Machine
returns-in-Machine c = record {
  arrives = λ k few zero_.
      machine_arrives (logic_of c.args.source.now) c.in-Machine.machine.now.table (c.args.base + k) (ap logic_of c.in-Machine.is) c.args.plan.now (column k c.args.next.now)
      (c.forbidden_next_states.ensures.arrives k few zero_);
}

pub forbidden_next_states-requires : goal.forbidden_next_states-requires
forbidden_next_states-requires c =
    let same = ap logic_of c.in-Machine.is in
    record {
      few = subst (λ (L : Logic). inputs_of L ≤ 20) same c.requires.inputs;
      whole = c.requires.whole;
      made = c.requires.made;
      states = c.requires.states ∙ ap states_of same;
      sized = c.requires.sized;
    }
