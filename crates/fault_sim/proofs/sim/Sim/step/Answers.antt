use Rattle.std.proofs.Common.{◌+◌, ap, ◌∙◌}
use Rattle.tsc_net.specs.Fault.{stuck_at_or_none}
use Rattle.fault_sim.specs.Sim.{SimState}
use Rattle.fault_sim.proofs.StepLemmas.{settles_old, shown_new, watched_new, points_new, state_new_sized, state_new, next_new_sized, next_new, shows_new}
use Rattle.fault_sim.proofs.sim.Sim.step.Goals as goal

pub invariant_of-self : goal.invariant_of-self
invariant_of-self c =
    let old = c.self.inside in
    let sim = c.args.self.now in
    let bench = c.settle.new.bench in
    let f = stuck_at_or_none c.fault_at-fault.result in
    record {
      points = points_new old sim c.self.view_is c.self.invariant bench c.settle.ensures.circuit c.settle.ensures.watched f c.fault_at-fault.ensures.fault c.settle.new.points c.settle.ensures.points;
      shown = shown_new old sim c.self.view_is c.self.invariant bench c.settle.ensures.circuit c.settle.ensures.watched f c.fault_at-fault.ensures.fault;
      watched = watched_new old sim c.self.view_is c.self.invariant bench c.settle.ensures.circuit c.settle.ensures.watched f c.fault_at-fault.ensures.fault;
      state = state_new_sized old sim c.self.view_is c.self.invariant bench c.settle.ensures.circuit c.settle.ensures.watched f c.fault_at-fault.ensures.fault
          c.read_state.new.state c.read_state.ensures.state;
      next = next_new_sized old sim c.self.view_is c.self.invariant bench c.settle.ensures.circuit c.settle.ensures.watched f c.fault_at-fault.ensures.fault
          c.read_state.new.next c.read_state.ensures.next;
    }

pub returns-clause-call : goal.returns-clause-call
returns-clause-call c =
    let old = c.self.inside in
    let sim = c.args.self.now in
    let bench = c.settle.new.bench in
    let f = stuck_at_or_none c.fault_at-fault.result in
    let is = c.self.view_is in
    record {
      answers = λ v settles.
          let at = settles_old old sim is c.self.invariant bench c.settle.ensures.circuit c.settle.ensures.watched f c.fault_at-fault.ensures.fault c.args.input.now v settles in
          record {
            view = shows_new old sim is c.self.invariant bench c.settle.ensures.circuit c.settle.ensures.watched f c.fault_at-fault.ensures.fault
                v c.view_of-view.result (c.settle.ensures.shows v at) c.view_of-view.ensures.view;
            next = next_new old sim is c.self.invariant bench c.settle.ensures.circuit c.settle.ensures.watched f c.fault_at-fault.ensures.fault
                v c.read_state.new.next (c.settle.ensures.shows v at) c.read_state.ensures.next;
          };
      state = λ v settles.
          let at = settles_old old sim is c.self.invariant bench c.settle.ensures.circuit c.settle.ensures.watched f c.fault_at-fault.ensures.fault c.args.input.now v settles in
          state_new old sim is c.self.invariant bench c.settle.ensures.circuit c.settle.ensures.watched f c.fault_at-fault.ensures.fault
          v c.read_state.new.state (c.settle.ensures.shows v at) c.read_state.ensures.state;
      step = ap (λ (s : SimState). s.step + 1) is;
      same = record {
        circuit = c.settle.ensures.circuit ∙ ap (λ (s : SimState). s.bench.circuit) is;
        watched = c.settle.ensures.watched ∙ ap (λ (s : SimState). s.bench.watched) is;
        rows = c.settle.ensures.rows ∙ ap (λ (s : SimState). s.bench.rows) is;
        plan = ap (λ (s : SimState). s.plan) is;
        fault = ap (λ (s : SimState). s.fault) is;
        when = ap (λ (s : SimState). s.when) is;
      };
    }
