use Rattle.std.proofs.Common.{ℕ, ◌≡◌, ◌+◌, ◌<◌, ◌≤◌, false, length, Option, refl, ◌∙◌, subst, arith}
use Rattle.std.proofs.Math.Nat.{min-le_left, min-le_right}
use Rattle.std.specs.Option.{option_map}
use Rattle.std.specs.Prelude.{unwrap_or}
use Rattle.tsc_net.specs.Fault.{stuck_at_or_none}
use Rattle.lane_sim.specs.Readers.{has}
use Rattle.lane_sim.specs.Program.{ProgramState}
use Rattle.lane_sim.specs.Again.{IsWalked}
use Rattle.lane_sim.specs.ProgramView.{program_as}
use Rattle.lane_sim.proofs.ProgramLemmas.{keeps_along}
use Rattle.lane_sim.proofs.AgainLemmas.{AreApart, none_of, unmarked, walked_none, begun}
use Rattle.lane_sim.proofs.program.Program.settle_again.Goals as goal

pub loop-taken-init : goal.loop-taken-init
loop-taken-init c =
    let program = c.args.self.now in
    let keeps = keeps_along (program_as c.self.inside) program c.self.inside.steps c.self.view_is c.self.invariant in
    let e = stuck_at_or_none c.args.old in
    let f = stuck_at_or_none c.args.fault in
    let points = c.args.points.now in
    let block = c.args.block.now in
    let marked = c.mark_fault-now.new.marked in
    let first = c.min-place.result in
    let is : program_as c.self.inside ≡ program = c.self.view_is in
    let low = min-le_left c.mark_fault-before.result c.mark_fault-now.result in
    let high = min-le_right c.mark_fault-before.result c.mark_fault-now.result in
    let most = subst (λ (s : ProgramState). c.mark_fault-before.result ≤ length s.circuit.nodes) is c.mark_fault-before.ensures.within in
    let within : first ≤ length program.circuit.nodes = omega (arith, c.min-place.ensures, low, most) in
    let old_before = subst (λ (s : ProgramState). AreApart s.circuit e (λ place. place < c.mark_fault-before.result)) is c.mark_fault-before.ensures.before in
    let new_before = subst (λ (s : ProgramState). AreApart s.circuit f (λ place. place < c.mark_fault-now.result)) is c.mark_fault-now.ensures.before in
    let old_apart = subst (λ (s : ProgramState). AreApart s.circuit e (λ place. has c.mark_fault-before.new.marked place ≡ false)) is c.mark_fault-before.ensures.apart in
    let new_apart = subst (λ (s : ProgramState). AreApart s.circuit f (λ place. has marked place ≡ false)) is c.mark_fault-now.ensures.apart in
    record {
      within = within;
      rows = c.requires.rows;
      room = c.mark_fault-now.ensures.room ∙ c.mark_fault-before.ensures.room;
      walked = begun program c.self.inside.steps keeps c.requires.watches points c.requires.points e f block marked first within
          (λ place below before. (
            old_before place below (omega (arith, c.min-place.ensures, low, before)),
            new_before place below (omega (arith, c.min-place.ensures, high, before)),
          ))
          (walked_none program e f points block marked c.requires.held
          (λ place below no. old_apart place below (unmarked _ _ _ refl (c.mark_fault-now.ensures.kept place) no))
          new_apart);
    }

pub loop-taken-preserved : goal.loop-taken-preserved
loop-taken-preserved c =
    let i = c.loop-taken.invariant in
    record {
      within = omega (arith, c.in-Some.ensures.place.1);
      rows = c.settle_next.ensures.rows;
      room = c.settle_next.ensures.room ∙ i.room;
      walked = c.in-Some.ensures.walked (stuck_at_or_none c.args.old) i.walked;
    }

pub returns-clause-held : goal.returns-clause-held
returns-clause-held c =
    let program = c.args.self.now in
    let e = stuck_at_or_none c.args.old in
    let f = stuck_at_or_none c.args.fault in
    let many = length program.circuit.nodes in
    let all : IsWalked program e f c.args.points.now c.settle_next.new.block c.settle_next.new.marked many
    = subst (λ (o : Option ℕ). IsWalked program e f c.args.points.now c.settle_next.new.block c.settle_next.new.marked (unwrap_or (option_map (λ place. place + 1) o) many))
    (none_of c.settle_next.result c.in_default.not-Some) (c.settle_next.ensures.walked e c.loop-taken.invariant.walked) in
    all.done
