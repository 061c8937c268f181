use Rattle.std.proofs.Common.{◌≡◌, ◌<◌, true, sym, subst, arith}
use Rattle.std.specs.Prelude.{IsSome}
use Rattle.fault_secure.specs.Circuit.{nets}
use Rattle.tsc_net.specs.Order.{has_place}
use Rattle.tsc_net.proofs.OrderLists.{has_place-All}
use Rattle.lane_sim.specs.Program.{ProgramState}
use Rattle.lane_sim.specs.ProgramView.{program_as}
use Rattle.lane_sim.proofs.program.Program.row.Goals as goal

pub row-requires : goal.row-requires
row-requires c =
    let program = program_as c.self.inside in
    let watched : has_place program.watched c.args.net.number ≡ true =
    subst (λ (s : ProgramState). has_place s.watched c.args.net.number ≡ true) (sym c.self.view_is) c.requires.watched in
    let below = has_place-All (λ net. net < nets program.circuit) program.watched c.args.net.number watched c.self.invariant.watched in
    record { net = omega (arith, below, c.self.invariant.sized) }

pub unwrap-requires : goal.unwrap-requires
unwrap-requires c =
    let program = program_as c.self.inside in
    let watched : has_place program.watched c.args.net.number ≡ true =
    subst (λ (s : ProgramState). has_place s.watched c.args.net.number ≡ true) (sym c.self.view_is) c.requires.watched in
    let below = has_place-All (λ net. net < nets program.circuit) program.watched c.args.net.number watched c.self.invariant.watched in
    subst IsSome (sym c.row.ensures.row) (c.self.invariant.have.of_watched c.args.net.number below watched)
