use Rattle.std.proofs.Common.{◌<◌, ◌^◌, length, sym, subst, arith}
use Rattle.lane_sim.specs.Gate.{number_of}
use Rattle.lane_sim.specs.declared.gate.Operand.{Operand}
use Rattle.lane_sim.proofs.AlongLemmas.{operand_small}
use Rattle.lane_sim.proofs.steps.two_of.Goals as goal

pub operand_of-b-requires-clause-some : goal.operand_of-b-requires-clause-some
operand_of-b-requires-clause-some c = λ past.
    let many = length c.args.rows.now.rows in
    let one = c.net_or-one.ensures.within many c.requires.sized c.requires.any in
    c.requires.some c.net_or-other.result.number past (c.net_or-other.ensures.within many c.requires.sized one)

pub operand_start-requires : goal.operand_start-requires
operand_start-requires c =
    let many = length c.args.rows.now.rows in
    let one = c.net_or-one.ensures.within many c.requires.sized c.requires.any in
    let below : c.net_or-one.result.number < 2 ^ 28 = omega (arith, one, c.requires.small) in
    record { few = subst (λ (h : Operand). number_of h < 2 ^ 28) (sym c.operand_of-a.ensures.operand) (operand_small c.args.first (2 ^ 28) c.args.rows.now.rows c.net_or-one.result.number below c.requires.few) }

pub operand_start-requires-2 : goal.operand_start-requires-2
operand_start-requires-2 c =
    let many = length c.args.rows.now.rows in
    let one = c.net_or-one.ensures.within many c.requires.sized c.requires.any in
    let other = c.net_or-other.ensures.within many c.requires.sized one in
    let below : c.net_or-other.result.number < 2 ^ 28 = omega (arith, other, c.requires.small) in
    record { few = subst (λ (h : Operand). number_of h < 2 ^ 28) (sym c.operand_of-b.ensures.operand) (operand_small c.args.first (2 ^ 28) c.args.rows.now.rows c.net_or-other.result.number below c.requires.few) }
