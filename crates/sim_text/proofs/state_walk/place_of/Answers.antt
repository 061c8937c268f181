use Rattle.std.proofs.Common.{arith}
use Rattle.sim_text.proofs.InputLemmas.{place_room}
use Rattle.sim_text.proofs.state_walk.place_of.Goals as goal

pub overflow_add-result : goal.overflow_add-result
overflow_add-result c =
    let room = place_room c.args.state c.width_of.result c.args.input.now c.requires.state c.width_of.ensures.small c.requires.few in
    omega (arith, room, c.number_of.ensures.number)
