use Rattle.std.proofs.Common.{◌∙◌}
use Rattle.sim_text.proofs.InputLemmas.{bits_step}
use Rattle.sim_text.proofs.all_inputs.bits_of.Goals as goal

pub loop-place-preserved : goal.loop-place-preserved
loop-place-preserved c =
    bits_step c.args.count c.loop-place.place c.args.number c.loop-place.bits c.push.new.self c.bit_at.result c.loop-place-test.true
    c.in_ok-push.ensures.ok c.bit_at.ensures.bit
    ∙ c.loop-place.invariant
