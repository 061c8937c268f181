use Rattle.std.proofs.Common.{[], ◌∙◌, arith}
use Rattle.std.proofs.lemmas.List.{get_or_read}
use Rattle.machine_synth.proofs.BegunParts.{names_more}
use Rattle.machine_synth.proofs.beginning.add_names.Goals as goal

pub loop-place-preserved : goal.loop-place-preserved
loop-place-preserved c =
    names_more c.args.parts.now c.loop-place.parts c.name.new.self c.args.texts.now c.loop-place.place c.as_slice.result.now c.requires.distinct (omega (arith, c.loop-place-test.true))
    c.loop-place.invariant (c.as_slice.ensures.whole ∙ get_or_read c.args.texts.now c.loop-place.place c.get.result.now (omega (arith, c.loop-place-test.true)) c.get.ensures.item []) c.in_ok-name.ensures.ok
