use Rattle.std.proofs.Common.{◌<◌, ◌∙◌, length, All, ap, subst, sym}
use Rattle.twin_synth.proofs.TwinComposed.{shown_counted, grouped_within}
use Rattle.twin_synth.proofs.composing.push_shown_checks.Goals as goal

pub push_checks-requires-clause-within : goal.push_checks-requires-clause-within
push_checks-requires-clause-within c =
    grouped_within c.args.source.now.circuit c.args.numbers.now c.args.first c.args.watched c.args.all.now c.as_slice-2.result.now c.as_slice.result.now
    (c.as_slice.ensures.whole ∙ c.in_ok-shown.ensures.nets) c.as_slice-2.ensures.whole c.requires.grouped
