use Rattle.register_synth.proofs.WholeTwins.{twins_are_whole}
use Rattle.register_synth.proofs.FewCovers.{few_covers}
use Rattle.register_synth.proofs.laws.twins_are_whole.Goals as goal

pub returns : goal.returns
returns c = record { whole = twins_are_whole; few = few_covers }
