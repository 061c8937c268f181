use Rattle.unate_synth.proofs.RootLemmas.{roots_distinct, roots_undriven}
use Rattle.unate_synth.proofs.composing.add_word.Goals as goal

pub to_net-requires-clause-distinct : goal.to_net-requires-clause-distinct
to_net-requires-clause-distinct c = roots_distinct c.args.sources c.args.parts.now c.args.made.now.gates c.in_ok-roots.roots c.requires.begun c.in_ok-roots.ensures.roots

pub to_net-requires-clause-undriven : goal.to_net-requires-clause-undriven
to_net-requires-clause-undriven c = roots_undriven c.args.sources c.args.parts.now c.args.made.now.gates c.in_ok-roots.roots c.requires.begun c.in_ok-roots.ensures.roots
