use Rattle.std.proofs.Common.{length, ◌∙◌}
use Rattle.std.proofs.lemmas.Result.{on_ok_weaker}
use Rattle.unate_synth.proofs.SourcesOnce.{sources_once}
use Rattle.unate_synth.proofs.ComposedChain.{begun_words, then_words, then_rails, last_shown, last_rails, chain_sound, chain_composed}
use Rattle.unate_synth.proofs.composing.compose.Goals as goal

pub add_word-requires-clause-names : goal.add_word-requires-clause-names
add_word-requires-clause-names c =
    begun_words c.args.sources c.args.parts.now c.args.made.now.gates c.args.made.now.outputs c.args.outputs.now c.args.checks.now c.as_slice-word.result.now c.args.rails c.requires.begun c.requires.word
    (c.as_slice-word.ensures.whole ∙ c.in_ok-word.ensures.word)

pub add_checker-requires-clause-word : goal.add_checker-requires-clause-word
add_checker-requires-clause-word c =
    then_words c.args.sources c.args.parts.now c.args.made.now.gates c.args.made.now.outputs c.args.outputs.now c.args.checks.now c.as_slice-word.result.now c.args.rails c.requires.begun c.requires.word
    (c.as_slice-word.ensures.whole ∙ c.in_ok-word.ensures.word) c.add_word.new.parts c.in_ok-add_word.ensures.adds

pub add_checker-requires-clause-rails : goal.add_checker-requires-clause-rails
add_checker-requires-clause-rails c =
    then_rails c.args.sources c.args.parts.now c.args.made.now.gates c.args.made.now.outputs c.args.outputs.now c.args.checks.now c.as_slice-word.result.now c.args.rails c.requires.begun c.requires.word
    (c.as_slice-word.ensures.whole ∙ c.in_ok-word.ensures.word) c.add_word.new.parts c.in_ok-add_word.ensures.adds

pub add_shown-requires-clause-outputs : goal.add_shown-requires-clause-outputs
add_shown-requires-clause-outputs c =
    last_shown c.args.sources c.args.parts.now c.args.made.now.gates c.args.made.now.outputs c.args.outputs.now c.args.checks.now c.as_slice-word.result.now c.args.rails c.requires.begun c.requires.word
    (c.as_slice-word.ensures.whole ∙ c.in_ok-word.ensures.word) c.add_word.new.parts c.in_ok-add_word.ensures.adds c.add_checker.new.parts c.in_ok-add_checker.ensures.keeps

pub add_shown-requires-clause-rails : goal.add_shown-requires-clause-rails
add_shown-requires-clause-rails c =
    last_rails c.args.sources c.args.parts.now c.args.made.now.gates c.args.made.now.outputs c.args.outputs.now c.args.checks.now c.as_slice-word.result.now c.args.rails c.requires.begun c.requires.word
    (c.as_slice-word.ensures.whole ∙ c.in_ok-word.ensures.word) c.add_word.new.parts c.in_ok-add_word.ensures.adds c.add_checker.new.parts c.in_ok-add_checker.ensures.keeps

pub returns-clause-sound : goal.returns-clause-sound
returns-clause-sound c =
    on_ok_weaker c.add_shown.result (λ shown.
    chain_sound c.args.sources c.args.parts.now c.args.made.now.gates c.args.made.now.outputs c.args.outputs.now c.args.checks.now c.as_slice-word.result.now c.args.rails c.requires.begun c.requires.word
    (c.as_slice-word.ensures.whole ∙ c.in_ok-word.ensures.word) c.add_word.new.parts c.in_ok-add_word.ensures.adds c.add_checker.new.parts c.in_ok-add_checker.ensures.keeps
    c.args.gates.now c.requires.gates c.in_ok-add_checker.ensures.added c.in_ok-add_checker.ensures.distinct c.add_shown.new.parts shown
    (length c.args.made.now.gates.gates) c.in_ok-add_word.ensures.few c.requires.room (sources_once c.args.sources c.args.parts.now c.args.made.now.gates c.requires.begun)
    c.requires.shown c.requires.latches) c.add_shown.ensures.shown

pub returns-clause-net : goal.returns-clause-net
returns-clause-net c =
    on_ok_weaker c.add_shown.result (λ shown.
    chain_composed c.args.sources c.args.parts.now c.args.made.now.gates c.args.made.now.outputs c.args.outputs.now c.args.checks.now c.as_slice-word.result.now c.args.rails c.requires.begun c.requires.word
    (c.as_slice-word.ensures.whole ∙ c.in_ok-word.ensures.word) c.add_word.new.parts c.in_ok-add_word.ensures.adds c.add_checker.new.parts c.in_ok-add_checker.ensures.keeps
    c.args.gates.now c.requires.gates c.in_ok-add_checker.ensures.added c.in_ok-add_checker.ensures.distinct c.add_shown.new.parts shown
    (length c.args.made.now.gates.gates) c.in_ok-add_word.ensures.few c.requires.room (sources_once c.args.sources c.args.parts.now c.args.made.now.gates c.requires.begun)) c.add_shown.ensures.shown
