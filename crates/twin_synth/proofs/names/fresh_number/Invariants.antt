-- No number below is free: the search goes on from here.
use Rattle.std.proofs.Common.{◌≡◌, length, ◌-◌, ◌++◌}
use Rattle.std.specs.Option.{option_copied}
use Rattle.tsc_net.specs.Parts.{free_number_from}
use Rattle.twin_synth.specs.Pushed.{control_words, fresh_number}
use Rattle.twin_synth.proofs.names.fresh_number.Given as goal

abbrev pub invariant-loop-number : goal.invariant-loop-number
invariant-loop-number l =
    free_number_from (l.source.names ++ control_words (option_copied l.control)) (length (l.source.names ++ control_words (option_copied l.control)) - l.number) l.number
    ≡ fresh_number l.source (option_copied l.control)
