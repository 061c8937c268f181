use Rattle.std.proofs.Common.{◌≡◌, ◌++◌, map, drop}
use Rattle.question_text.specs.Covers.{at_net}
use Rattle.question_text.proofs.covers.at_nets.Given as goal

abbrev pub invariant-loop-it : goal.invariant-loop-it
invariant-loop-it l =
    l.made ++ map (at_net l.numbers) (drop l.it-index l.literals) ≡ map (at_net l.numbers) l.literals
