use Rattle.std.proofs.Common.{◌≡◌, ◌++◌, drop}
use Rattle.std.specs.List.{flat_map}
use Rattle.question_text.specs.Text.{literal_word}
use Rattle.question_text.proofs.text.push_clause.Given as goal

abbrev pub invariant-loop-it : goal.invariant-loop-it
invariant-loop-it l =
    l.out ++ flat_map literal_word (drop l.it-index l.clause) ≡ l.initial.out ++ flat_map literal_word l.clause
