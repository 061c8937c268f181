use Rattle.std.proofs.Common.{◌≡◌, ◌+◌, ◌-◌, ◌++◌}
use Rattle.code_checkers.specs.Signal.{words_from}
use Rattle.code_checkers.specs.Draft.{AreWithin, meanings, Keeps}
use Rattle.code_checkers.proofs.word_places.words.Given as goal

-- the places added so far and those that are left are all of them
abbrev pub invariant-loop-offset : goal.invariant-loop-offset
invariant-loop-offset l = record {
  made : meanings l.draft l.places.items ++ words_from (l.first + l.offset) (l.count - l.offset) ≡ words_from l.first l.count;
  within : AreWithin l.draft l.places.items;
  keeps : Keeps l.fn.draft l.draft;
}
