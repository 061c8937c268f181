use Rattle.std.proofs.Common.{◌≡◌, ◌++◌, map, drop}
use Rattle.code_checkers.specs.Signal.Signal.{Word}
use Rattle.code_checkers.specs.Draft.{AreWithin, meanings, Keeps}
use Rattle.code_checkers.proofs.word_places.group_words.Given as goal

-- the places added so far and those that are left are all of them
abbrev pub invariant-loop-word : goal.invariant-loop-word
invariant-loop-word l = record {
  made : meanings l.draft l.places.items ++ map Word (drop l.word-index l.group) ≡ map Word l.group;
  within : AreWithin l.draft l.places.items;
  keeps : Keeps l.fn.draft l.draft;
}
