-- Lines of small texts, computed.
use Rattle.std.specs.Prelude.{◌≡◌, true, false, [], ◌∷◌, ◌++◌, codes, refl}
use Rattle.tsc_text.specs.Lines.{lines_of}

-- a continued line with a comment and CR LF, a plan line, a line without a word, and a `\` at the end
pub lines_of-small : lines_of (codes "a b\\# more" ++ 13 ∷ 10 ∷ codes " c\\" ++ 13 ∷ 10 ∷ 10 ∷ codes "#tsc 1 x" ++ 10 ∷ codes "# no" ++ 10 ∷ codes "d\\")
    ≡ record { number = 1; is_plan = false; words = codes "a" ∷ codes "b" ∷ codes "c" ∷ [] }
    ∷ record { number = 4; is_plan = true; words = codes "1" ∷ codes "x" ∷ [] }
    ∷ record { number = 6; is_plan = false; words = codes "d" ∷ [] } ∷ []
lines_of-small = refl

-- a line that is joined is no plan line, and a plan line is not joined
lines_of-joined : lines_of (codes "a\\" ++ 10 ∷ codes "#tsc b" ++ 10 ∷ codes "#tsc c\\" ++ 10 ∷ codes "d")
    ≡ record { number = 1; is_plan = false; words = codes "a" ∷ [] }
    ∷ record { number = 3; is_plan = true; words = codes "c\\" ∷ [] }
    ∷ record { number = 4; is_plan = false; words = codes "d" ∷ [] } ∷ []
lines_of-joined = refl

-- a `\` within a line is a byte as any other, and so is one before a CR that does not end the line
lines_of-slashes : lines_of (codes "\\a\\ b" ++ 10 ∷ codes "c\\" ++ 13 ∷ codes "d" ++ 10 ∷ codes "\\\\" ++ 13 ∷ 10 ∷ codes "e")
    ≡ record { number = 1; is_plan = false; words = codes "\\a\\" ∷ codes "b" ∷ [] }
    ∷ record { number = 2; is_plan = false; words = codes "c\\" ∷ codes "d" ∷ [] }
    ∷ record { number = 3; is_plan = false; words = codes "\\" ∷ codes "e" ∷ [] } ∷ []
lines_of-slashes = refl
