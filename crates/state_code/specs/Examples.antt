-- The words of seven states and of two, and the most states.
use Rattle.std.specs.Prelude.{◌≡◌, [], ◌∷◌, refl}
use Rattle.state_code.specs.Words.{binomial, state_words}

-- 000111, 001011, 001101, 001110, 010011, 010101, 010110
words-seven : state_words 6 3 7 ≡ 7 ∷ 11 ∷ 13 ∷ 14 ∷ 19 ∷ 21 ∷ 22 ∷ []
words-seven = refl

-- 01, 10
words-two : state_words 2 1 2 ≡ 1 ∷ 2 ∷ []
words-two = refl

binomial-most : binomial 12 6 ≡ 924
binomial-most = refl
