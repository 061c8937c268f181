-- State words as numbers.
use Rattle.std.specs.Prelude.{ℕ, List}

-- the number of bits of a word, and the words, the first latch most significant
pub record StateWords : Type 0 where
  pub width : ℕ
  pub words : List ℕ
