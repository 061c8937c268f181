-- What is seen of a source in memory.
use Rattle.std.specs.Prelude.{ℕ, List}

-- the bytes left, the most that one call gives, the numbers of the calls that fail, how many calls were made, and how many of them failed
pub record SourceState : Type 0 where
  pub left : List ℕ
  pub piece : ℕ
  pub fails : List ℕ
  pub calls : ℕ
  pub faults : ℕ
