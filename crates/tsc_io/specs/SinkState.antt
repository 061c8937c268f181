-- What is seen of a sink in memory.
use Rattle.std.specs.Prelude.{ℕ, List}

-- the bytes written, how many there is room for, the most that one call takes, the numbers of the calls that fail, how many calls were made, and how many of them failed
pub record SinkState : Type 0 where
  pub written : List ℕ
  pub room : ℕ
  pub piece : ℕ
  pub fails : List ℕ
  pub calls : ℕ
  pub faults : ℕ
