-- Which lines of gates are needed by some that are wanted: these themselves, and what the gates of needed lines read.
use Rattle.std.specs.Prelude.{◌≡◌, ℕ, ◌<◌, ◌≤◌, ◌⊎◌, Bool, List, length, Contains, IsTrue}
use Rattle.fault_secure.specs.Circuit.{bit}
use Rattle.gate_net.specs.declared.line.Line.{Line}
use Rattle.gate_net.specs.Gates.{GateNetwork, gate_at}
use Rattle.gate_net.specs.NodesOfLines.{operands}

pub data IsNeeded (G : GateNetwork) (wanted : List Line) : ℕ → Type 0 where
  itself : (line : Line) → Contains wanted line → IsNeeded G wanted line.number
  through : (n : ℕ) (line : Line) → n < length G.gates → IsNeeded G wanted n → Contains (operands (gate_at G.gates n)) line → IsNeeded G wanted line.number

-- what the gate of a marked line reads is marked, from line `left` on
abbrev pub IsClosedFrom : GateNetwork → ℕ → List Bool → Type 0
IsClosedFrom G left marks =
    (n : ℕ) (line : Line) → left ≤ n → n < length G.gates → IsTrue (bit marks n) → Contains (operands (gate_at G.gates n)) line → IsTrue (bit marks line.number)

-- only needed lines are marked, the wanted ones are, and from line `left` on what the gate of a marked line reads is
pub record MarksNeeded (G : GateNetwork) (wanted : List Line) (left : ℕ) (marks : List Bool) : Type 0 where
  pub sized : length marks ≡ length G.gates
  pub sound : (n : ℕ) → IsTrue (bit marks n) → IsNeeded G wanted n
  pub rooted : (line : Line) → Contains wanted line → IsTrue (bit marks line.number)
  pub closed : IsClosedFrom G left marks

-- where the line at a place was marked, what its gate reads was marked too, and nothing else
pub record MarksOperands (G : GateNetwork) (place : ℕ) (old new : List Bool) : Type 0 where
  pub sized : length new ≡ length old
  pub keeps : (n : ℕ) → IsTrue (bit old n) → IsTrue (bit new n)
  pub sound : (n : ℕ) → IsTrue (bit new n)
      → IsTrue (bit old n) ⊎ (IsTrue (bit old place) × ((line : Line) × Contains (operands (gate_at G.gates place)) line × (line.number ≡ n)))
  pub all : IsTrue (bit old place) → (line : Line) → Contains (operands (gate_at G.gates place)) line → IsTrue (bit new line.number)
