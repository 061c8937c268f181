-- How clauses are held: entries with rising numbers, whose literals stand in one pool.
use Rattle.std.specs.Prelude.{◌≡◌, ℕ, ◌+◌, ◌<◌, ◌≤◌, true, false, List, [], ◌∷◌, length, take, drop, nat_eq, if◌then◌else◌, slice_index_or}
use Rattle.refutations.specs.declared.literal.Literal.{Literal}
use Rattle.refutations.specs.declared.clauses.Entry.{Entry}
use Rattle.refutations.specs.Steps.{Numbered}

-- what contracts see of clauses: the greatest number until now, and the clauses alive with their numbers
pub record ClauseList : Type 0 where
  pub last : ℕ
  pub clauses : List Numbered

-- the literals of an entry
abbrev pub literals_of : List Literal → Entry → List Literal
literals_of pool e = take e.count (drop e.start pool)

-- the clause of an entry, with its number
abbrev pub numbered : List Literal → Entry → Numbered
numbered pool e = record { number = e.number; literals = literals_of pool e }

-- the clauses of the entries that are alive
abbrev pub clauses_in : List Literal → List Entry → List Numbered
clauses_in pool [] = []
clauses_in pool (e ∷ es) = if e.alive then (numbered pool e ∷ clauses_in pool es) else clauses_in pool es

-- the clauses without that of a number
abbrev pub without : List Numbered → ℕ → List Numbered
without [] number = []
without (c ∷ cs) number = if nat_eq c.number number then without cs number else (c ∷ without cs number)

abbrev pub no_entry : Entry
no_entry = record { number = 0; alive = false; start = 0; count = 0 }

-- the entry at a place
abbrev pub entry : List Entry → ℕ → Entry
entry entries place = slice_index_or entries place no_entry

-- each entry has a greater number than those before it
abbrev pub IsRising : List Entry → Type 0
IsRising entries = (j k : ℕ) → j < k → k < length entries → (entry entries j).number < (entry entries k).number

-- no entry with the number is alive
abbrev pub IsAbsent : List Entry → ℕ → Type 0
IsAbsent entries number = (k : ℕ) → k < length entries → (entry entries k).number ≡ number → (entry entries k).alive ≡ false

-- the entry at the place has the number, and is alive
pub record IsPresent (entries : List Entry) (number place : ℕ) : Type 0 where
  pub inside : place < length entries
  pub is : (entry entries place).number ≡ number
  pub alive : (entry entries place).alive ≡ true

-- what is true of every list of clauses: entries rise from 1 up to the last number, and their literals stand in the pool, one entry's after another's
pub record IsHeld (last : ℕ) (entries : List Entry) (pool : List Literal) : Type 0 where
  pub rising : IsRising entries
  pub above : (k : ℕ) → k < length entries → 0 < (entry entries k).number
  pub below : (k : ℕ) → k < length entries → (entry entries k).number ≤ last
  pub inside : (k : ℕ) → k < length entries → (entry entries k).start + (entry entries k).count ≤ length pool
  pub ordered : (j k : ℕ) → j < k → k < length entries → (entry entries j).start + (entry entries j).count ≤ (entry entries k).start

-- that is true of them, up to some number
abbrev pub AreHeld : List Entry → List Literal → Type 0
AreHeld entries pool = (last : ℕ) × IsHeld last entries pool
