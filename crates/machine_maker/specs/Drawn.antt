-- What is drawn of a machine, in order: a generator goes in, what was drawn and the generator after it come out.
use Rattle.std.specs.Prelude.{ℕ, zero, suc, ◌/◌, ◌%◌, ◌==◌, if◌then◌else◌, List, [], ◌∷◌, ◌++◌}
use Rattle.rand_pcg.specs.Lcg.{Lcg, increment_of, started}
use Rattle.rand_pcg.specs.Pcg.{multiplier_64, pcg32}

-- the generator of a number: the first stream of PCG32
unfoldable pub generator : ℕ → Lcg
generator number = started 64 multiplier_64 number (increment_of 64 1)

-- the next word modulo n
unfoldable pub draw : ℕ → Lcg → ℕ × Lcg
draw n g = ((pcg32 g).0 % n, (pcg32 g).1)

-- `0`, `1` or `-`
abbrev pub character : ℕ → ℕ
character drawn = if drawn == 0 then 48 else (if drawn == 1 then 49 else 45)

-- so many characters
unfoldable pub characters : ℕ → Lcg → List ℕ × Lcg
characters zero g = ([], g)
characters (suc count) g =
    let before = characters count g in
    let last = draw 3 before.1 in
    (before.0 ++ character last.0 ∷ [], last.1)

-- a row: its number among the four of its state, what it asks of the last five inputs, its state and the next one, the outputs
pub record DrawnRow : Type 0 where
  pub number : ℕ
  pub asked : List ℕ
  pub state : ℕ
  pub next : ℕ
  pub outputs : List ℕ

-- the row at a place, four a state
unfoldable pub drawn_row : ℕ → Lcg → DrawnRow × Lcg
drawn_row place g =
    let asked = characters 5 g in
    let next = draw 48 asked.1 in
    let outputs = characters 8 next.1 in
    (record { number = place % 4; asked = asked.0; state = place / 4; next = next.0; outputs = outputs.0 }, outputs.1)

-- so many rows
unfoldable pub drawn_rows : ℕ → Lcg → List DrawnRow × Lcg
drawn_rows zero g = ([], g)
drawn_rows (suc place) g =
    let before = drawn_rows place g in
    let last = drawn_row place before.1 in
    (before.0 ++ last.0 ∷ [], last.1)

-- the rows of a number: 48 states with four rows each
abbrev pub rows_of_number : ℕ → List DrawnRow
rows_of_number number = (drawn_rows 192 (generator number)).0
