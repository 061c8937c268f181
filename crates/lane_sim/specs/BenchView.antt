-- What is seen of a bench of the code, and what it keeps.
use Rattle.std.specs.Prelude.{◌≡◌, ℕ, ◌*◌, ◌/◌, Bool, List, length, map, Some, None, if◌then◌else◌}
use Rattle.lane_sim.specs.Bench.{BenchState}
use Rattle.lane_sim.specs.Program.{ProgramState, row_at}
use Rattle.lane_sim.specs.RowBlock.{row_words}
use Rattle.lane_sim.specs.declared.bench.Bench.TheInside.{Inside}

-- the words of each watched net, from its row
abbrev pub watched_lanes : ProgramState → List ℕ → List (List ℕ)
watched_lanes program block = map (λ net. row_words block (row_at program.rows.rows net)) program.watched

abbrev pub bench_of : ProgramState → List ℕ → Bool → BenchState
bench_of program block settled = record {
  circuit = program.circuit;
  watched = program.watched;
  lanes = if settled then Some (watched_lanes program block) else None;
  rows = length block / 16;
}

abbrev pub bench_as : Inside → BenchState
bench_as bench = bench_of bench.program bench.block bench.settled

-- it has as many rows as its program needs
abbrev pub HasRows : Inside → Type 0
HasRows bench = length bench.block ≡ bench.program.rows.count * 16
