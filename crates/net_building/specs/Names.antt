-- Names by their numbers.
use Rattle.std.specs.Prelude.{ℕ}
use Rattle.tsc_net.specs.declared.ids.Name.{Name}

-- the name with a number
abbrev pub numbered : ℕ → Name
numbered number = record { number = number }
