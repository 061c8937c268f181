-- The bound on the covers of a netlist by a way of synthesis, over counts of its source alone.
use Rattle.std.specs.Prelude.{ℕ, zero, suc, ◌+◌, ◌*◌, ◌^◌, nat_lt, Bool, true, false, length, IsTrue}
use Rattle.fault_secure.specs.Circuit.{Circuit}
use Rattle.fault_secure.specs.Size.{network_size}
use Rattle.synth_ways.specs.declared.way.Way.{Way}
use Rattle.synth_ways.specs.declared.way.Way.TheVariants.{Parity, Duplex, Berger, MOutOfN}
use Rattle.parity_code.specs.FirstFit.{first_fit_groups}
use Rattle.tsc_synth.specs.declared.synthesis.SynthError.{SynthError}
use Rattle.tsc_synth.specs.declared.synthesis.SynthError.TheVariants.{TooManyStates, TooLarge, Memory}

-- how many copies of the network a netlist may cost: under parity one for each group and two; three where all groups share one; under the
-- other codes four
abbrev pub copies_of : Way → Circuit → ℕ
copies_of Parity C = length (first_fit_groups C) + 2
copies_of Duplex C = 3
copies_of Berger C = 4
copies_of MOutOfN C = 4

-- the bound, over so many copies
abbrev pub bound_over : ℕ → Circuit → ℕ
bound_over copies C = 4 * (copies * network_size C + C.inputs + 16 * (length C.outputs + 1) ^ 2)

-- the bound on the covers of a netlist by a way
abbrev pub cover_bound : Way → Circuit → ℕ
cover_bound way C = bound_over (copies_of way C) C

-- the bound is above 1,048,576
abbrev pub is_too_large : Way → Circuit → Bool
is_too_large way C = nat_lt 1048576 (cover_bound way C)

-- why a network has no netlist by a way: the bound is too large; memory may be missing anywhere
abbrev pub RefusesSource : Way → Circuit → SynthError → Type 0
RefusesSource way C TooManyStates = ⊥
RefusesSource way C TooLarge = IsTrue (is_too_large way C)
RefusesSource way C (Memory e) = Unit {0}

-- how many covers more the watch of so many registers may cost: two for each of them, and five
abbrev pub watch_bound : Bool → ℕ → ℕ
watch_bound true zero = 0
watch_bound true (suc more) = 2 * suc more + 5
watch_bound false registers = 0

-- the bound on the covers of a netlist of two copies of a source, with registers or without, which may be watched
abbrev pub twin_bound : Bool → Circuit → ℕ
twin_bound watching C = cover_bound Duplex C + watch_bound watching (length C.latches)

-- that bound is above 1,048,576
abbrev pub is_too_large_twin : Bool → Circuit → Bool
is_too_large_twin watching C = nat_lt 1048576 (twin_bound watching C)

-- why a source has no such netlist: the bound is too large; memory may be missing anywhere
abbrev pub RefusesTwin : Bool → Circuit → SynthError → Type 0
RefusesTwin watching C TooManyStates = ⊥
RefusesTwin watching C TooLarge = IsTrue (is_too_large_twin watching C)
RefusesTwin watching C (Memory e) = Unit {0}
