-- Which machines have no netlist under a code: too many states, or too great a bound on the covers.
use Rattle.std.specs.Prelude.{nat_lt, Bool, IsTrue, IsFalse}
use Rattle.fault_secure.specs.Logic.{StateTable}
use Rattle.fault_secure.specs.declared.code.Code.{Code}
use Rattle.machine_synth.specs.MachineBound.{machine_bound}
use Rattle.tsc_synth.specs.declared.synthesis.SynthError.{SynthError}
use Rattle.tsc_synth.specs.declared.synthesis.SynthError.TheVariants.{TooManyStates, TooLarge, Memory}

-- there are more states than words
abbrev pub has_too_many_states : StateTable → Bool
has_too_many_states M = nat_lt 924 M.states

-- the bound is above 1,048,576
abbrev pub takes_too_many_covers : Code → StateTable → Bool
takes_too_many_covers code M = nat_lt 1048576 (machine_bound M code)

-- why a machine has no netlist under a code: it has too many states; else the bound is too large; memory may be missing anywhere
abbrev pub RefusesMachine : Code → StateTable → SynthError → Type 0
RefusesMachine code M TooManyStates = IsTrue (has_too_many_states M)
RefusesMachine code M TooLarge = IsFalse (has_too_many_states M) × IsTrue (takes_too_many_covers code M)
RefusesMachine code M (Memory e) = Unit {0}
