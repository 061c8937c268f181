-- What is seen of a fault, as it is kept.
use Rattle.std.specs.Prelude.{ℕ, zero, suc, Bool}
use Rattle.fault_secure.specs.StuckAt.{StuckAt, Stem, Pin}
use Rattle.tsc_net.specs.declared.faults.KeptFault.{KeptFault}

-- with number 0 the stem of the net, with number k + 1 the pin k of what drives it
abbrev pub stem_or_pin : ℕ → ℕ → Bool → StuckAt
stem_or_pin net zero value = Stem net value
stem_or_pin net (suc pin) value = Pin net pin value

-- the fault that a kept one stands for
abbrev pub kept_as : KeptFault → StuckAt
kept_as f = stem_or_pin f.net.number f.pin f.value
