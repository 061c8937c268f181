-- What a fault of the code says.
use Rattle.std.specs.Prelude.{Option, Some, None}
use Rattle.fault_secure.specs.StuckAt.{StuckAt, NoFault, Stem, Pin}
use Rattle.tsc_net.specs.declared.fault.Fault.{Fault}
use Rattle.tsc_net.specs.declared.fault.Fault.TheVariants.{Stem as TheStem, Pin as ThePin}

-- the stuck-at fault that the code's fault names
abbrev pub stuck_at : Fault → StuckAt
stuck_at (TheStem net value) = Stem net.number value
stuck_at (ThePin driver index value) = Pin driver.number index value

-- that of a fault that may be none
abbrev pub stuck_at_or_none : Option Fault → StuckAt
stuck_at_or_none None = NoFault
stuck_at_or_none (Some fault) = stuck_at fault
