-- How a run ends that is refused.
use Rattle.tsc_net.specs.declared.net_error.NetError.{NetError}
use Rattle.tsc_net.specs.declared.net_error.NetError.TheVariants.{Twice, Undriven, NoOutputs, Cycle, Memory as NetMemory}
use Rattle.blif_read.specs.declared.error.BlifError.{BlifError}
use Rattle.blif_read.specs.declared.error.BlifError.TheVariants.{Unsupported, WordCount, RowOutside, RowShape, Mixed, LatchInSource, LatchClock, LatchInit, PlanShape, Limit as BlifLimit, Net, NoPlan, PlanName, Memory as BlifMemory}
use Rattle.kiss_read.specs.declared.error.KissError.{KissError}
use Rattle.kiss_read.specs.declared.error.KissError.TheVariants as kiss
use Rattle.pla_read.specs.declared.error.PlaError.{PlaError}
use Rattle.pla_read.specs.declared.error.PlaError.TheVariants as pla
use Rattle.refusals.specs.declared.refusal.Refusal.{Refusal}
use Rattle.refusals.specs.declared.refusal.Refusal.TheVariants.{Usage as NoMeaning, ReadFault as CannotRead, WriteFault as CannotWrite, Memory as NoMemory, TooLong, Text, Beyond}
use Rattle.refusals.specs.declared.text_refusal.TextRefusal.{TextRefusal}
use Rattle.refusals.specs.declared.text_refusal.TextRefusal.TheVariants.{BadByte, Blif, Kiss, Pla, AfterTheEnd, NoNetlist, NotListed, NoStates, StepShape, Refutation, TooMany}
use Rattle.refusals.specs.declared.status.Status.{Status}
use Rattle.refusals.specs.declared.status.Status.TheVariants.{Usage, BadInput, Limit, ReadFault, WriteFault, Memory}

-- parts that are no netlist are a bad input; want of memory is its own end
abbrev pub net_status : NetError → Status
net_status (Twice net) = BadInput
net_status (Undriven net) = BadInput
net_status NoOutputs = BadInput
net_status (Cycle nets) = BadInput
net_status (NetMemory error) = Memory

-- a BLIF text that is refused is a bad input, except for limits and want of memory
abbrev pub blif_status : BlifError → Status
blif_status (Unsupported line) = BadInput
blif_status (WordCount line) = BadInput
blif_status (RowOutside line) = BadInput
blif_status (RowShape line) = BadInput
blif_status (Mixed line) = BadInput
blif_status (LatchInSource line) = BadInput
blif_status (LatchClock line) = BadInput
blif_status (LatchInit line) = BadInput
blif_status (PlanShape line) = BadInput
blif_status (BlifLimit line which) = Limit
blif_status (Net error) = net_status error
blif_status NoPlan = BadInput
blif_status (PlanName line) = BadInput
blif_status (BlifMemory error) = Memory

-- a machine that is refused is a bad input, except for limits and want of memory
abbrev pub kiss_status : KissError → Status
kiss_status (kiss.Limit line which) = Limit
kiss_status (kiss.Memory error) = Memory
kiss_status _ = BadInput

-- a table that is refused is a bad input, except for limits and want of memory
abbrev pub pla_status : PlaError → Status
pla_status (pla.Limit line which) = Limit
pla_status (pla.Memory error) = Memory
pla_status _ = BadInput

-- how a run ends whose text is refused by this
abbrev pub text_status : TextRefusal → Status
text_status (BadByte line) = BadInput
text_status (Blif kind error) = blif_status error
text_status (Kiss error) = kiss_status error
text_status (Pla error) = pla_status error
text_status (AfterTheEnd line) = BadInput
text_status NoNetlist = BadInput
text_status NotListed = BadInput
text_status NoStates = BadInput
text_status (StepShape line) = BadInput
text_status (Refutation fault) = BadInput
text_status (TooMany limit) = Limit

-- how a run ends that is refused by this
abbrev pub status_of : Refusal → Status
status_of NoMeaning = Usage
status_of CannotRead = ReadFault
status_of CannotWrite = WriteFault
status_of (NoMemory error) = Memory
status_of TooLong = Limit
status_of (Text refusal) = text_status refusal
status_of (Beyond limit) = Limit
