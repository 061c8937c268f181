-- Why what was asked for was not done is a cause of the status that the run ends with.
use Rattle.std.proofs.Common.{◌≡◌, ℕ, List, Some, subst, inl, inr}
use Rattle.std.specs.Prelude.{alloc_error}
use Rattle.tsc_net.specs.declared.net_error.NetError.{NetError}
use Rattle.tsc_net.specs.declared.net_error.NetError.TheVariants as net
use Rattle.blif_read.specs.declared.error.BlifError.{BlifError}
use Rattle.blif_read.specs.declared.error.BlifError.TheVariants as blif
use Rattle.kiss_read.specs.declared.error.KissError.{KissError}
use Rattle.kiss_read.specs.declared.error.KissError.TheVariants as kiss
use Rattle.pla_read.specs.declared.error.PlaError.{PlaError}
use Rattle.pla_read.specs.declared.error.PlaError.TheVariants as pla
use Rattle.refusals.specs.declared.refusal.Refusal.{Refusal}
use Rattle.refusals.specs.declared.refusal.Refusal.TheVariants.{Usage as NoMeaning, ReadFault as CannotRead, WriteFault as CannotWrite, Memory as NoMemory, TooLong, Text, Beyond}
use Rattle.refusals.specs.declared.text_refusal.TextRefusal.{TextRefusal}
use Rattle.refusals.specs.declared.text_refusal.TextRefusal.TheVariants.{BadByte, Blif, Kiss, Pla, AfterTheEnd, NoNetlist, NotListed, NoStates, StepShape, Refutation, TooMany}
use Rattle.commands.specs.declared.request.Request.{Request}
use Rattle.commands.specs.declared.request.Request.TheVariants.{Read, Make, Help}
use Rattle.refusals.specs.declared.status.Status.{Status}
use Rattle.refusals.specs.declared.status.Status.TheVariants.{Done, AuditNo, Usage, BadInput, Limit, ReadFault, WriteFault, Memory}
use Rattle.refusals.specs.Notes.{IsOfText}
use Rattle.tsc_tool.specs.Cause.{Cause, IsRefused, IsToldAs, StopsRequest, Tells}
use Rattle.netlist_answers.specs.Devices.{Devices, SinkCall, SourceCall}
use Rattle.commands.specs.Meaning.{meaning}
use Rattle.refusals.specs.StatusOf.{blif_status, kiss_status, net_status, pla_status, status_of, text_status}

-- a status with which a refusal ends what was asked for
abbrev IsStopped : Status → Type 0
IsStopped Done = ⊥
IsStopped AuditNo = ⊥
IsStopped Usage = ⊥
IsStopped _ = Unit {0}

net_stopped : (error : NetError) → IsStopped (net_status error)
net_stopped (net.Twice at) = tt
net_stopped (net.Undriven at) = tt
net_stopped net.NoOutputs = tt
net_stopped (net.Cycle nets) = tt
net_stopped (net.Memory error) = tt

blif_stopped : (error : BlifError) → IsStopped (blif_status error)
blif_stopped (blif.Unsupported line) = tt
blif_stopped (blif.WordCount line) = tt
blif_stopped (blif.RowOutside line) = tt
blif_stopped (blif.RowShape line) = tt
blif_stopped (blif.Mixed line) = tt
blif_stopped (blif.LatchInSource line) = tt
blif_stopped (blif.LatchClock line) = tt
blif_stopped (blif.LatchInit line) = tt
blif_stopped (blif.PlanShape line) = tt
blif_stopped (blif.Limit line which) = tt
blif_stopped (blif.Net error) = net_stopped error
blif_stopped blif.NoPlan = tt
blif_stopped (blif.PlanName line) = tt
blif_stopped (blif.Memory error) = tt

kiss_stopped : (error : KissError) → IsStopped (kiss_status error)
kiss_stopped (kiss.Header line) = tt
kiss_stopped (kiss.Unsupported line) = tt
kiss_stopped (kiss.RowShape line) = tt
kiss_stopped (kiss.Limit line which) = tt
kiss_stopped kiss.NoRows = tt
kiss_stopped (kiss.NoReset line) = tt
kiss_stopped (kiss.Conflict earlier later) = tt
kiss_stopped (kiss.Memory error) = tt

pla_stopped : (error : PlaError) → IsStopped (pla_status error)
pla_stopped (pla.Header line) = tt
pla_stopped (pla.Unsupported line) = tt
pla_stopped (pla.RowShape line) = tt
pla_stopped (pla.Limit line which) = tt
pla_stopped (pla.Memory error) = tt

text_stopped : (refusal : TextRefusal) → IsStopped (text_status refusal)
text_stopped (BadByte line) = tt
text_stopped (Blif kind error) = blif_stopped error
text_stopped (Kiss error) = kiss_stopped error
text_stopped (Pla error) = pla_stopped error
text_stopped (AfterTheEnd line) = tt
text_stopped NoNetlist = tt
text_stopped NotListed = tt
text_stopped NoStates = tt
text_stopped (StepShape line) = tt
text_stopped (Refutation fault) = tt
text_stopped (TooMany limit) = tt

-- what was asked for has a meaning, so it isn't stopped for having none
has_meaning : (request : Request) (source : SourceCall) (sink : SinkCall) → StopsRequest request source sink NoMeaning → ⊥
has_meaning (Read command) source sink stops = stops.because
has_meaning (Make number) source sink stops = stops.1
has_meaning Help source sink stops = stops.1

stopped : (request : Request) (source : SourceCall) (sink : SinkCall) (refusal : Refusal) → StopsRequest request source sink refusal
    → IsStopped (status_of refusal)
stopped request source sink NoMeaning stops = absurd (has_meaning request source sink stops)
stopped request source sink CannotRead stops = tt
stopped request source sink CannotWrite stops = tt
stopped request source sink (NoMemory error) stops = tt
stopped request source sink TooLong stops = tt
stopped request source sink (Text refusal) stops = text_stopped refusal
stopped request source sink (Beyond limit) stops = tt

-- where memory is missing for the note of a text's refusal, that stops it as well
without_note : (request : Request) (source : SourceCall) (sink : SinkCall) (refusal : Refusal) → IsOfText refusal
    → StopsRequest request source sink refusal → StopsRequest request source sink (NoMemory alloc_error)
without_note (Read command) source sink (Text refusal) of stops = record { because = tt; nothing = stops.nothing }
without_note (Read command) source sink (Beyond limit) of stops = record { because = tt; nothing = stops.nothing }
without_note (Make number) source sink (Text refusal) of stops = absurd (stops.1)
without_note (Make number) source sink (Beyond limit) of stops = absurd (stops.1)
without_note Help source sink (Text refusal) of stops = absurd (stops.1)
without_note Help source sink (Beyond limit) of stops = absurd (stops.1)
without_note request source sink refusal of stops = absurd of

-- a refusal with a status of its own is the cause of it
cause_of : (words : List (List ℕ)) (devices : Devices) (status : Status) → IsStopped status → IsRefused words devices status
    → Cause words devices status
cause_of words devices Done is refused = absurd is
cause_of words devices AuditNo is refused = absurd is
cause_of words devices Usage is refused = absurd is
cause_of words devices BadInput is refused = refused
cause_of words devices Limit is refused = refused
cause_of words devices ReadFault is refused = refused
cause_of words devices WriteFault is refused = refused
cause_of words devices Memory is refused = inl refused

told_so : (words : List (List ℕ)) (devices : Devices) (request : Request) (refusal : Refusal) (status : Status)
    → meaning words ≡ Some request → StopsRequest request devices.source devices.sink refusal → IsToldAs refusal devices.notes status
    → Cause words devices status
told_so words devices request refusal status meant stops told =
    cause_of words devices status (subst IsStopped told.has_status (stopped request devices.source devices.sink refusal stops))
    (record { request = request; meant = meant; refusal = refusal; stops = stops; told = told })

-- what stopped a request and was told is the cause of the status
pub stopped_cause : (words : List (List ℕ)) (devices : Devices) (request : Request) (refusal : Refusal) (status : Status)
    → meaning words ≡ Some request → StopsRequest request devices.source devices.sink refusal → Tells refusal devices.notes status
    → Cause words devices status
stopped_cause words devices request refusal status meant stops (inl told) = told_so words devices request refusal status meant stops told
stopped_cause words devices request refusal status meant stops (inr short) =
    told_so words devices request (NoMemory alloc_error) status meant
    (without_note request devices.source devices.sink refusal short.0 stops) short.1
