-- The devices of a call: their bytes, where they tell them, and their counts of faults, before and after.
use Rattle.std.specs.Prelude.{◌≡◌, ℕ, ◌≤◌, ◌⊎◌, List, length, Option, IfSome}
use Rattle.std.specs.Io.KnownBytes.{Appends, IsAtEnd, Keeps, Consumes}
use Rattle.tsc_io.specs.Counts.{Rose}
use Rattle.tsc_io.specs.Writing.{AppendsPrefix}

-- a source: the bytes left, the count of its faults, and that of its calls
pub record SourceCall : Type 0 where
  pub left : Option (List ℕ)
  pub left_after : Option (List ℕ)
  pub faults : ℕ
  pub faults_after : ℕ
  pub calls : ℕ
  pub calls_after : ℕ

-- a sink: the bytes written, and the count of its faults
pub record SinkCall : Type 0 where
  pub written : Option (List ℕ)
  pub written_after : Option (List ℕ)
  pub faults : ℕ
  pub faults_after : ℕ

-- the source, the sink of the answer, and that of the notes
pub record Devices : Type 0 where
  pub source : SourceCall
  pub sink : SinkCall
  pub notes : SinkCall

-- a source from before to after
abbrev pub source_call : Option (List ℕ) → Option (List ℕ) → ℕ → ℕ → ℕ → ℕ → SourceCall
source_call left left_after faults faults_after calls calls_after =
    record { left = left; left_after = left_after; faults = faults; faults_after = faults_after; calls = calls; calls_after = calls_after }

-- a sink from before to after
abbrev pub sink_call : Option (List ℕ) → Option (List ℕ) → ℕ → ℕ → SinkCall
sink_call written written_after faults faults_after =
    record { written = written; written_after = written_after; faults = faults; faults_after = faults_after }

-- the source was read to its end, and gave this text, which is not too long
pub record IsRead (source : SourceCall) (text : List ℕ) : Type 0 where
  pub came : Consumes source.left source.left_after text
  pub end : IsAtEnd source.left_after
  pub all : IfSome source.left (λ left. text ≡ left)
  pub short : length text ≤ 67108864

-- nothing was read: the bytes left, the faults and the calls are as before
pub record IsUntouched (source : SourceCall) : Type 0 where
  pub left : source.left_after ≡ source.left
  pub faults : source.faults_after ≡ source.faults
  pub calls : source.calls_after ≡ source.calls

-- the sink gained these bytes
abbrev pub Gains : SinkCall → List ℕ → Type 0
Gains sink bytes = Appends sink.written sink.written_after bytes

-- the sink gained nothing
abbrev pub GainsNothing : SinkCall → Type 0
GainsNothing sink = Keeps sink.written sink.written_after

-- the sink failed, and gained some first bytes of these
pub record GainsPrefix (sink : SinkCall) (bytes : List ℕ) : Type 0 where
  pub rose : Rose sink.faults sink.faults_after
  pub prefix : AppendsPrefix sink.written sink.written_after bytes

-- the line was told: the sink gained it, or failed and gained some first bytes of it
abbrev pub IsTold : SinkCall → List ℕ → Type 0
IsTold sink line = Gains sink line ⊎ GainsPrefix sink line
