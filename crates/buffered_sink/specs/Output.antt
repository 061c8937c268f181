-- What a sink gains, and what waits in a page before it, while a text is printed.
use Rattle.std.specs.Prelude.{◌≡◌, ℕ, ◌≤◌, List, ◌++◌, Option, Result, Ok, Err}
use Rattle.std.specs.Io.KnownBytes.{Appends}
use Rattle.tsc_io.specs.Counts.{Rose}
use Rattle.tsc_io.specs.Writing.{AppendsPrefix}

-- a sink and a page: the bytes written, where the sink tells them, its count of faults, and the bytes that wait
pub record Output : Type 0 where
  pub written : Option (List ℕ)
  pub faults : ℕ
  pub held : List ℕ

abbrev pub output : Option (List ℕ) → ℕ → List ℕ → Output
output written faults held = record { written = written; faults = faults; held = held }

-- a text was printed: what waited before and the text are what went to the sink and what waits now
pub record IsPrinted (before after : Output) (text : List ℕ) : Type 0 where
  pub gone : List ℕ
  pub gained : Appends before.written after.written gone
  pub kept : before.held ++ text ≡ gone ++ after.held
  pub faults_stay : before.faults ≤ after.faults

-- the sink failed while a text was printed: it gained some first bytes of what waited before and the text
pub record IsCut (before after : Output) (text : List ℕ) : Type 0 where
  pub gained : AppendsPrefix before.written after.written (before.held ++ text)
  pub rose : Rose before.faults after.faults
  pub faults_stay : before.faults ≤ after.faults

-- where it is done the text was printed, else the sink failed
abbrev pub Prints : {T E : Type 0} → Result T E → Output → Output → List ℕ → Type 0
Prints (Ok done) before after text = IsPrinted before after text
Prints (Err fault) before after text = IsCut before after text
