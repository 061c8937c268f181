-- Where no line is refused, no line has a fault of another cause than its clock.
use Rattle.std.proofs.Common.{◌≡◌, ℕ, Bool, true, false, if◌then◌else◌, List, Option, None, Some, nat_lt, refl}
use Rattle.tsc_text.specs.TextLine.{TextLine}
use Rattle.blif_read.specs.Clocks.{clock_misfit}
use Rattle.blif_read.specs.FirstFault.{first_fault, line_fault, with_misfit}
use Rattle.blif_read.specs.declared.kinds.Kind.{Kind}
use Rattle.blif_read.specs.declared.kinds.Kind.TheVariants.{Source, Registers, Netlist, AnyPlan, Unplanned}
use Rattle.blif_read.specs.declared.cause.Cause.TheVariants.{LatchClock}
use Rattle.blif_read.specs.declared.cause.LineFault.{LineFault}

none_before : (fault : Option LineFault) (misfit : Option ℕ) → with_misfit fault misfit ≡ None → fault ≡ None
none_before None misfit e = refl
none_before (Some fault) None e = e
none_before (Some fault) (Some line) e = by (nat_lt fault.line line) e
  where
    by : (b : Bool) → (if b then Some fault else Some (record { line = line; cause = LatchClock })) ≡ None → Some fault ≡ None
    by true e = cc
    by false e = cc

-- where no line is refused, no line has a fault of another cause than its clock
pub no_first_fault : (kind : Kind) (lines : List TextLine) → line_fault kind lines ≡ None → first_fault kind lines ≡ None
no_first_fault Source lines e = e
no_first_fault Registers lines e = none_before (first_fault Registers lines) (clock_misfit lines) e
no_first_fault Netlist lines e = e
no_first_fault AnyPlan lines e = e
no_first_fault Unplanned lines e = e
