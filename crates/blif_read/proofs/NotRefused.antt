-- A section that is not refused has no line with a fault, and its netlist has none.
use Rattle.std.proofs.Common.{◌≡◌, List, Option, None, Some, refl}
use Rattle.tsc_net.specs.NetFault.{fault_of}
use Rattle.tsc_net.specs.declared.net_error.NetError.{NetError}
use Rattle.tsc_text.specs.TextLine.{TextLine}
use Rattle.blif_read.specs.NamedText.{named_text}
use Rattle.blif_read.specs.FirstFault.{first_fault, line_fault}
use Rattle.blif_read.specs.Refusal.{first_refusal, refusal_of_line, refusal_of_net}
use Rattle.blif_read.specs.Denotes.{refusal, refusal_of_plan}
use Rattle.blif_read.specs.declared.cause.LineFault.{LineFault}
use Rattle.blif_read.specs.declared.error.BlifError.{BlifError}
use Rattle.blif_read.specs.declared.kinds.Kind.{Kind}
use Rattle.blif_read.proofs.LineFaults.{no_first_fault}

none_both : (line : Option LineFault) (net : Option NetError) (plan : Option BlifError)
    → first_refusal (first_refusal (refusal_of_line line) (refusal_of_net net)) plan ≡ None → (line ≡ None) × (net ≡ None)
none_both None None plan e = (refl, refl)
none_both None (Some net) plan e = cc
none_both (Some line) net plan e = cc

-- where the section isn't refused, no line of it has a fault
pub no_line_fault : (kind : Kind) (lines : List TextLine) → refusal kind lines ≡ None → first_fault kind lines ≡ None
no_line_fault kind lines e =
    no_first_fault kind lines (none_both (line_fault kind lines) (fault_of (named_text lines)) (refusal_of_plan kind lines) e).0

-- where the section isn't refused, the netlist that its lines name has no fault
pub no_net_fault : (kind : Kind) (lines : List TextLine) → refusal kind lines ≡ None → fault_of (named_text lines) ≡ None
no_net_fault kind lines e = (none_both (line_fault kind lines) (fault_of (named_text lines)) (refusal_of_plan kind lines) e).1
