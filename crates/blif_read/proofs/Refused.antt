-- The refusal of a section, where it has no line with a fault.
use Rattle.std.proofs.Common.{◌≡◌, List, [], ap, sym, subst, ◌∙◌, None}
use Rattle.tsc_text.specs.TextLine.{TextLine}
use Rattle.tsc_net.specs.Named.{Named}
use Rattle.tsc_net.specs.NetFault.{fault_of, IsRefusedFor}
use Rattle.tsc_net.specs.declared.net_error.NetError.{NetError}
use Rattle.tsc_net.specs.declared.net_error.NetError.TheVariants.{Twice, Undriven, NoOutputs, Cycle, Memory as NoMemory}
use Rattle.blif_read.specs.NamedText.{named_text}
use Rattle.blif_read.specs.Seen.{seen_of}
use Rattle.blif_read.specs.Clean.{AreClean}
use Rattle.blif_read.specs.FirstFault.{line_fault}
use Rattle.blif_read.specs.Refusal.{first_refusal, refusal_of_line, refusal_of_net, netlist_refusal, net_refusal, IsRefusedBy}
use Rattle.blif_read.specs.Denotes.{refusal, refusal_of_plan}
use Rattle.blif_read.specs.declared.error.BlifError.{BlifError}
use Rattle.blif_read.specs.declared.kinds.Kind.{Kind}
use Rattle.blif_read.proofs.Scanned.{first_fault_is}
use Rattle.blif_read.proofs.CleanLines.{are_clean}
use Rattle.blif_read.proofs.LineFaults.{no_first_fault}

module _ (kind : Kind) (lines : List TextLine) (e : None ≡ line_fault kind lines) where
  pub clean_lines : AreClean lines
  clean_lines = are_clean kind lines (seen_of []) (sym (first_fault_is kind [] lines) ∙ no_first_fault kind lines (sym e))

  refusal_is : netlist_refusal kind lines ≡ refusal_of_net (fault_of (named_text lines))
  refusal_is = ap (λ f. first_refusal (refusal_of_line f) (refusal_of_net (fault_of (named_text lines)))) (sym e)

  pub no_refusal : (N : Named) → N ≡ named_text lines → fault_of N ≡ None → netlist_refusal kind lines ≡ None
  no_refusal N n f = refusal_is ∙ ap (λ x. refusal_of_net x) (ap (λ M. fault_of M) (sym n) ∙ f)

  pub net_refused : (N : Named) (error : NetError) → N ≡ named_text lines → IsRefusedFor N error → IsRefusedBy (netlist_refusal kind lines) (net_refusal error)
  net_refused N (Twice net) n r = refusal_is ∙ ap (λ x. refusal_of_net x) (ap (λ M. fault_of M) (sym n) ∙ r)
  net_refused N (Undriven net) n r = refusal_is ∙ ap (λ x. refusal_of_net x) (ap (λ M. fault_of M) (sym n) ∙ r)
  net_refused N NoOutputs n r = refusal_is ∙ ap (λ x. refusal_of_net x) (ap (λ M. fault_of M) (sym n) ∙ r)
  net_refused N (Cycle nets) n r = refusal_is ∙ ap (λ x. refusal_of_net x) (ap (λ M. fault_of M) (sym n) ∙ r)
  net_refused N (NoMemory error) n r = tt

-- where neither a line nor the netlist is refused, the section is refused as its plan or its clock is
pub last_refusal : (kind : Kind) (lines : List TextLine) → netlist_refusal kind lines ≡ None → refusal kind lines ≡ refusal_of_plan kind lines
last_refusal kind lines none = ap (λ first. first_refusal first (refusal_of_plan kind lines)) none

pub refused_last : (kind : Kind) (lines all : List TextLine) (error : BlifError) → lines ≡ all → netlist_refusal kind lines ≡ None
    → IsRefusedBy (refusal_of_plan kind lines) error → IsRefusedBy (refusal kind all) error
refused_last kind lines all error are none refused =
    subst (λ all. IsRefusedBy (refusal kind all) error) are (subst (λ first. IsRefusedBy first error) (sym (last_refusal kind lines none)) refused)
