-- What a written netlist says when it is read: what its text tells, and that nothing passes a limit of the reader.
use Rattle.std.proofs.Common.{◌≡◌, List, None, Some, sym, ap, ap₂, ◌∙◌}
use Rattle.tsc_text.specs.TextLine.{TextLine}
use Rattle.fault_secure.specs.CodePlan.{CodePlan, IsPlanOf, IsWellMade}
use Rattle.tsc_net.specs.NetFault.{fault_of}
use Rattle.tsc_net.specs.NetlistOf.{NetlistOf, IsBuilt, named_of, netlist_of}
use Rattle.blif_read.specs.NamedText.{named_text}
use Rattle.blif_read.specs.PlanFault.{plan_refusal}
use Rattle.blif_read.specs.Refusal.{first_refusal, refusal_of_line, refusal_of_net}
use Rattle.blif_write.specs.IsReadAs.{IsReadAs, lines_before_end}
use Rattle.blif_write.specs.Layout.{plan_lines, netlist_text}
use Rattle.blif_write.specs.NamedPlan.{named_plan}
use Rattle.blif_write.specs.Told.{Tells}
use Rattle.blif_write.specs.Writable.{IsWritable}
use Rattle.blif_write.proofs.Good.{net-limited, net-counts, plan-good, writable-told}
use Rattle.blif_write.proofs.NetBack.{net-sound}
use Rattle.blif_write.proofs.NoFault.{section-clean}
use Rattle.blif_write.proofs.PlanAccepted.{plan-accepted}
use Rattle.blif_write.proofs.PlanStated.{plan-stated}
use Rattle.blif_write.proofs.Told.{plan-told, tells}

-- the text of a built, writable netlist with a well-made plan of it is read as that netlist with that plan
pub is-read-as : (net : NetlistOf) (P : CodePlan) → IsBuilt net → IsWellMade P → IsPlanOf net.circuit P → IsWritable net → IsReadAs (netlist_text net P) net P
is-read-as net P checked made of writable =
    let N = named_of net in
    let Q = named_plan net P in
    let lines : List TextLine = lines_before_end net P in
    let told = writable-told net writable in
    let planned = plan-good net told checked P made of in
    let text : Tells (netlist_text net P) net (plan_lines Q) = tells net (plan_lines Q) checked told (plan-told Q planned) in
    let named : named_text lines ≡ N = sym text.denoted.named in
    let plan : plan_refusal lines (netlist_of (named_text lines)) ≡ None = ap (plan_refusal lines) text.same ∙ plan-accepted net writable checked P made of in
    record {
      lines = text.lines;
      allowed = text.allowed;
      section = text.section;
      ends = text.ends;
      refused = ap₂ (λ line fault. first_refusal (first_refusal (refusal_of_line line) (refusal_of_net fault)) (plan_refusal lines (netlist_of (named_text lines))))
          (section-clean N Q (net-limited net checked writable) (net-counts net writable) planned) (ap fault_of named ∙ net-sound net checked writable.different) ∙ plan;
      denoted = record { named = text.denoted.named; planned = ap Some (plan-stated net writable checked P made of) };
      same = text.same;
    }
