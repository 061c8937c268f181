-- What lines denote, where a section of them denotes a netlist with its plan.
use Rattle.std.proofs.Common.{◌≡◌, ℕ, List, sym, ◌∙◌, ap}
use Rattle.std.specs.Option.{unwrap_or}
use Rattle.tsc_text.specs.TextLine.{TextLine}
use Rattle.fault_secure.specs.CodePlan.{CodePlan}
use Rattle.tsc_net.specs.NetlistOf.{NetlistOf}
use Rattle.blif_read.specs.Denotes.{DenotesNetlist, plan_text}
use Rattle.blif_read.specs.declared.kinds.Kind.TheVariants.{Netlist}
use Rattle.text_sections.specs.Denoted.{lines_from, net_from, no_plan, plan_from}

-- the plan is that of the section
pub plan_denoted : (lines : List TextLine) (from : ℕ) (net : NetlistOf) (plan : CodePlan) → net ≡ net_from lines from
    → DenotesNetlist (lines_from lines from) net plan → plan_from lines from ≡ plan
plan_denoted lines from net plan is denoted =
    ap (λ n. unwrap_or (plan_text Netlist (lines_from lines from) n) no_plan) (sym is) ∙ ap (λ p. unwrap_or p no_plan) denoted.planned
