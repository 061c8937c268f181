-- What is told of a section that lacks states is a line after it, or that.
use Rattle.std.proofs.Common.{Option, sym, subst}
use Rattle.std.specs.Prelude.{if◌then◌else◌}
use Rattle.blif_read.specs.declared.kinds.Kind.TheVariants.{Netlist}
use Rattle.refusals.specs.declared.text_refusal.TextRefusal.{TextRefusal}
use Rattle.text_sections.specs.Refused.{IsRefusedBy, lacks_states, last_refusal}
use Rattle.text_sections.proofs.StateLemmas.{listed_last}
use Rattle.text_sections.proofs.planned_section.last_netlist.Goals as goal

pub returns-in-Ok-clause-allowed : goal.returns-in-Ok-clause-allowed
returns-in-Ok-clause-allowed c = listed_last c.args.lines.now c.args.from c.in-Ok.ensures.allowed

pub returns-in-Err-clause-refused : goal.returns-in-Err-clause-refused
returns-in-Err-clause-refused c =
    let lines = c.args.lines.now in
    let listed = last_refusal Netlist lines c.args.from in
    let P : Option TextRefusal → Type 0 = λ r. IsRefusedBy (if lacks_states lines c.args.from then r else listed) c.unless_stateless.result in
    subst P (sym c.left_or_stateless.ensures.first) (c.unless_stateless.ensures.refused listed c.in-Err.ensures.refused)
