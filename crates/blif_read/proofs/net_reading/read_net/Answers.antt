use Rattle.std.proofs.Common.{rules, sym, subst}
use Rattle.blif_read.specs.Refusal.{netlist_refusal, IsRefusedBy}
use Rattle.blif_read.proofs.Refused.{clean_lines, no_refusal, net_refused}
use Rattle.blif_read.proofs.net_reading.read_net.Goals as goal

pub parts_of-requires-clause-clean : goal.parts_of-requires-clause-clean
parts_of-requires-clause-clean c = clean_lines c.args.kind c.args.section.now c.in-None.ensures.fault

pub returns-in-Ok-clause-sound : goal.returns-in-Ok-clause-sound
returns-in-Ok-clause-sound c =
    no_refusal c.args.kind c.args.section.now c.in-None.ensures.fault c.in_ok-parts.parts.named (search rules) c.in-Ok.ensures.sound

pub returns-in-Err-clause-refused : goal.returns-in-Err-clause-refused
returns-in-Err-clause-refused c =
    subst (λ e. IsRefusedBy (netlist_refusal c.args.kind c.args.section.now) e) (sym c.net_refusal.ensures.refusal)
    (net_refused c.args.kind c.args.section.now c.in-None.ensures.fault c.in_ok-parts.parts.named c.in-Err.error (search rules) c.in-Err.ensures.refused)
