use Rattle.std.proofs.Common.{◌≡◌, ℕ, arith, List, [], sym, subst}
use Rattle.std.proofs.lemmas.Grind.{common_steps}
use Rattle.tsc_net.specs.NetlistOf.{named_of}
use Rattle.blif_write.specs.IsReadAs.{IsReadAs}
use Rattle.blif_write.specs.NamedPlan.{named_plan}
use Rattle.blif_write.specs.Layout.{layout, netlist_text}
use Rattle.blif_write.proofs.After.{after_lines-append, after_lines-text}
use Rattle.blif_write.proofs.Filled.{layout-filled}
use Rattle.blif_write.proofs.ReadLaw.{is-read-as}
use Rattle.blif_write.proofs.writer.write_blif.Goals as goal

pub returns-clause-text : goal.returns-clause-text
returns-clause-text c =
    let N = named_of c.args.net.now in
    let P = named_plan c.args.net.now c.args.plan.now in
    let law = after_lines-text [] (layout N P) (layout-filled N P) in
    grind (arith, common_steps, after_lines-append, law)

pub returns-clause-read : goal.returns-clause-read
returns-clause-read c = λ writable.
    let net = c.args.net.now in
    let plan = c.args.plan.now in
    let written : c.push_end_line.new.out ≡ netlist_text net plan = returns-clause-text c in
    let Read : List ℕ → Type 0 = λ text. IsReadAs text net plan in
    subst Read (sym written) (is-read-as net plan c.nets-nets.ensures.checked c.in_ok-push_plan.ensures.well_made c.requires.of_net writable)
