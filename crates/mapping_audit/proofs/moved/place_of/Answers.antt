use Rattle.std.proofs.Common.{rules, ◌≡◌, None, sym, ◌∙◌}
use Rattle.tsc_net.specs.Names.{find_text}
use Rattle.mapping_audit.proofs.NameTables.{place_none}
use Rattle.mapping_audit.proofs.moved.place_of.Goals as goal

pub returns-in-None : goal.returns-in-None
returns-in-None c = record {
  place = (let none : None ≡ find_text c.args.mapped.now.names c.args.name.now = search rules in
      c.nets.ensures.count ∙ sym c.nets.ensures.checked.sized ∙ place_none c.args.mapped.now.names c.args.name.now none);
}
