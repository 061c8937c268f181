-- Names that don't fit.
use Rattle.std.proofs.Common.{ℕ, Option, subst}
use Rattle.std.specs.Option.{option_map}
use Rattle.pla_read.specs.Refusal.{IsRefusedBy}
use Rattle.pla_read.specs.declared.error.PlaError.TheVariants.{Header}
use Rattle.pla_read.proofs.Headed.{wrong_names_are}
use Rattle.pla_read.proofs.reading.names_in.Goals as goal

pub returns-in-Err-clause-refused : goal.returns-in-Err-clause-refused
returns-in-Err-clause-refused c =
    subst (λ (wrong : Option ℕ). IsRefusedBy (option_map Header wrong) c.names_refusal.result)
    (wrong_names_are c.args.section.now _ _ c.args.inputs c.args.outputs
    c.line_of.ensures.found c.line_of-2.ensures.found c.requires.inputs c.requires.outputs)
    (c.names_refusal.ensures.refused _ c.in-Err.ensures.refused)
