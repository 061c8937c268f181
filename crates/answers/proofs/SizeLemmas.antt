-- A source is refused for a netlist by any way where its text is.
use Rattle.std.proofs.Common.{ℕ, List}
use Rattle.synth_ways.specs.declared.way.Way.{Way}
use Rattle.blif_read.specs.declared.kinds.Kind.TheVariants.{Source}
use Rattle.tsc_synth.specs.CoverBound.{is_too_large}
use Rattle.refusals.specs.declared.refusal.Refusal.{Refusal}
use Rattle.text_sections.specs.Refused.{IsRefusedBy, text_refusal}
use Rattle.answers.specs.Refused.{size_refusal, synth_refusal}
use Rattle.text_sections.specs.Denoted.{netlist_in}
use Rattle.text_sections.proofs.SectionLemmas.{refused_first}

pub refused-text : (way : Way) (text : List ℕ) (given : Refusal) → IsRefusedBy (text_refusal Source text) given → IsRefusedBy (synth_refusal way text) given
refused-text way text given refused =
    refused_first (text_refusal Source text) (size_refusal (is_too_large way (netlist_in text).circuit)) given refused
