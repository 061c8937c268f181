-- What is read of the first section.
use Rattle.kiss_read.specs.NamesText.{input_names, output_names}
use Rattle.kiss_read.specs.TableText.{machine_text}
use Rattle.text_sections.proofs.MachineLemmas.{allowed_of, denoted_of, is_section, refused_of}
use Rattle.text_sections.proofs.machine_section.first_machine.Goals as goal

pub read_kiss-requires : goal.read_kiss-requires
read_kiss-requires c = record { section = is_section c.args.lines.now c.section.result c.section.ensures.section }

pub returns-in-Ok-clause-machine : goal.returns-in-Ok-clause-machine
returns-in-Ok-clause-machine c =
    denoted_of machine_text c.args.lines.now c.section.result c.in-Ok.text.machine c.section.ensures.section c.in-Ok.ensures.machine

pub returns-in-Ok-clause-inputs : goal.returns-in-Ok-clause-inputs
returns-in-Ok-clause-inputs c =
    denoted_of input_names c.args.lines.now c.section.result c.in-Ok.text.inputs c.section.ensures.section c.in-Ok.ensures.inputs

pub returns-in-Ok-clause-outputs : goal.returns-in-Ok-clause-outputs
returns-in-Ok-clause-outputs c =
    denoted_of output_names c.args.lines.now c.section.result c.in-Ok.text.outputs c.section.ensures.section c.in-Ok.ensures.outputs

pub returns-in-Ok-clause-allowed : goal.returns-in-Ok-clause-allowed
returns-in-Ok-clause-allowed c = allowed_of c.args.lines.now c.section.result c.section.ensures.section c.in-Ok.ensures.sound

pub returns-in-Err-clause-refused : goal.returns-in-Err-clause-refused
returns-in-Err-clause-refused c =
    refused_of c.args.lines.now c.section.result c.in-Err.error c.as_machine_refusal.result
    c.section.ensures.section c.in-Err.ensures.refused c.as_machine_refusal.ensures.refusal
