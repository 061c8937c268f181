use Rattle.std.proofs.Common.{ap}
use Rattle.answers.specs.Refused.{size_refusal}
use Rattle.answers.proofs.SynthesisLemmas.{secure_for}
use Rattle.answers.proofs.SynthesisWritable.{network_writable}
use Rattle.answers.proofs.network_synthesis.network_synthesis_of.Goals as goal

pub returns-in-Ok-clause-writable : goal.returns-in-Ok-clause-writable
returns-in-Ok-clause-writable c =
    let source = c.args.source.now in
    let made = c.in-Ok.made in
    network_writable c.args.way source made.net made.plan c.nets-source_nets.ensures.checked c.requires.writable c.requires.combinational c.requires.once
    c.nets-made_nets.ensures.checked c.in-Ok.ensures.secure c.in-Ok.ensures.exact c.in-Ok.ensures.covers (ap size_refusal c.in-Ok.ensures.fits)

pub returns-in-Ok-clause-secure : goal.returns-in-Ok-clause-secure
returns-in-Ok-clause-secure c =
    let made = c.in-Ok.made in
    secure_for c.sound_is_cell_secure.ensures.secure c.cell_secure_is_fault_secure.ensures.secure c.args.way c.args.source.now made.net made.plan
    c.in-Ok.ensures.secure c.in-Ok.ensures.exact c.in-Ok.ensures.code c.in-Ok.ensures.covers
