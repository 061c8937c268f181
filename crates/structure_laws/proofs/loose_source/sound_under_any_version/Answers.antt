use Rattle.structure_laws.proofs.LooseSource.{sound_under_any_version}
use Rattle.structure_laws.proofs.loose_source.sound_under_any_version.Goals as goal

pub returns : goal.returns
returns c = record { structure = sound_under_any_version }
