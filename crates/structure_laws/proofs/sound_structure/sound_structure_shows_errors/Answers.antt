use Rattle.structure_laws.proofs.SoundCodes.{sound_shows_errors}
use Rattle.structure_laws.proofs.sound_structure.sound_structure_shows_errors.Goals as goal

pub returns : goal.returns
returns c = record { shows = sound_shows_errors }
