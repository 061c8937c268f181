use Rattle.structure_laws.proofs.SoundCodes.{sound_is_cell_secure}
use Rattle.structure_laws.proofs.cell_secure.sound_is_cell_secure.Goals as goal

pub returns : goal.returns
returns c = record { secure = sound_is_cell_secure }
