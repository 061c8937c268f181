use Rattle.structure_laws.proofs.SoundCodes.{sound_is_fault_secure}
use Rattle.structure_laws.proofs.sound_structure.sound_is_fault_secure.Goals as goal

pub returns : goal.returns
returns c = record { secure = sound_is_fault_secure }
