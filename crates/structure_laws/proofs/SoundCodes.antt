-- Sound structure, code by code: no failing cell makes a wrong codeword.
use Rattle.std.proofs.Common.{◌≡◌, ℕ, refl, sym, subst}
use Rattle.fault_secure.specs.declared.code.Code.{Code}
use Rattle.fault_secure.specs.declared.code.Code.TheVariants.{Parity, Berger, MOutOfN}
use Rattle.fault_secure.specs.Circuit.{Circuit}
use Rattle.fault_secure.specs.CodePlan.{CodePlan, IsUnorderedCode}
use Rattle.fault_secure.specs.FailingCell.{IsCell}
use Rattle.fault_secure.specs.SoundStructure.{SuitsCode, HasSoundStructure}
use Rattle.structure_laws.specs.FirstError.{NoWrongCodeword}
use Rattle.structure_laws.specs.CellSecure.{SoundIsCellSecure}
use Rattle.structure_laws.specs.SoundStructure.{SoundIsFaultSecure, SoundShowsErrors}
use Rattle.structure_laws.proofs.ParityStep.{parity_is_safe}
use Rattle.structure_laws.proofs.FirstErrors.{unate_is_safe, first_error_shows}
use Rattle.structure_laws.proofs.Joined.{safe_is_cell_secure, cell_secure_is_fault_secure}

by_code : (N : Circuit) (P : CodePlan) (c : Code) → P.code ≡ c → SuitsCode c N P → HasSoundStructure N P → (cell : ℕ) → IsCell N cell → NoWrongCodeword N P cell
by_code N P Parity is cones sound cell is_cell = parity_is_safe N P cell is sound.well_made sound.plan_of sound.acyclic cones is_cell
by_code N P Berger is unate sound cell is_cell = unate_is_safe N P cell sound.acyclic unate (subst IsUnorderedCode (sym is) tt)
by_code N P MOutOfN is unate sound cell is_cell = unate_is_safe N P cell sound.acyclic unate (subst IsUnorderedCode (sym is) tt)

-- whatever the code
sound_is_safe : (N : Circuit) (P : CodePlan) → HasSoundStructure N P → (cell : ℕ) → IsCell N cell → NoWrongCodeword N P cell
sound_is_safe N P sound = by_code N P P.code refl sound.suits sound

pub sound_shows_errors : SoundShowsErrors
sound_shows_errors N P cell w xs vs us sound is run held ok =
    first_error_shows N P cell w xs vs us sound.acyclic sound.checker (sound_is_safe N P sound cell is) run held ok

-- a netlist of sound structure that follows its source without a fault is secure against any one failing cell
pub sound_is_cell_secure : SoundIsCellSecure
sound_is_cell_secure M N P sound follows = safe_is_cell_secure M N P sound.acyclic sound.checker (sound_is_safe N P sound) follows

-- a netlist of sound structure that follows its source without a fault is fault-secure
pub sound_is_fault_secure : SoundIsFaultSecure
sound_is_fault_secure M N P sound follows = cell_secure_is_fault_secure M N P sound.acyclic (sound_is_cell_secure M N P sound follows)
