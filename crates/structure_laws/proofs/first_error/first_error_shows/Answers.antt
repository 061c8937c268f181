use Rattle.structure_laws.proofs.FirstErrors.{first_error_shows}
use Rattle.structure_laws.proofs.first_error.first_error_shows.Goals as goal

pub returns : goal.returns
returns c = record { shows = first_error_shows }
