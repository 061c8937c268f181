use Rattle.structure_laws.proofs.FirstErrors.{parity_error_shows}
use Rattle.structure_laws.proofs.disjoint_cones.parity_errors_show.Goals as goal

pub returns : goal.returns
returns c = record { shows = parity_error_shows }
