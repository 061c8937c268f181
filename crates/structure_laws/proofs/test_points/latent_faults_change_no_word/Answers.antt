use Rattle.structure_laws.proofs.TestPoints.{latent_faults_change_no_word}
use Rattle.structure_laws.proofs.test_points.latent_faults_change_no_word.Goals as goal

pub returns : goal.returns
returns c = record { same = latent_faults_change_no_word }
